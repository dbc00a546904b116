-- The inspector's list, in two statements: a chip of any of its kinds lacks the demand that is named with it, and meets no promise. Assumes nothing.
use Rattle.kinds.specs.Chips.{Chip, Meets}
use Rattle.kinds.specs.Closed.{Closed}
use Rattle.kinds.specs.Kinds.{Wrong, refuses, constant, untouching, marking, setting_nothing, measuring_nothing, sending_nothing, marking_some, first_only, inventing, inventing_along, inventing_while_held, inventing_in_trace, LacksNamed}
use Rattle.kinds.proofs.Excluded.{refuses_lacks_1, no_refuses_all, one_answer_lacks_2, no_one_answer, as_lent_lacks_2, no_memory_as_lent, sets_nothing_lacks_2, measures_nothing_lacks_2, sends_nothing_lacks_2, marks_only_lacks_2, marks_some_lacks_2, no_sets_nothing, no_measures_nothing, no_sends_nothing, no_marks_only, no_marks_some, invents_lacks_2, no_invents}
use Rattle.kinds.proofs.Two.{first_only_lacks_3, first_only_lacks_2, no_first_only}
use Rattle.kinds.proofs.Third.{invents_along_lacks_3, invents_while_held_lacks_3}
use Rattle.kinds.proofs.Ours.{has_demand2}
use Rattle.kinds.proofs.Traced.{invents_in_trace_lacks_2, invents_along_lacks_2, invents_while_held_lacks_2}

-- closure is needed for what is asked along a run alone
pub lacks_named : Closed → (chip : Chip) (w : Wrong chip) → LacksNamed chip w
lacks_named closed chip (refuses k) = refuses_lacks_1 chip k
lacks_named closed chip (constant k) = one_answer_lacks_2 chip k
lacks_named closed chip (untouching k) = as_lent_lacks_2 chip k
lacks_named closed chip (marking k) = marks_only_lacks_2 chip k
lacks_named closed chip (setting_nothing k) = sets_nothing_lacks_2 chip k
lacks_named closed chip (measuring_nothing k) = measures_nothing_lacks_2 chip k
lacks_named closed chip (sending_nothing k) = sends_nothing_lacks_2 chip k
lacks_named closed chip (marking_some k) = marks_some_lacks_2 chip k
lacks_named closed chip (first_only k) = (first_only_lacks_2 chip closed k, first_only_lacks_3 chip k)
lacks_named closed chip (inventing k) = invents_lacks_2 chip k
lacks_named closed chip (inventing_along k) = (invents_along_lacks_2 closed chip k, invents_along_lacks_3 chip k)
lacks_named closed chip (inventing_while_held k) = (invents_while_held_lacks_2 closed chip k, invents_while_held_lacks_3 chip k)
lacks_named closed chip (inventing_in_trace k) = invents_in_trace_lacks_2 closed chip k

pub none_meets : Closed → (chip : Chip) → Wrong chip → Meets chip → ⊥
none_meets closed chip (refuses k) p = no_refuses_all chip k p
none_meets closed chip (constant k) p = no_one_answer chip k p
none_meets closed chip (untouching k) p = no_memory_as_lent chip k p
none_meets closed chip (marking k) p = no_marks_only chip k p
none_meets closed chip (setting_nothing k) p = no_sets_nothing chip k p
none_meets closed chip (measuring_nothing k) p = no_measures_nothing chip k p
none_meets closed chip (sending_nothing k) p = no_sends_nothing chip k p
none_meets closed chip (marking_some k) p = no_marks_some chip k p
none_meets closed chip (first_only k) p = no_first_only chip closed k p
none_meets closed chip (inventing k) p = no_invents chip k p
none_meets closed chip (inventing_along k) p = invents_along_lacks_2 closed chip k (has_demand2 chip p)
none_meets closed chip (inventing_while_held k) p = invents_while_held_lacks_2 closed chip k (has_demand2 chip p)
none_meets closed chip (inventing_in_trace k) p = invents_in_trace_lacks_2 closed chip k (has_demand2 chip p)
