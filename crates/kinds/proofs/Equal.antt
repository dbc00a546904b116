-- Any two outcomes that a promise permits are equal: the one that the definitions give. Assumes nothing.
use mathlib.Core.Path.{◌≡◌, refl, sym, ◌∙◌}
use mathlib.Core.List.{List}
use Prim.Native.Nat.{ℕ}
use Rattle.chip.specs.Call.{Call, reset, attention, arrive, turn}
use Rattle.calls.specs.Calls.{Areas, areas_of, Called, attention_call, arrival_call, turn_call}
use Rattle.traces.specs.Bytes.{called}
use Rattle.kinds.specs.Chips.{Chip, ours, Handed, Renewing, Says, Permits, Meets}

-- ---- of any call: what it permits is what the definitions give, and nothing else

all_said : (said r : Called) → Says said r → r ≡ said
all_said said r p = rw (p.answer, p.memory, p.holding, p.outgoing, p.kept)

all_renewed : (a : Areas) (r : Called) → Renewing a r → r ≡ called reset a
all_renewed a r p = rw (p.promise.answer, p.promise.kept, p.memory, p.holding, p.outgoing)

-- of whatever such a promise says, a run of turns among them
pub one_said : (said r s : Called) → Says said r → Says said s → r ≡ s
one_said said r s p q = all_said said r p ∙ sym (all_said said s q)

pub permitted : (c : Call) (a : Areas) (r : Called) → Permits c a r → r ≡ called c a
permitted reset a r p = all_renewed a r p
permitted attention a r p = all_said (attention_call a) r p
permitted (arrive f v) a r p = all_said (arrival_call a f v) r p
permitted (turn report) a r p = all_said (turn_call a report) r p

said_itself : (r : Called) → Says r r
said_itself r = record { answer = refl; memory = refl; holding = refl; outgoing = refl; kept = refl }

pub permits : (c : Call) (a : Areas) → Permits c a (called c a)
permits reset a = record { promise = record { answer = refl; kept = refl }; memory = refl; holding = refl; outgoing = refl }
permits attention a = said_itself (attention_call a)
permits (arrive f v) a = said_itself (arrival_call a f v)
permits (turn report) a = said_itself (turn_call a report)

-- any two outcomes that a promise permits are equal
pub one_outcome : (c : Call) (a : Areas) (r s : Called) → Permits c a r → Permits c a s → r ≡ s
one_outcome c a r s p q = permitted c a r p ∙ sym (permitted c a s q)

-- ---- so a chip that meets the promises does, at every call, what the definitions give; and the chip of the definitions meets them

pub ours_meets : Meets ours
ours_meets = record { each = λ s c a l. permits c a }

pub as_called : (chip : Chip) → Meets chip → (s : chip.Inner) (c : Call) (a : Areas) → Handed c a → chip.calls s c a ≡ called c a
as_called chip p s c a l = permitted c a (chip.calls s c a) (p.each s c a l)

-- areas, one by one
pub all_areas : (x : Areas) (m h out r : List ℕ) → x.memory ≡ m → x.holding ≡ h → x.outgoing ≡ out → x.kept ≡ r → x ≡ areas_of m h out r
all_areas x m h out r p q s t = rw (p, q, s, t)
