-- Demand 3, first half, from the starting attention on: 01, "Turns". Assumes nothing.
use mathlib.Core.Path.{◌≡◌}
use mathlib.Core.List.{List}
use Prim.Native.Nat.{ℕ}
use Rattle.memory.specs.Memory.{word_at}
use Rattle.scb.specs.Words.{cbl_at}
use Rattle.control.specs.Obey.{of_scb}
use Rattle.chip.specs.World.{World}
use Rattle.chip.specs.Call.{attention}
use Rattle.traces.specs.Event.{Event, call, step, DuringList}
use Rattle.lists.specs.Uses.{Listed, first_of}
use Rattle.lists.specs.Done.{Starts, Resumes, enough, Premises, Done}
use Rattle.lists.proofs.Laws.{list_laws}
use Rattle.lists.proofs.Start.{begins, resumes, started}
use Rattle.lists.proofs.Order.{list_done}

-- An attention starts a list: the n blocks from the CBL offset on, up to the first that ends or suspends it, as memory stands after that
-- attention. Then come turns, arriving frames and host writes, in any order; the host keeps the record, the outgoing area and N; nothing writes
-- into the list but each command's own results, of which none is a later command's byte. Once 132 n turns have come, all n are done as the
-- definitions say, once each, in list order, and nothing else is begun
pub attention_list_done : (bs : List ℕ) (es : List Event) (w : World) → Starts w
    → first_of bs ≡ word_at w.memory (of_scb w.device.units cbl_at)
    → Listed (step (call attention) w).device.units.base (step (call attention) w).memory bs
    → Premises DuringList enough bs es (step (call attention) w)
    → Done bs es (step (call attention) w)
attention_list_done bs es w s first listed premises =
    let v = step (call attention) w in list_done DuringList list_laws bs es v (started bs w v (begins bs w s first) listed) premises

-- An attention resumes a list: the n blocks from the one on before which the unit was suspended, up to the first that ends or suspends it, as memory
-- stands after that attention. The rest is as where an attention starts it
pub resumed_list_done : (bs : List ℕ) (es : List Event) (w : World) → Resumes (first_of bs) w
    → Listed (step (call attention) w).device.units.base (step (call attention) w).memory bs
    → Premises DuringList enough bs es (step (call attention) w)
    → Done bs es (step (call attention) w)
resumed_list_done bs es w s listed premises =
    let v = step (call attention) w in list_done DuringList list_laws bs es v (started bs w v (resumes (first_of bs) w s) listed) premises
