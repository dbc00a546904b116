-- What a call through the front leaves: the record that was lent, the answer, and the lent areas. Assumes nothing.
use Rattle.std.specs.Prelude.{◌≡◌, List, ℕ}
use Rattle.calls.specs.Calls.{Areas, areas_of, Called, Calls, attention_call, arrival_call, turn_call, run_call}
use Rattle.board.specs.declared.Record.{Record}
use Rattle.board.specs.declared.Areas.{Areas as Lent}

-- 01, "Calls, lent areas, refusals": the four areas that C would lend, of which the record is the program's own
abbrev pub areas_with : Record → List ℕ → List ℕ → List ℕ → Areas
areas_with d m h out = areas_of m h out d.bytes

-- one device record, lent to a thin front that changes it in place: record, answer and areas are what the exported call's definition says,
-- the shape of every promise here
abbrev pub Fronted : Called → Record → ℕ → List ℕ → List ℕ → List ℕ → Type 0
Fronted said d a m h out = Calls said a m h out d.bytes

-- each area is the borrow that it was
abbrev pub Stays : Lent → Lent → Type 0
Stays p q =
    (q.memory.ghost_name ≡ p.memory.ghost_name)
    × (q.holding.ghost_name ≡ p.holding.ghost_name)
    × (q.outgoing.ghost_name ≡ p.outgoing.ghost_name)

-- a call so: d and p are what is lent, d' and q what is left, a the answer
abbrev pub Fronts : (Areas → Called) → Record → Lent → Record → ℕ → Lent → Type 0
Fronts says d p d' a q =
    Stays p q × Fronted (says (areas_with d p.memory.now p.holding.now p.outgoing.now)) d' a q.memory.now q.holding.now q.outgoing.now

-- the four calls
abbrev pub Attends : Record → Lent → Record → ℕ → Lent → Type 0
Attends d p d' a q = Fronts attention_call d p d' a q

-- f: the frame; v: its verdict
abbrev pub Receives : List ℕ → ℕ → Record → Lent → Record → ℕ → Lent → Type 0
Receives f v d p d' a q = Fronts (λ x. arrival_call x f v) d p d' a q

abbrev pub Turns : (report : ℕ) → Record → Lent → Record → ℕ → Lent → Type 0
Turns report d p d' a q = Fronts (λ x. turn_call x report) d p d' a q

abbrev pub Runs : (report budget : ℕ) → Record → Lent → Record → ℕ → Lent → Type 0
Runs report budget d p d' a q = Fronts (λ x. run_call x report budget) d p d' a q
