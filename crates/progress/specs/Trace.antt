-- A trace: events one after the other, whatever an event is; f says what an event does to a state. Assumes nothing.
use Rattle.std.specs.Prelude.{Bool, true, false, List, [], ◌∷◌, ℕ, ◌+◌}

-- what a trace makes of a state
abbrev pub run : {S E : Type 0} → (E → S → S) → List E → S → S
run f [] s = s
run f (e ∷ es) s = run f es (f e s)

-- every event of a trace may occur, in the state in which it comes
abbrev pub AllMay : {S E : Type 0} → (E → S → Type 0) → (E → S → S) → List E → S → Type 0
AllMay may f [] s = Unit {0}
AllMay may f (e ∷ es) s = may e s × AllMay may f es (f e s)

-- how many turns it has, where t says which events are turns (that are not refused)
abbrev pub bit : Bool → ℕ
bit true = 1
bit false = 0

abbrev pub turns : {E : Type 0} → (E → Bool) → List E → ℕ
turns t [] = 0
turns t (e ∷ es) = bit (t e) + turns t es
