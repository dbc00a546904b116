-- What raising and acknowledging events come to when done with nothing, or twice. Assumes nothing.
use mathlib.Core.Path.{◌≡◌, refl}
use mathlib.Core.Bool.{Bool, true, false, not, ◌&&◌, ◌||◌}
use Prim.Native.Nat.{ℕ}
use Rattle.scb.specs.declared.Events.{Events}
use Rattle.scb.specs.Words.{no_events, raise, acknowledged}

or_none : (a : Bool) → (a || false) ≡ a
or_none true = refl
or_none false = refl

or_same : (a : Bool) → (a || a) ≡ a
or_same true = refl
or_same false = refl

less_twice : (a b : Bool) → ((a && not b) && not b) ≡ (a && not b)
less_twice true true = refl
less_twice true false = refl
less_twice false b = refl

pub raise_none : (e : Events) → raise e no_events ≡ e
raise_none e = simp or_none

pub raise_same : (e : Events) → raise e e ≡ e
raise_same e = simp or_same

pub acknowledged_twice : (e : Events) (command : ℕ) → acknowledged (acknowledged e command) command ≡ acknowledged e command
unfolding acknowledged
acknowledged_twice e command = simp less_twice
