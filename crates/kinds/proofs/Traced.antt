-- A counter or an edge that the definitions do not have, along any trace: demand 2, since every state that a call leaves is in range. Assumes nothing.
use mathlib.Core.Path.{refl}
use mathlib.Core.List.{List, [], ◌∷◌, ◌++◌}
use mathlib.Core.Logic.{inl}
use lib.Dec.{lit≤}
use Rattle.chip.specs.Call.{attention}
use Rattle.traces.specs.Event.{call, host}
use Rattle.kinds.specs.Chips.{Chip, Act, does, asks, events_in}
use Rattle.kinds.specs.Demands.{Demand2}
use Rattle.kinds.specs.Closed.{Closed}
use Rattle.kinds.specs.Third.{AllAcceptable}
use Rattle.kinds.specs.Kinds.{InventsAlong, InventsWhileHeld, InventsInTrace}
use Rattle.kinds.proofs.Witness.{attending}
use Rattle.kinds.proofs.Third.{along, run_left, run_answers, none_along}

acceptable_before : (acts more : List Act) → AllAcceptable (events_in (acts ++ more)) → AllAcceptable (events_in acts)
acceptable_before [] more f = tt
acceptable_before (does (call c) ∷ acts) more f = (f.0, f.1, acceptable_before acts more f.2)
acceptable_before (does (host m h out) ∷ acts) more f = (f.0, acceptable_before acts more f.1)
acceptable_before (asks c a ∷ acts) more f = acceptable_before acts more f

module _ (closed : Closed) (chip : Chip) where
  pub invents_in_trace_lacks_2 : InventsInTrace chip → Demand2 chip → ⊥
  invents_in_trace_lacks_2 k q =
      let same = along closed chip q k.acts k.inner k.world k.all_acceptable k.right in
      none_along k.scb _ _ _ _ (run_left chip k.acts k.inner k.world same) (run_answers chip k.acts k.inner k.world same)
      k.invented

  -- the run of a list is such a trace
  pub in_trace : InventsAlong chip → InventsInTrace chip
  in_trace k =
      record {
        inner = k.inner;
        world = k.world;
        acts = does (call attention) ∷ k.acts;
        right = k.comes.right;
        all_acceptable = (attending, lit≤ tt, acceptable_before k.acts k.more k.comes.acceptable);
        scb = k.world.device;
        before_or_after = inl refl;
        invented = k.invented;
      }

  pub invents_along_lacks_2 : InventsAlong chip → Demand2 chip → ⊥
  invents_along_lacks_2 k q = invents_in_trace_lacks_2 (in_trace k) q

  -- and so is the run of a held frame
  pub held_in_trace : InventsWhileHeld chip → InventsInTrace chip
  held_in_trace k =
      record {
        inner = k.inner;
        world = k.world;
        acts = k.acts;
        right = k.comes.right;
        all_acceptable = acceptable_before k.acts k.more k.comes.acceptable;
        scb = k.world.device;
        before_or_after = inl refl;
        invented = k.invented;
      }

  pub invents_while_held_lacks_2 : InventsWhileHeld chip → Demand2 chip → ⊥
  invents_while_held_lacks_2 k q = invents_in_trace_lacks_2 (held_in_trace k) q
