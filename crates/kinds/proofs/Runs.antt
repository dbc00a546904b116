-- The turns of a command while no frame is held: it stays in work to its end turn, and no later block's status is written. Assumes nothing.
use mathlib.Core.Path.{◌≡◌, refl}
use mathlib.Core.Bool.{Bool, true, false}
use mathlib.Core.List.{List}
use Prim.Native.Nat.{ℕ}
use native.Mathlib.Omega.{arith}
use Rattle.memory.specs.Address.{place}
use Rattle.memory.specs.Memory.{word_at, Write}
use Rattle.memory.specs.declared.Offset.{Offset}
use Rattle.memory.specs.declared.RealAddress.{RealAddress}
use Rattle.device.specs.State.{cu_state, is_active, cu_works, ru_works}
use Rattle.device.specs.declared.Cu.{Cu}
use Rattle.device.specs.declared.Cu.TheVariants as cu
use Rattle.actions.specs.Block.{block_status_at}
use Rattle.command.specs.Part.{part_of}
use Rattle.command.specs.Service.{service}
use Rattle.control.specs.Obey.{of_scb}
use Rattle.chip.specs.World.{World, afterwards}
use Rattle.chip.proofs.Status.{command_memory, written_if_raised}
use Rattle.chip.specs.Turn.{turn_by, served_by, concluded, command_units, command_turn, turn_of}
use Rattle.kinds.specs.Lists.{All}
use Rattle.kinds.specs.Spoiled.{is_end}
use Rattle.kinds.proofs.Service.{statuses_kept}
use Rattle.kinds.proofs.Step.{AtBlock, At, service_stays, service_own}

-- ---- whose turn it is

-- no frame is held: with the command unit Active a turn is its
busy_by : (x y z : Bool) (w : World) (r : ℕ) → x ≡ true → y ≡ false → turn_by (served_by x y z) w r ≡ command_turn w r
busy_by false y z w r a h = absurd (let e : ◌≡◌ {A = ℕ} 0 1 = cc in omega arith)
busy_by true true z w r a h = absurd (let e : ◌≡◌ {A = ℕ} 0 1 = cc in omega arith)
busy_by true false z w r a h = refl

pub busy_turn : (w : World) (r : ℕ) → cu_works w.device.units.cu ≡ true → ru_works w.device.units.ru ≡ false
    → turn_of w r ≡ command_turn w r
unfolding turn_of
busy_turn w r a h = busy_by (cu_works w.device.units.cu) (ru_works w.device.units.ru) w.device.units.rulast w r a h

pub at_active : (tdr : Offset → Type 0) (base : RealAddress) (m : List ℕ) (u : Cu) (b : Offset) → AtBlock tdr base m u b → is_active (cu_state u) ≡ true
at_active tdr base m cu.Idle b k = absurd k
at_active tdr base m (cu.Suspended o) b k = absurd k
at_active tdr base m (cu.Waiting o) b k = refl
at_active tdr base m (cu.Acting g a) b k = refl
at_active tdr base m (cu.Sending g w) b k = refl
at_active tdr base m (cu.Ending g n) b k = refl
at_active tdr base m (cu.Failing g) b k = refl

-- ---- its turns

-- all that a turn of the command unit writes
abbrev written : World → ℕ → List Write
written w r =
    let s = service (part_of w.device w.outgoing) w.memory r in written_if_raised s.writes s.raised (command_units w.device s)

module _ (n : ℕ) (tdr : Offset → Type 0) where
  -- the world of a list
  abbrev pub Here : World → Offset → List Offset → Type 0
  Here w b bs = At n tdr w.device.units.base (of_scb w.device.units 0) w.memory w.device.units.cu b bs

  -- before its end turn a command stays in work
  pub turn_stays : (w : World) (r : ℕ) (b : Offset) (bs : List Offset) → is_end w.device.units.cu ≡ false → Here w b bs
      → Here (afterwards (command_turn w r)) b bs
  unfolding command_turn concluded service
  turn_stays w r b bs e s =
      rw (command_memory w r)
      (service_stays n tdr (part_of w.device w.outgoing) (of_scb w.device.units 0) w.memory b bs w.device.units.cu r (written w r) e s)

  -- and no turn of it writes the status of a later block
  pub turn_leaves : (w : World) (r : ℕ) (b : Offset) (bs : List Offset) → Here w b bs
      → All (λ c. word_at (afterwards (command_turn w r)).memory (place w.device.units.base c block_status_at)
      ≡ word_at w.memory (place w.device.units.base c block_status_at)) bs
  unfolding command_turn concluded service
  turn_leaves w r b bs s =
      let p = part_of w.device w.outgoing in
      let x = command_units w.device (service p w.memory r) in
      let own = service_own tdr p (of_scb w.device.units 0) w.memory b x refl w.device.units.cu r s.unit in
      rw (command_memory w r)
      (statuses_kept n tdr w.device.units.base b (of_scb w.device.units 0) (written w r) w.memory s.size own bs s.blocks_apart
      s.scb_apart)
