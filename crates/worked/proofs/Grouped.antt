-- The premises can be met by an MC-Setup: two addresses, one of which ends at the end of memory and one is at 0, and a NOP behind it. Assumes nothing.
use mathlib.Core.Path.{◌≡◌, refl}
use mathlib.Core.Bool.{false}
use mathlib.Core.List.{List, [], ◌∷◌, ◌++◌}
use Prim.Native.Nat.{ℕ, ◌+◌, ◌^◌}
use lib.Dec.{lit≤}
use lib.ListN.{length, replicate}
use Rattle.device.specs.State.{cu_state, is_active, is_holding}
use Rattle.actions.specs.Setup.{setup_of}
use Rattle.chip.specs.Cases.{◌is◌, put, start_on}
use Rattle.chip.specs.Call.{attention, turn}
use Rattle.chip.specs.World.{World}
use Rattle.traces.specs.Event.{Event, call, host, step, DuringList}
use Rattle.progress.specs.Trace.{run}
use Rattle.lists.specs.Done.{Starts, Started, enough, Premises, Done, bytes_of}
use Rattle.lists.proofs.Laws.{list_laws}
use Rattle.lists.proofs.Start.{begins, started}
use Rattle.lists.proofs.Order.{list_done}
use Rattle.lists.proofs.Tests.{keptb, kept_ok, clash_ok, calls_ok, kept_append, idle_kept}

-- ISCP at 400h, SCB at 410h, base 0. An MC-Setup at 8178 with 12 bytes of addresses: 01-00-00-04-00-00 from 8186 on, in which the SCP's pointer
-- stands, and 01-00-00-00-00-00 from 0 on. A NOP with EL at 420h
abbrev block : List ℕ
block = 0 ∷ 0 ∷ 0x03 ∷ 0 ∷ 0x20 ∷ 0x04 ∷ 12 ∷ 0 ∷ 0x01 ∷ 0 ∷ 0x00 ∷ 0x04 ∷ 0 ∷ 0 ∷ []

abbrev cold : World
cold = start_on (put (0 is 0x0001 ∷ 0x402 is 0x410 ∷ 0x422 is 0x8000 ∷ []) (replicate 8178 0 ++ block))

-- the host writes the SCB's command, all acknowledged and START, and the CBL offset
abbrev told : World → World
told w = step (host (put (0x412 is 0xF100 ∷ 0x414 is 8178 ∷ []) w.memory) w.holding w.outgoing) w

abbrev before : World
before = told (step (call attention) cold)

abbrev pub begun : World
begun = step (call attention) before

starts : Starts before
unfolding keptb
starts = record { initialised = refl; unreset = refl; start = refl; idle = refl }

abbrev pub two : List ℕ
two = 8178 ∷ 0x420 ∷ []

pub is_started : Started two begun
unfolding keptb
is_started = started two before begun (begins two before starts refl) (refl, refl, refl)

abbrev busy : List Event
busy = replicate 4 (call (turn 0))

-- four turns, and turns without work up to 264
abbrev pub trace : List Event
trace = busy ++ replicate 260 (call (turn 0))

idle_after : (is_active (cu_state (run step busy begun).device.units.cu) ≡ false)
    × (is_holding (run step busy begun).device.units.ru ≡ false)
unfolding keptb
idle_after = (refl, refl)

pub premises : Premises DuringList enough two trace begun
unfolding keptb
premises =
    record {
      size = lit≤ tt;
      apart = clash_ok (length begun.memory) begun.device.units.base (setup_of begun.device) begun.memory two tt;
      events = calls_ok trace begun tt;
      intact =
          kept_append (bytes_of begun two) busy (replicate 260 (call (turn 0))) begun (kept_ok (bytes_of begun two) busy begun tt)
          (idle_kept 260 0 (bytes_of begun two) (run step busy begun) idle_after.0 idle_after.1);
      turns = lit≤ tt;
    }

-- on bits 2 and 5
pub filter_is : (run step busy begun).device.filter ≡ 2 ^ 5 + 2 ^ 2
unfolding keptb
filter_is = refl

-- so both commands are done
pub grouped_done : Done two trace begun
grouped_done = list_done DuringList list_laws two trace begun is_started premises
