-- The premises on a list that is resumed can be met: a NOP with S, and once the unit is suspended the NOP behind it. Assumes nothing.
use mathlib.Core.Path.{◌≡◌, refl}
use mathlib.Core.Bool.{false}
use mathlib.Core.List.{List, [], ◌∷◌, ◌++◌}
use Prim.Native.Nat.{ℕ}
use lib.Dec.{lit≤}
use lib.ListN.{length, replicate}
use Rattle.device.specs.State.{cu_state, is_active, is_holding}
use Rattle.actions.specs.Setup.{setup_of}
use Rattle.chip.specs.Cases.{◌is◌, put, start_on}
use Rattle.chip.specs.Call.{attention, turn}
use Rattle.chip.specs.World.{World}
use Rattle.traces.specs.Event.{Event, call, host, step, DuringList}
use Rattle.progress.specs.Trace.{run}
use Rattle.progress.specs.Machine.{log}
use Rattle.lists.specs.Uses.{Listed}
use Rattle.lists.specs.Unit.{machine, began, ended}
use Rattle.lists.specs.Done.{Resumes, enough, Premises, Done, bytes_of}
use Rattle.lists.proofs.Whole.{resumed_list_done}
use Rattle.lists.proofs.Tests.{cna_alone, keptb, kept_ok, clash_ok, calls_ok, kept_append, idle_kept}

-- ISCP at 0, SCB at 8, base 0; a NOP with S at 18h, a NOP with EL at 20h
abbrev cold : World
cold = start_on (put (8188 is 0 ∷ 2 is 0x08 ∷ 0x1A is 0x4000 ∷ 0x1C is 0x20 ∷ 0x22 is 0x8000 ∷ []) (replicate 8192 0))

-- the host writes the SCB's command, all acknowledged, and the CBL offset
abbrev told : (command : ℕ) → World → World
told command w = step (host (put (0x0A is command ∷ 0x0C is 0x18 ∷ []) w.memory) w.holding w.outgoing) w

-- START; two turns, a begin and an end
abbrev suspended : World
suspended = run step (replicate 2 (call (turn 0))) (step (call attention) (told 0xF100 (step (call attention) cold)))

-- RESUME
abbrev pub before : World
before = told 0xF200 suspended

abbrev pub begun : World
begun = step (call attention) before

pub resumes : Resumes 0x20 before
unfolding keptb
resumes = record { initialised = refl; unreset = refl; resume = refl; suspended = refl }

abbrev pub behind : List ℕ
behind = 0x20 ∷ []

abbrev pub trace : List Event
trace = replicate 2 (call (turn 0)) ++ replicate 130 (call (turn 0))

idle_after : (is_active (cu_state (run step (replicate 2 (call (turn 0))) begun).device.units.cu) ≡ false)
    × (is_holding (run step (replicate 2 (call (turn 0))) begun).device.units.ru ≡ false)
unfolding keptb
idle_after = (refl, refl)

pub premises : Premises DuringList enough behind trace begun
unfolding keptb
premises =
    record {
      size = lit≤ tt;
      apart = clash_ok (length begun.memory) begun.device.units.base (setup_of begun.device) begun.memory behind tt;
      events = calls_ok trace begun tt;
      intact =
          kept_append (bytes_of begun behind) (replicate 2 (call (turn 0))) (replicate 130 (call (turn 0))) begun
          (kept_ok (bytes_of begun behind) (replicate 2 (call (turn 0))) begun tt)
          (idle_kept 130 0 (bytes_of begun behind) (run step (replicate 2 (call (turn 0))) begun) idle_after.0 idle_after.1);
      turns = lit≤ tt;
    }

noted : log machine (replicate 2 (call (turn 0))) begun ≡ began 0x20 ∷ ended 0x20 0xA000 [] cna_alone ∷ []
unfolding keptb
noted = refl

pub listed : Listed begun.device.units.base begun.memory behind
unfolding keptb
listed = refl

-- so the command behind is done
pub resumed_done : Done behind trace begun
unfolding keptb
resumed_done = resumed_list_done behind trace before resumes listed premises
