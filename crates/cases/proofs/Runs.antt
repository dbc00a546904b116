-- Runs of turns: what ends them and what they count, each with a case, by one statement over the list: `counted`. Assumes nothing.
use mathlib.Core.Bool.{Bool, true, false, ◌&&◌}
use mathlib.Core.Path.{◌≡◌, refl}
use mathlib.Core.List.{List, [], ◌∷◌, ◌++◌}
use Prim.Native.Nat.{ℕ}
use lib.Dec.{T, eqb}
use Rattle.chip.specs.World.{World, afterwards}
use Rattle.chip.specs.Cases.{Word, ◌is◌, Said, Step, altered, start, answers, holds, passes}
use Rattle.chip.specs.Call.{ran}
use Rattle.chip.specs.Run.{Run, stops, run_of}
use Rattle.cases.proofs.Prepared.{pointer, leads, start_by, prepared}
use Rattle.chip.proofs.Board.{board, descriptors, buffer_at, good, broadcast, quiet, edge, came, initialised, receiving, commanding}

-- calls, then a run with a budget and a report: the turns that it must take, its answer, and the words that must stand in memory
pub record RunCase : Type 0 where
  pub given : List Word
  pub steps : List Step
  pub budget : ℕ
  pub report : ℕ
  pub taken : ℕ
  pub answer : Said
  pub words : List Word

abbrev pub after : List Step → World → World
after [] w = w
after (s ∷ ss) w = after ss (afterwards (ran s.call (altered w s)))

abbrev pub comes : RunCase → Run → Bool
comes c r = eqb r.taken c.taken && answers r.answer c.answer && holds c.words r.world.memory

abbrev pub run_passes : RunCase → Bool
run_passes c = comes c (run_of c.budget (after c.steps (start c.given)) c.report)

abbrev pub all_run_pass : List RunCase → Bool
all_run_pass [] = true
all_run_pass (c ∷ cs) = run_passes c && all_run_pass cs

-- two NOPs, at 40h and, with EL and I, at 50h; the unit is started
nops : (budget taken : ℕ) → Said → List Word → RunCase
nops budget taken answer words =
    record {
      given = 0x44 is 0x50 ∷ 0x52 is 0xA000 ∷ board;
      steps = initialised ∷ commanding ∷ [];
      budget = budget;
      report = 0;
      taken = taken;
      answer = answer;
      words = words;
    }

-- with no work one turn is taken, which changes nothing and ends the run
idle : (budget taken : ℕ) → RunCase
idle budget taken =
    record {
      given = board;
      steps = initialised ∷ [];
      budget = budget;
      report = 0;
      taken = taken;
      answer = quiet;
      words = 0x30 is 0xA000 ∷ [];
    }

-- a Transmit of four data bytes without EL or I, then a NOP with both: the frame is sent without an event, and ends the run
sending : (report taken : ℕ) → Said → List Word → RunCase
sending report taken answer words =
    record {
      given =
          0x42 is 0x0004 ∷ 0x44 is 0x50 ∷ 0x46 is 0xA0 ∷ 0x52 is 0xA000 ∷ 0xA0 is 0x8004 ∷ 0xA2 is 0xFFFF ∷ 0xA4 is 0xC0 ∷ 0xC0 is 0x2211 ∷ 0xC2 is 0x4433 ∷ board;
      steps = initialised ∷ commanding ∷ [];
      budget = 65535;
      report = report;
      taken = taken;
      answer = answer;
      words = words;
    }

-- 02, Wish 4: a Configure with location 1, a Transmit without buffers, then a NOP with EL and I: an answer cannot tell a frame of no bytes as
-- sent, and the run goes on
sending_nothing : RunCase
sending_nothing =
    record {
      given = 0x42 is 0x0002 ∷ 0x44 is 0x50 ∷ 0x46 is 0x0004 ∷ 0x48 is 0x0A00 ∷ 0x52 is 0x0004 ∷ 0x54 is 0x58 ∷ 0x56 is 0xFFFF ∷ 0x5A is 0xA000 ∷ board;
      steps = initialised ∷ commanding ∷ [];
      budget = 65535;
      report = 0;
      taken = 6;
      answer = edge;
      words = 0x50 is 0xA000 ∷ 0x58 is 0xA000 ∷ 0x30 is 0xA000 ∷ [];
    }

-- P3's frame: five turns, the last of which raises FR
storing : (budget taken : ℕ) → Said → List Word → RunCase
storing budget taken answer words =
    record {
      given = descriptors ++ buffer_at 0xA0 0xAA 0xC0 20 ++ buffer_at 0xAA 0xB4 0xD4 20 ++ buffer_at 0xB4 0x1234 0xE8 20 ++ board;
      steps = initialised ∷ receiving ∷ came (broadcast 46) good [] ∷ [];
      budget = budget;
      report = 0;
      taken = taken;
      answer = answer;
      words = words;
    }

pub cases : List RunCase
unfolding nops idle sending sending_nothing storing
cases =
    nops 0 0 quiet (0x40 is 0 ∷ 0x50 is 0 ∷ 0x30 is 0x0200 ∷ [])
    ∷ nops 1 1 quiet (0x40 is 0x4000 ∷ 0x50 is 0 ∷ [])
    ∷ nops 3 3 quiet (0x40 is 0xA000 ∷ 0x50 is 0x4000 ∷ 0x30 is 0x0200 ∷ [])
    ∷ nops 4 4 edge (0x50 is 0xA000 ∷ 0x30 is 0xA000 ∷ [])
    ∷ nops 65535 4 edge (0x50 is 0xA000 ∷ 0x30 is 0xA000 ∷ [])
    ∷ idle 0 0
    ∷ idle 1 1
    ∷ idle 65535 1
    ∷ sending 0 3 (record { number = 0; length = 18; edge = false; reason = 0 }) (0x40 is 0xA000 ∷ 0x50 is 0 ∷ 0x30 is 0x0200 ∷ [])
    ∷ sending 0x0020 5 edge (0x40 is 0x8020 ∷ 0x50 is 0xA000 ∷ 0x30 is 0xA000 ∷ [])
    ∷ sending_nothing
    ∷ storing 4 4 quiet (0x60 is 0x4000 ∷ 0xB4 is 0xC006 ∷ 0x30 is 0x0040 ∷ [])
    ∷ storing 65535 5 edge (0x60 is 0xA000 ∷ 0x30 is 0x4040 ∷ [])
    ∷ []

-- the same on the memory that has the pointer
abbrev pub all_run : List RunCase → Bool
all_run [] = true
all_run (c ∷ cs) =
    comes c (run_of c.budget (after c.steps (start_by (leads pointer c.given) c.given)) c.report) && all_run cs

all_run_lem : (cs : List RunCase) → all_run_pass cs ≡ all_run cs
all_run_lem [] = refl
all_run_lem (c ∷ cs) = rw (prepared c.given, all_run_lem cs)

pub runs_prepared : (cs : List RunCase) → T (all_run cs) → T (all_run_pass cs)
runs_prepared cs t = rw all_run_lem t

pub counted : T (all_run_pass cases)
unfolding passes stops run_of cases
counted = runs_prepared cases tt
