-- A run: turns in a row under one call, each as in 01, "Turns". It ends when as many are taken as the caller allows, or at the first turn that a
-- host has to know of. Assumes nothing.
use Rattle.std.specs.Prelude.{Bool, true, false, not, ◌||◌, ℕ, zero, suc, ◌+◌, eqb, Option, Some, None}
use Rattle.device.specs.Answers.{answered}
use Rattle.device.specs.declared.Answer.{Answer}
use Rattle.chip.specs.declared.Unit.{Unit}
use Rattle.chip.specs.World.{World, Ran, afterwards}
use Rattle.chip.specs.Turn.{served_of, turn_of}

-- ---- which turn ends a run

-- it sent a frame of at least one byte, or reported an edge
abbrev pub tells : Answer → Bool
tells a = not (eqb a.length 0) || a.edge

-- or it had no work
unfoldable pub stops : Option Unit → Answer → Bool
stops None a = true
stops (Some u) a = tells a

abbrev pub stops_at : World → ℕ → Bool
stops_at w report = stops (served_of w.device.units) (turn_of w report).outcome.answer

-- ---- what a run comes to

-- the world as the last turn left it, the last turn's answer, and the number of turns taken
pub record Run : Type 0 where
  pub world : World
  pub answer : Answer
  pub taken : ℕ

-- no turn is taken: nothing is changed, nothing sent, no edge
abbrev pub no_turn : World → Run
no_turn w = record { world = w; answer = answered 0 false; taken = 0 }

-- the turn that ends a run counts, with or without work
abbrev pub last_turn : Ran → Run
last_turn r = record { world = afterwards r; answer = r.outcome.answer; taken = 1 }

-- a turn before a run
abbrev pub one_more : Run → Run
one_more r = record { world = r.world; answer = r.answer; taken = suc r.taken }

abbrev pub continued : (stopped : Bool) → Ran → (rest : Run) → Run
continued true r rest = last_turn r
continued false r rest = one_more rest

-- at most as many turns as the budget; every turn has the same line report
unfoldable pub run_of : (budget : ℕ) → World → (report : ℕ) → Run
run_of zero w report = no_turn w
run_of (suc n) w report =
    let r = turn_of w report in continued (stops_at w report) r (run_of n (afterwards r) report)

-- the rest of a run, for a loop that counts: so many turns having been taken before
abbrev pub counting : ℕ → Run → Run
counting taken r = record { world = r.world; answer = r.answer; taken = taken + r.taken }

unfoldable pub run_from : (taken budget : ℕ) → World → (report : ℕ) → Run
run_from taken budget w report = counting taken (run_of budget w report)
