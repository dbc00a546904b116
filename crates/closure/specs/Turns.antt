-- A run of turns on the areas that are lent, beside so many turns in a row. Assumes nothing.
use Rattle.std.specs.Prelude.{◌≡◌, ◌⊎◌, ℕ, zero, suc, ◌≤◌, ◌<◌}
use Rattle.calls.specs.Answer.{sent_length, edge, turns_taken, without_turns}
use Rattle.calls.specs.Calls.{Areas, Called, turn_call}

-- ---- turns in a row, each on what the one before left

abbrev pub turns_on : ℕ → Areas → (report : ℕ) → Areas
turns_on zero a report = a
turns_on (suc k) a report = turns_on k (turn_call a report).areas report

-- the answer of the last of them; 0 if there is none
abbrev pub last_answer : ℕ → Areas → (report : ℕ) → ℕ
last_answer zero a report = 0
last_answer (suc k) a report = (turn_call (turns_on k a report) report).answer

-- ---- a turn that ends a run, as the host sees it: it sent a frame of at least one byte, or reported an edge, or had no work, so that the record is as it was

pub data Ends (a : Areas) (report : ℕ) : Type 0 where
  sent : (sent_length (turn_call a report).answer ≡ 0 → ⊥) → Ends a report
  edged : edge (turn_call a report).answer ≡ 1 → Ends a report
  workless : (turn_call a report).areas.kept ≡ a.kept → Ends a report

-- ---- a run is so many turns, and how many is exactly said

pub record AsTurns (a : Areas) (report budget : ℕ) (r : Called) : Type 0 where
  pub areas : r.areas ≡ turns_on (turns_taken r.answer) a report
  pub answer : without_turns r.answer ≡ last_answer (turns_taken r.answer) a report
  pub most : turns_taken r.answer ≤ budget
  -- no turn before the last ends a run
  pub going : (j : ℕ) → suc j < turns_taken r.answer → Ends (turns_on j a report) report → ⊥
  -- and the budget is used up, or the last does
  pub ended : (turns_taken r.answer ≡ budget) ⊎ ((j : ℕ) × (turns_taken r.answer ≡ suc j) × Ends (turns_on j a report) report)
