-- The control tables say what the control rules say, at every pair of a code and a state.
-- One law for any table: a test that antt computes for each state over all the codes. Assumes nothing.
use mathlib.Core.Path.{◌≡◌}
use mathlib.Core.Bool.{Bool}
use mathlib.Core.List.{List, []}
use Prim.Native.Nat.{ℕ, ◌<◌}
use lib.Dec.{T, eqb, eqb→eq, lit<}
use lib.ListN.{get_or}
use Rattle.scb.specs.declared.CuState.{CuState}
use Rattle.scb.specs.declared.CuState.TheVariants as cu
use Rattle.scb.specs.declared.RuState.{RuState}
use Rattle.scb.specs.declared.RuState.TheVariants as ru
use Rattle.scb.specs.declared.TheConstants.{CU_NEXT, RU_NEXT}
use Rattle.scb.specs.Words.{cu_number, ru_number}
use Rattle.scb.specs.Control.{Code, code_of, cu_next, ru_next}
use Rattle.scb.specs.Numbers.{ru_column}
use Rattle.scb.proofs.Below.{all, below}

-- ---- any table: a row for each code, a number for each state's

abbrev pub entry : List (List ℕ) → ℕ → ℕ → ℕ
entry table code n = get_or (get_or table code []) n 0

-- the entry for code k and state s is the next state's number
abbrev pub right : {S : Type 0} → (S → ℕ) → (Code → S → S) → List (List ℕ) → S → ℕ → Bool
right number next table s k = eqb (entry table k (number s)) (number (next (code_of k) s))

pub table_law : {S : Type 0} (number : S → ℕ) (next : Code → S → S) (table : List (List ℕ)) (rows : ℕ)
    → ((s : S) → T (all (right number next table s) rows))
    → (code : ℕ) (s : S) → code < rows → entry table code (number s) ≡ number (next (code_of code) s)
table_law number next table rows tested code s h =
    eqb→eq (entry table code (number s)) (number (next (code_of code) s)) (below (right number next table s) rows (tested s) code h)

-- ---- the command unit's

pub cu_below : (s : CuState) → cu_number s < 3
cu_below cu.Idle = lit< tt
cu_below cu.Suspended = lit< tt
cu_below cu.Active = lit< tt

cu_tested : (s : CuState) → T (all (right cu_number cu_next CU_NEXT s) 8)
unfolding code_of
cu_tested cu.Idle = tt
cu_tested cu.Suspended = tt
cu_tested cu.Active = tt

pub cu_table_lem : (code : ℕ) (s : CuState) → code < 8 → entry CU_NEXT code (cu_number s) ≡ cu_number (cu_next (code_of code) s)
cu_table_lem = table_law cu_number cu_next CU_NEXT 8 cu_tested

-- ---- the receive unit's

pub ru_below : (s : RuState) → ru_number s < 5
ru_below ru.Idle = lit< tt
ru_below ru.Suspended = lit< tt
ru_below ru.NoResources = lit< tt
ru_below ru.Ready = lit< tt

ru_tested : (s : RuState) → T (all (right ru_column ru_next RU_NEXT s) 8)
unfolding code_of
ru_tested ru.Idle = tt
ru_tested ru.Suspended = tt
ru_tested ru.NoResources = tt
ru_tested ru.Ready = tt

pub ru_table_lem : (code : ℕ) (s : RuState) → code < 8 → entry RU_NEXT code (ru_column s) ≡ ru_column (ru_next (code_of code) s)
ru_table_lem = table_law ru_column ru_next RU_NEXT 8 ru_tested
