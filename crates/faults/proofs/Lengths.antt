-- How long a fault is, and one computed. No contract cites this file. Assumes nothing.
use mathlib.Core.Path.{◌≡◌, refl}
use Prim.Native.Nat.{ℕ, ◌^◌, ◌≤◌, ◌<◌}
use native.Mathlib.Omega.{arith}
use lib.ListN.{length, length-append}
use Rattle.texts.specs.Codes.{codes}
use Rattle.texts.specs.Texts.{decimal_by, decimal}
use Rattle.texts.proofs.Lengths.{length_decimal}
use Rattle.faults.specs.Faults.{expected_text, fault_text}
use Rattle.wording.specs.Lines.{fault_at}
use Rattle.wording.specs.declared.Fault.{Fault}
use Rattle.wording.specs.declared.Wrong.{Wrong}
use Rattle.wording.specs.declared.Wrong.TheVariants as wrong

length_expected : (what : Wrong) → length (expected_text what) ≤ 20
unfolding expected_text
length_expected wrong.First = omega arith
length_expected wrong.Number = omega arith
length_expected wrong.Size = omega arith
length_expected wrong.Short = omega arith
length_expected wrong.Area = omega arith
length_expected wrong.Place = omega arith
length_expected wrong.Bytes = omega arith
length_expected wrong.Room = omega arith
length_expected wrong.End = omega arith

pub length_fault : (line : ℕ) (f : Fault) → line < 2 ^ 64 → f.column < 2 ^ 64 → length (fault_text line f) ≤ 86
unfolding fault_text
length_fault line f h k =
    let l : length (decimal line) ≤ 20 = length_decimal 19 line (omega arith) in
    let c : length (decimal f.column) ≤ 20 = length_decimal 19 f.column (omega arith) in
    let e : length (expected_text f.wrong) ≤ 20 = length_expected f.wrong in
    simp length-append (omega arith)

pub fault : fault_text 12 (fault_at wrong.Number 7) ≡ codes "line 12, column 7: expected a number\n"
unfolding fault_text expected_text decimal decimal_by
fault = refl
