-- "No held frame outside Ready", of the numbers as they stand in a record: one that is accepted, and whose phase holds no frame, has nothing of a frame.
-- Assumes nothing.
use mathlib.Core.Path.{◌≡◌, refl, ap}
use mathlib.Core.Bool.{Bool, true, false, cond, ◌&&◌, false≢true}
use mathlib.Core.List.{List}
use Prim.Native.Nat.{ℕ, zero, suc, ◌^◌, ◌<◌}
use native.Mathlib.Omega.{arith}
use borrow.Author.Tests.{leb-true}
use lib.Dec.{eqb, leb, ltb}
use lib.ListN.{length}
use Rattle.device.specs.Limits.{record_size}
use Rattle.device.specs.declared.Device.{Device}
use Rattle.device.specs.declared.Units.{Units}
use Rattle.numerals.specs.Places.{field}
use Rattle.phases.specs.Fields.{flags_in, kind_in}
use Rattle.phases.specs.Forms.{kind_shaped}
use Rattle.phases.specs.Phases.{cu_shaped, ru_most, ru_flags, rest_most, ru_shaped}
use Rattle.phases.proofs.Units.{both}
use Rattle.packed.specs.Packed.{cu_tag_in, ru_tag_in}
use Rattle.packed.specs.Record.{ru_at, rest_at}
use Rattle.image.specs.Found as is
use Rattle.image.specs.Image.{packed_at, units_at, head_shaped, units_shaped, spare_zero, shaped, range_from, decode_full, decode_of}
use Rattle.calls.specs.Calls.{is_image}
use Rattle.traces.specs.Areas.{Holds}
use Rattle.closure.proofs.Carried.{holds_decoded}

-- a record that is decoded to a state has an image's shape
shaped_by : (long fits range : Bool) (u v : Units) → cond long (cond (fits && range) (is.Units v) is.Foreign) is.Foreign ≡ is.Units u → fits ≡ true
shaped_by true true range u v e = refl
shaped_by true false range u v e = absurd (false≢true (ap is_image e))
shaped_by false fits range u v e = absurd (false≢true (ap is_image e))

decoded_shaped : (r : List ℕ) (u : Units) → decode_of r ≡ is.Units u → shaped r ≡ true
unfolding decode_of decode_full
decoded_shaped r u e = shaped_by (eqb (length r) record_size) (shaped r) (range_from r (units_at r)) u (units_at r) e

-- the phases below 4 hold no frame: their first word is at most a frame descriptor's offset, their second is 0
outside : (t n rest : ℕ) → t < 4 → leb n (ru_most t) ≡ true → leb rest (rest_most t) ≡ true → (n < 2 ^ 16) × (rest ≡ 0)
unfolding ru_most rest_most
outside zero n rest l p q = (omega (arith, leb-true n 0 p), omega (arith, leb-true rest 0 q))
outside (suc zero) n rest l p q = (omega (arith, leb-true n 65535 p), omega (arith, leb-true rest 0 q))
outside (suc (suc zero)) n rest l p q = (omega (arith, leb-true n 0 p), omega (arith, leb-true rest 0 q))
outside (suc (suc (suc zero))) n rest l p q = (omega (arith, leb-true n 65535 p), omega (arith, leb-true rest 0 q))
outside (suc (suc (suc (suc t)))) n rest l p q = absurd (omega (arith, l))

shaped_outside : (t n rest : ℕ) → t < 4 → ru_shaped t n rest ≡ true → (n < 2 ^ 16) × (rest ≡ 0)
unfolding ru_shaped
shaped_outside t n rest l e =
    let x = both (ltb t 8 && leb n (ru_most t) && ltb (flags_in n) (ru_flags t) && kind_shaped (kind_in n)) (leb rest (rest_most t)) e in
    let y = (both (ltb t 8 && leb n (ru_most t) && ltb (flags_in n) (ru_flags t)) (kind_shaped (kind_in n)) x.0).0 in
    let z = (both (ltb t 8 && leb n (ru_most t)) (ltb (flags_in n) (ru_flags t)) y).0 in
    outside t n rest l (both (ltb t 8) (leb n (ru_most t)) z).1 x.1

-- bytes 26-31 and 32-39 of the record are zero, unless its phase, byte 7, is one of those that hold a frame, all of them in Ready
pub holds_outside : (r : List ℕ) (d : Device) → Holds r d → ru_tag_in (packed_at r) < 4 → (field r ru_at 8 < 2 ^ 16) × (field r rest_at 8 ≡ 0)
unfolding shaped units_shaped packed_at
holds_outside r d h l =
    let e : shaped r ≡ true = decoded_shaped r d.units (holds_decoded r d h) in
    let u : units_shaped r ≡ true = (both (head_shaped r) (units_shaped r) (both (head_shaped r && units_shaped r) (spare_zero r) e).0).1 in
    shaped_outside (ru_tag_in (packed_at r)) (field r ru_at 8) (field r rest_at 8) l
    (both (cu_shaped (cu_tag_in (packed_at r)) (packed_at r).cu) (ru_shaped (ru_tag_in (packed_at r)) (packed_at r).ru (packed_at r).rest) u).1
