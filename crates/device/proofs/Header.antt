-- The header rule, over every address length: the parts lie side by side, they are all of the header, and with location 0 none of them is among what goes
-- through buffers. Assumes nothing.
use mathlib.Core.Path.{◌≡◌, refl}
use mathlib.Core.Bool.{Bool, true, false}
use mathlib.Core.Logic.{⊎_elim}
use Prim.Native.Nat.{ℕ, ◌+◌, ◌*◌, ◌≤◌, ◌<◌}
use native.Mathlib.Omega.{arith}
use Rattle.memory.proofs.Laws.{below_or_not}
use Rattle.device.specs.Header.{destination_in, source_in, type_in, header, unbuffered_by, unbuffered}
use Rattle.device.specs.Limits.{type_length}
use Rattle.device.specs.declared.Form.{Form}

-- 02, Wish 4: "The header has twice the length plus two bytes"
pub twice_and_two : (l : ℕ) → header l ≡ 2 * l + 2
twice_and_two l = omega arith

-- each part begins where the one before it ends: destination and source have l bytes, the type has two
pub side_by_side : (l : ℕ) → (destination_in ≡ 0) × (source_in l ≡ destination_in + l) × (type_in l ≡ source_in l + l) × (header l ≡ type_in l + type_length)
side_by_side l = (refl, omega arith, refl, refl)

-- where byte i of a frame lies
pub data Lies (l i : ℕ) : Type 0 where
  destination : destination_in ≤ i → i < source_in l → Lies l i
  source : source_in l ≤ i → i < type_in l → Lies l i
  type : type_in l ≤ i → i < header l → Lies l i
  behind : header l ≤ i → Lies l i

-- every byte of the header is in one of its parts
pub lies : (l i : ℕ) → Lies l i
lies l i =
    ⊎_elim (λ (d : i < l). destination (omega arith) d)
    (λ (d : l ≤ i).
    ⊎_elim (λ (s : i < l + l). source d s)
    (λ (s : l + l ≤ i). ⊎_elim (λ (t : i < l + l + 2). type s t) (λ (t : l + l + 2 ≤ i). behind t) (below_or_not i (l + l + 2)))
    (below_or_not i (l + l)))
    (below_or_not i l)

-- none of them goes through buffers with location 0, and every byte does with location 1
pub none_in_the_data : (f : Form) → f.location ≡ false → unbuffered f ≡ header f.length
none_in_the_data f e = rw e

pub all_in_the_buffers : (f : Form) → f.location ≡ true → unbuffered f ≡ 0
all_in_the_buffers f e = rw e

-- so never more than the header stays out of them
most_by : (b : Bool) (l : ℕ) → unbuffered_by b l ≤ header l
most_by true l = omega arith
most_by false l = omega arith

pub at_most_the_header : (f : Form) → unbuffered f ≤ header f.length
at_most_the_header f = most_by f.location f.length
