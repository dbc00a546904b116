-- What the tests of a form's number and of a frame's size rest on. Assumes nothing.
use mathlib.Core.Path.{◌≡◌, sym}
use mathlib.Core.Bool.{Bool, true, false}
use mathlib.Core.Logic.{⊎_elim}
use Prim.Native.Nat.{ℕ, ◌+◌, ◌*◌, ◌/◌, ◌%◌, ◌≤◌, ◌<◌}
use native.Mathlib.Omega.{arith}
use borrow.Author.Tests.{leb-true, lt-ltb, le-ltb, le-leb, lt-leb}
use lib.Dec.{leb, ltb}
use Rattle.memory.proofs.Laws.{below_or_not}
use Rattle.device.specs.Header.{header, unbuffered_by, unbuffered}
use Rattle.phases.specs.Forms.{form_of, form_shaped}
use Rattle.phases.proofs.Units.{form_wide}

-- nothing above four bits, and at most six in the low three, as one test
pub shaped : (n : ℕ) → leb (n / 16 * 16 + n % 8) 6 ≡ form_shaped n
unfolding form_shaped
shaped n =
    ⊎_elim
    (λ (h : n < 16).
    let e : n / 16 * 16 + n % 8 ≡ n % 8 = omega arith in
    rw (e, lt-ltb n 16 h))
    (λ (h : 16 ≤ n). rw (lt-leb (n / 16 * 16 + n % 8) 6 (omega arith), le-ltb n 16 h))
    (below_or_not n 16)

-- ---- no header is longer than 14 bytes

pub header_most : (n : ℕ) → header (form_of n).length ≤ 14
header_most n = omega (arith, form_wide n)

unbuffered_header : (location : Bool) (l : ℕ) → unbuffered_by location l ≤ header l
unbuffered_header true l = omega arith
unbuffered_header false l = omega arith

pub header_had : (n size : ℕ) → 14 ≤ size → true ≡ leb (header (form_of n).length) size
header_had n size h = sym (le-leb _ size (omega (arith, header_most n)))

pub data_had : (n size : ℕ) → 14 < size → true ≡ ltb (unbuffered (form_of n)) size
data_had n size h =
    sym (lt-ltb (unbuffered (form_of n)) size (omega (arith, header_most n, unbuffered_header (form_of n).location (form_of n).length)))

-- ---- what has the header has all that goes to no buffer; what has not is enough with location 1 alone

pub enough : (location : Bool) (l size : ℕ) → leb (header l) size ≡ true → true ≡ leb (unbuffered_by location l) size
enough location l size h =
    sym (le-leb (unbuffered_by location l) size (omega (arith, leb-true (header l) size h, unbuffered_header location l)))

pub by_location : (location : Bool) (l size : ℕ) → leb (header l) size ≡ false → location ≡ leb (unbuffered_by location l) size
by_location true l size h = sym (le-leb 0 size (omega arith))
by_location false l size h = sym h
