-- What the bench's own calls say of a record. Assumes nothing.
use Rattle.std.specs.Prelude.{◌≡◌, List, ℕ}
use Rattle.packed.specs.Packed.{packed_of}
use Rattle.image.specs.Image.{decode_of, stored_units}
use Rattle.image.specs.Found.{Found}
use Rattle.image.specs.Found as is

-- 1 if it was decoded to a state
abbrev pub taken : Found → ℕ
taken (is.Units u) = 1
taken is.Foreign = 0

-- what is written back: the numbers of that state; a foreign record stays
abbrev pub rewritten : Found → List ℕ → List ℕ
rewritten (is.Units u) r = stored_units r (packed_of u)
rewritten is.Foreign r = r

pub record Both (before : List ℕ) (said : ℕ) (after : List ℕ) : Type 0 where
  pub answer : said ≡ taken (decode_of before)
  pub kept : after ≡ rewritten (decode_of before) before
