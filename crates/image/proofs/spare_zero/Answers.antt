-- `image::spare_zero` meets its contract: three spare bytes are zero if the first two and the last are. Assumes nothing.
use Rattle.std.proofs.Common.{refl}
use Rattle.image.specs.Image.{spare_zero}
use Rattle.numerals.proofs.Laws.{zero_append}
use Rattle.image.proofs.spare_zero.Goals as goal

pub returns : goal.returns
unfolding spare_zero
returns c = rw (c.read.ensures, c.read-2.ensures, c.is_zero.ensures, ← zero_append c.args.r.now 13 2 1) refl
