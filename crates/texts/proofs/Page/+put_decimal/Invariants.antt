-- The measure of the calls of `texts::Page::put_decimal` of itself: n / 10 is below n, since n is at least 10. Assumes nothing.
use Rattle.texts.proofs.Page.+put_decimal.Given as goal

abbrev pub decreases-put_decimal : goal.decreases-put_decimal
decreases-put_decimal l = l.n
