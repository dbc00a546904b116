-- A page: the slice that texts are put into, and where the next one goes. Assumes nothing.
use Rattle.std.specs.Prelude.{◌≡◌, List, ℕ}
use Rattle.texts.specs.declared.Page.{Page}
use Rattle.texts.specs.Texts.{Puts}

-- a text is put on a page, and the page stays in the slice that it was
abbrev pub Prints : List ℕ → Page → Page → Type 0
Prints text p q = (q.out.ghost_name ≡ p.out.ghost_name) × Puts text p.at p.out.now q.at q.out.now
