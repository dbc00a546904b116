-- `code_receive::is_bare` meets its contract. Assumes nothing.
use Rattle.std.proofs.Common.{◌≡◌, ◌<◌, ◌≤◌, ℕ, not, leb, ltb, le-leb}
use mathlib.Core.Logic.{⊎_elim}
use borrow.Author.Tests.{lt-ltb, le-ltb, lt-leb}
use Rattle.memory.proofs.Laws.{below_or_not}
use Rattle.device.specs.Header.{unbuffered}
use Rattle.phases.specs.Phases.{word_of}
use Rattle.code_arrival.specs.Arrives.{frame_in}
use Rattle.code_receive.proofs.is_bare.Goals as goal

-- not more is at most
at_most : (a b : ℕ) → not (ltb a b) ≡ leb b a
at_most a b =
    ⊎_elim (λ (h : a < b). rw (lt-ltb a b h, lt-leb b a h)) (λ (h : b ≤ a). rw (le-ltb a b h, le-leb b a h)) (below_or_not a b)

pub returns : goal.returns
unfolding word_of
returns c =
    let f = frame_in c.args.n in
    rw (c.has_data.ensures, c.size_of.ensures, c.form.ensures) (at_most (unbuffered f.form) f.length)
