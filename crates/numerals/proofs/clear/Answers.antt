-- `numerals::clear` meets its contract: the part that is filled has n bytes. Assumes nothing.
use Rattle.std.proofs.Common.{◌≡◌, ◌+◌, ◌-◌, ◌≤◌, ℕ, length, take, drop, replicate, length-drop, length-take-le, arith}
use Rattle.std.proofs.lemmas.List.{length-replicate}
use Rattle.memory.proofs.Laws.{part_put}
use Rattle.numerals.proofs.clear.Goals as goal

pub returns-then-n-ne0 : goal.returns-then-n-ne0
returns-then-n-ne0 c =
    let filled = c.fill.ensures.after (λ y h. h) in
    let n : c.args.at + c.args.n - c.args.at ≡ c.args.n = omega arith in
    let fits : c.args.at + c.args.n ≤ length c.args.r.now = omega (arith, c.requires, c.if-n-ne0.true) in
    let part : length (take c.args.n (drop c.args.at c.args.r.now)) ≡ c.args.n =
    length-take-le c.args.n (drop c.args.at c.args.r.now) (simp length-drop (omega (arith, c.requires))) in
    rw (filled, n, part) (part_put c.args.r.now c.args.at c.args.n (replicate c.args.n 0) (length-replicate {A = ℕ} c.args.n 0) fits)
