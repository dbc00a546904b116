-- What a turn of the loop that copies into memory adds: a stretch, and what is left from where it ends. Assumes nothing.
use mathlib.Core.Path.{◌≡◌, sym, ◌∙◌}
use mathlib.Core.List.{List}
use Prim.Native.Nat.{ℕ, ◌+◌, ◌-◌, ◌%◌, ◌≤◌, ◌<◌, min}
use native.Mathlib.Nat.{mod-eq_of_lt, mod-mod, add_assoc}
use native.Mathlib.Omega.{arith}
use lib.ListN.{length, take, drop, length-drop, length-take}
use lib.Seq.{drop-drop, take-take, length-take-le, sets, length-sets}
use Rattle.memory.specs.Memory.{put_bytes}
use Rattle.copies.proofs.Laws.{start_again, put_on, put_stretch, reaches, some_left, within_left, drop-take}

pub in_turn : (m src : List ℕ) (at i k done run : ℕ) → i < length m → k ≤ length src - at → run ≡ min (k - done) (length m - i)
    → put_bytes (sets m i (take run (drop (at + done) src))) ((i + run) % length m) (take (k - (done + run)) (drop (at + (done + run)) src))
    ≡ put_bytes m i (take (k - done) (drop (at + done) src))
in_turn m src at i k done run h q e =
    let t : length (take (k - done) (drop (at + done) src)) ≡ k - done =
    length-take-le (k - done) (drop (at + done) src) (rw length-drop (omega arith)) in
    let r : k - (done + run) ≡ k - done - run = omega arith in
    let w : length (take (k - done - run) (drop (at + done + run) src)) ≡ min (k - done - run) (length (drop (at + done + run) src)) =
    length-take (k - done - run) (drop (at + done + run) src) in
    let l : length (sets m i (take run (drop (at + done) src))) ≡ length m = length-sets m i (take run (drop (at + done) src)) in
    let o : put_bytes (sets m i (take run (drop (at + done) src))) ((i + run) % length m) (take (k - done - run) (drop (at + done + run) src))
    ≡ put_bytes (sets m i (take run (drop (at + done) src))) 0 (take (k - done - run) (drop (at + done + run) src)) =
    put_on
    (sets m i (take run (drop (at + done) src)))
    ((i + run) % length m)
    (take (k - done - run) (drop (at + done + run) src))
    (λ (z : 0 < length (take (k - done - run) (drop (at + done + run) src))).
    rw l (mod-mod (i + run) (length m) ∙ start_again (i + run) (length m) (reaches i (length m) (k - done) run h e (some_left _ _ _ w z)))) in
    let x : i % length m ≡ i = mod-eq_of_lt h in
    sym
    (rw (
      put_stretch m i (take (k - done) (drop (at + done) src)) run (rw (t, x) e),
      x,
      take-take run (k - done) (drop (at + done) src) (within_left (k - done) (length m - i) run e),
      drop-take,
      drop-drop,
      r,
      ← add_assoc,
      o,
    ))
