-- The header in a frame descriptor, part by part: 02, Wish 4: "Block and descriptor fields are packed". One law over the place and the size of a part; the
-- header rule says which parts there are. Assumes nothing.
use mathlib.Core.Path.{◌≡◌, sym, ap, ◌∙◌}
use mathlib.Core.Bool.{Bool}
use mathlib.Core.List.{List, ◌++◌}
use Prim.Native.Nat.{ℕ, ◌+◌, ◌-◌, ◌≤◌, min}
use native.Mathlib.Omega.{arith}
use lib.ListN.{length, take, drop, length-take}
use lib.Seq.{take-take, take-add, take_at, drop_at}
use Rattle.memory.specs.Address.{place}
use Rattle.memory.specs.Memory.{bytes_at}
use Rattle.memory.proofs.Laws.{length-bytes_at, bytes_append}
use Rattle.device.specs.Header.{unbuffered}
use Rattle.device.specs.declared.Storing.{Storing}
use Rattle.chip.specs.World.{World, Ran}
use Rattle.frames.specs.Held.{in_frame}
use Rattle.frames.specs.Stands.{StoredStands}

-- in plain variables: where i bytes, k behind them and r behind these are the first of a list, the k are those behind its first i
inner : (m : List ℕ) (a : ℕ) (h : List ℕ) (i k r : ℕ) → bytes_at m a (i + (k + r)) ≡ take (i + (k + r)) h → bytes_at m (a + i) k ≡ take k (drop i h)
inner m a h i k r e =
    let whole : i + (k + r) ≡ min (i + (k + r)) (length h) =
    sym (length-bytes_at m a (i + (k + r))) ∙ ap (λ (x : List ℕ). length x) e ∙ length-take (i + (k + r)) h
    in
    let size : length (take i h) ≡ i = length-take i h ∙ omega arith in
    let cut : bytes_at m a i ++ bytes_at m (a + i) (k + r) ≡ take i h ++ take (k + r) (drop i h) =
    sym (bytes_append m a i (k + r)) ∙ e ∙ take-add i (k + r) h
    in
    let behind : bytes_at m (a + i) (k + r) ≡ take (k + r) (drop i h) =
    sym (drop_at (bytes_at m a i) (bytes_at m (a + i) (k + r)) i (length-bytes_at m a i))
    ∙ ap (drop i) cut
    ∙ drop_at (take i h) (take (k + r) (drop i h)) i size
    in
    sym (take_at (bytes_at m (a + i) k) (bytes_at m (a + i + k) r) k (length-bytes_at m (a + i) k))
    ∙ ap (take k) (sym (bytes_append m (a + i) k r) ∙ behind)
    ∙ take-take k (k + r) (drop i h) (omega arith)

at_field : (w : World) (s : Storing) (i : ℕ) → in_frame w s 8 + i ≡ in_frame w s (8 + i)
unfolding place
at_field w s i = omega arith

-- k bytes of what went to no buffer, behind the first i of it, stand k bytes long behind i of the descriptor's header
pub part_stands : (lacking : Bool) (s : Storing) (w : World) (r : Ran) → StoredStands lacking s w r → (i k : ℕ) → i + k ≤ unbuffered s.frame.form
    → bytes_at r.memory (in_frame w s (8 + i)) k ≡ take k (drop i w.holding)
part_stands lacking s w r x i k l =
    let u = unbuffered s.frame.form in
    let n : i + (k + (u - (i + k))) ≡ u = omega arith in
    rw (← at_field w s i) (inner r.memory (in_frame w s 8) w.holding i k (u - (i + k)) (rw n x.bytes))
