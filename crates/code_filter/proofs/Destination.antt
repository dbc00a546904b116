-- A match asks a frame for its destination alone. Assumes nothing.
use mathlib.Core.Path.{◌≡◌, refl, ap, ◌∙◌}
use mathlib.Core.Bool.{Bool, not, ◌&&◌, ◌||◌}
use mathlib.Core.List.{List}
use Prim.Native.Nat.{ℕ, zero, suc, ◌≤◌}
use native.Mathlib.Omega.{arith}
use lib.Dec.{ltb}
use lib.ListN.{length, replicate, take}
use lib.Seq.{length-take-le, take-take}
use Rattle.std.proofs.lemmas.List.{get_or-take}
use Rattle.device.specs.declared.Settings.{Settings}
use Rattle.filter.specs.Match.{agree, all_ones, is_own, is_group, is_filtered, addressed, matches}

agree_taken : (a : List ℕ) (i l : ℕ) (f : List ℕ) (k : ℕ) → k ≤ l → agree a i (take l f) k ≡ agree a i f k
unfolding agree
agree_taken a i l f zero h = refl
agree_taken a i l f (suc k) h = rw (agree_taken a i l f k (omega arith), get_or-take l f k 0 h)

addressed_taken : (l : ℕ) (enabled : Bool) (own : List ℕ) (filter : ℕ) (f : List ℕ)
    → (ltb 0 l && addressed (all_ones l (take l f)) enabled (is_own l own (take l f)) (is_group (take l f)) (is_filtered l filter (take l f)))
    ≡ (ltb 0 l && addressed (all_ones l f) enabled (is_own l own f) (is_group f) (is_filtered l filter f))
addressed_taken zero enabled own filter f = refl
addressed_taken (suc l) enabled own filter f =
    let n = suc l in
    rw (
      agree_taken (replicate n 255) 0 n f n (omega arith),
      agree_taken own 0 n f n (omega arith),
      get_or-take n f 0 0 (omega arith),
      take-take n n f (omega arith),
    )

matches_taken : (s : Settings) (own : List ℕ) (filter : ℕ) (f : List ℕ)
    → matches s own filter (take s.form.length f) ≡ matches s own filter f
unfolding matches
matches_taken s own filter f = ap (λ (b : Bool). s.promiscuous || b) (addressed_taken s.form.length (not s.nobroadcast) own filter f)

-- l: the address length in force; what its destination says is said of the frame
pub of_destination : (s : Settings) (own : List ℕ) (filter : ℕ) (f : List ℕ) (l : ℕ) (r : Bool) → l ≤ length f → l ≡ s.form.length
    → (length (take l f) ≡ s.form.length → r ≡ matches s own filter (take l f)) → r ≡ matches s own filter f
of_destination s own filter f l r h e told = told (length-take-le l f h ∙ e) ∙ rw e (matches_taken s own filter f)

-- and what is said of a destination is said of any frame that begins with it
pub of_front : (s : Settings) (own : List ℕ) (filter : ℕ) (d f : List ℕ) (r : Bool) → length d ≡ s.form.length → d ≡ take (length d) f
    → r ≡ matches s own filter d → r ≡ matches s own filter f
of_front s own filter d f r h e told =
    let same : d ≡ take s.form.length f = e ∙ ap (λ (n : ℕ). take n f) h in
    told ∙ ap (λ (x : List ℕ). matches s own filter x) same ∙ matches_taken s own filter f
