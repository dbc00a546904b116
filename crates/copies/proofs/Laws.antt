-- What the copies by stretches rest on: bytes up to the end of memory are a run of the list, and those behind it are read and put from 0 on.
-- `bytes_stretch` and `put_stretch` say it, of every memory, an empty one too. The rest is a turn of each loop, and that k bytes from index i
-- on, k as many as there is room for, do what n from address a on do. Assumes nothing.
use mathlib.Core.Path.{◌≡◌, refl, sym, ap, ◌∙◌}
use mathlib.Core.List.{List, [], ◌∷◌, ◌++◌}
use mathlib.Core.Logic.{⊎_elim}
use Prim.Native.Nat.{ℕ, zero, suc, ◌+◌, ◌-◌, ◌%◌, ◌≤◌, ◌<◌, min}
use native.Mathlib.Nat.{le_of_lt, mod-lt, mod-eq_of_lt, mod-mod, mod_self, zero-mod, add_assoc, sub-zero, zero-sub, suc-sub-suc}
use native.Mathlib.Omega.{arith}
use lib.ListN.{length, get_or, set, take, drop, replicate, length-set, length-drop, length-take, take-append-drop}
use lib.Seq.{drop-cons, take_all, take-nil, take_at, length-take-le, sets}
use Rattle.memory.specs.Memory.{byte_at, put_byte, bytes_at, put_bytes}
use Rattle.memory.proofs.Laws.{length-bytes_at, length-put_bytes, below_or_not, none_get, none_set, put_append, bytes_append, sets-append, run_all}
use Rattle.memory.proofs.Places.{bytes_place, put_place}

-- ---- what does not pass the end of memory is a run of the list; past its end memory begins again

bytes_run : (m : List ℕ) (i k : ℕ) → i + k ≤ length m → take k (drop i m) ≡ bytes_at m i k
unfolding bytes_at byte_at
bytes_run m i zero h = refl
bytes_run m i (suc k) h =
    let l : i < length m = omega arith in
    rw (drop-cons m i 0 l, mod-eq_of_lt l) (ap (λ (r : List ℕ). get_or m i 0 ∷ r) (bytes_run m (suc i) k (omega arith)))

put_run : (m : List ℕ) (i : ℕ) (bs : List ℕ) → i + length bs ≤ length m → sets m i bs ≡ put_bytes m i bs
unfolding put_bytes put_byte
put_run m i [] h = refl
put_run m i (b ∷ bs) h =
    let l : i < length m = omega arith in
    rw (mod-eq_of_lt l) (put_run (set m i b) (suc i) bs (rw length-set (omega arith)))

-- the place behind the last byte is the first
pub start_again : (j n : ℕ) → j ≡ n → j % n ≡ 0 % n
start_again j n e = rw e (mod_self n ∙ sym (zero-mod n))

bytes_on : (m : List ℕ) (j n : ℕ) → (0 < n → j % length m ≡ 0 % length m) → bytes_at m j n ≡ bytes_at m 0 n
unfolding bytes_at
bytes_on m j zero h = refl
bytes_on m j (suc n) h = bytes_place m j 0 (suc n) (h (omega arith))

pub put_on : (m : List ℕ) (j : ℕ) (bs : List ℕ) → (0 < length bs → j % length m ≡ 0 % length m) → put_bytes m j bs ≡ put_bytes m 0 bs
unfolding put_bytes
put_on m j [] h = refl
put_on m j (b ∷ bs) h = put_place m j 0 (b ∷ bs) (h (omega arith))

-- ---- an empty memory reads 0 and takes nothing

none_bytes : (m : List ℕ) (a n : ℕ) → length m ≡ 0 → bytes_at m a n ≡ replicate n 0
unfolding bytes_at
none_bytes m a zero e = refl
none_bytes m a (suc n) e = rw (none_get m a e) (ap (λ (r : List ℕ). 0 ∷ r) (none_bytes m (suc a) n e))

pub none_puts : (m : List ℕ) (a : ℕ) (bs : List ℕ) → length m ≡ 0 → m ≡ put_bytes m a bs
unfolding put_bytes
none_puts m a [] e = refl
none_puts m a (b ∷ bs) e = rw (none_set m a b e) (none_puts m (suc a) bs e)

-- ---- the law of stretches

bytes_from_lem : (m : List ℕ) (i n k : ℕ) → i ≤ length m → k ≡ min n (length m - i)
    → bytes_at m i n ≡ take k (drop i m) ++ bytes_at m 0 (n - k)
bytes_from_lem m i n k h e =
    let s : n ≡ k + (n - k) = omega arith in
    ap (bytes_at m i) s
    ∙ bytes_append m i k (n - k)
    ∙ rw (bytes_run m i k (omega arith), bytes_on m (i + k) (n - k) (λ (p : 0 < n - k). start_again (i + k) (length m) (omega arith)))

put_from : (m : List ℕ) (i : ℕ) (bs : List ℕ) (k : ℕ) → i ≤ length m → k ≡ min (length bs) (length m - i)
    → put_bytes m i bs ≡ put_bytes (sets m i (take k bs)) 0 (drop k bs)
put_from m i bs k h e =
    let t : length (take k bs) ≡ k = length-take-le k bs (omega arith) in
    let d : length (drop k bs) ≡ length bs - k = length-drop k bs in
    let l : length (put_bytes m i (take k bs)) ≡ length m = length-put_bytes m i (take k bs) in
    ap (put_bytes m i) (sym (take-append-drop k bs))
    ∙ put_append m i (take k bs) (drop k bs)
    ∙ rw
    (t, put_run m i (take k bs) (omega arith))
    (put_on (put_bytes m i (take k bs)) (i + k) (drop k bs)
    (λ (p : 0 < length (drop k bs)). start_again (i + k) (length (put_bytes m i (take k bs))) (omega arith)))

-- the n bytes from address a on are those up to the end of memory, k of them, and then those from 0 on
pub bytes_stretch : (m : List ℕ) (a n k : ℕ) → k ≡ min n (length m - a % length m)
    → bytes_at m a n ≡ take k (drop (a % length m) m) ++ bytes_at m 0 (n - k)
bytes_stretch m a n k e =
    ⊎_elim
    (λ (h : 0 < length m).
    let r : a % length m < length m = mod-lt a h in
    bytes_place m a (a % length m) n (sym (mod-mod a (length m))) ∙ bytes_from_lem m (a % length m) n k (le_of_lt r) e)
    (λ (h : length m ≤ 0).
    let z : k ≡ 0 = omega arith in
    rw (z, sub-zero) (none_bytes m a n (omega arith) ∙ sym (none_bytes m 0 n (omega arith))))
    (below_or_not 0 (length m))

-- its twin: of the bytes that are put from address a on those up to the end of memory go there, k of them, and then the others from 0 on
pub put_stretch : (m : List ℕ) (a : ℕ) (bs : List ℕ) (k : ℕ) → k ≡ min (length bs) (length m - a % length m)
    → put_bytes m a bs ≡ put_bytes (sets m (a % length m) (take k bs)) 0 (drop k bs)
put_stretch m a bs k e =
    ⊎_elim
    (λ (h : 0 < length m).
    let r : a % length m < length m = mod-lt a h in
    put_place m a (a % length m) bs (sym (mod-mod a (length m))) ∙ put_from m (a % length m) bs k (le_of_lt r) e)
    (λ (h : length m ≤ 0).
    let z : k ≡ 0 = omega arith in
    rw z (sym (none_puts m a bs (omega arith)) ∙ none_puts m 0 bs (omega arith)))
    (below_or_not 0 (length m))

-- ---- a stretch of both loops: it lies within both areas, and is not empty

pub fits : (len at k done run most : ℕ) → k ≤ len - at → run ≡ min (k - done) most → run ≤ len - (at + done)
fits len at k done run most h e = omega arith

pub up_to_the_end : (i len left run : ℕ) → i < len → run ≡ min left (len - i) → i + run ≤ len
up_to_the_end i len left run h e = omega arith

pub reaches : (i len left run : ℕ) → i < len → run ≡ min left (len - i) → 0 < left - run → i + run ≡ len
reaches i len left run h e q = omega arith

pub some_left : (l n k : ℕ) → l ≡ min n k → 0 < l → 0 < n
some_left l n k e h = omega arith

pub within_left : (left most run : ℕ) → run ≡ min left most → run ≤ left
within_left left most run e = omega arith

pub within_reach : (left most run : ℕ) → run ≡ min left most → run ≤ most
within_reach left most run e = omega arith

pub gains : (k done i len run : ℕ) → done < k → i < len → run ≡ min (k - done) (len - i) → k - (done + run) < k - done
gains k done i len run h p e = omega arith

-- ---- out of memory: a turn of the loop; k bytes from index i on, for n from address a on; the empty memory

pub out_turn : (m d : List ℕ) (at i k done run : ℕ) → i < length m → run ≡ min (k - done) (length m - i)
    → sets (sets d (at + done) (take run (drop i m))) (at + (done + run)) (bytes_at m ((i + run) % length m) (k - (done + run)))
    ≡ sets d (at + done) (bytes_at m i (k - done))
out_turn m d at i k done run h e =
    let t : length (take run (drop i m)) ≡ run = length-take-le run (drop i m) (rw length-drop (omega arith)) in
    let r : k - (done + run) ≡ k - done - run = omega arith in
    let o : bytes_at m ((i + run) % length m) (k - done - run) ≡ bytes_at m 0 (k - done - run) =
    bytes_on m ((i + run) % length m) (k - done - run)
    (λ (q : 0 < k - done - run). mod-mod (i + run) (length m) ∙ start_again (i + run) (length m) (reaches i (length m) (k - done) run h e q)) in
    let q : i % length m ≡ i = mod-eq_of_lt h in
    sym (rw (bytes_stretch m i (k - done) run (rw q e), q, sets-append, t, r, o, add_assoc))

-- nothing is left
pub out_end : (m d e : List ℕ) (to i k done : ℕ) → k ≤ done → sets d to (bytes_at m i (k - done)) ≡ e → d ≡ e
unfolding bytes_at
out_end m d e to i k done h inv =
    let z : k - done ≡ 0 = omega arith in
    let w : sets d to (bytes_at m i (k - done)) ≡ d = rw z in
    sym w ∙ inv

out_all : (m d : List ℕ) (a at n : ℕ) → sets d at (bytes_at m a (min n (length d - at))) ≡ sets d at (bytes_at m a n)
out_all m d a at n =
    let k : ℕ = min n (length d - at) in
    let s : n ≡ k + (n - k) = omega arith in
    let l : length (bytes_at m a n) ≡ n = length-bytes_at m a n in
    let t : take k (bytes_at m a n) ≡ bytes_at m a k =
    ap (λ (j : ℕ). take k (bytes_at m a j)) s
    ∙ ap (take k) (bytes_append m a k (n - k))
    ∙ take_at (bytes_at m a k) (bytes_at m (a + k) (n - k)) k (length-bytes_at m a k) in
    rw (← t) (ap (λ (j : ℕ). sets d at (take (min j (length d - at)) (bytes_at m a n))) (sym l) ∙ run_all d at (bytes_at m a n))

pub out_whole : (m d : List ℕ) (a i at n k : ℕ) → i ≡ a % length m → k ≡ min n (length d - at)
    → sets d at (bytes_at m i k) ≡ sets d at (bytes_at m a n)
out_whole m d a i at n k e f =
    let s : i % length m ≡ a % length m = rw e (mod-mod a (length m)) in
    rw (bytes_place m i a k s, f) (out_all m d a at n)

pub out_run : (m d : List ℕ) (i at k : ℕ) → i < length m → k ≤ length m - i → sets d at (take k (drop i m)) ≡ sets d at (bytes_at m i k)
out_run m d i at k h l = rw (bytes_run m i k (omega arith))

pub out_none : (m d : List ℕ) (a at n k : ℕ) → length m ≡ 0 → k ≡ min n (length d - at)
    → sets d at (replicate k 0) ≡ sets d at (bytes_at m a n)
out_none m d a at n k e f = rw (← none_bytes m a k e, f) (out_all m d a at n)

-- ---- into memory: the same

pub drop-take : (r n : ℕ) (l : List ℕ) → drop r (take n l) ≡ take (n - r) (drop r l)
drop-take zero n l = rw sub-zero
drop-take (suc r) zero l = rw zero-sub
drop-take (suc r) (suc n) [] = sym (take-nil (suc n - suc r))
drop-take (suc r) (suc n) (x ∷ l) = rw suc-sub-suc (drop-take r n l)

pub in_end : (m e src : List ℕ) (i k done : ℕ) → k ≤ done → put_bytes m i (take (k - done) src) ≡ e → m ≡ e
unfolding put_bytes
in_end m e src i k done h inv =
    let z : k - done ≡ 0 = omega arith in
    let w : put_bytes m i (take (k - done) src) ≡ m = rw z in
    sym w ∙ inv

in_all : (src : List ℕ) (at n : ℕ) → take (min n (length src - at)) (drop at src) ≡ take n (drop at src)
in_all src at n =
    let e : length (drop at src) ≡ length src - at = length-drop at src in
    ⊎_elim
    (λ (h : n < length src - at). let k : min n (length src - at) ≡ n = omega arith in rw k)
    (λ (h : length src - at ≤ n).
    let k : min n (length src - at) ≡ length src - at = omega arith in
    rw k (take_all (length src - at) (drop at src) (omega arith) ∙ sym (take_all n (drop at src) (omega arith))))
    (below_or_not n (length src - at))

pub in_whole : (m src : List ℕ) (a i at n k : ℕ) → i ≡ a % length m → k ≡ min n (length src - at)
    → put_bytes m i (take k (drop at src)) ≡ put_bytes m a (take n (drop at src))
in_whole m src a i at n k e f =
    let s : i % length m ≡ a % length m = rw e (mod-mod a (length m)) in
    let t : take k (drop at src) ≡ take n (drop at src) = rw f (in_all src at n) in
    put_place m i a (take k (drop at src)) s ∙ ap (put_bytes m a) t

pub in_run : (m src : List ℕ) (i at k : ℕ) → i < length m → k ≤ length m - i
    → sets m i (take k (drop at src)) ≡ put_bytes m i (take k (drop at src))
in_run m src i at k h l =
    let t : length (take k (drop at src)) ≡ min k (length (drop at src)) = length-take k (drop at src) in
    put_run m i (take k (drop at src)) (omega arith)
