-- The SCP's pointer is the one word that stands high in 8,192 bytes, and an access costs by its address. So the memory that has the pointer
-- alone is named here, `pointed`, and computed once for all cases: a case that gives the pointer after low words passes where it passes on
-- `pointed` with its other words. `all_prepared` says it of a list of cases, `prepared` of where a case starts. Assumes nothing.
use mathlib.Core.Bool.{Bool, true, false, cond, ◌&&◌}
use mathlib.Core.Path.{◌≡◌, refl, ap, ◌∙◌}
use mathlib.Core.List.{List, [], ◌∷◌}
use Prim.Native.Nat.{ℕ, suc, ◌+◌, ◌/◌, ◌%◌, ◌<◌, ◌≤◌}
use native.Mathlib.Nat.{mod-eq_of_lt}
use native.Mathlib.Omega.{arith}
use borrow.Author.Tests.{eqb-true, leb-true}
use lib.Dec.{T, eqb, leb, lit<}
use lib.ListN.{length, replicate, length-set, length-replicate}
use lib.Seq.{set_comm}
use Rattle.memory.specs.Memory.{put_byte, put_bytes, digits, word_to}
use Rattle.memory.proofs.Laws.{length-put_byte, length_apply}
use Rattle.chip.specs.World.{World}
use Rattle.chip.specs.Cases.{Word, ◌is◌, Case, put, start_on, start, walk, passes, all_pass}

-- ---- the pointer among words

abbrev pub is_pointer : Word → Word → Bool
is_pointer p w = eqb w.place p.place && eqb w.value p.value

-- p stands among the words, and each before it lies below it
abbrev pub leads : Word → List Word → Bool
leads p [] = false
leads p (w ∷ ws) = cond (is_pointer p w) true (leb (w.place + 2) p.place && leads p ws)

-- the words without it
abbrev pub others : Word → List Word → List Word
others p [] = []
others p (w ∷ ws) = cond (is_pointer p w) ws (w ∷ others p ws)

-- ---- two writes to different places, in either order

bytes_swap : (m : List ℕ) (a b u v : ℕ) → a < b → b < length m → put_byte (put_byte m a u) b v ≡ put_byte (put_byte m b v) a u
unfolding put_byte
bytes_swap m a b u v h k =
    let i : a % length m ≡ a = mod-eq_of_lt (omega arith) in
    let j : b % length m ≡ b = mod-eq_of_lt k in
    rw (length-set, length-set, i, j) (set_comm m a b u v (λ e. omega arith))

byte_past : (m : List ℕ) (a p u v w : ℕ) → a < p → p + 1 < length m
    → put_byte (put_byte (put_byte m a u) p v) (suc p) w ≡ put_byte (put_byte (put_byte m p v) (suc p) w) a u
byte_past m a p u v w h k =
    ap (λ (q : List ℕ). put_byte q (suc p) w) (bytes_swap m a p u v h (omega arith))
    ∙ bytes_swap (put_byte m p v) a (suc p) u w (omega arith) (rw length-put_byte (omega arith))

word_past : (p w : Word) (m : List ℕ) → w.place + 2 ≤ p.place → p.place + 1 < length m
    → put (p ∷ []) (put (w ∷ []) m) ≡ put (w ∷ []) (put (p ∷ []) m)
unfolding put_bytes digits
word_past p w m h k =
    byte_past (put_byte m w.place (w.value % 256)) (suc w.place) p.place (w.value / 256 % 256) (p.value % 256) (p.value / 256 % 256)
    (omega arith) (rw length-put_byte (omega arith))
    ∙ ap (λ (q : List ℕ). put_byte q (suc w.place) (w.value / 256 % 256))
    (byte_past m w.place p.place (w.value % 256) (p.value % 256) (p.value / 256 % 256) (omega arith) k)

-- ---- the pointer is written first

parts : (a b : Bool) → a && b ≡ true → (a ≡ true) × (b ≡ true)
parts true b e = (refl, e)
parts false b e = let z : ◌≡◌ {A = ℕ} 0 1 = cc in absurd (omega arith)

the_pointer : (p w : Word) → is_pointer p w ≡ true → w ≡ p
the_pointer p w e =
    let h : (eqb w.place p.place ≡ true) × (eqb w.value p.value ≡ true) = parts (eqb w.place p.place) (eqb w.value p.value) e in
    let a : w.place ≡ p.place = eqb-true _ _ h.0 in
    let b : w.value ≡ p.value = eqb-true _ _ h.1 in
    let q : w.place is w.value ≡ p.place is p.value = cc in
    q

length_put : (w : Word) (m : List ℕ) → length (put (w ∷ []) m) ≡ length m
length_put w m = length_apply (word_to w.place w.value ∷ []) m

first_by : (p w : Word) (ws : List Word) (m : List ℕ) (b : Bool) → p.place + 1 < length m → is_pointer p w ≡ b
    → (leads p ws ≡ true → put ws (put (w ∷ []) m) ≡ put (others p ws) (put (p ∷ []) (put (w ∷ []) m)))
    → cond b true (leb (w.place + 2) p.place && leads p ws) ≡ true
    → put ws (put (w ∷ []) m) ≡ put (cond b ws (w ∷ others p ws)) (put (p ∷ []) m)
first_by p w ws m true h t more e = ap (λ (v : Word). put ws (put (v ∷ []) m)) (the_pointer p w t)
first_by p w ws m false h t more e =
    let l : (leb (w.place + 2) p.place ≡ true) × (leads p ws ≡ true) = parts (leb (w.place + 2) p.place) (leads p ws) e in
    more l.1 ∙ ap (λ (q : List ℕ). put (others p ws) q) (word_past p w m (leb-true _ _ l.0) h)

first : (p : Word) (ws : List Word) (m : List ℕ) → p.place + 1 < length m → leads p ws ≡ true
    → put ws m ≡ put (others p ws) (put (p ∷ []) m)
first p [] m h e = let z : ◌≡◌ {A = ℕ} 0 1 = cc in absurd (omega arith)
first p (w ∷ ws) m h e =
    first_by p w ws m (is_pointer p w) h refl (λ k. first p ws (put (w ∷ []) m) (rw length_put h) k) e

-- ---- cases

-- 8,192 bytes, zero but for the pointer
abbrev pub pointer : Word
pointer = 8188 is 0x20

abbrev pub pointed : List ℕ
pointed = put (pointer ∷ []) (replicate 8192 0)

-- where a case starts
abbrev pub start_by : Bool → List Word → World
start_by true ws = start_on (put (others pointer ws) pointed)
start_by false ws = start ws

prepared_by : (ws : List Word) (b : Bool) → leads pointer ws ≡ b → start ws ≡ start_by b ws
prepared_by ws true e = ap start_on (first pointer ws (replicate 8192 0) (rw length-replicate (lit< tt)) e)
prepared_by ws false e = refl

pub prepared : (ws : List Word) → start ws ≡ start_by (leads pointer ws) ws
prepared ws = prepared_by ws (leads pointer ws) refl

abbrev pub all_walk : List Case → Bool
all_walk [] = true
all_walk (c ∷ cs) = walk c.steps (start_by (leads pointer c.given) c.given) && all_walk cs

all_same : (cs : List Case) → all_pass cs ≡ all_walk cs
unfolding passes
all_same [] = refl
all_same (c ∷ cs) = rw (prepared c.given, all_same cs)

pub all_prepared : (cs : List Case) → T (all_walk cs) → T (all_pass cs)
all_prepared cs t = rw all_same t
