-- How long the texts are, and that a text for which there is room is put whole. No contract cites this file. Assumes nothing.
use mathlib.Core.Path.{◌≡◌, refl, sym, ap, ◌∙◌}
use mathlib.Core.Bool.{Bool, true, false, cond}
use mathlib.Core.List.{List, [], ◌∷◌, ◌++◌}
use mathlib.Core.Logic.{⊎_elim}
use Prim.Native.Nat.{ℕ, zero, suc, ◌+◌, ◌-◌, ◌*◌, ◌/◌, ◌%◌, ◌^◌, ◌≤◌, ◌<◌, min}
use native.Mathlib.Nat.{pow-suc, suc-mul}
use native.Mathlib.Omega.{arith}
use borrow.Author.Tests.{lt-ltb, le-ltb}
use lib.Dec.{eqb}
use lib.ListN.{length, take, length-append}
use lib.Seq.{length-sets, sets-eq, take-append_seam}
use Rattle.memory.proofs.Laws.{below_or_not}
use Rattle.texts.specs.Codes.{codes}
use Rattle.scb.specs.Words.{bits_at}
use Rattle.calls.specs.Answer.{number, sent_length, edge, reason, turns_taken}
use Rattle.texts.specs.Texts.{Puts, each, hex, decimal_by, decimal, further_text, reason_text, answer_text, longest_answer, byte_text, word_text, show_line, look_line}

-- ---- room

-- the next text goes to an index of the slice, or to its end
pub puts_within : {text : List ℕ} {at : ℕ} {b : List ℕ} {r : ℕ} {m : List ℕ} → at ≤ length b → Puts text at b r m → r ≤ length m
puts_within {text} {at} {b} {r} {m} h p =
    let e : r ≡ at + min (length text) (length b - at) = p.next in
    let l : length m ≡ length b = ap length p.bytes ∙ length-sets b at text in
    omega arith

-- where there is room, the next text goes right behind
pub puts_room : {text : List ℕ} {at : ℕ} {b : List ℕ} {r : ℕ} {m : List ℕ}
    → at + length text ≤ length b → Puts text at b r m → r ≡ at + length text
puts_room {text} {at} {b} {r} {m} h p =
    let e : r ≡ at + min (length text) (length b - at) = p.next in
    omega arith

-- and what was put from index 0 on stands there
pub puts_whole : {text : List ℕ} {b : List ℕ} {r : ℕ} {m : List ℕ} → length text ≤ length b → Puts text 0 b r m → take r m ≡ text
puts_whole {text} {b} {r} {m} h p =
    let e : r ≡ length text = puts_room (omega arith) p ∙ omega arith in
    rw (e, p.bytes, sets-eq text b 0 (omega arith)) (take-append_seam text _)

-- ---- lengths

pub length_hex : (k n : ℕ) → length (hex k n) ≡ k
unfolding hex
length_hex zero n = refl
length_hex (suc k) n = let e : length (hex k (n / 16)) ≡ k = length_hex k (n / 16) in rw (length-append, e) (omega arith)

length_each : (f : ℕ → List ℕ) (w n : ℕ) → ((i : ℕ) → length (f i) ≡ w) → length (each f n) ≡ n * w
unfolding each
length_each f w zero h = sym (omega arith)
length_each f w (suc n) h = rw (length-append, h n, length_each f w n h) (sym (suc-mul n w))

length_byte : (area : List ℕ) (place i : ℕ) → length (byte_text area place i) ≡ 3
unfolding byte_text
length_byte area place i = ap suc (length_hex 2 _)

length_word : (area : List ℕ) (place i : ℕ) → length (word_text area place i) ≡ 5
unfolding word_text
length_word area place i = ap suc (length_hex 4 _)

line : (xs ys zs ws : List ℕ) → length (xs ++ ys ++ zs ++ ws) ≡ length xs + length ys + length zs + length ws
line xs ys zs ws = rw (length-append (xs ++ ys ++ zs) ws, length-append (xs ++ ys) zs, length-append xs ys)

pub length_show_line : (area : List ℕ) (place n : ℕ) → length (show_line area place n) ≡ 6 + 3 * n
unfolding show_line
length_show_line area place n =
    let h : length (hex 4 place) ≡ 4 = length_hex 4 place in
    let e : length (each (byte_text area place) n) ≡ n * 3 = length_each (byte_text area place) 3 n (length_byte area place) in
    rw (line (hex 4 place) (58 ∷ []) (each (byte_text area place) n) (10 ∷ [])) (omega arith)

pub length_look_line : (area : List ℕ) (place n : ℕ) → length (look_line area place n) ≡ 6 + 5 * n
unfolding look_line
length_look_line area place n =
    let h : length (hex 4 place) ≡ 4 = length_hex 4 place in
    let e : length (each (word_text area place) n) ≡ n * 5 = length_each (word_text area place) 5 n (length_word area place) in
    rw (line (hex 4 place) (58 ∷ []) (each (word_text area place) n) (10 ∷ [])) (omega arith)

digits_by : (j k n : ℕ) → n < 10 ^ suc k → length (decimal_by j n) ≤ suc k
unfolding decimal_by
digits_by zero k n h = omega arith
digits_by (suc j) zero n h = let q : n < 10 = omega arith in rw (lt-ltb n 10 q) (omega arith)
digits_by (suc j) (suc k) n h =
    ⊎_elim
    (λ (q : n < 10). rw (lt-ltb n 10 q) (omega arith))
    (λ (q : 10 ≤ n).
    let e : 10 ^ suc (suc k) ≡ 10 ^ suc k * 10 = pow-suc 10 (suc k) in
    let y : length (decimal_by j (n / 10)) ≤ suc k = digits_by j k (n / 10) (omega arith) in
    rw (le-ltb n 10 q, length-append) (omega arith))
    (below_or_not n 10)

-- a number below 10 to the k has at most k digits, and 0 has one
pub length_decimal : (k n : ℕ) → n < 10 ^ suc k → length (decimal n) ≤ suc k
unfolding decimal
length_decimal k n h = digits_by (suc n) k n h

further_by : (x : Bool) (n : ℕ) → n < 65536 → length (cond x [] (codes " " ++ decimal n)) ≤ 6
further_by true n h = omega arith
further_by false n h = let l : length (decimal n) ≤ 5 = length_decimal 4 n (omega arith) in simp length-append (omega arith)

length_further : (n : ℕ) → n < 65536 → length (further_text n) ≤ 6
unfolding further_text
length_further n h = further_by (eqb n 0) n h

reason_by : (a b c d e : Bool)
    → length (cond a (codes " too-few") (cond b (codes " no-match") (cond c (codes " idle") (cond d (codes " suspended") (cond e (codes " bad") []))))) ≤ 10
reason_by true b c d e = omega arith
reason_by false true c d e = omega arith
reason_by false false true d e = omega arith
reason_by false false false true e = omega arith
reason_by false false false false true = omega arith
reason_by false false false false false = omega arith

-- the longest word is ` suspended`
length_reason : (n : ℕ) → length (reason_text n) ≤ 10
unfolding reason_text
length_reason n = reason_by (eqb n 1) (eqb n 2) (eqb n 3) (eqb n 4) (eqb n 5)

-- whatever the answer
pub length_answer : (a : ℕ) → length (answer_text a) ≤ longest_answer
unfolding answer_text bits_at
length_answer a =
    let n : length (decimal (number a)) ≤ 5 = length_decimal 4 (number a) (omega arith) in
    let l : length (decimal (sent_length a)) ≤ 5 = length_decimal 4 (sent_length a) (omega arith) in
    let e : length (decimal (edge a)) ≤ 1 = length_decimal 0 (edge a) (omega arith) in
    let t : length (further_text (turns_taken a % 2 ^ 16)) ≤ 6 = length_further (turns_taken a % 2 ^ 16) (omega arith) in
    let w : length (reason_text (reason a)) ≤ 10 = length_reason (reason a) in
    simp length-append (omega arith)
