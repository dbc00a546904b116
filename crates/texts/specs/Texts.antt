-- What the replay program prints (docs/replay.md), as lists of character codes, and where it goes. Assumes nothing.
use Rattle.std.specs.Prelude.{◌≡◌, Bool, cond, List, [], ◌∷◌, ◌++◌, ℕ, zero, suc, ◌+◌, ◌-◌, ◌*◌, ◌/◌, ◌%◌, ◌^◌, min, eqb, ltb, length, get_or}
use Prim.Native.Char.{code}
use Rattle.std.proofs.lemmas.List.Edits.{sets}
use Rattle.device.specs.Numbers.{reason_number}
use Rattle.device.specs.declared.Reason.TheVariants as reason
use Rattle.calls.specs.Answer.{number, sent_length, edge, turns_taken}
use Rattle.calls.specs.Answer.{reason as reason_in}
use Rattle.texts.specs.Codes.{codes}

-- a text goes to index at; what would pass the end goes nowhere. `r`: where the next one goes, behind it or at the end
pub record Puts (text : List ℕ) (at : ℕ) (before : List ℕ) (r : ℕ) (after : List ℕ) : Type 0 where
  pub next : r ≡ at + min (length text) (length before - at)
  pub bytes : after ≡ sets before at text

-- the texts f 0, f 1, and so on, n of them, one behind the other
unfoldable pub each : (ℕ → List ℕ) → ℕ → List ℕ
each f zero = []
each f (suc n) = each f n ++ f n

-- ---- numbers

-- a digit below 16: `0` to `9`, then `A` to `F`. "Hex digits are printed in capitals"
abbrev pub hex_digit : ℕ → ℕ
hex_digit d = cond (ltb d 10) (code "0" + d) (code "A" + (d - 10))

-- the last k hex digits of n
unfoldable pub hex : ℕ → ℕ → List ℕ
hex zero n = []
hex (suc k) n = hex k (n / 16) ++ (hex_digit (n % 16) ∷ [])

-- the decimal digits of n, at most k of them: those of n / 10, unless that is 0, and then n % 10
unfoldable pub decimal_by : ℕ → ℕ → List ℕ
decimal_by zero n = []
decimal_by (suc k) n = cond (ltb n 10) [] (decimal_by k (n / 10)) ++ ((code "0" + n % 10) ∷ [])

-- all of them: a number n has no more than n + 1
unfoldable pub decimal : ℕ → List ℕ
decimal n = decimal_by (suc n) n

-- ---- answers. "An answer is a line of three numbers: the number .., the length sent, and 1 or 0 for the interrupt's edge"

-- the turns of a run: what stands behind the three numbers "only if it is not 0"
unfoldable pub further_text : ℕ → List ℕ
further_text n = cond (eqb n 0) [] (codes " " ++ decimal n)

-- "Why an arriving frame was dropped stands behind the numbers, as one word"; no answer has a number that is no reason's
unfoldable pub reason_text : ℕ → List ℕ
reason_text n =
    cond (eqb n (reason_number reason.TooFew)) (codes " too-few")
    (cond (eqb n (reason_number reason.NoMatch)) (codes " no-match")
    (cond (eqb n (reason_number reason.UnitIdle)) (codes " idle")
    (cond (eqb n (reason_number reason.UnitSuspended)) (codes " suspended")
    (cond (eqb n (reason_number reason.Bad)) (codes " bad") []))))

-- the parts of an answer; of its turns as many bits as a number of 64 has
unfoldable pub answer_text : ℕ → List ℕ
answer_text a =
    decimal (number a) ++ codes " " ++ decimal (sent_length a) ++ codes " " ++ decimal (edge a) ++ further_text (turns_taken a % 2 ^ 16)
    ++ reason_text (reason_in a) ++ codes "\n"

-- whatever the answer: three numbers of at most 5, 5 and 1 digits, a further one of at most 5, the longest word, four blanks and the line's end
abbrev pub longest_answer : ℕ
longest_answer = 30

-- "`interrupt high` or `interrupt low`"
unfoldable pub interrupt_text : Bool → List ℕ
interrupt_text high = cond high (codes "interrupt high\n") (codes "interrupt low\n")

-- ---- stretches. "A line has the place of its first byte as four hex digits, a colon, and then each byte as two hex digits or each word as
-- four, a space before each"; what is beyond the area's end reads 0

unfoldable pub byte_text : List ℕ → ℕ → ℕ → List ℕ
byte_text area place i = codes " " ++ hex 2 (get_or area (place + i) 0)

-- a word is low byte first
unfoldable pub word_text : List ℕ → ℕ → ℕ → List ℕ
word_text area place i = codes " " ++ hex 4 (get_or area (place + 2 * i) 0 + 256 * get_or area (place + (2 * i + 1)) 0)

unfoldable pub show_line : List ℕ → ℕ → ℕ → List ℕ
show_line area place n = hex 4 place ++ codes ":" ++ each (byte_text area place) n ++ codes "\n"

unfoldable pub look_line : List ℕ → ℕ → ℕ → List ℕ
look_line area place n = hex 4 place ++ codes ":" ++ each (word_text area place) n ++ codes "\n"

-- lines of at most 16 bytes
unfoldable pub show_text : List ℕ → ℕ → ℕ → List ℕ
show_text area place count = each (λ k. show_line area (place + 16 * k) (min 16 (count - 16 * k))) ((count + 15) / 16)

-- lines of at most 8 words
unfoldable pub look_text : List ℕ → ℕ → ℕ → List ℕ
look_text area place count = each (λ k. look_line area (place + 16 * k) (min 8 (count - 8 * k))) ((count + 7) / 8)
