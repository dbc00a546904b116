-- The texts of docs/replay.md, computed. No contract cites this file. Assumes nothing.
use mathlib.Core.Path.{◌≡◌, refl}
use mathlib.Core.Bool.{true}
use mathlib.Core.List.{List, [], ◌∷◌}
use Prim.Native.Nat.{ℕ, ◌+◌, ◌-◌, ◌*◌, ◌^◌}
use Rattle.texts.specs.Codes.{codes}
use Rattle.scb.specs.Words.{bits_at}
use Rattle.texts.specs.Texts.{
  each,
  hex,
  decimal_by,
  decimal,
  further_text,
  reason_text,
  answer_text,
  interrupt_text,
  byte_text,
  word_text,
  show_line,
  look_line,
  show_text,
  look_text,
}

-- ---- numbers

pub nought : decimal 0 ≡ codes "0"
unfolding decimal decimal_by
nought = refl

pub nine : decimal 9 ≡ codes "9"
unfolding decimal decimal_by
nine = refl

pub ten : decimal 10 ≡ codes "10"
unfolding decimal decimal_by
ten = refl

pub largest_word : decimal 65535 ≡ codes "65535"
unfolding decimal decimal_by
largest_word = refl

pub hex_byte : hex 2 0xA0 ≡ codes "A0"
unfolding hex
hex_byte = refl

pub hex_word : hex 4 0xFF36 ≡ codes "FF36"
unfolding hex
hex_word = refl

-- ---- lines

-- nothing refused, 60 bytes sent, an edge
pub sent : answer_text (60 * 2 ^ 16 + 2 ^ 32) ≡ codes "0 60 1\n"
unfolding answer_text bits_at further_text reason_text decimal decimal_by
sent = refl

pub refused : answer_text 4 ≡ codes "4 0 0\n"
unfolding answer_text bits_at further_text reason_text decimal decimal_by
refused = refl

-- and 3 turns of a run
pub run_sent : answer_text (60 * 2 ^ 16 + 2 ^ 32 + 3 * 2 ^ 48) ≡ codes "0 60 1 3\n"
unfolding answer_text bits_at further_text reason_text decimal decimal_by
run_sent = refl

-- 02, Wish 3: the words, each of its number; a word stands behind the turns
pub few : answer_text (1 * 2 ^ 40) ≡ codes "0 0 0 too-few\n"
unfolding answer_text bits_at further_text reason_text decimal decimal_by
few = refl

pub idle : answer_text (3 * 2 ^ 40) ≡ codes "0 0 0 idle\n"
unfolding answer_text bits_at further_text reason_text decimal decimal_by
idle = refl

pub bad : answer_text (5 * 2 ^ 40) ≡ codes "0 0 0 bad\n"
unfolding answer_text bits_at further_text reason_text decimal decimal_by
bad = refl

pub unmatched : answer_text (2 * 2 ^ 40) ≡ codes "0 0 0 no-match\n"
unfolding answer_text bits_at further_text reason_text decimal decimal_by
unmatched = refl

pub longest : answer_text (4 * 2 ^ 40 + (2 ^ 16 - 1) * (1 + 2 ^ 16 + 2 ^ 48) + 2 ^ 32) ≡ codes "65535 65535 1 65535 suspended\n"
unfolding answer_text bits_at further_text reason_text decimal decimal_by
longest = refl

pub high : interrupt_text true ≡ codes "interrupt high\n"
unfolding interrupt_text
high = refl

pub shown : show_text (1 ∷ 2 ∷ 0 ∷ 0xA0 ∷ 0 ∷ 0 ∷ []) 2 4 ≡ codes "0002: 00 A0 00 00\n"
unfolding show_text show_line byte_text each hex
shown = refl

pub looked : look_text (1 ∷ 2 ∷ 0 ∷ 0xA0 ∷ 0 ∷ 0 ∷ []) 2 2 ≡ codes "0002: A000 0000\n"
unfolding look_text look_line word_text each hex
looked = refl

-- a second line begins behind 16 bytes
pub two_lines : show_text [] 0 17 ≡ codes "0000: 00 00 00 00 00 00 00 00 00 00 00 00 00 00 00 00\n0010: 00\n"
unfolding show_text show_line byte_text each hex
two_lines = refl

-- and behind 8 words
pub two_look_lines : look_text [] 0x30 9 ≡ codes "0030: 0000 0000 0000 0000 0000 0000 0000 0000\n0040: 0000\n"
unfolding look_text look_line word_text each hex
two_look_lines = refl

pub no_line_lem : (area : List ℕ) (place : ℕ) → show_text area place 0 ≡ []
unfolding show_text each
no_line_lem area place = refl
