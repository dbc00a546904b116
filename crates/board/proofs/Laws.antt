-- What is lent of memory, however long it is; what a board shows of a device; and that before the first reset no call is accepted, but for
-- reset: `attention_4` and its like. Assumes nothing.
use mathlib.Core.Path.{◌≡◌, refl, sym, ap, subst, ◌∙◌}
use mathlib.Core.List.{List, [], ◌++◌}
use Prim.Native.Nat.{ℕ, min}
use lib.ListN.{length, take, drop, take-append-drop}
use Rattle.std.proofs.lemmas.List.{take_min, drop_min}
use Rattle.scb.specs.Words.{any_of}
use Rattle.device.specs.Limits.{record_size}
use Rattle.device.specs.declared.Device.{Device}
use Rattle.device.specs.declared.Refusal.TheVariants as refusal
use Rattle.memory.specs.Memory.{value}
use Rattle.numerals.specs.Places.{bytes_from, field}
use Rattle.image.specs.Found as is
use Rattle.image.specs.Image.{image_of, head_shaped, shaped, decode_full, decode_of}
use Rattle.image.proofs.Exact.{level}
use Rattle.chip.specs.Attention.{attention_of}
use Rattle.chip.specs.Arrival.{arrival_of}
use Rattle.chip.specs.Turn.{turn_of}
use Rattle.chip.specs.Run.{run_of}
use Rattle.chip.specs.World.{World}
use Rattle.calls.specs.Calls as exported
use Rattle.calls.specs.Refusals.{Lengths}
use Rattle.calls.proofs.Rows.{LengthsRight}
use Rattle.calls.proofs.Laws.{no_image}
use Rattle.board.specs.declared.Record.{Record}
use Rattle.board.specs.Front.{areas_with, Fronted}
use Rattle.board.specs.declared.Board.{Board}
use Rattle.board.specs.Board.{start, resized, is_high, attention, arrive, turn, run, said_of, lent, Left, left_as, left_by, on_board, Call, reset, exported_of}

-- ---- what is lent

-- a call that was lent the first n bytes, n being N or the length of a shorter memory, has done what it does of the first N
leaves : (x : exported.Areas → exported.Called) (b : Board) (n : ℕ) (m h out : List ℕ) (d : Record) (a : ℕ) (m' h' out' : List ℕ)
    → n ≡ min b.size (length m)
    → Fronted (x (areas_with b.kept (take n m) h out)) d a m' h' out'
    → left_as (said_of b d a) (m' ++ drop n m) h' out' ≡ left_by b m (x (lent b m h out))
leaves x b n m h out d a m' h' out' e f =
    let t : take n m ≡ take b.size m = ap (λ (k : ℕ). take k m) e ∙ take_min b.size m in
    let s : drop n m ≡ drop b.size m = ap (λ (k : ℕ). drop k m) e ∙ drop_min b.size m in
    let k : Fronted (x (lent b m h out)) d a m' h' out' =
    subst (λ (ys : List ℕ). Fronted (x (areas_with b.kept ys h out)) d a m' h' out') t f in
    λ i. left_as (said_of b (record { bytes = k.kept i }) (k.answer i)) (k.memory i ++ s i) (k.holding i) (k.outgoing i)

-- reset leaves memory and areas as they were
pub reset_leaves : (b : Board) (m h out : List ℕ)
    → on_board reset b m h out
    ≡ left_as (said_of b (record { bytes = (exported.reset_call b.kept.bytes).kept }) (exported.reset_call b.kept.bytes).answer) m h out
unfolding on_board exported_of
reset_leaves b m h out =
    let r = exported.reset_call b.kept.bytes in
    ap (λ (ys : List ℕ). left_as (said_of b (record { bytes = r.kept }) r.answer) ys h out) (take-append-drop b.size m)

pub leaves_call : (c : Call) (b : Board) (n : ℕ) (m h out : List ℕ) (d : Record) (a : ℕ) (m' h' out' : List ℕ) → n ≡ min b.size (length m)
    → Fronted (exported_of c (areas_with b.kept (take n m) h out)) d a m' h' out'
    → left_as (said_of b d a) (m' ++ drop n m) h' out' ≡ on_board c b m h out
unfolding on_board
leaves_call c b n m h out d a m' h' out' e f = leaves (exported_of c) b n m h out d a m' h' out' e f

-- ---- what is shown

-- the interrupt of a record that is a device's image is high exactly while an event is set
pub high : (d : Device) (n : ℕ) → is_high (record { kept = record { bytes = image_of d }; size = n }) ≡ any_of d.units.events
high d n = sym (level d)

-- ---- before the first reset

-- a record of zeros is no device's image
zeros_foreign : decode_of start.kept.bytes ≡ is.Foreign
unfolding decode_of decode_full shaped head_shaped field value bytes_from
zeros_foreign = refl

module _ (n : ℕ) (m h out : List ℕ) where
  abbrev before : Board
  before = resized start n

  -- "every other call that is not refused for another reason answers 4": so each of the four, and nothing changes
  abbrev answers-4 : Left
  answers-4 = left_as (said_of before before.kept 4) m h out

  same : left_by before m (exported.refused refusal.Foreign (lent before m h out)) ≡ answers-4
  unfolding exported.answer_number
  same = ap (λ (ys : List ℕ). left_as (said_of before before.kept 4) ys h out) (take-append-drop n m)

  -- a frame of so many bytes arrives, none of 0
  abbrev lengths : ℕ → Lengths
  lengths frame = record { memory = length (take n m); holding = length h; outgoing = length out; kept = record_size; frame = frame }

  foreign : (f : List ℕ) (does : World → exported.Called) → LengthsRight (lengths (length f))
      → left_by before m (exported.unless_refused (exported.refusal_of (lent before m h out) f) does (lent before m h out)) ≡ answers-4
  foreign f does right = ap (left_by before m) (no_image (lent before m h out) f right does zeros_foreign) ∙ same

  module _ (right : LengthsRight (lengths 0)) where
    pub attention_4 : on_board attention before m h out ≡ answers-4
    unfolding on_board exported_of exported.attention_call
    attention_4 = foreign [] (λ w. exported.on_bytes (attention_of w)) right

    pub turn_4 : (report : ℕ) → on_board (turn report) before m h out ≡ answers-4
    unfolding on_board exported_of exported.turn_call
    turn_4 report = foreign [] (λ w. exported.on_bytes (turn_of w report)) right

    pub run_4 : (report budget : ℕ) → on_board (run report budget) before m h out ≡ answers-4
    unfolding on_board exported_of exported.run_call
    run_4 report budget = foreign [] (λ w. exported.run_on_bytes (run_of budget w report)) right

  pub arrival_4 : (f : List ℕ) (v : ℕ) → LengthsRight (lengths (length f)) → on_board (arrive f v) before m h out ≡ answers-4
  unfolding on_board exported_of exported.arrival_call
  arrival_4 f v right = foreign f (λ w. exported.on_bytes (arrival_of w f v)) right
