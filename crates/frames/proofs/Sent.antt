-- What a Transmit's turns leave in the outgoing area, over every address length, and what its end tells: 01, "Turns"; 02, Wish 4. Assumes nothing.
use mathlib.Core.Path.{◌≡◌, ap, ◌∙◌}
use mathlib.Core.Bool.{true, false}
use mathlib.Core.List.{List, ◌++◌}
use Prim.Native.Nat.{ℕ, ◌+◌, ◌≤◌}
use native.Mathlib.Omega.{arith}
use borrow.Author.Tests.{leb-true}
use lib.ListN.{length, take, drop, length-append, length-drop}
use lib.Seq.{sets, sets-eq, length-take-le, take_all, take_at, drop_at, take-append-le, drop-append-le}
use Rattle.memory.specs.Address.{place}
use Rattle.memory.specs.Memory.{bytes_at}
use Rattle.memory.specs.declared.Offset.{Offset}
use Rattle.memory.proofs.Laws.{length-bytes_at}
use Rattle.device.specs.Header.{header}
use Rattle.device.specs.Limits.{type_length, outgoing_size, longest}
use Rattle.device.specs.declared.Begun.{Begun}
use Rattle.device.specs.declared.Form.{Form}
use Rattle.device.specs.declared.Walk.{Walk}
use Rattle.device.proofs.Header.{none_in_the_data}
use Rattle.image.specs.Ranges.{in_range, Wide}
use Rattle.image.proofs.Exact.{fits, fit_form}
use Rattle.actions.specs.Actions.{sent}
use Rattle.command.specs.Begin.{header_of, begun_by, begin}
use Rattle.command.specs.Buffer.{descriptor_at, buffer}
use Rattle.command.specs.End.{end}
use Rattle.command.specs.Service.{service}
use Rattle.command.proofs.Header.{placed_length, nothing_placed_lem, destination_placed, source_placed, type_placed}
use Rattle.chip.specs.Call.{turn, ran}
use Rattle.chip.specs.Turn.{concluded, command_turn, turn_of}
use Rattle.chip.specs.World.{World}
use Rattle.frames.specs.Arrival.{settings_of, length_in}
use Rattle.frames.specs.Sent.{BeginsTransmit, unit_begun, unit_after, HeaderPlaced, TakesBuffer, count_in, data_in, BufferTaken, EndsTransmit, TransmitEnded}

-- ---- runs that are put into a list

-- one at its beginning
at_first : (d bs : List ℕ) → length bs ≤ length d → sets d 0 bs ≡ bs ++ drop (length bs) d
at_first d bs l =
    let n : 0 + length bs ≡ length bs = omega arith in
    sets-eq bs d 0 (omega arith) ∙ rw n

-- a part of the first of two lists
within : (xs ys : List ℕ) (i k : ℕ) → i + k ≤ length xs → take k (drop i (xs ++ ys)) ≡ take k (drop i xs)
within xs ys i k h =
    let n = length-drop i xs in
    rw (drop-append-le i xs ys (omega arith)) (take-append-le k (drop i xs) ys (omega (arith, n)))

-- ---- begin

module _ (w : World) (o : Offset) (report : ℕ) (t : BeginsTransmit w o) where
  abbrev form : Form
  form = (settings_of w).form

  abbrev placed : List ℕ
  placed = header_of w.device.units.base form w.device.own o w.memory

  -- what is placed goes to its beginning
  area_left : (ran (turn report) w).outgoing ≡ sets w.outgoing 0 placed
  unfolding turn_of command_turn service begin begun_by
  area_left = rw (t.served, t.waiting, t.transmits)

  pub unit_begun_lem : (ran (turn report) w).outcome.device.units.cu ≡ unit_begun w o
  unfolding turn_of command_turn concluded service begin begun_by
  unit_begun_lem = rw (t.served, t.waiting, t.transmits)

  pub nothing_with_location_1 : form.location ≡ true → (ran (turn report) w).outgoing ≡ w.outgoing
  nothing_with_location_1 e = area_left ∙ rw (nothing_placed_lem w.device.units.base w.device.own o w.memory form e)

  module _ (r : in_range w.device ≡ true) (h : Wide w.device) (n : length w.outgoing ≡ outgoing_size) (e : form.location ≡ false) where
    abbrev l : ℕ
    l = length_in w

    short : l ≤ length w.device.own
    short = omega (arith, fit_form w.device.units (fits w.device h r), h.own)

    its_length : length placed ≡ header l
    its_length = placed_length w.device.units.base w.device.own o w.memory form short ∙ none_in_the_data form e

    abbrev rest : List ℕ
    rest = drop (header l) w.outgoing

    two_parts : (ran (turn report) w).outgoing ≡ placed ++ rest
    two_parts =
        let k : length placed ≤ length w.outgoing = omega (arith, its_length, fit_form w.device.units (fits w.device h r)) in
        area_left ∙ at_first w.outgoing placed k ∙ ap (λ (j : ℕ). placed ++ drop j w.outgoing) its_length

    -- a part of what is placed is that part of the area
    front : (i k : ℕ) → i + k ≤ header l → take k (drop i (placed ++ rest)) ≡ take k (drop i placed)
    front i k b = within placed rest i k (omega (arith, its_length))

    pub header_placed : HeaderPlaced w o (ran (turn report) w).outgoing
    header_placed =
        let base = w.device.units.base in
        let own = w.device.own in
        let m = w.memory in
        record {
          destination = rw two_parts (front 0 l (omega arith) ∙ destination_placed base own o m form e);
          source = rw two_parts (front l l (omega arith) ∙ source_placed base own o m form e short);
          type =
              rw two_parts
              (front (l + l) type_length (omega arith)
              ∙ ap (take type_length) (type_placed base own o m form e short)
              ∙ take_all type_length (bytes_at m (place base o (8 + l)) type_length) (omega (arith, length-bytes_at m (place base o (8 + l)) type_length)));
          behind = rw two_parts (drop_at placed rest (header l) its_length);
        }

-- ---- a buffer

pub unit_taken : (w : World) (b : Begun) (k : Walk) (report : ℕ) → TakesBuffer w b k → (ran (turn report) w).outcome.device.units.cu ≡ unit_after w b k
unfolding turn_of command_turn concluded service buffer
unit_taken w b k report t = rw (t.served, t.sending, t.fits)

module _ (w : World) (b : Begun) (k : Walk) (report : ℕ) (t : TakesBuffer w b k) (n : length w.outgoing ≡ outgoing_size) where
  buffer_left : (ran (turn report) w).outgoing ≡ sets w.outgoing k.filled (data_in w k)
  unfolding turn_of command_turn service buffer
  buffer_left = rw (t.served, t.sending, t.fits)

  abbrev so_far : List ℕ
  so_far = take k.filled w.outgoing ++ data_in w k

  abbrev behind : List ℕ
  behind = drop (k.filled + count_in w k) w.outgoing

  room : k.filled + count_in w k ≤ outgoing_size
  room = leb-true (k.filled + count_in w k) longest t.fits

  size : length (data_in w k) ≡ count_in w k
  size = length-bytes_at w.memory (descriptor_at w.device.units.base k.next w.memory).buffer.0 (count_in w k)

  both : length so_far ≡ k.filled + count_in w k
  both =
      let first = length-take-le k.filled w.outgoing (omega (arith, room, n)) in
      length-append (take k.filled w.outgoing) (data_in w k) ∙ omega (arith, size, first)

  taken_parts : (ran (turn report) w).outgoing ≡ so_far ++ behind
  taken_parts =
      buffer_left
      ∙ sets-eq (data_in w k) w.outgoing k.filled (omega (arith, size, room, n))
      ∙ ap (λ (j : ℕ). so_far ++ drop (k.filled + j) w.outgoing) size

  pub buffer_taken : BufferTaken w k (ran (turn report) w).outgoing
  buffer_taken =
      record {
        so_far_lem = rw taken_parts (take_at so_far behind (k.filled + count_in w k) both);
        behind = rw taken_parts (drop_at so_far behind (k.filled + count_in w k) both);
      }

-- ---- its end

pub transmit_ended : (w : World) (b : Begun) (n report : ℕ) → EndsTransmit w b n → TransmitEnded w b n report
unfolding turn_of command_turn concluded service end sent
transmit_ended w b n report t =
    record { told = rw (t.served, t.ending); status = rw t.ending; area = rw (t.served, t.ending) }
