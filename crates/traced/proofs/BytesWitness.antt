-- The laws over calls on bytes are about something: among these calls one is refused; a frame is held and lost, as the record lent next is not the one
-- left; and another is held and stored, its record lent as it was left. Assumes nothing.
use mathlib.Core.Path.{◌≡◌, refl, sym, ap, ◌∙◌, subst}
use mathlib.Core.Bool.{Bool, true, false, true≢false}
use mathlib.Core.List.{List, [], ◌∷◌, ◌++◌, map}
use Prim.Native.Nat.{ℕ}
use native.Mathlib.Omega.{arith}
use lib.Dec.{lit≤}
use lib.ListN.{length, replicate, length-replicate}
use Rattle.memory.specs.Address.{place, beyond}
use Rattle.memory.specs.Memory.{byte_at, put_byte, bytes_at, put_bytes, value, digits, field_at}
use Rattle.memory.specs.Size.{Allowed, size_allowed}
use Rattle.memory.proofs.Bytes.{bytes_nil}
use Rattle.scb.specs.Words.{bits_at, joined, any_of, event_bits, status_word}
use Rattle.device.specs.Answers.{counts}
use Rattle.device.specs.Limits.{holding_size, outgoing_size}
use Rattle.device.specs.Numbers.{verdict_of}
use Rattle.device.specs.State.{held_in}
use Rattle.device.specs.declared.Device.{Device}
use Rattle.device.specs.declared.Fate.TheVariants as fate
use Rattle.filter.specs.Match.{agree, matches}
use Rattle.phases.specs.Phases.{cu_word, ru_word}
use Rattle.image.specs.Image.{image_of}
use Rattle.image.specs.Ranges.{in_range, Wide}
use Rattle.image.proofs.Exact.{fresh_wide, image_bytes, one_state}
use Rattle.receive.specs.Arrival.{length_of, judged, fate_of, arrival}
use Rattle.receive.specs.Begin as receive_begin
use Rattle.receive.specs.End.{frame_status, settles, close}
use Rattle.receive.specs.Service as receive_service
use Rattle.attention.specs.Status.{status_to}
use Rattle.chip.specs.Arrival as arrivals
use Rattle.chip.specs.Call.{Call, arrive, turn, ran}
use Rattle.chip.specs.Turn.{concluded, receive_turn, turn_of}
use Rattle.chip.specs.World.{World}
use Rattle.calls.specs.Calls.{Areas, areas_of, Called, answer_number, refusal_of, turn_call}
use Rattle.progress.specs.Trace.{run}
use Rattle.traces.specs.Areas.{FrameBytes, AreBytes, Holds, world_in}
use Rattle.traces.specs.Bytes.{called}
use Rattle.traces.specs.Driven.{Lending, lending, refused_at, left_by, host_of}
use Rattle.traces.specs.Event.{call}
use Rattle.closure.specs.Carried.{Carried}
use Rattle.closure.specs.Refusals.{FrameRight}
use Rattle.closure.proofs.Command.{append_bytes, replicate_bytes}
use Rattle.closure.proofs.Accepted.{Right, accepts}
use Rattle.closure.proofs.Carried.{carry}
use Rattle.frames.specs.Fates.{Deed, event, alter, opening, numbers_of, by_call, by_altering, Ended, still, advance, beginnings, endings}
use Rattle.frames.specs.OnBytes.{altering, deeds_by, deeds_of, Given, AllGiven, AllKept, held_of, ended_of, still_of}
use Rattle.frames.proofs.OnBytes.{not_altered, altered}
use Rattle.traced.proofs.Witness.{ready, in_range_lem, bare, Story}

-- ---- what is lent: memory and areas of zeros, with the record of a state

abbrev zeros : ℕ → List ℕ
zeros n = replicate n 0

abbrev pub lent_of : Device → Areas
lent_of d = areas_of (zeros 8192) (zeros holding_size) (zeros outgoing_size) (image_of d)

-- the state that a call leaves
abbrev pub next : Call → Device → Device
next c d = (ran c (world_in d (lent_of d))).outcome.device

-- a frame of bytes, and not overlong
pub record Fine (c : Call) : Type 0 where
  pub bytes : FrameBytes c
  pub right : FrameRight c

module _ (d : Device) (h : Holds (image_of d) d) where
  pub lent_bytes : AreBytes (lent_of d)
  lent_bytes =
      record {
        memory = replicate_bytes 8192 0 (lit≤ tt);
        holding = replicate_bytes holding_size 0 (lit≤ tt);
        outgoing = replicate_bytes outgoing_size 0 (lit≤ tt);
        kept = image_bytes d h.wide;
      }

  size : Allowed (length (lent_of d).memory)
  size =
      let e : length (zeros 8192) ≡ 8192 = length-replicate {A = ℕ} 8192 0 in
      record { least = omega arith; most = omega arith; exponent = 13; power = e }

  fits : Right (lent_of d) d
  fits =
      record {
        bytes = lent_bytes;
        holds = h;
        size = size;
        holding = length-replicate {A = ℕ} holding_size 0;
        outgoing = length-replicate {A = ℕ} outgoing_size 0;
      }

  -- no such call is refused, and each leaves the record of the next state
  pub accepted : (c : Call) → Fine c → refused_at (lending c (lent_of d)) ≡ false
  accepted c f = accepts c (lent_of d) d fits f.right

  carries : (c : Call) → Fine c → Carried c d (lent_of d)
  carries c f = carry c (lent_of d) d f.bytes lent_bytes h (accepted c f)

  left_next : (c : Call) → Fine c → (called c (lent_of d)).areas.kept ≡ image_of (next c d)
  left_next c f = ap (λ (r : Called). r.areas.kept) (carries c f).same

  next_holds : (c : Call) → Fine c → Holds (image_of (next c d)) (next c d)
  next_holds c f = subst (λ (r : List ℕ). Holds r (next c d)) (left_next c f) (carries c f).holds

  -- it is given bytes
  given : (c : Call) → Fine c → Given (lending c (lent_of d))
  given c f e = (f.bytes, lent_bytes)

  -- its deeds: where the record lent is the one that stands, and where it is another
  deeds_after : (c : Call) → Fine c → (ls : List Lending) (a : Areas) (xs : List Deed) → altering (lending c (lent_of d)) a ≡ xs
      → deeds_of (lending c (lent_of d) ∷ ls) a
      ≡ (xs ++ (event (host_of (lent_of d)) ∷ event (call c) ∷ [])) ++ deeds_of ls (called c (lent_of d)).areas
  deeds_after c f ls a xs e =
      let l = lending c (lent_of d) in
      ap (λ (b : Bool). deeds_by b l a ++ deeds_of ls (left_by b l a)) (accepted c f)
      ∙ ap (λ (ys : List Deed). (ys ++ (event (host_of (lent_of d)) ∷ event (call c) ∷ [])) ++ deeds_of ls (called c (lent_of d)).areas) e

  deeds_kept : (c : Call) → Fine c → (ls : List Lending) (a : Areas) → a.kept ≡ image_of d
      → deeds_of (lending c (lent_of d) ∷ ls) a ≡ event (host_of (lent_of d)) ∷ event (call c) ∷ deeds_of ls (called c (lent_of d)).areas
  deeds_kept c f ls a k = deeds_after c f ls a [] (not_altered (lending c (lent_of d)) a (sym k))

  keeps : (c : Call) → Fine c → (ls : List Lending) (a : Areas) → a.kept ≡ image_of d → AllKept ls (called c (lent_of d)).areas
      → AllKept (lending c (lent_of d) ∷ ls) a
  keeps c f ls a k m = (λ e. sym k, subst (λ (b : Bool). AllKept ls (left_by b (lending c (lent_of d)) a)) (sym (accepted c f)) m)

-- ---- the calls

-- Ready, no frame held
abbrev pub first : Device
first = ready false

-- a frame arrives; a turn; and a turn that is lent nothing, which is refused
abbrev comes : Call
comes = arrive bare 0

abbrev goes : Call
goes = turn 0

abbrev pub stray : Lending
stray = lending goes (areas_of [] [] [] [])

-- the states that the record holds when it is lent: at first the unit is Ready, and so again, as the host lends the first record a second time
abbrev second : Device
second = next goes first

abbrev third : Device
third = next comes second

abbrev fourth : Device
fourth = next goes third

-- from then on it lends each as it was left
abbrev pub rest : List Lending
rest = lending comes (lent_of second) ∷ lending goes (lent_of third) ∷ lending goes (lent_of fourth) ∷ []

abbrev pub calls : List Lending
calls = lending comes (lent_of first) ∷ stray ∷ lending goes (lent_of first) ∷ rest

-- ---- what they are given

first_wide : Wide first
unfolding cu_word ru_word
first_wide =
    record {
      scb = lit≤ tt;
      minimum = lit≤ tt;
      cu = record { at = lit≤ tt; kind = lit≤ tt; size = lit≤ tt; next = lit≤ tt };
      ru = record { at = lit≤ tt; kind = lit≤ tt; size = lit≤ tt; next = lit≤ tt };
      own = refl;
      own_bytes_lem = fresh_wide.own_bytes_lem;
      filter = fresh_wide.filter;
    }

pub first_holds : Holds (lent_of first).kept first
first_holds = record { wide = first_wide; range = in_range_lem false; image = refl }

fine_frame : Fine comes
fine_frame =
    record {
      bytes = append_bytes (replicate 6 255) (replicate 8 0) (replicate_bytes 6 255 (lit≤ tt)) (replicate_bytes 8 0 (lit≤ tt));
      right = lit≤ tt;
    }

pub fine_turn : Fine goes
fine_turn = record { bytes = bytes_nil; right = lit≤ tt }

second_holds : Holds (image_of second) second
second_holds = next_holds first first_holds goes fine_turn

third_holds : Holds (image_of third) third
third_holds = next_holds second second_holds comes fine_frame

fourth_holds : Holds (image_of fourth) fourth
fourth_holds = next_holds third third_holds goes fine_turn

pub stray_refused : refused_at stray ≡ true
unfolding turn_call refusal_of answer_number bits_at size_allowed
stray_refused = refl

pub all_given : AllGiven calls
all_given = (
  given first first_holds comes fine_frame,
  (
    λ e. absurd (true≢false (sym stray_refused ∙ e)),
    (
      given first first_holds goes fine_turn,
      (given second second_holds comes fine_frame, (given third third_holds goes fine_turn, (given fourth fourth_holds goes fine_turn, tt))),
    ),
  ),
)

pub rest_kept : AllKept rest (lent_of second)
rest_kept =
    keeps second second_holds comes fine_frame (lending goes (lent_of third) ∷ lending goes (lent_of fourth) ∷ []) (lent_of second) refl
    (keeps third third_holds goes fine_turn (lending goes (lent_of fourth) ∷ []) (called comes (lent_of second)).areas
    (left_next second second_holds comes fine_frame)
    (keeps fourth fourth_holds goes fine_turn [] (called goes (lent_of third)).areas (left_next third third_holds goes fine_turn) tt))

-- ---- what they do

abbrev hosted : Deed
hosted = event (host_of (lent_of first))

abbrev does : Call → Deed
does c = event (call c)

abbrev deeds : in_range first ≡ true → List Deed
deeds r =
    hosted ∷ does comes
    ∷ alter first r ∷ hosted ∷ does goes
    ∷ hosted ∷ does comes
    ∷ hosted ∷ does goes
    ∷ hosted ∷ does goes
    ∷ []

-- the frame's state is another than the first, and so is its record
abbrev how_many : Device → ℕ
how_many d = length (held_in d.units.ru)

holds_one : how_many (next comes first) ≡ 1
unfolding matches agree length_of judged fate_of arrival arrivals.arrival arrivals.arrival_of verdict_of counts
holds_one = refl

another : image_of first ≡ image_of (next comes first) → ⊥
another e =
    let h = next_holds first first_holds comes fine_frame in
    let same : first ≡ next comes first = one_state first (next comes first) first_holds.wide first_holds.range h.wide h.range e in
    omega (arith, ap how_many same, holds_one)

deeds_are : (r : in_range first ≡ true) × (deeds_of calls (lent_of first) ≡ deeds r)
deeds_are =
    let a1 = (called comes (lent_of first)).areas in
    let k1 : a1.kept ≡ image_of (next comes first) = left_next first first_holds comes fine_frame in
    let x = altered (lending goes (lent_of first)) a1 first first_holds (λ e. another (e ∙ k1)) in
    let l4 : List Lending = lending goes (lent_of fourth) ∷ [] in
    let l3 : List Lending = lending goes (lent_of third) ∷ l4 in
    let l1 : List Lending = lending goes (lent_of first) ∷ rest in (
      x.0,
      deeds_kept first first_holds comes fine_frame (stray ∷ l1) (lent_of first) refl
          ∙ ap (λ (ds : List Deed). hosted ∷ does comes ∷ ds)
          (ap (λ (b : Bool). deeds_by b stray a1 ++ deeds_of l1 (left_by b stray a1)) stray_refused
          ∙ deeds_after first first_holds goes fine_turn rest a1 (alter first x.0 ∷ []) x.1
          ∙ ap (λ (ds : List Deed). alter first x.0 ∷ hosted ∷ does goes ∷ ds)
          (deeds_kept second second_holds comes fine_frame l3 (called goes (lent_of first)).areas (left_next first first_holds goes fine_turn)
          ∙ ap (λ (ds : List Deed). hosted ∷ does comes ∷ ds)
          (deeds_kept third third_holds goes fine_turn l4 (called comes (lent_of second)).areas (left_next second second_holds comes fine_frame)
          ∙ ap (λ (ds : List Deed). hosted ∷ does goes ∷ ds)
          (deeds_kept fourth fourth_holds goes fine_turn [] (called goes (lent_of third)).areas (left_next third third_holds goes fine_turn))))),
    )

-- ---- what becomes of the frames

abbrev story_of : List Deed → World → Story
story_of ds w =
    record {
      held = numbers_of (still (opening w) ++ beginnings ds (opening w));
      ends = map (λ (e : Ended). (e.noted.number, e.way)) (endings ds (opening w));
      still = numbers_of (still (run advance ds (opening w)));
    }

deeds_story : (r : in_range first ≡ true) → story_of (deeds r) (world_in first (lent_of first))
    ≡ record { held = 1 ∷ 2 ∷ []; ends = (1, by_altering) ∷ (2, by_call fate.Stored) ∷ []; still = [] }
unfolding byte_at put_byte bytes_at put_bytes value digits field_at place beyond bits_at joined any_of event_bits status_word counts verdict_of agree matches length_of judged fate_of arrival receive_begin.begun_by receive_begin.begin frame_status settles close receive_service.service status_to arrivals.arrival arrivals.arrival_of concluded receive_turn turn_of
deeds_story r = refl

abbrev pub story : Story
story =
    record {
      held = numbers_of (held_of calls (lent_of first) first);
      ends = map (λ (e : Ended). (e.noted.number, e.way)) (ended_of calls (lent_of first) first);
      still = numbers_of (still_of calls (lent_of first) first);
    }

-- two were held: the first ended by the record that was lent otherwise, the second was stored, and none is held still
pub its_story : story
    ≡ record { held = 1 ∷ 2 ∷ []; ends = (1, by_altering) ∷ (2, by_call fate.Stored) ∷ []; still = [] }
its_story = ap (λ (ds : List Deed). story_of ds (world_in first (lent_of first))) deeds_are.1 ∙ deeds_story deeds_are.0
