-- On the calls too the bound is met and attained: the run of `Exact` on a memory that the host puts back before each call. That a call leaves
-- a state in range is a premise, `Closed`. Assumes nothing.
use mathlib.Core.Path.{◌≡◌, refl, sym, ap, ◌∙◌, subst}
use mathlib.Core.Bool.{Bool, true, false, not, ◌&&◌, true≢false}
use mathlib.Core.List.{List, [], ◌∷◌, ◌++◌}
use Prim.Native.Nat.{ℕ, zero, suc, ◌+◌, ◌*◌, ◌^◌, ◌%◌, ◌<◌}
use native.Mathlib.Omega.{arith}
use lib.Count.{ones}
use lib.Dec.{T, lit≤}
use lib.ListN.{length, get_or, replicate, length-replicate}
use Rattle.std.specs.Prelude.{None}
use Rattle.memory.specs.Memory.{digits, word_to, apply}
use Rattle.memory.specs.Size.{size_allowed}
use Rattle.memory.proofs.Bytes.{Bytes, bytes_nil, put_bytes_lem, digits_bytes}
use Rattle.scb.specs.Words.{bits_at}
use Rattle.device.specs.Limits.{holding_size, outgoing_size, record_size}
use Rattle.device.specs.Numbers.{refusal_or_0}
use Rattle.device.specs.State.{held_in}
use Rattle.device.specs.declared.Answer.{Answer}
use Rattle.device.specs.declared.Device.{Device}
use Rattle.numerals.specs.Places as places
use Rattle.phases.specs.Forms.{form_number}
use Rattle.phases.specs.Phases.{cu_word, ru_word}
use Rattle.image.specs.Image.{image_of, head_shaped, shaped, decode_full, decode_of}
use Rattle.image.specs.Ranges.{cu_fits, frame_fits, ru_fits, units_fit, initialised_or_fresh, in_range, Wide}
use Rattle.image.specs.Found.{Found}
use Rattle.image.proofs.Steps.{length_image}
use Rattle.image.proofs.Exact.{decode_image, device_back, image_bytes, fresh_wide}
use Rattle.chip.specs.Call.{reset, attention, turn}
use Rattle.chip.specs.Cases.{Word, ◌is◌, put, passes}
use Rattle.chip.specs.Turn.{turn_of}
use Rattle.chip.specs.World.{World, world_of}
use Rattle.calls.specs.Calls.{Areas, areas_of, Called, answer_number, lengths_of, refusal_of, on_bytes, attention_call, turn_call, reset_call}
use Rattle.calls.proofs.Answer.{told_number}
use Rattle.calls.proofs.Rows.{LengthsRight}
use Rattle.calls.proofs.Laws.{accepted}
use Rattle.progress.specs.Trace.{bit, turns}
use Rattle.traces.specs.Bytes.{number, is_refused}
use Rattle.traces.specs.Event.{call, is_turn, WhileHeld}
use Rattle.traces.specs.Areas.{units_by, world_said}
use Rattle.traces.specs.Driven.{Lending, lending, refused_at, left_by, left, is_taken, Lends, AllFair}
use Rattle.closure.proofs.Answers.{number_accepted}
use Rattle.held.specs.Held.{fates_at}
use Rattle.held.specs.OnRecords.{frames_kept, Settled, Within}
use Rattle.held.proofs.Exact.{words, given, begun, frame, its_frame, any_settles, and_left, and_right, not_settled, one_settles}
use Rattle.held.proofs.OnRecords.{Closed, held_frame}

-- ---- what is lent

-- memory as it was given, with the first buffer descriptor that the first frame's end wrote
unfoldable pub memory : List ℕ
memory = put (0x86 is 0xB0 ∷ []) given.memory

abbrev pub area : List ℕ
area = replicate holding_size 0

-- the outgoing area beside a holding area, filled as that begins
abbrev pub sent_beside : List ℕ → List ℕ
sent_beside h = replicate outgoing_size (get_or h 0 0)

-- a state on a memory m and areas h, and a turn that is lent these and the state's record
abbrev pub on : List ℕ → List ℕ → Device → World
on m h d = world_of d m h (sent_beside h)

abbrev pub lent_on : List ℕ → List ℕ → Device → Areas
lent_on m h d = areas_of m h (sent_beside h) (image_of d)

abbrev pub turn_on : List ℕ → List ℕ → Device → Lending
turn_on m h d = lending (turn 0) (lent_on m h d)

abbrev pub next : List ℕ → List ℕ → Device → Device
next m h d = (turn_of (on m h d) 0).outcome.device

-- n turns, each on the record that the last one left
abbrev pub turns_on : ℕ → Device → List Lending
turns_on zero d = []
turns_on (suc n) d = turn_on memory area d ∷ turns_on n (next memory area d)

unfoldable pub device : Device
device = begun.device

-- ---- it is bytes, and of the right sizes

pub record Right (m h : List ℕ) : Type 0 where
  pub memory : Bytes m
  pub area : Bytes h
  pub size : size_allowed (length m) ≡ true
  pub long : length h ≡ holding_size

all_below : (v n i : ℕ) → v < 256 → get_or (replicate n v) i 0 < 256
all_below v zero i l = omega arith
all_below v (suc n) zero l = l
all_below v (suc n) (suc i) l = all_below v n i l

pub filled_bytes : (v n : ℕ) → v < 256 → Bytes (replicate n v)
filled_bytes v n l = record { each = λ i. all_below v n i l }

pub words_bytes : (ws : List Word) (m : List ℕ) → Bytes m → Bytes (put ws m)
words_bytes [] m b = b
words_bytes (w ∷ ws) m b =
    words_bytes ws (apply (word_to w.place w.value ∷ []) m) (put_bytes_lem m w.place (digits 2 w.value) b (digits_bytes 2 w.value))

memory_bytes : Bytes memory
unfolding memory
memory_bytes = words_bytes (0x86 is 0xB0 ∷ []) given.memory (words_bytes words (replicate 8192 0) (filled_bytes 0 8192 (lit≤ tt)))

memory_size : size_allowed (length memory) ≡ true
unfolding memory passes size_allowed ones
memory_size = refl

memory_right : Right memory area
memory_right = record { memory = memory_bytes; area = filled_bytes 0 holding_size (lit≤ tt); size = memory_size; long = refl }

-- ---- the state is in range

device_range : in_range device ≡ true
unfolding device begun passes in_range units_fit cu_fits ru_fits frame_fits initialised_or_fresh
device_range = refl

device_wide : Wide device
unfolding device begun passes form_number cu_word ru_word
device_wide =
    record {
      scb = lit≤ tt;
      minimum = lit≤ tt;
      cu = record { at = lit≤ tt; kind = lit≤ tt; size = lit≤ tt; next = lit≤ tt };
      ru = record { at = lit≤ tt; kind = lit≤ tt; size = lit≤ tt; next = lit≤ tt };
      own = refl;
      own_bytes_lem = fresh_wide.own_bytes_lem;
      filter = fresh_wide.filter;
    }

-- ---- the calls on these areas are turns of these states

pub record Good (d : Device) : Type 0 where
  pub range : in_range d ≡ true
  pub wide : Wide d

number_zero : (a : Answer) → a.refusal ≡ None → number (answer_number a) ≡ 0
number_zero a e = told_number a ∙ ap refusal_or_0 e

sent_bytes : (h : List ℕ) → Bytes h → Bytes (sent_beside h)
sent_bytes h b = filled_bytes (get_or h 0 0) outgoing_size (b.each 0)

lengths : (m h : List ℕ) (d : Device) → Right m h → Wide d → LengthsRight (lengths_of (lent_on m h d) [])
lengths m h d r w =
    record {
      memory = r.size;
      holding = r.long;
      outgoing = length-replicate outgoing_size (get_or h 0 0);
      kept = length_image d w.own;
      frame = lit≤ tt;
    }

module _ (m h : List ℕ) (r : Right m h) (d : Device) (g : Good d) where
  back : world_said (lent_on m h d) ≡ on m h d
  back = rw (decode_image d g.wide g.range, device_back d g.wide)

  same : turn_call (lent_on m h d) 0 ≡ on_bytes (turn_of (on m h d) 0)
  unfolding turn_call
  same =
      accepted (lent_on m h d) [] (lengths m h d r g.wide) (λ w. on_bytes (turn_of w 0)) d.units (decode_image d g.wide g.range)
      ∙ ap (λ (x : Device). on_bytes (turn_of (on m h x) 0)) (device_back d g.wide)

  taken : refused_at (turn_on m h d) ≡ false
  taken = ap is_refused same ∙ rw (number_zero (turn_of (on m h d) 0).outcome.answer (number_accepted (turn 0) (on m h d)))

  left_next : (a : Areas) → (left (turn_on m h d) a).kept ≡ image_of (next m h d)
  left_next a = ap (λ (x : Bool). (left_by x (turn_on m h d) a).kept) taken ∙ ap (λ (x : Called). x.areas.kept) same

  lends : (a : Areas) → a.kept ≡ image_of d → Lends WhileHeld (turn_on m h d) a
  lends a k =
      record {
        frame = bytes_nil;
        bytes = record { memory = r.memory; holding = r.area; outgoing = sent_bytes h r.area; kept = image_bytes d g.wide };
        kept = sym k;
        leaves = refl;
        may = refl;
      }

-- ---- all along

-- no turn of a trace settles a frame
abbrev quiet_on : List Lending → Bool
quiet_on [] = true
quiet_on (l ∷ ls) = not (any_settles (fates_at (call l.made) (world_said l.lent))) && quiet_on ls

abbrev quiet : ℕ → Device → Bool
quiet zero d = true
quiet (suc n) d = not (any_settles (turn_of (on memory area d) 0).outcome.fates) && quiet n (next memory area d)

module _ (k : Closed) where
  good_next : (m h : List ℕ) → Right m h → (d : Device) → Good d → Good (next m h d)
  good_next m h r d g =
      let x = k (turn 0) (on m h d) bytes_nil g.range g.wide r.memory r.area (sent_bytes h r.area) in record { range = x.0; wide = x.1 }

  good_on : (d : Device) → Good d → Good (next memory area d)
  good_on d g = good_next memory area memory_right d g

  all_fair : (n : ℕ) (d : Device) (a : Areas) → Good d → a.kept ≡ image_of d → AllFair WhileHeld (turns_on n d) a
  all_fair zero d a g k = tt
  all_fair (suc n) d a g k = (
    λ e. lends memory area memory_right d g a k,
    all_fair n (next memory area d) (left (turn_on memory area d) a) (good_on d g) (left_next memory area memory_right d g a),
  )

  all_taken : (n : ℕ) (d : Device) → Good d → turns is_taken (turns_on n d) ≡ n
  all_taken zero d g = refl
  all_taken (suc n) d g = rw (taken memory area memory_right d g, all_taken n (next memory area d) (good_on d g)) (omega arith)

  as_quiet : (n : ℕ) (d : Device) → Good d → quiet_on (turns_on n d) ≡ quiet n d
  as_quiet zero d g = refl
  as_quiet (suc n) d g =
      ap (λ (w : World). not (any_settles (turn_of w 0).outcome.fates) && quiet_on (turns_on n (next memory area d))) (back memory area memory_right d g)
      ∙ ap (λ (b : Bool). not (any_settles (turn_of (on memory area d) 0).outcome.fates) && b) (as_quiet n (next memory area d) (good_on d g))

quiet_at : (before : List Lending) (report : ℕ) (a : Areas) (after : List Lending) → T (quiet_on (before ++ (lending (turn report) a ∷ after)))
    → any_settles (turn_of (world_said a) report).outcome.fates ≡ true → ⊥
quiet_at [] report a after q =
    not_settled (any_settles (turn_of (world_said a) report).outcome.fates)
    (and_left (not (any_settles (turn_of (world_said a) report).outcome.fates)) (quiet_on after) q)
quiet_at (l ∷ ls) report a after q =
    quiet_at ls report a after
    (and_right (not (any_settles (fates_at (call l.made) (world_said l.lent)))) (quiet_on (ls ++ (lending (turn report) a ∷ after))) q)

-- ---- the run

quiet_131 : T (quiet 131 device)
unfolding memory device begun passes
quiet_131 = tt

device_good : Good device
device_good = record { range = device_range; wide = device_wide }

-- what stands at the start
abbrev pub standing : Areas
standing = lent_on memory area device

pub its_record : frames_kept standing.kept ≡ frame ∷ []
unfolding device
its_record = ap (λ (x : Found). held_in (units_by x).ru) (decode_image device device_wide device_range) ∙ its_frame

unsettled : Closed → (n : ℕ) → Settled n frame (turns_on 131 device) standing → ⊥
unsettled k n s =
    quiet_at s.before s.report s.areas s.after
    (subst (λ (ls : List Lending). T (quiet_on ls)) s.split (subst T (sym (as_quiet k 131 device device_good)) quiet_131))
    (one_settles (turn_of (world_said s.areas) s.report).outcome.fates s.fate s.given s.settled)

-- 132 is exact on the calls: with any smaller number the statement is false
pub exact : Closed → (n : ℕ) → n < 132 → Within n → ⊥
exact k n l h =
    unsettled k n (h standing frame (turns_on 131 device) its_record (all_fair k 131 device standing device_good refl)
    (rw (all_taken k 131 device device_good) (omega (arith, l))))

-- the premises can be met
pub met : Closed → Settled 132 frame (turns_on 132 device) standing
met k =
    held_frame k standing frame (turns_on 132 device) its_record (all_fair k 132 device standing device_good refl)
    (rw (all_taken k 132 device device_good) (lit≤ tt))

-- ---- and met among refusals, with another memory of another size and other areas at each call

-- refused: an attention on no memory, a reset of a record of no bytes, a turn on a record that is no image
abbrev pub attended : Lending
attended = lending attention (areas_of [] [] [] [])

abbrev pub renewed : Lending
renewed = lending reset (areas_of [] [] [] [])

abbrev pub turned : Lending
turned = lending (turn 0) (areas_of memory area (sent_beside area) (replicate record_size 0))

abbrev pub refusals : List Lending → List Lending
refusals ls = attended ∷ renewed ∷ turned ∷ ls

-- the n-th memory and areas
abbrev pub memory_at : ℕ → List ℕ
memory_at n = replicate (8192 * 2 ^ (n % 3)) (n % 256)

abbrev pub area_at : ℕ → List ℕ
area_at n = replicate holding_size (n % 255)

abbrev pub restless : ℕ → Device → List Lending
restless zero d = []
restless (suc n) d = refusals (turn_on (memory_at n) (area_at n) d ∷ restless n (next (memory_at n) (area_at n) d))

size_by : (j : ℕ) → j < 3 → size_allowed (8192 * 2 ^ j) ≡ true
unfolding size_allowed ones
size_by zero l = refl
size_by (suc zero) l = refl
size_by (suc (suc zero)) l = refl
size_by (suc (suc (suc j))) l = absurd (omega (arith, l))

right_at : (n : ℕ) → Right (memory_at n) (area_at n)
right_at n =
    record {
      memory = filled_bytes (n % 256) (8192 * 2 ^ (n % 3)) (omega arith);
      area = filled_bytes (n % 255) holding_size (omega arith);
      size = rw (length-replicate (8192 * 2 ^ (n % 3)) (n % 256)) (size_by (n % 3) (omega arith));
      long = length-replicate holding_size (n % 255);
    }

-- a refused call may stand anywhere
fair_refused : (l : Lending) (ls : List Lending) (a : Areas) → refused_at l ≡ true → AllFair WhileHeld ls a → AllFair WhileHeld (l ∷ ls) a
fair_refused l ls a e y = (λ t. absurd (true≢false (sym e ∙ t)), rw e y)

turns_refused : (l : Lending) (ls : List Lending) → refused_at l ≡ true → turns is_taken (l ∷ ls) ≡ turns is_taken ls
turns_refused l ls e = ap (λ (b : Bool). bit (not b && is_turn (call l.made)) + turns is_taken ls) e ∙ omega arith

no_memory : refused_at attended ≡ true
unfolding attention_call refusal_of size_allowed answer_number bits_at
no_memory = refl

no_record : refused_at renewed ≡ true
unfolding reset_call answer_number bits_at
no_record = refl

no_image : refused_at turned ≡ true
unfolding memory passes size_allowed ones turn_call refusal_of answer_number bits_at decode_of decode_full shaped head_shaped places.field places.bytes_from
no_image = refl

among_fair : (ls : List Lending) (a : Areas) → AllFair WhileHeld ls a → AllFair WhileHeld (refusals ls) a
among_fair ls a y =
    fair_refused attended (renewed ∷ turned ∷ ls) a no_memory
    (fair_refused renewed (turned ∷ ls) a no_record (fair_refused turned ls a no_image y))

among_turns : (ls : List Lending) → turns is_taken (refusals ls) ≡ turns is_taken ls
among_turns ls =
    turns_refused attended (renewed ∷ turned ∷ ls) no_memory ∙ turns_refused renewed (turned ∷ ls) no_record ∙ turns_refused turned ls no_image

module _ (k : Closed) where
  restless_fair : (n : ℕ) (d : Device) (a : Areas) → Good d → a.kept ≡ image_of d → AllFair WhileHeld (restless n d) a
  restless_fair zero d a g e = tt
  restless_fair (suc n) d a g e =
      let m = memory_at n in
      let h = area_at n in
      let x = restless_fair n (next m h d) (left (turn_on m h d) a) (good_next k m h (right_at n) d g) (left_next m h (right_at n) d g a) in
      among_fair (turn_on m h d ∷ restless n (next m h d)) a (λ z. lends m h (right_at n) d g a e, x)

  restless_turns : (n : ℕ) (d : Device) → Good d → turns is_taken (restless n d) ≡ n
  restless_turns zero d g = refl
  restless_turns (suc n) d g =
      let m = memory_at n in
      let h = area_at n in
      among_turns (turn_on m h d ∷ restless n (next m h d))
      ∙ rw (taken m h (right_at n) d g, restless_turns n (next m h d) (good_next k m h (right_at n) d g)) (omega arith)

-- what is asked of the host, and how many turns are taken
pub restless_asked : Closed → AllFair WhileHeld (restless 132 device) standing × (turns is_taken (restless 132 device) ≡ 132)
restless_asked k = (restless_fair k 132 device standing device_good refl, restless_turns k 132 device device_good)

pub met_restless : Closed → Settled 132 frame (restless 132 device) standing
met_restless k =
    held_frame k standing frame (restless 132 device) its_record (restless_asked k).0 (rw (restless_asked k).1 (lit≤ tt))
