-- What is asked of the calls on lent areas can be met: the frames of `DataWitness` arrive, are stored and end by calls on areas of bytes, each lent what
-- stands, with a refused call among them. Assumes nothing.
use mathlib.Core.Path.{◌≡◌, refl, sym, ap, ◌∙◌, subst}
use mathlib.Core.Bool.{Bool, true, false, true≢false}
use mathlib.Core.List.{List, ◌∷◌, ◌++◌}
use Prim.Native.Nat.{ℕ, zero, suc, ◌+◌, ◌≤◌}
use native.Mathlib.Omega.{arith}
use lib.Dec.{lit≤}
use lib.ListN.{length, replicate, length-replicate}
use Rattle.std.specs.Prelude.{None}
use Rattle.memory.proofs.Bytes.{Bytes, AllBytes, bytes_nil, bytes_cons, digits_bytes, all_append, apply_bytes}
use Rattle.memory.proofs.Power.{allowed}
use Rattle.device.specs.Limits.{holding_size, outgoing_size}
use Rattle.phases.specs.Phases.{cu_word, ru_word}
use Rattle.image.specs.Ranges.{Wide}
use Rattle.image.proofs.Exact.{fresh_wide, image_bytes}
use Rattle.chip.specs.Call.{arrive, turn}
use Rattle.chip.specs.World.{World}
use Rattle.calls.specs.Calls.{Areas, turn_call}
use Rattle.progress.specs.Trace.{run, AllMay}
use Rattle.traces.specs.Areas.{AreBytes, world_said, Shows, shown}
use Rattle.traces.specs.Bytes.{called, is_refused}
use Rattle.traces.specs.Driven.{Lending, lending, refused_at, left_by, left, turns_from, AllFair}
use Rattle.traces.specs.Event.{Event, call, step}
use Rattle.closure.specs.Turns.{turns_on}
use Rattle.closure.proofs.Command.{append_bytes, replicate_bytes}
use Rattle.closure.proofs.Carried.{carry_shown, lent_kept}
use Rattle.closure.proofs.Driven.{shows_said}
use Rattle.closure.proofs.Turns.{turn_again}
use Rattle.frames.specs.Held.{ends}
use Rattle.frames.specs.Data.{Staying, data_of, EndLent, DeliveredOnBytes, ArrivedOnBytes}
use Rattle.frames.proofs.Data.{delivered_on_bytes, arrived_on_bytes}
use Rattle.traced.proofs.DataWitness.{ready, upward, sixty, frame, descriptor, words, before, in_range_lem, sized, Seen, enough, too_few_lem}
use Rattle.traced.proofs.BytesWitness.{Fine, stray, stray_refused, fine_turn}
use Rattle.closure.proofs.Accepted.{Right, accepts, right_again}

-- ---- turns, each lent what stands, after a turn that is lent nothing and refused

-- what stands then, b
record Turned (ls : List Lending) (a b : Areas) (es : List Event) (w : World) : Type 0 where
  fair : AllFair Staying ls a
  leaves : run left ls a ≡ b
  bytes : AreBytes b
  shows : Shows b (run step es w)
  accepted : is_refused (turn_call b 0) ≡ false

turned : (k : ℕ) (a : Areas) (w : World) → AreBytes a → Shows a w → is_refused (turn_call a 0) ≡ false
    → AllMay Staying step (replicate k (call (turn 0))) w
    → Turned (turns_from k a 0) a (turns_on k a 0) (replicate k (call (turn 0))) w
turned zero a w b s e m = record { fair = tt; leaves = refl; bytes = b; shows = s; accepted = e }
turned (suc k) a w b s e m =
    let n =
    turned k (turn_call a 0).areas (step (call (turn 0)) w) (lent_kept (turn 0) a bytes_nil b) (carry_shown (turn 0) a w bytes_nil b s e).0
    (turn_again a 0 b e) m.1
    in
    let may : Staying (call (turn 0)) (world_said a) = subst (Staying (call (turn 0))) (sym (shows_said a w s)) m.0 in
    record {
      fair = (λ z. record { frame = bytes_nil; bytes = b; kept = refl; leaves = refl; may = may }, rw e n.fair);
      leaves =
          ap (λ (x : Bool). run left (turns_from k (turn_call a 0).areas 0) (left_by x (lending (turn 0) a) a)) e ∙ n.leaves;
      bytes = n.bytes;
      shows = n.shows;
      accepted = n.accepted;
    }

after_stray : (ls : List Lending) (a b : Areas) (es : List Event) (w : World) → Turned ls a b es w → Turned (stray ∷ ls) a b es w
after_stray ls a b es w t =
    record {
      fair = (λ z. absurd (true≢false (sym stray_refused ∙ z)), rw stray_refused t.fair);
      leaves = ap (λ (x : Bool). run left ls (left_by x stray a)) stray_refused ∙ t.leaves;
      bytes = t.bytes;
      shows = t.shows;
      accepted = t.accepted;
    }

-- ---- what is lent at first

abbrev pub lent : (third : ℕ) → Areas
lent third = shown (before third)

upward_bytes : (from n : ℕ) → from + n ≤ 256 → Bytes (upward from n)
upward_bytes from zero h = bytes_nil
upward_bytes from (suc n) h = bytes_cons from (upward (suc from) n) (omega (arith, h)) (upward_bytes (suc from) n (omega (arith, h)))

fine_sixty : Fine (arrive sixty 0)
fine_sixty =
    record {
      bytes = append_bytes (replicate 6 255) (upward 1 54) (replicate_bytes 6 255 (lit≤ tt)) (upward_bytes 1 54 (lit≤ tt));
      right = lit≤ tt;
    }

descriptor_bytes_lem : (o next buffer : ℕ) → AllBytes (descriptor o next buffer)
descriptor_bytes_lem o next buffer = (digits_bytes 2 next, (digits_bytes 2 buffer, (digits_bytes 2 20, tt)))

words_bytes : (third : ℕ) → AllBytes (words third)
words_bytes third = (
  digits_bytes 2 0x80,
  all_append (descriptor 0x80 0x90 0x100) (descriptor 0x90 third 0x120 ++ descriptor 0xA0 0xFFFF 0x140) (descriptor_bytes_lem 0x80 0x90 0x100)
      (all_append (descriptor 0x90 third 0x120) (descriptor 0xA0 0xFFFF 0x140) (descriptor_bytes_lem 0x90 third 0x120) (descriptor_bytes_lem 0xA0 0xFFFF 0x140)),
)

ready_wide : Wide ready
unfolding cu_word ru_word
ready_wide =
    record {
      scb = lit≤ tt;
      minimum = lit≤ tt;
      cu = record { at = lit≤ tt; kind = lit≤ tt; size = lit≤ tt; next = lit≤ tt };
      ru = record { at = lit≤ tt; kind = lit≤ tt; size = lit≤ tt; next = lit≤ tt };
      own = refl;
      own_bytes_lem = fresh_wide.own_bytes_lem;
      filter = fresh_wide.filter;
    }

lent_fits : (third : ℕ) → Right (lent third) ready
lent_fits third =
    record {
      bytes =
          record {
            memory = apply_bytes (words third) (replicate 8192 0) (words_bytes third) (replicate_bytes 8192 0 (lit≤ tt));
            holding = replicate_bytes holding_size 0 (lit≤ tt);
            outgoing = replicate_bytes outgoing_size 0 (lit≤ tt);
            kept = image_bytes ready ready_wide;
          };
      holds = record { wide = ready_wide; range = in_range_lem; image = refl };
      size = allowed (length (lent third).memory) (sized (words third));
      holding = length-replicate {A = ℕ} holding_size 0;
      outgoing = length-replicate {A = ℕ} outgoing_size 0;
    }

-- ---- the calls

-- after the arrival
abbrev pub standing : (third : ℕ) → Areas
standing third = (called (arrive sixty 0) (lent third)).areas

abbrev pub calls : (third k : ℕ) → List Lending
calls third k = stray ∷ turns_from k (standing third) 0

-- what is lent to the turn that ends it
abbrev pub last : (third k : ℕ) → Areas
last third k = turns_on k (standing third) 0

-- a call among them is refused, what was asked is met, and so all is as said, from the arrival on and from then on that the frame is held
pub record Met (third k : ℕ) : Type 0 where
  pub refused : refused_at stray ≡ true
  pub shows : Shows (standing third) (step (call (arrive sixty 0)) (before third))
  pub fair : AllFair Staying (calls third k) (standing third)
  pub end : EndLent (last third k) 0 (run left (calls third k) (standing third))
  pub ends : ends (turn 0) (world_said (last third k)) ≡ true
  pub arrived : ArrivedOnBytes sixty 0 (lent third) (calls third k) (last third k) (before third) 0
  pub delivered :
      DeliveredOnBytes frame (data_of frame (standing third).holding) (calls third k) (last third k) (step (call (arrive sixty 0)) (before third)) 0

pub met : (third k got : ℕ) → Seen third (replicate k (call (turn 0))) got → Met third k
met third k got s =
    let z : is_refused (called (arrive sixty 0) (lent third)) ≡ false = accepts (arrive sixty 0) (lent third) ready (lent_fits third) fine_sixty.right in
    let r = right_again (arrive sixty 0) (lent third) ready (lent_fits third) fine_sixty.bytes fine_sixty.right in
    let w : World = step (call (arrive sixty 0)) (before third) in
    let first : Shows (lent third) (before third) = record { memory = refl; holding = refl; outgoing = refl; kept = (lent_fits third).holds } in
    let shows : Shows (standing third) w = (carry_shown (arrive sixty 0) (lent third) (before third) fine_sixty.bytes (lent_fits third).bytes first z).0 in
    let t = after_stray (turns_from k (standing third) 0) (standing third) (last third k) (replicate k (call (turn 0))) w
    (turned k (standing third) w r.bytes shows (accepts (turn 0) (standing third) _ r fine_turn.right) s.may)
    in
    let end : EndLent (last third k) 0 (run left (calls third k) (standing third)) =
    record { bytes = t.bytes; kept = sym (ap (λ (x : Areas). x.kept) t.leaves); holding = sym (ap (λ (x : Areas). x.holding) t.leaves); accepted = t.accepted }
    in
    let ending : ends (turn 0) (world_said (last third k)) ≡ true =
    subst (λ (v : World). ends (turn 0) v ≡ true) (sym (shows_said (last third k) (run step (replicate k (call (turn 0))) w) t.shows)) s.ends
    in
    record {
      refused = stray_refused;
      shows = shows;
      fair = t.fair;
      end = end;
      ends = ending;
      arrived =
          arrived_on_bytes (lent third) (last third k) ready sixty 0 None (calls third k) 0 (lent_fits third).bytes (lent_fits third).holds
          fine_sixty.bytes z s.fate t.fair end ending;
      delivered =
          delivered_on_bytes (standing third) (last third k) w (record { 0 = 0x60 }) frame false (calls third k) 0 shows s.unit t.fair end ending;
    }

-- begin and three buffers, and begin and two
pub met_enough : Met 0xA0 4
met_enough = met 0xA0 4 46 enough

pub met_too_few : Met 0xFFFF 3
met_too_few = met 0xFFFF 3 40 too_few_lem
