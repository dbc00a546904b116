-- 132 is exact for every chip: with fewer turns for one command, for two or for a held frame, no chip has demand 3. The runs are those by which each
-- half is exact on states (`Exact`, crates/worked and crates/held), in worlds in which no call is refused. Assumes nothing.
use mathlib.Core.Path.{◌≡◌, refl, sym, ap, ◌∙◌}
use mathlib.Core.Bool.{true≢false}
use mathlib.Core.List.{List, [], ◌∷◌, ◌++◌, map}
use Prim.Native.Nat.{ℕ, zero, suc, ◌≤◌, ◌<◌}
use native.Mathlib.Omega.{arith}
use lib.Dec.{lit≤}
use lib.ListN.{length, replicate}
use Rattle.memory.specs.Memory.{word_to, apply}
use Rattle.memory.proofs.Laws.{length_apply}
use Rattle.image.proofs.Exact.{fresh_range, fresh_wide}
use Rattle.device.specs.Limits.{holding_size, outgoing_size}
use Rattle.device.specs.declared.Frame.{Frame}
use Rattle.chip.specs.Call.{attention, turn}
use Rattle.chip.specs.Cases.{Word, ◌is◌, put, start}
use Rattle.chip.specs.World.{World}
use Rattle.progress.specs.Trace.{AllMay, turns}
use Rattle.traces.specs.Event.{Event, call, host, step, is_turn, WhileHeld}
use Rattle.worked.proofs.BytesWitness.{bytes_ok}
use Rattle.worked.proofs.Exact as list_exact
use Rattle.held.specs.Held.{frames_in, Settled}
use Rattle.held.proofs.Exact as held_exact
use Rattle.held.proofs.Lending.{filled_bytes, words_bytes}
use Rattle.kinds.specs.Chips.{Chip, does, events_in}
use Rattle.kinds.specs.Closed.{Right}
use Rattle.kinds.specs.Third.{AllAcceptable, AllRefused, Demand3By}
use Rattle.kinds.proofs.Closing.{closing}
use Rattle.kinds.proofs.Third.{right_along}
use Rattle.kinds.proofs.Witness.{smallest, attending, turning}

-- ---- worlds in which no call is refused

put_length : (ws : List Word) (m : List ℕ) → length (put ws m) ≡ length m
put_length [] m = refl
put_length (w ∷ ws) m = put_length ws (apply (word_to w.place w.value ∷ []) m) ∙ length_apply (word_to w.place w.value ∷ []) m

right_start : (ws : List Word) → Right (start ws)
right_start ws =
    record {
      areas =
          record {
            size = rw (put_length ws (replicate 8192 0)) smallest;
            holding = refl;
            outgoing = refl;
            memory_bytes = words_bytes ws (replicate 8192 0) (filled_bytes 0 8192 (lit≤ tt));
            holding_bytes = filled_bytes 0 holding_size (lit≤ tt);
            outgoing_bytes = filled_bytes 0 outgoing_size (lit≤ tt);
          };
      wide = fresh_wide;
      range = fresh_range;
    }

-- the host writes words
pub right_told : (ws : List Word) (w : World) → Right w → Right (step (host (put ws w.memory) w.holding w.outgoing) w)
right_told ws w r =
    let a = r.areas in
    record {
      areas =
          record {
            size = rw (put_length ws w.memory) a.size;
            holding = a.holding;
            outgoing = a.outgoing;
            memory_bytes = words_bytes ws w.memory a.memory_bytes;
            holding_bytes = a.holding_bytes;
            outgoing_bytes = a.outgoing_bytes;
          };
      wide = r.wide;
      range = r.range;
    }

-- after initialisation
pub right_board : (given orders : List Word) → Right (held_exact.writes orders (step (call attention) (start given)))
right_board given orders =
    right_told orders (step (call attention) (start given)) (closing.each attention (start given) attending (lit≤ tt) (right_start given))

-- ---- events that are no refused calls

pub turns_acceptable : (n : ℕ) → AllAcceptable (replicate n (call (turn 0)))
turns_acceptable zero = tt
turns_acceptable (suc n) = (turning, lit≤ tt, turns_acceptable n)

all_append : (es fs : List Event) → AllAcceptable es → AllAcceptable fs → AllAcceptable (es ++ fs)
all_append [] fs x y = y
all_append (call c ∷ es) fs x y = (x.0, x.1, all_append es fs x.2 y)
all_append (host m h out ∷ es) fs x y = (x.0, all_append es fs x.1 y)

one_acceptable : (n : ℕ) → AllAcceptable (list_exact.one n)
one_acceptable n = (record { frame = filled_bytes 255 78 (lit≤ tt); numbers = lit≤ tt }, lit≤ tt, turns_acceptable n)

two_acceptable : (n : ℕ) → AllAcceptable (list_exact.two n)
two_acceptable n =
    let first = one_acceptable 131 in
    (first.0, first.1, all_append (replicate 131 (call (turn 0))) (list_exact.one n) (turns_acceptable 131) (one_acceptable n))

sixty_acceptable : AllAcceptable (held_exact.sixty ∷ [])
sixty_acceptable = (record { frame = bytes_ok _ tt; numbers = lit≤ tt }, lit≤ tt, tt)

-- as acts
pub events_back : (es : List Event) → events_in (map does es) ≡ es
events_back [] = refl
events_back (e ∷ es) = ap (λ (fs : List Event). e ∷ fs) (events_back es)

pub none_asked : (es : List Event) → AllRefused (map does es)
none_asked [] = tt
none_asked (e ∷ es) = none_asked es

-- ---- what such a demand would say of events alone

module _ (chip : Chip) (least : ℕ → ℕ) (most : ℕ) (d : Demand3By least most chip) where
  settles : (f : Frame) (es : List Event) (w : World) → Right w → AllAcceptable es → frames_in w ≡ f ∷ [] → AllMay WhileHeld step es w
      → most ≤ turns is_turn es → Settled most f es w
  settles f es w r a h e l =
      let settled =
      (d.frame chip.first f (map does es) w
      (record {
        right = r;
        holds = h;
        acceptable = rw (events_back es) a;
        refused = none_asked es;
        events = rw (events_back es) e;
        turns = rw (events_back es) l;
      })).0
      in
      rw (events_back es) at settled

  refuted : (bs : List ℕ) (es : List Event) (w : World) → Right w → AllAcceptable es → list_exact.Unfinished least bs es w → ⊥
  refuted bs es w r f u =
      let done =
      (d.list chip.first bs (map does es) w
      (record {
        right = r;
        sets_off = record { starts = u.starts; first = u.first };
        listed = u.listed;
        acceptable = rw (events_back es) f;
        refused = none_asked es;
        premises = rw (events_back es) u.premises;
      })).0.stopped
      in
      true≢false (sym u.active ∙ rw (events_back es) at done)

-- ---- a list

-- fewer than 132 turns for one command do not suffice, whatever the chip
pub one_takes_132 : (chip : Chip) (least : ℕ → ℕ) (most : ℕ) → least 1 ≤ 131 → Demand3By least most chip → ⊥
one_takes_132 chip least most l d =
    refuted chip least most d (0x18 ∷ []) (list_exact.one 131) (list_exact.before 0x8004) (right_board (list_exact.words 0x8004) list_exact.orders)
    (one_acceptable 131) (list_exact.one_unfinished least l)

-- fewer than 264 for two
pub two_take_264 : (chip : Chip) (least : ℕ → ℕ) (most : ℕ) → least 2 ≤ 263 → Demand3By least most chip → ⊥
two_take_264 chip least most l d =
    refuted chip least most d list_exact.both (list_exact.two 132) (list_exact.before 0x0004)
    (right_board (list_exact.words 0x0004) list_exact.orders) (two_acceptable 132) (list_exact.two_unfinished least l)

-- ---- a held frame

pub right_begun : Right held_exact.begun
unfolding held_exact.begun
right_begun =
    let t = turns_acceptable 5 in
    let s = sixty_acceptable in
    right_along closing (call attention ∷ held_exact.sixty ∷ replicate 5 (call (turn 0)) ++ (held_exact.sixty ∷ [])) _
    (attending, lit≤ tt, (s.0, s.1, all_append (replicate 5 (call (turn 0))) (held_exact.sixty ∷ []) t s))
    (right_board held_exact.words (0x32 is 0xF110 ∷ []))

-- fewer than 132 turns for a held frame do not suffice
pub frame_takes_132 : (chip : Chip) (least : ℕ → ℕ) (most : ℕ) → most < 132 → Demand3By least most chip → ⊥
frame_takes_132 chip least most l d =
    let le : most ≤ 131 = omega (arith, l) in
    held_exact.unsettled most
    (settles chip least most d held_exact.frame (held_exact.turns_of 131) held_exact.begun right_begun (turns_acceptable 131) held_exact.its_frame
    (held_exact.calm_turns 131 held_exact.begun) le)
