-- The premises over lent areas can be met: the worked list of `Witness`, run by calls on areas of bytes, with a refused call among them.
-- Assumes nothing.
use mathlib.Core.Path.{◌≡◌, refl}
use mathlib.Core.Bool.{Bool, true, false, ◌&&◌}
use mathlib.Core.List.{List, [], ◌∷◌, ◌++◌}
use Prim.Native.Nat.{ℕ, zero, suc}
use lib.Dec.{T, ltb, lit<, lit≤}
use lib.ListN.{replicate}
use lib.Count.{ones}
use Rattle.memory.specs.Size.{size_allowed, Allowed}
use Rattle.memory.proofs.Bytes.{Bytes, bytes_nil, bytes_cons}
use Rattle.memory.proofs.Power.{allowed}
use Rattle.scb.specs.Words.{bits_at}
use Rattle.image.specs.Image.{image_of}
use Rattle.image.proofs.Exact.{image_bytes, fresh_range, fresh_wide}
use Rattle.chip.specs.Cases.{◌is◌, put}
use Rattle.chip.specs.Call.{attention, turn}
use Rattle.calls.specs.Calls.{Areas, areas_of, answer_number, refusal_of, turn_call}
use Rattle.traces.specs.Bytes.{called, is_refused}
use Rattle.traces.specs.Event.{Event, call, host, step, DuringList}
use Rattle.closure.specs.Sound.{Sound}
use Rattle.closure.proofs.Closed.{closed}
use Rattle.traces.specs.Areas.{Shows}
use Rattle.traces.specs.Driven.{Lending, refused_at}
use Rattle.lists.specs.Done.{enough}
use Rattle.lists.specs.OnBytes.{PremisesOnBytes, DoneOnBytes}
use Rattle.lists.proofs.Tests.{keptb, and_l, and_r}
use Rattle.worked.proofs.Witness.{cold, before, starts, begun, three, is_started, frame, early, writes, late, middle, busy, trace, premises}
use Rattle.lists.proofs.Bytes.{start_shows, areas_list_done}
use Rattle.lists.proofs.Lift.{lendings, lifted, refused_anywhere}
use Rattle.closure.proofs.Accepted.{Right, accepts, right_again}
use Rattle.lists.proofs.Accepted.{Rights, all_accepted}

-- ---- bytes, by a test

abbrev pub bytesb : List ℕ → Bool
bytesb [] = true
bytesb (b ∷ bs) = ltb b 256 && bytesb bs

pub bytes_ok : (bs : List ℕ) → T (bytesb bs) → Bytes bs
bytes_ok [] t = bytes_nil
bytes_ok (b ∷ bs) t = bytes_cons b bs (lit< (and_l (ltb b 256) (bytesb bs) t)) (bytes_ok bs (and_r (ltb b 256) (bytesb bs) t))

-- N
smallest : Allowed 8192
unfolding size_allowed ones
smallest = allowed 8192 refl

-- ---- the areas before the starting attention

sound_cold : Sound cold
unfolding keptb
sound_cold =
    record {
      range = fresh_range;
      wide = fresh_wide;
      memory = bytes_ok cold.memory tt;
      holding = bytes_ok cold.holding tt;
      outgoing = bytes_ok cold.outgoing tt;
    }

abbrev pub first : Areas
first = areas_of before.memory before.holding before.outgoing (image_of before.device)

pub right_first : Right first before.device
unfolding keptb
right_first =
    let s : Sound (step (call attention) cold) = closed attention cold bytes_nil sound_cold in
    record {
      bytes =
          record {
            memory = bytes_ok before.memory tt;
            holding = bytes_ok before.holding tt;
            outgoing = bytes_ok before.outgoing tt;
            kept = image_bytes before.device s.wide;
          };
      holds = record { wide = s.wide; range = s.range; image = refl };
      size = smallest;
      holding = refl;
      outgoing = refl;
    }

-- ---- the trace

rights_append : (es fs : List Event) → Rights es → Rights fs → Rights (es ++ fs)
rights_append [] fs x y = y
rights_append (call c ∷ es) fs x y = (x.0, rights_append es fs x.1 y)
rights_append (host m h out ∷ es) fs x y = (x.0, rights_append es fs x.1 y)

rights_turns : (n r : ℕ) → Rights (replicate n (call (turn r)))
rights_turns zero r = tt
rights_turns (suc n) r = ((bytes_nil, lit≤ tt), rights_turns n r)

right_writes : Rights (writes middle ∷ [])
unfolding keptb
right_writes = (
  record {
    size = smallest;
    holding = refl;
    outgoing = refl;
    memory_bytes = bytes_ok (put (0xB0 is 0x5555 ∷ []) middle.memory) tt;
    holding_bytes = bytes_ok (replicate 2048 9) tt;
    outgoing_bytes = bytes_ok middle.outgoing tt;
  },
  tt,
)

rights : Rights trace
rights =
    rights_append busy (replicate 383 (call (turn 0)))
    (rights_append early (writes middle ∷ late) ((bytes_ok (frame 1) tt, lit≤ tt), rights_turns 6 3)
    (right_writes.0, ((bytes_ok (frame 2) tt, lit≤ tt), rights_turns 7 0)))
    (rights_turns 383 0)

-- ---- a call that is lent nothing at all is refused

abbrev pub stray : Lending
stray = record { made = turn 0; lent = areas_of [] [] [] [] }

pub stray_refused : refused_at stray ≡ true
unfolding turn_call refusal_of answer_number bits_at size_allowed
stray_refused = refl

abbrev pub worked : List Lending
worked = stray ∷ lendings trace (called attention first).areas

started_right : Right (called attention first).areas begun.device
started_right = right_again attention first before.device right_first bytes_nil (lit≤ tt)

pub not_refused : is_refused (called attention first) ≡ false
not_refused = accepts attention first before.device right_first (lit≤ tt)

pub shows_begun : Shows (called attention first).areas begun
shows_begun =
    start_shows first before.device right_first.bytes right_first.holds not_refused

pub bytes_premises : PremisesOnBytes DuringList enough three worked (called attention first).areas begun
bytes_premises =
    refused_anywhere DuringList enough three [] (lendings trace (called attention first).areas) stray (called attention first).areas begun
    stray_refused
    (lifted enough three trace (called attention first).areas begun shows_begun
    (all_accepted trace (called attention first).areas begun.device started_right rights) premises)

pub bytes_done : DoneOnBytes three worked (called attention first).areas begun
unfolding keptb
bytes_done =
    (areas_list_done three worked first before.device right_first.bytes right_first.holds
    not_refused starts refl is_started.listed bytes_premises).1
