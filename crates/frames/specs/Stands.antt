-- Stored and counted as facts about memory at exit, where no piece that the turn writes lies over another; and a counter that it does not write, where no
-- piece lies over it. Assumes nothing.
use Rattle.std.specs.Prelude.{◌≡◌, Bool, true, false, ◌||◌, List, [], ◌∷◌, ◌++◌, ℕ, ◌+◌, ◌%◌, ◌≤◌, length, take}
use Rattle.memory.specs.Address.{place}
use Rattle.memory.specs.Memory.{Write, word_at, bytes_at}
use Rattle.memory.specs.declared.Offset.{Offset}
use Rattle.memory.proofs.Fields.{Apart, AllApart}
use Rattle.scb.specs.Words.{bit, scb_status_at}
use Rattle.device.specs.Header.{unbuffered}
use Rattle.device.specs.State.{is_good}
use Rattle.device.specs.declared.Fate.TheVariants as fate
use Rattle.device.specs.declared.Frame.{Frame}
use Rattle.device.specs.declared.Ru.{Ru}
use Rattle.device.specs.declared.Ru.TheVariants as ru
use Rattle.device.specs.declared.Storing.{Storing}
use Rattle.receive.specs.Begin.{is_bare}
use Rattle.receive.specs.End.{frame_status}
use Rattle.chip.specs.Call.{Call, ran}
use Rattle.chip.specs.World.{World, Ran}
use Rattle.frames.specs.Arrival.{in_scb, unit_of}
use Rattle.frames.specs.Held.{in_frame, link_now, loses, ends, StaysHeld, Meanwhile, unit_after, AtEnd, Lost}

-- in a memory of n bytes no write lies over another
abbrev pub Separate : ℕ → List Write → Type 0
Separate n [] = Unit {0}
Separate n (x ∷ xs) = AllApart n xs x.to (length x.bytes) × Separate n xs

-- the header bytes and the status word, with C, and with bit 9 exactly if out of buffers, stand in the frame descriptor
pub record StoredStands (lacking : Bool) (s : Storing) (w : World) (r : Ran) : Type 0 where
  pub bytes : bytes_at r.memory (in_frame w s 8) (unbuffered s.frame.form) ≡ take (unbuffered s.frame.form) w.holding
  pub status : word_at r.memory (in_frame w s 0) ≡ frame_status lacking s.frame
  pub complete : bit (word_at r.memory (in_frame w s 0)) 15 ≡ true
  pub lacks : bit (word_at r.memory (in_frame w s 0)) 9 ≡ lacking

-- ---- the pieces by their places

-- so many bytes from an address on
pub record Piece : Type 0 where
  pub from : ℕ
  pub size : ℕ

abbrev pub piece : ℕ → ℕ → Piece
piece a n = record { from = a; size = n }

-- in a memory of n bytes no piece lies over another
abbrev pub Away : ℕ → List Piece → Piece → Type 0
Away n [] p = Unit {0}
Away n (q ∷ qs) p = Apart n q.from q.size p.from p.size × Away n qs p

abbrev pub NoOverlap : ℕ → List Piece → Type 0
NoOverlap n [] = Unit {0}
NoOverlap n (p ∷ ps) = Away n ps p × NoOverlap n ps

-- +6 of the next frame descriptor, link read now
abbrev pub next_first : World → Storing → ℕ
next_first w s = place w.device.units.base (link_now w s) 6

-- FFFFh at +6 if no data; +6 of the next frame descriptor unless No Resources follows
abbrev pub bare_piece : (bare : Bool) → World → Storing → List Piece
bare_piece true w s = piece (in_frame w s 6) 2 ∷ []
bare_piece false w s = []

abbrev pub onward_piece : (exhausted : Bool) → World → Storing → List Piece
onward_piece true w s = []
onward_piece false w s = piece (next_first w s) 2 ∷ []

-- what is written to a frame descriptor if the frame is stored, and the rest; the header's piece is empty with location 1
abbrev pub stored_pieces : World → Storing → List Piece → List Piece
stored_pieces w s rest =
    piece (in_frame w s 8) (unbuffered s.frame.form) ∷ piece (in_frame w s 0) 2 ∷ (bare_piece (is_bare s.frame) w s ++ rest)

-- RSCERRS, the SCB status
abbrev pub count_piece : World → Piece
count_piece w = piece (in_scb w 12) 2

abbrev pub status_piece : World → Piece
status_piece w = piece (in_scb w scb_status_at) 2

-- out of buffers, a good frame: kept, or status 0000h alone; either way RSCERRS, then the SCB status. A bad one is kept, and no counter is written
abbrev pub lacking_pieces : (good saved : Bool) → World → Storing → List Piece
lacking_pieces true true w s = stored_pieces w s (count_piece w ∷ status_piece w ∷ [])
lacking_pieces true false w s = piece (in_frame w s 0) 2 ∷ count_piece w ∷ status_piece w ∷ []
lacking_pieces false saved w s = stored_pieces w s (status_piece w ∷ [])

-- all that an end turn writes
abbrev pub pieces : Ru → World → List Piece
pieces ru.Idle w = []
pieces ru.NoResources w = []
pieces (ru.Suspended fd) w = []
pieces (ru.Ready fd) w = []
pieces (ru.Held fd f p) w = []
pieces (ru.Filling s k) w = []
pieces (ru.Closing s free full) w = stored_pieces w s (onward_piece (s.el || full) w s ++ status_piece w ∷ [])
pieces (ru.Lacking s) w = lacking_pieces (is_good s.frame) s.frame.savebad w s

-- ---- the counters that it does not write

-- by their places in the SCB: CRCERRS, ALNERRS, RSCERRS, OVRNERRS
abbrev pub counters : List ℕ
counters = 8 ∷ 10 ∷ 12 ∷ 14 ∷ []

-- those beside RSCERRS
abbrev pub other_counters : List ℕ
other_counters = 8 ∷ 10 ∷ 14 ∷ []

-- out of buffers: a bad frame's end writes none, a good one's RSCERRS
abbrev pub lacking_counters : (good : Bool) → List ℕ
lacking_counters true = other_counters
lacking_counters false = counters

-- so of each counter in a list
abbrev pub Each : (ℕ → Type 0) → List ℕ → Type 0
Each P [] = Unit {0}
Each P (k ∷ ks) = P k × Each P ks

-- what no piece lies over is as at entry
abbrev pub PieceStands : World → Ran → Piece → Type 0
PieceStands w r p =
    Away (length w.memory) (pieces (unit_of w) w) p → bytes_at r.memory p.from p.size ≡ bytes_at w.memory p.from p.size

-- no piece that the unit's end turn writes lies over this counter
abbrev pub Spared : Ru → World → ℕ → Type 0
Spared u w counter = Away (length w.memory) (pieces u w) (piece (in_scb w counter) 2)

-- then it is as at entry
abbrev pub CounterStands : World → Ran → ℕ → Type 0
CounterStands w r counter = Spared (unit_of w) w counter → bytes_at r.memory (in_scb w counter) 2 ≡ bytes_at w.memory (in_scb w counter) 2

-- no counter moves: each of the four is as at entry, if no piece lies over it
abbrev pub CountersStand : World → Ran → Type 0
CountersStand w r = Each (CounterStands w r) counters

-- exactly one counter moves: RSCERRS is one more (modulo 65,536) than at entry; each of the other three is as at entry, if no piece lies over it
pub record CountedStands (w : World) (r : Ran) : Type 0 where
  pub more : word_at r.memory (in_scb w 12) ≡ (word_at w.memory (in_scb w 12) + 1) % 65536
  pub others : Each (CounterStands w r) other_counters

-- ---- what becomes of it

-- a good frame, as facts about memory at exit: if stored no counter moves, if counted exactly one; counted and not kept, 0000h stands in its descriptor
pub data GoodExit (f : Frame) (c : Call) (w : World) : Type 0 where
  stays : loses c w ≡ false → ends c w ≡ false → StaysHeld f w (ran c w) → Meanwhile f c w → GoodExit f c w
  stored : (s : Storing) (free : Offset) (full : Bool) → ends c w ≡ true → unit_of w ≡ ru.Closing s free full → s.frame ≡ f
      → (ran c w).outcome.fates ≡ fate.Stored ∷ []
      → StoredStands false s w (ran c w)
      → CountersStand w (ran c w)
      → AtEnd true (unit_after w s full) w (ran c w)
      → GoodExit f c w
  counted : (s : Storing) → ends c w ≡ true → unit_of w ≡ ru.Lacking s → s.frame ≡ f → f.savebad ≡ false
      → (ran c w).outcome.fates ≡ fate.Counted ∷ []
      → word_at (ran c w).memory (in_frame w s 0) ≡ 0x0000
      → CountedStands w (ran c w)
      → AtEnd false ru.NoResources w (ran c w)
      → GoodExit f c w
  both : (s : Storing) → ends c w ≡ true → unit_of w ≡ ru.Lacking s → s.frame ≡ f → f.savebad ≡ true
      → (ran c w).outcome.fates ≡ fate.StoredCounted ∷ []
      → StoredStands true s w (ran c w)
      → CountedStands w (ran c w)
      → AtEnd true ru.NoResources w (ran c w)
      → GoodExit f c w
  lost : loses c w ≡ true → Lost w c → GoodExit f c w

-- a bad frame, as facts about memory at exit: at its end no counter moves
pub data BadExit (f : Frame) (c : Call) (w : World) : Type 0 where
  stays : loses c w ≡ false → ends c w ≡ false → StaysHeld f w (ran c w) → Meanwhile f c w → BadExit f c w
  stored : (s : Storing) (free : Offset) (full : Bool) → ends c w ≡ true → unit_of w ≡ ru.Closing s free full → s.frame ≡ f
      → (ran c w).outcome.fates ≡ fate.Stored ∷ []
      → StoredStands false s w (ran c w)
      → CountersStand w (ran c w)
      → AtEnd true (unit_after w s full) w (ran c w)
      → BadExit f c w
  lacking : (s : Storing) → ends c w ≡ true → unit_of w ≡ ru.Lacking s → s.frame ≡ f
      → (ran c w).outcome.fates ≡ fate.Stored ∷ []
      → StoredStands true s w (ran c w)
      → CountersStand w (ran c w)
      → AtEnd true ru.NoResources w (ran c w)
      → BadExit f c w
  lost : loses c w ≡ true → Lost w c → BadExit f c w

-- ---- when that is so

-- the frame descriptor, of which h bytes count behind its first eight, and the SCB's 16 have no byte in common; neither is larger than memory
pub record Clear (h : ℕ) (w : World) (s : Storing) : Type 0 where
  pub room : 8 + h ≤ length w.memory
  pub scb : 16 ≤ length w.memory
  pub apart : Apart (length w.memory) (in_frame w s 0) (8 + h) (in_scb w 0) 16

-- nor has +6 of the next frame descriptor with either
pub record NextClear (h : ℕ) (w : World) (s : Storing) : Type 0 where
  pub frame : Apart (length w.memory) (next_first w s) 2 (in_frame w s 0) (8 + h)
  pub scb : Apart (length w.memory) (next_first w s) 2 (in_scb w 0) 16
