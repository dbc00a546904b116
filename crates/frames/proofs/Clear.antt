-- When no piece of an end turn lies over another, nor over a counter that it does not write: it is enough that the frame descriptor, the SCB and, if
-- it is written, +6 of the next frame descriptor lie apart. Assumes nothing.
use mathlib.Core.Path.{◌≡◌, refl, sym, ap, ◌∙◌, subst}
use mathlib.Core.Bool.{Bool, true, false, ◌||◌}
use mathlib.Core.List.{List, [], ◌∷◌, ◌++◌}
use Prim.Native.Nat.{ℕ, ◌+◌, ◌%◌, ◌≤◌}
use native.Mathlib.Omega.{arith}
use lib.ListN.{length}
use Rattle.memory.specs.Address.{place}
use Rattle.memory.specs.Memory.{bytes_at}
use Rattle.memory.specs.declared.Offset.{Offset}
use Rattle.memory.specs.declared.RealAddress.{RealAddress}
use Rattle.memory.proofs.Fields.{Apart}
use Rattle.memory.proofs.Places.{place_up, place_down}
use Rattle.device.specs.Header.{unbuffered}
use Rattle.device.specs.State.{held_in, is_good}
use Rattle.device.specs.declared.Frame.{Frame}
use Rattle.device.specs.declared.Ru.{Ru}
use Rattle.device.specs.declared.Ru.TheVariants as ru
use Rattle.device.specs.declared.Storing.{Storing}
use Rattle.device.proofs.Header.{all_in_the_buffers}
use Rattle.receive.specs.Begin.{is_bare}
use Rattle.image.specs.Ranges.{in_range}
use Rattle.chip.specs.Call.{Call, ran}
use Rattle.chip.specs.World.{World}
use Rattle.frames.specs.Arrival.{RightLengths, in_scb, unit_of}
use Rattle.frames.specs.Held.{in_frame, ends}
use Rattle.frames.specs.Stands.{Piece, piece, Away, NoOverlap, next_first, bare_piece, onward_piece, stored_pieces, count_piece, status_piece}
use Rattle.frames.specs.Stands.{lacking_pieces, pieces, counters, lacking_counters, Each, Spared, Clear, NextClear}
use Rattle.frames.proofs.Stands.{nothing_else}

-- ---- parts of what lies apart

at_field : (base : RealAddress) (o : Offset) (f x : ℕ) → place base o 0 + (f + x) ≡ place base o f + x
unfolding place
at_field base o f x = omega arith

part_apart : (n : ℕ) (base : RealAddress) (o p : Offset) (j k f g i l : ℕ) → f + i ≤ j → g + l ≤ k → Apart n (place base o 0) j (place base p 0) k
    → Apart n (place base p g) l (place base o f) i
part_apart n base o p j k f g i l a b h x hx y hy e =
    h (f + y) (omega arith) (g + x) (omega arith)
    (ap (λ (z : ℕ). z % n) (at_field base o f y) ∙ sym e ∙ ap (λ (z : ℕ). z % n) (sym (at_field base p g x)))

word_apart : (n a : ℕ) (base : RealAddress) (o : Offset) (j f i : ℕ) → f + i ≤ j → Apart n a 2 (place base o 0) j → Apart n a 2 (place base o f) i
word_apart n a base o j f i b h x hx y hy e = h x hx (f + y) (omega arith) (e ∙ ap (λ (z : ℕ). z % n) (sym (at_field base o f y)))

word_apart' : (n a : ℕ) (base : RealAddress) (o : Offset) (j f i : ℕ) → f + i ≤ j → Apart n a 2 (place base o 0) j → Apart n (place base o f) i a 2
word_apart' n a base o j f i b h x hx y hy e = word_apart n a base o j f i b h y hy x hx (sym e)

-- a piece less
away_less : (n : ℕ) (xs : List Piece) (y : Piece) (ys : List Piece) (p : Piece) → Away n (xs ++ y ∷ ys) p → Away n (xs ++ ys) p
away_less n [] y ys p h = h.1
away_less n (x ∷ xs) y ys p h = (h.0, away_less n xs y ys p h.1)

less : (n : ℕ) (xs : List Piece) (y : Piece) (ys : List Piece) → NoOverlap n (xs ++ y ∷ ys) → NoOverlap n (xs ++ ys)
less n [] y ys h = h.1
less n (x ∷ xs) y ys h = (away_less n xs y ys x h.0, less n xs y ys h.1)

-- ---- pieces of the frame descriptor and of the SCB

abbrev size : World → ℕ
size w = length w.memory

abbrev counter_piece : World → ℕ → Piece
counter_piece w k = piece (in_scb w k) 2

-- h bytes of the descriptor count behind its first eight
module _ (h : ℕ) (w : World) (s : Storing) (c : Clear h w s) where
  -- two of the frame descriptor's, the first before or behind the second
  frame_up : (f j g k : ℕ) → f + j ≤ g → g + k ≤ 8 + h → Apart (size w) (in_frame w s f) j (in_frame w s g) k
  frame_up f j g k a b = place_up w.device.units.base s.fd (size w) f j g k a (omega (arith, b, c.room))

  frame_down : (f j g k : ℕ) → g + k ≤ f → f + j ≤ 8 + h → Apart (size w) (in_frame w s f) j (in_frame w s g) k
  frame_down f j g k a b = place_down w.device.units.base s.fd (size w) f j g k a (omega (arith, b, c.room))

  -- two of the SCB's
  scb_up : (f j g k : ℕ) → f + j ≤ g → g + k ≤ 16 → Apart (size w) (in_scb w f) j (in_scb w g) k
  scb_up f j g k a b = place_up w.device.units.base w.device.units.scb (size w) f j g k a (omega (arith, b, c.scb))

  scb_down : (f j g k : ℕ) → g + k ≤ f → f + j ≤ 16 → Apart (size w) (in_scb w f) j (in_scb w g) k
  scb_down f j g k a b = place_down w.device.units.base w.device.units.scb (size w) f j g k a (omega (arith, b, c.scb))

  -- one of each
  across : (f i g l : ℕ) → f + i ≤ 8 + h → g + l ≤ 16 → Apart (size w) (in_scb w g) l (in_frame w s f) i
  across f i g l a b = part_apart (size w) w.device.units.base s.fd w.device.units.scb (8 + h) 16 f g i l a b c.apart

  -- +6 of the next frame descriptor and one of either
  next_frame : (f i : ℕ) → NextClear h w s → f + i ≤ 8 + h → Apart (size w) (next_first w s) 2 (in_frame w s f) i
  next_frame f i n a = word_apart (size w) (next_first w s) w.device.units.base s.fd (8 + h) f i a n.frame

  next_scb : (f i : ℕ) → NextClear h w s → f + i ≤ 16 → Apart (size w) (in_scb w f) i (next_first w s) 2
  next_scb f i n a = word_apart' (size w) (next_first w s) w.device.units.base w.device.units.scb 16 f i a n.scb

  -- ---- the premises of the facts at exit: all pieces at once, then without +6 if there is data

  abbrev front : List Piece → List Piece
  front rest = piece (in_frame w s 8) h ∷ piece (in_frame w s 0) 2 ∷ rest

  bare_less : (b : Bool) (ps : List Piece) → NoOverlap (size w) (front (piece (in_frame w s 6) 2 ∷ ps)) → NoOverlap (size w) (front (bare_piece b w s ++ ps))
  bare_less true ps p = p
  bare_less false ps p = less (size w) (front []) (piece (in_frame w s 6) 2) ps p

  -- the header's piece and one before it in the descriptor, or one of the SCB's
  header_frame : (f : ℕ) → f + 2 ≤ 8 → Apart (size w) (in_frame w s f) 2 (in_frame w s 8) h
  header_frame f a = frame_up f 2 8 h a (omega arith)

  header_scb : (g : ℕ) → g + 2 ≤ 16 → Apart (size w) (in_scb w g) 2 (in_frame w s 8) h
  header_scb g a = across 8 h g 2 (omega arith) a

  word_scb : (f g : ℕ) → f + 2 ≤ 8 → g + 2 ≤ 16 → Apart (size w) (in_scb w g) 2 (in_frame w s f) 2
  word_scb f g a b = across f 2 g 2 (omega (arith, a)) b

  -- RSCERRS, the SCB status
  counted_all : NoOverlap (size w) (front (piece (in_frame w s 6) 2 ∷ count_piece w ∷ status_piece w ∷ []))
  counted_all = (
    (header_frame 0 (omega arith), (header_frame 6 (omega arith), (header_scb 12 (omega arith), (header_scb 0 (omega arith), tt)))),
    (
      (frame_down 6 2 0 2 (omega arith) (omega arith), (word_scb 0 12 (omega arith) (omega arith), (word_scb 0 0 (omega arith) (omega arith), tt))),
      (
        (word_scb 6 12 (omega arith) (omega arith), (word_scb 6 0 (omega arith) (omega arith), tt)),
        ((scb_up 0 2 12 2 (omega arith) (omega arith), tt), (tt, tt)),
      ),
    ),
  )

  -- +6 of the next frame descriptor, the SCB status
  onward_all : NextClear h w s → NoOverlap (size w) (front (piece (in_frame w s 6) 2 ∷ piece (next_first w s) 2 ∷ status_piece w ∷ []))
  onward_all n = (
    (header_frame 0 (omega arith), (header_frame 6 (omega arith), (next_frame 8 h n (omega arith), (header_scb 0 (omega arith), tt)))),
    (
      (frame_down 6 2 0 2 (omega arith) (omega arith), (next_frame 0 2 n (omega arith), (word_scb 0 0 (omega arith) (omega arith), tt))),
      (
        (next_frame 6 2 n (omega arith), (word_scb 6 0 (omega arith) (omega arith), tt)),
        ((next_scb 0 2 n (omega arith), tt), (tt, tt)),
      ),
    ),
  )

  -- the SCB status alone
  saved_all : NoOverlap (size w) (front (piece (in_frame w s 6) 2 ∷ status_piece w ∷ []))
  saved_all = less (size w) (front (piece (in_frame w s 6) 2 ∷ [])) (count_piece w) (status_piece w ∷ []) counted_all

  -- ---- nor lies a piece over a counter, but that of RSCERRS if a good frame ends out of buffers

  -- one of the frame descriptor's, and the SCB status
  frame_spares : (k f i : ℕ) → k + 2 ≤ 16 → f + i ≤ 8 + h → Apart (size w) (in_frame w s f) i (in_scb w k) 2
  frame_spares k f i b a x hx y hy e = across f i k 2 a b y hy x hx (sym e)

  status_spares : (k : ℕ) → 2 ≤ k → k + 2 ≤ 16 → Away (size w) (status_piece w ∷ []) (counter_piece w k)
  status_spares k a b = (scb_up 0 2 k 2 a b, tt)

  -- what is written to the frame descriptor, if the rest spares the counter
  stored_spares : (b : Bool) (k : ℕ) (rest : List Piece) → k + 2 ≤ 16 → Away (size w) rest (counter_piece w k)
      → Away (size w) (front (bare_piece b w s ++ rest)) (counter_piece w k)
  stored_spares true k rest a r =
      (frame_spares k 8 h a (omega arith), (frame_spares k 0 2 a (omega arith), (frame_spares k 6 2 a (omega arith), r)))
  stored_spares false k rest a r = (frame_spares k 8 h a (omega arith), (frame_spares k 0 2 a (omega arith), r))

  onward_spares : (x : Bool) (k : ℕ) → (x ≡ false → NextClear h w s) → 2 ≤ k → k + 2 ≤ 16
      → Away (size w) (onward_piece x w s ++ status_piece w ∷ []) (counter_piece w k)
  onward_spares true k n a b = status_spares k a b
  onward_spares false k n a b =
      (word_apart (size w) (next_first w s) w.device.units.base w.device.units.scb 16 k 2 b (n refl).scb, status_spares k a b)

-- ---- of a frame's own header

module _ (w : World) (s : Storing) (c : Clear (unbuffered s.frame.form) w s) where
  abbrev h : ℕ
  h = unbuffered s.frame.form

  -- all is stored
  closing_by : (x : Bool) → (x ≡ false → NextClear h w s) → NoOverlap (size w) (stored_pieces w s (onward_piece x w s ++ status_piece w ∷ []))
  closing_by true k = bare_less h w s c (is_bare s.frame) (status_piece w ∷ []) (saved_all h w s c)
  closing_by false k = bare_less h w s c (is_bare s.frame) (piece (next_first w s) 2 ∷ status_piece w ∷ []) (onward_all h w s c (k refl))

  -- out of buffers
  lacking_by : (good saved : Bool) → NoOverlap (size w) (lacking_pieces good saved w s)
  lacking_by true true = bare_less h w s c (is_bare s.frame) (count_piece w ∷ status_piece w ∷ []) (counted_all h w s c)
  lacking_by true false =
      less (size w) (piece (in_frame w s 0) 2 ∷ []) (piece (in_frame w s 6) 2) (count_piece w ∷ status_piece w ∷ []) (counted_all h w s c).1
  lacking_by false saved = bare_less h w s c (is_bare s.frame) (status_piece w ∷ []) (saved_all h w s c)

  closing_spares : (free : Offset) (full : Bool) → (s.el || full ≡ false → NextClear h w s) → (k : ℕ) → 2 ≤ k → k + 2 ≤ 16
      → Spared (ru.Closing s free full) w k
  closing_spares free full n k a b =
      stored_spares h w s c (is_bare s.frame) k (onward_piece (s.el || full) w s ++ status_piece w ∷ []) b (onward_spares h w s c (s.el || full) k n a b)

  -- out of buffers: RSCERRS too if it is a good frame
  counted_spares : (saved : Bool) (k : ℕ) → 2 ≤ k → k + 2 ≤ 16 → Apart (size w) (in_scb w 12) 2 (in_scb w k) 2
      → Away (size w) (lacking_pieces true saved w s) (counter_piece w k)
  counted_spares true k a b r =
      stored_spares h w s c (is_bare s.frame) k (count_piece w ∷ status_piece w ∷ []) b (r, status_spares h w s c k a b)
  counted_spares false k a b r = (frame_spares h w s c k 0 2 b (omega arith), (r, status_spares h w s c k a b))

  saved_spares : (saved : Bool) (k : ℕ) → 2 ≤ k → k + 2 ≤ 16 → Away (size w) (lacking_pieces false saved w s) (counter_piece w k)
  saved_spares saved k a b = stored_spares h w s c (is_bare s.frame) k (status_piece w ∷ []) b (status_spares h w s c k a b)

  lacking_spares : (good saved : Bool) → Each (λ (k : ℕ). Away (size w) (lacking_pieces good saved w s) (counter_piece w k)) (lacking_counters good)
  lacking_spares true saved =
      let k = counted_spares saved in (
        k 8 (omega arith) (omega arith) (scb_down h w s c 12 2 8 2 (omega arith) (omega arith)),
        (
          k 10 (omega arith) (omega arith) (scb_down h w s c 12 2 10 2 (omega arith) (omega arith)),
          (k 14 (omega arith) (omega arith) (scb_up h w s c 12 2 14 2 (omega arith) (omega arith)), tt),
        ),
      )
  lacking_spares false saved =
      let k = saved_spares saved in (
        k 8 (omega arith) (omega arith),
        (k 10 (omega arith) (omega arith), (k 12 (omega arith) (omega arith), (k 14 (omega arith) (omega arith), tt))),
      )

pub closing_clear : (w : World) (s : Storing) (free : Offset) (full : Bool) → Clear (unbuffered s.frame.form) w s
    → (s.el || full ≡ false → NextClear (unbuffered s.frame.form) w s) → NoOverlap (size w) (pieces (ru.Closing s free full) w)
closing_clear w s free full c k = closing_by w s c (s.el || full) k

pub lacking_clear : (w : World) (s : Storing) → Clear (unbuffered s.frame.form) w s → NoOverlap (size w) (pieces (ru.Lacking s) w)
lacking_clear w s c = lacking_by w s c (is_good s.frame) s.frame.savebad

pub closing_spared : (w : World) (s : Storing) (free : Offset) (full : Bool) → Clear (unbuffered s.frame.form) w s
    → (s.el || full ≡ false → NextClear (unbuffered s.frame.form) w s) → Each (Spared (ru.Closing s free full) w) counters
closing_spared w s free full c n =
    let k = closing_spares w s c free full n in (
      k 8 (omega arith) (omega arith),
      (k 10 (omega arith) (omega arith), (k 12 (omega arith) (omega arith), (k 14 (omega arith) (omega arith), tt))),
    )

pub lacking_spared : (w : World) (s : Storing) → Clear (unbuffered s.frame.form) w s
    → Each (Spared (ru.Lacking s) w) (lacking_counters (is_good s.frame))
lacking_spared w s c = lacking_spares w s c (is_good s.frame) s.frame.savebad

-- ---- 02, Wish 4: with location 1 no piece lies over the descriptor from +8 on

module _ (w : World) (s : Storing) (c : Clear 14 w s) (e : s.frame.form.location ≡ true) where
  -- where the longest header would be
  abbrev place-of-it : Piece
  place-of-it = piece (in_frame w s 8) 14

  no_header : Apart (size w) (in_frame w s 8) (unbuffered s.frame.form) (in_frame w s 8) 14
  no_header x hx y hy z = let u = all_in_the_buffers s.frame.form e in absurd (omega (arith, hx, u))

  -- of what is written to the descriptor, status and +6; then of the rest
  bare_leaves : (b : Bool) (rest : List Piece) → Away (size w) rest place-of-it → Away (size w) (bare_piece b w s ++ rest) place-of-it
  bare_leaves true rest r = (header_frame 14 w s c 6 (omega arith), r)
  bare_leaves false rest r = r

  stored_leaves : (rest : List Piece) → Away (size w) rest place-of-it → Away (size w) (stored_pieces w s rest) place-of-it
  stored_leaves rest r = (no_header, (header_frame 14 w s c 0 (omega arith), bare_leaves (is_bare s.frame) rest r))

  -- RSCERRS and the SCB status; +6 of the next frame descriptor
  scb_leaves : Away (size w) (count_piece w ∷ status_piece w ∷ []) place-of-it
  scb_leaves = (header_scb 14 w s c 12 (omega arith), (header_scb 14 w s c 0 (omega arith), tt))

  onward_leaves : (x : Bool) → (x ≡ false → NextClear 14 w s) → Away (size w) (onward_piece x w s ++ status_piece w ∷ []) place-of-it
  onward_leaves true k = scb_leaves.1
  onward_leaves false k = (next_frame 14 w s c 8 14 (k refl) (omega arith), scb_leaves.1)

  lacking_leaves : (good saved : Bool) → Away (size w) (lacking_pieces good saved w s) place-of-it
  lacking_leaves true true = stored_leaves (count_piece w ∷ status_piece w ∷ []) scb_leaves
  lacking_leaves true false = (header_frame 14 w s c 0 (omega arith), scb_leaves)
  lacking_leaves false saved = stored_leaves (status_piece w ∷ []) scb_leaves.1

-- so no byte of it is written by the turn that ends the frame
pub closing_stays : (c : Call) (w : World) (f : Frame) (s : Storing) (free : Offset) (full : Bool) → RightLengths w [] → in_range w.device ≡ true
    → held_in (unit_of w) ≡ f ∷ [] → ends c w ≡ true → unit_of w ≡ ru.Closing s free full → Clear 14 w s → (s.el || full ≡ false → NextClear 14 w s)
    → s.frame.form.location ≡ true
    → bytes_at (ran c w).memory (in_frame w s 8) 14 ≡ bytes_at w.memory (in_frame w s 8) 14
closing_stays c w f s free full l r h n e k j t =
    nothing_else c w f l r h n (piece (in_frame w s 8) 14)
    (subst (λ (u : Ru). Away (size w) (pieces u w) (piece (in_frame w s 8) 14)) (sym e)
    (stored_leaves w s k t (onward_piece (s.el || full) w s ++ status_piece w ∷ []) (onward_leaves w s k t (s.el || full) j)))

pub lacking_stays : (c : Call) (w : World) (f : Frame) (s : Storing) → RightLengths w [] → in_range w.device ≡ true → held_in (unit_of w) ≡ f ∷ []
    → ends c w ≡ true → unit_of w ≡ ru.Lacking s → Clear 14 w s → s.frame.form.location ≡ true
    → bytes_at (ran c w).memory (in_frame w s 8) 14 ≡ bytes_at w.memory (in_frame w s 8) 14
lacking_stays c w f s l r h n e k t =
    nothing_else c w f l r h n (piece (in_frame w s 8) 14)
    (subst (λ (u : Ru). Away (size w) (pieces u w) (piece (in_frame w s 8) 14)) (sym e) (lacking_leaves w s k t (is_good s.frame) s.frame.savebad))
