-- Demand 2 of frames, corollary: where no piece lies over another, stored and counted are facts about memory at exit; and where no piece lies over them no
-- counter moves but the one that is counted. Assumes nothing.
use mathlib.Core.Path.{◌≡◌, refl, sym, ap, ap₂, ◌∙◌, subst}
use mathlib.Core.Bool.{Bool, true, false, ◌||◌, true≢false}
use mathlib.Core.List.{List, [], ◌∷◌, ◌++◌}
use Prim.Native.Nat.{ℕ, ◌+◌, ◌%◌, ◌≤◌}
use native.Mathlib.Omega.{arith}
use lib.ListN.{length, take}
use lib.Seq.{length-take-le}
use Rattle.memory.specs.Memory.{Write, word_to, count_to, word_at, bytes_at, field_at, value, digits, put_bytes, apply}
use Rattle.memory.proofs.Fields.{Apart, AllApart, apply_other, bytes_same, length_digits, value_digits}
use Rattle.memory.proofs.Laws.{apply_append, length_apply, length-put_bytes}
use Rattle.memory.proofs.Power.{allowed}
use Rattle.memory.specs.declared.Offset.{Offset}
use Rattle.scb.specs.Words.{bit, scb_status_at}
use Rattle.device.specs.Header.{unbuffered}
use Rattle.device.specs.Limits.{holding_size}
use Rattle.device.specs.State.{held_in, is_good}
use Rattle.device.specs.declared.Frame.{Frame}
use Rattle.device.specs.declared.Ru.{Ru}
use Rattle.device.specs.declared.Ru.TheVariants as ru
use Rattle.device.specs.declared.Storing.{Storing}
use Rattle.device.specs.declared.Verdict.{Verdict}
use Rattle.device.specs.declared.Verdict.TheVariants as verdict
use Rattle.image.specs.Ranges.{in_range}
use Rattle.image.proofs.Exact.{frame_form}
use Rattle.closure.proofs.Units.{unbuffered_most}
use Rattle.receive.specs.Begin.{is_bare}
use Rattle.receive.specs.End.{frame_status, bare_mark}
use Rattle.chip.specs.Call.{Call, reset, attention, arrive, turn, ran}
use Rattle.chip.specs.World.{World, Ran}
use Rattle.frames.specs.Arrival.{RightLengths, in_scb, unit_of}
use Rattle.frames.specs.Held.{loses, ends, in_frame, header_to, mark_to, bare_to, described, onward_by, onward, status_after, Stored, Counted, GoodFate, BadFate}
use Rattle.frames.specs.Held as held
use Rattle.frames.specs.Stands.{Separate, StoredStands, Piece, piece, Away, NoOverlap, next_first, bare_piece, onward_piece, count_piece}
use Rattle.frames.specs.Stands.{status_piece, lacking_pieces, pieces, PieceStands, CounterStands, CountersStand, CountedStands, GoodExit, BadExit}
use Rattle.frames.specs.Stands as exit
use Rattle.frames.proofs.Held.{held_fits, good_held, bad_held}

-- ---- what is written stands at the end, if no later write meets it

last_stands : (x : Write) (post : List Write) (m : List ℕ) → length x.bytes ≤ length m → AllApart (length m) post x.to (length x.bytes)
    → bytes_at (apply (x ∷ post) m) x.to (length x.bytes) ≡ x.bytes
last_stands x post m l a =
    apply_other post (put_bytes m x.to x.bytes) x.to (length x.bytes) (rw length-put_bytes a) ∙ bytes_same m x.to x.bytes l

pub stands : (pre : List Write) (x : Write) (post : List Write) (m : List ℕ) → length x.bytes ≤ length m
    → AllApart (length m) post x.to (length x.bytes)
    → bytes_at (apply (pre ++ x ∷ post) m) x.to (length x.bytes) ≡ x.bytes
stands pre x post m l a = rw apply_append (last_stands x post (apply pre m) (rw length_apply l) (rw length_apply a))

-- a word that is written stands as a number
pub word_stands : (pre : List Write) (a v : ℕ) (post : List Write) (m : List ℕ) → 2 ≤ length m → AllApart (length m) post a 2
    → word_at (apply (pre ++ word_to a v ∷ post) m) a ≡ v % 65536
unfolding field_at
word_stands pre a v post m l p =
    let d = length_digits 2 v in
    ap value
    (subst (λ (k : ℕ). bytes_at (apply (pre ++ word_to a v ∷ post) m) a k ≡ digits 2 v) d
    (stands pre (word_to a v) post m (rw length_digits l) (rw length_digits p)))
    ∙ value_digits 2 v

-- ---- what is separate

apart_sym : (n a j b k : ℕ) → Apart n a j b k → Apart n b k a j
apart_sym n a j b k p x hx y hy e = p y hy x hx (sym e)

one_apart : (n : ℕ) (pre : List Write) (x : Write) (post : List Write) (b k : ℕ) → AllApart n (pre ++ x ∷ post) b k
    → Apart n x.to (length x.bytes) b k
one_apart n [] x post b k a = a.0
one_apart n (y ∷ pre) x post b k a = one_apart n pre x post b k a.1

pub after_apart : (n : ℕ) (pre : List Write) (x : Write) (post : List Write) → Separate n (pre ++ x ∷ post)
    → AllApart n post x.to (length x.bytes)
after_apart n [] x post s = s.0
after_apart n (y ∷ pre) x post s = after_apart n pre x post s.1

pub before_apart : (n : ℕ) (pre : List Write) (x : Write) (post : List Write) → Separate n (pre ++ x ∷ post)
    → AllApart n pre x.to (length x.bytes)
before_apart n [] x post s = tt
before_apart n (y ∷ pre) x post s =
    let k = one_apart n pre x post y.to (length y.bytes) s.0 in
    (apart_sym n x.to (length x.bytes) y.to (length y.bytes) k, before_apart n pre x post s.1)

-- ---- the status is a word

word_by_lem : (lacking short : Bool) (v : Verdict) (f : Frame) → f.verdict ≡ v → f.short ≡ short → frame_status lacking f % 65536 ≡ frame_status lacking f
unfolding frame_status
word_by_lem true true verdict.Good f a b = rw (a, b)
word_by_lem true true verdict.Crc f a b = rw (a, b)
word_by_lem true true verdict.Misaligned f a b = rw (a, b)
word_by_lem true false verdict.Good f a b = rw (a, b)
word_by_lem true false verdict.Crc f a b = rw (a, b)
word_by_lem true false verdict.Misaligned f a b = rw (a, b)
word_by_lem false true verdict.Good f a b = rw (a, b)
word_by_lem false true verdict.Crc f a b = rw (a, b)
word_by_lem false true verdict.Misaligned f a b = rw (a, b)
word_by_lem false false verdict.Good f a b = rw (a, b)
word_by_lem false false verdict.Crc f a b = rw (a, b)
word_by_lem false false verdict.Misaligned f a b = rw (a, b)

-- ---- stored

pub stored_stands : (lacking : Bool) (s : Storing) (rest : List Write) (w : World) (r : Ran) → Stored lacking s rest w r
    → length w.holding ≡ holding_size
    → unbuffered s.frame.form ≤ 14
    → 14 ≤ length w.memory
    → Separate (length w.memory) (header_to w s ∷ mark_to w s (frame_status lacking s.frame) ∷ rest)
    → StoredStands lacking s w r
stored_stands lacking s rest w r x h f l p =
    let u = unbuffered s.frame.form in
    let n = length-take-le u w.holding (omega arith) in
    let status = frame_status lacking s.frame in
    let d = length_digits 2 status in
    let e : word_at r.memory (in_frame w s 0) ≡ status =
    ap (λ (m : List ℕ). word_at m (in_frame w s 0)) x.memory
    ∙ word_stands (header_to w s ∷ []) (in_frame w s 0) status rest w.memory (omega arith)
    (subst (AllApart (length w.memory) rest (in_frame w s 0)) d p.1.0)
    ∙ word_by_lem lacking s.frame.short s.frame.verdict s.frame refl refl
    in
    record {
      bytes =
          ap (λ (m : List ℕ). bytes_at m (in_frame w s 8) u) x.memory
          ∙ subst
          (λ (k : ℕ). bytes_at (apply (header_to w s ∷ mark_to w s status ∷ rest) w.memory) (in_frame w s 8) k ≡ take u w.holding)
          n
          (stands [] (header_to w s) (mark_to w s status ∷ rest) w.memory (omega (arith, n)) p.0);
      status = e;
      complete = ap (λ (k : ℕ). bit k 15) e ∙ x.complete;
      lacks = ap (λ (k : ℕ). bit k 9) e ∙ x.lacks;
    }

-- ---- counted

pub one_more_lem : (others : List Write) (w : World) (r : Ran) → Counted others w r → 2 ≤ length w.memory
    → Separate (length w.memory) (others ++ (count_to (apply others w.memory) (in_scb w 12) ∷ status_after w r))
    → word_at r.memory (in_scb w 12) ≡ (word_at w.memory (in_scb w 12) + 1) % 65536
unfolding field_at
one_more_lem others w r x l p =
    let a = in_scb w 12 in
    let v = (word_at (apply others w.memory) a + 1) % 65536 in
    let d = length_digits 2 v in
    let n = length w.memory in
    let same : word_at (apply others w.memory) a ≡ word_at w.memory a =
    ap value (apply_other others w.memory a 2 (subst (AllApart n others a) d (before_apart n others (word_to a v) (status_after w r) p)))
    in
    ap (λ (m : List ℕ). word_at m a) x.memory
    ∙ word_stands others a v (status_after w r) w.memory l
    (subst (AllApart n (status_after w r) a) d (after_apart n others (word_to a v) (status_after w r) p))
    ∙ omega (arith, same)

-- ---- the pieces by their places

piece_of : Write → Piece
piece_of x = piece x.to (length x.bytes)

pieces_of : List Write → List Piece
pieces_of [] = []
pieces_of (x ∷ xs) = piece_of x ∷ pieces_of xs

away_apart : (n : ℕ) (xs : List Write) (p : Piece) → Away n (pieces_of xs) p → AllApart n xs p.from p.size
unfolding pieces_of piece_of
away_apart n [] p h = tt
away_apart n (x ∷ xs) p h = (h.0, away_apart n xs p h.1)

separate : (n : ℕ) (xs : List Write) → NoOverlap n (pieces_of xs) → Separate n xs
unfolding pieces_of piece_of
separate n [] h = tt
separate n (x ∷ xs) h = (away_apart n xs (piece_of x) h.0, separate n xs h.1)

word_piece : (a v : ℕ) → piece_of (word_to a v) ≡ piece a 2
unfolding piece_of
word_piece a v = ap (piece a) (length_digits 2 v)

header_piece : (w : World) (s : Storing) → length w.holding ≡ holding_size → unbuffered s.frame.form ≤ 14
    → piece_of (header_to w s) ≡ piece (in_frame w s 8) (unbuffered s.frame.form)
unfolding piece_of
header_piece w s h f = ap (piece (in_frame w s 8)) (length-take-le (unbuffered s.frame.form) w.holding (omega arith))

status_piece_lem : (w : World) (r : Ran) → pieces_of (status_after w r) ≡ status_piece w ∷ []
unfolding pieces_of
status_piece_lem w r = ap (λ (p : Piece). p ∷ []) (word_piece (in_scb w scb_status_at) _)

front2 : {a b c d : Piece} {ps qs : List Piece} → a ≡ c → b ≡ d → ps ≡ qs → a ∷ b ∷ ps ≡ c ∷ d ∷ qs
front2 x y z = ap₂ (λ (p : Piece) (l : List Piece). p ∷ l) x (ap₂ (λ (p : Piece) (l : List Piece). p ∷ l) y z)

front3 : {a b c d e f : Piece} {ps qs : List Piece} → a ≡ d → b ≡ e → c ≡ f → ps ≡ qs → a ∷ b ∷ c ∷ ps ≡ d ∷ e ∷ f ∷ qs
front3 x y z t = ap₂ (λ (p : Piece) (l : List Piece). p ∷ l) x (front2 y z t)

-- ---- the writes of an end turn lie where the pieces are

ending_pieces : (b : Bool) (w : World) (s : Storing) (status : ℕ) (rest : List Write) (ps : List Piece) → length w.holding ≡ holding_size
    → unbuffered s.frame.form ≤ 14
    → pieces_of rest ≡ ps
    → pieces_of (header_to w s ∷ mark_to w s status ∷ (bare_mark b (in_frame w s 6) ++ rest))
    ≡ piece (in_frame w s 8) (unbuffered s.frame.form) ∷ piece (in_frame w s 0) 2 ∷ (bare_piece b w s ++ ps)
unfolding pieces_of
ending_pieces true w s status rest ps h u e =
    front3 (header_piece w s h u) (word_piece (in_frame w s 0) status) (word_piece (in_frame w s 6) 0xFFFF) e
ending_pieces false w s status rest ps h u e = front2 (header_piece w s h u) (word_piece (in_frame w s 0) status) e

onward_pieces : (x : Bool) (w : World) (r : Ran) (s : Storing) (free : Offset)
    → pieces_of (onward_by x w s free ++ status_after w r) ≡ onward_piece x w s ++ status_piece w ∷ []
unfolding pieces_of
onward_pieces true w r s free = status_piece_lem w r
onward_pieces false w r s free = ap₂ (λ (a : Piece) (l : List Piece). a ∷ l) (word_piece (next_first w s) free.0) (status_piece_lem w r)

count_pieces : (w : World) (r : Ran) (v : ℕ) → pieces_of (word_to (in_scb w 12) v ∷ status_after w r) ≡ count_piece w ∷ status_piece w ∷ []
unfolding pieces_of
count_pieces w r v = ap₂ (λ (a : Piece) (l : List Piece). a ∷ l) (word_piece (in_scb w 12) v) (status_piece_lem w r)

-- all being stored; out of buffers, a good frame and a bad one
closing_pieces : (w : World) (r : Ran) (s : Storing) (free : Offset) (full : Bool) → length w.holding ≡ holding_size → unbuffered s.frame.form ≤ 14
    → unit_of w ≡ ru.Closing s free full
    → pieces_of (header_to w s ∷ mark_to w s (frame_status false s.frame) ∷ (bare_to w s ++ (onward w s free full ++ status_after w r))) ≡ pieces (unit_of w) w
closing_pieces w r s free full h u e =
    let x = s.el || full in
    ending_pieces (is_bare s.frame) w s (frame_status false s.frame) (onward w s free full ++ status_after w r)
    (onward_piece x w s ++ status_piece w ∷ []) h u (onward_pieces x w r s free)
    ∙ sym (ap (λ (u : Ru). pieces u w) e)

lacking_pieces_lem : (w : World) (s : Storing) (f : Frame) (good saved : Bool) → unit_of w ≡ ru.Lacking s → s.frame ≡ f → is_good f ≡ good → f.savebad ≡ saved
    → lacking_pieces good saved w s ≡ pieces (unit_of w) w
lacking_pieces_lem w s f good saved e q g b = sym
    (ap (λ (u : Ru). pieces u w) e
    ∙ ap₂ (λ (x y : Bool). lacking_pieces x y w s) (ap is_good q ∙ g) (ap (λ (x : Frame). x.savebad) q ∙ b))

counted_pieces : (w : World) (r : Ran) (s : Storing) (f : Frame) (v : ℕ) → unit_of w ≡ ru.Lacking s → s.frame ≡ f → is_good f ≡ true → f.savebad ≡ false
    → pieces_of (mark_to w s 0x0000 ∷ word_to (in_scb w 12) v ∷ status_after w r) ≡ pieces (unit_of w) w
unfolding pieces_of
counted_pieces w r s f v e q g b =
    front2 (word_piece (in_frame w s 0) 0x0000) (word_piece (in_scb w 12) v) (status_piece_lem w r) ∙ lacking_pieces_lem w s f true false e q g b

both_pieces : (w : World) (r : Ran) (s : Storing) (f : Frame) (v : ℕ) → length w.holding ≡ holding_size → unbuffered s.frame.form ≤ 14 → unit_of w ≡ ru.Lacking s → s.frame ≡ f
    → is_good f ≡ true → f.savebad ≡ true
    → pieces_of (header_to w s ∷ mark_to w s (frame_status true s.frame) ∷ (bare_to w s ++ (word_to (in_scb w 12) v ∷ status_after w r))) ≡ pieces (unit_of w) w
both_pieces w r s f v h u e q g b =
    ending_pieces (is_bare s.frame) w s (frame_status true s.frame) (word_to (in_scb w 12) v ∷ status_after w r)
    (count_piece w ∷ status_piece w ∷ []) h u (count_pieces w r v)
    ∙ lacking_pieces_lem w s f true true e q g b

saved_pieces : (w : World) (r : Ran) (s : Storing) (f : Frame) → length w.holding ≡ holding_size → unbuffered s.frame.form ≤ 14 → unit_of w ≡ ru.Lacking s → s.frame ≡ f
    → is_good f ≡ false
    → pieces_of (header_to w s ∷ mark_to w s (frame_status true s.frame) ∷ (bare_to w s ++ status_after w r)) ≡ pieces (unit_of w) w
saved_pieces w r s f h u e q g =
    ending_pieces (is_bare s.frame) w s (frame_status true s.frame) (status_after w r) (status_piece w ∷ []) h u (status_piece_lem w r)
    ∙ lacking_pieces_lem w s f false f.savebad e q g refl

-- ---- so where no piece lies over another what is written stands, and so does a counter that no piece lies over

separate_at : (n : ℕ) (writes : List Write) (ps : List Piece) → pieces_of writes ≡ ps → NoOverlap n ps → Separate n writes
separate_at n writes ps e p = separate n writes (subst (NoOverlap n) (sym e) p)

untouched : (writes : List Write) (w : World) (r : Ran) → pieces_of writes ≡ pieces (unit_of w) w → r.memory ≡ apply writes w.memory
    → (p : Piece) → PieceStands w r p
untouched writes w r e m p a =
    let n = length w.memory in
    ap (λ (q : List ℕ). bytes_at q p.from p.size) m
    ∙ apply_other writes w.memory p.from p.size (away_apart n writes p (subst (λ (l : List Piece). Away n l p) (sym e) a))

counter_stands : (writes : List Write) (w : World) (r : Ran) → pieces_of writes ≡ pieces (unit_of w) w → r.memory ≡ apply writes w.memory
    → (counter : ℕ) → CounterStands w r counter
counter_stands writes w r e m counter = untouched writes w r e m (piece (in_scb w counter) 2)

counters_stand : (writes : List Write) (w : World) (r : Ran) → pieces_of writes ≡ pieces (unit_of w) w → r.memory ≡ apply writes w.memory
    → CountersStand w r
counters_stand writes w r e m =
    let k = counter_stands writes w r e m in
    (k 8, (k 10, (k 12, (k 14, tt))))

counted_stands : (others : List Write) (w : World) (r : Ran) → Counted others w r → 2 ≤ length w.memory
    → pieces_of (others ++ (count_to (apply others w.memory) (in_scb w 12) ∷ status_after w r)) ≡ pieces (unit_of w) w
    → NoOverlap (length w.memory) (pieces (unit_of w) w)
    → CountedStands w r
counted_stands others w r x l e p =
    let k = counter_stands _ w r e x.memory in
    record {
      more = one_more_lem others w r x l (separate_at (length w.memory) _ (pieces (unit_of w) w) e p);
      others = (k 8, (k 10, (k 14, tt)));
    }

-- 0000h of a frame that is not kept
cleared : (w : World) (r : Ran) (s : Storing) → Counted (mark_to w s 0x0000 ∷ []) w r → 2 ≤ length w.memory
    → Separate (length w.memory) (mark_to w s 0x0000 ∷ count_to (apply (mark_to w s 0x0000 ∷ []) w.memory) (in_scb w 12) ∷ status_after w r)
    → word_at r.memory (in_frame w s 0) ≡ 0x0000
cleared w r s x l p =
    let rest = count_to (apply (mark_to w s 0x0000 ∷ []) w.memory) (in_scb w 12) ∷ status_after w r in
    ap (λ (m : List ℕ). word_at m (in_frame w s 0)) x.memory
    ∙ word_stands [] (in_frame w s 0) 0x0000 rest w.memory l
    (subst (AllApart (length w.memory) rest (in_frame w s 0)) (length_digits 2 0x0000) p.0)

-- ---- the demand, as facts about memory at exit

-- the frame that is being stored is the one that is held
as_it_is : (f : Frame) (s : Storing) → s.frame ≡ f → unbuffered f.form ≤ 14 → unbuffered s.frame.form ≤ 14
as_it_is f s q u = subst (λ (x : Frame). unbuffered x.form ≤ 14) (sym q) u

exit_of : (c : Call) (w : World) (f : Frame) → length w.holding ≡ holding_size → unbuffered f.form ≤ 14 → 14 ≤ length w.memory → is_good f ≡ true
    → NoOverlap (length w.memory) (pieces (unit_of w) w)
    → GoodFate f c w
    → GoodExit f c w
exit_of c w f h u l g p (held.stays a b k m) = exit.stays a b k m
exit_of c w f h u l g p (held.stored s free full n e q x k z) =
    let v = as_it_is f s q u in
    let o = closing_pieces w (ran c w) s free full h v e in
    exit.stored s free full n e q x (stored_stands false s _ w (ran c w) k h v l (separate_at (length w.memory) _ (pieces (unit_of w) w) o p))
    (counters_stand _ w (ran c w) o k.memory) z
exit_of c w f h u l g p (held.counted s n e q b x k z) =
    let o = counted_pieces w (ran c w) s f _ e q g b in
    exit.counted s n e q b x (cleared w (ran c w) s k (omega arith) (separate_at (length w.memory) _ (pieces (unit_of w) w) o p))
    (counted_stands (mark_to w s 0x0000 ∷ []) w (ran c w) k (omega arith) o p) z
exit_of c w f h u l g p (held.both s n e q b x k j z) =
    let v = as_it_is f s q u in
    let o = both_pieces w (ran c w) s f ((word_at (apply (described true w s) w.memory) (in_scb w 12) + 1) % 65536) h v e q g b in
    exit.both s n e q b x (stored_stands true s _ w (ran c w) k h v l (separate_at (length w.memory) _ (pieces (unit_of w) w) o p))
    (counted_stands (described true w s) w (ran c w) j (omega arith) o p) z
exit_of c w f h u l g p (held.lost a k) = exit.lost a k

-- every call that is not refused, while a good frame is held, where no piece that is written lies over another
pub good_exit : (c : Call) (w : World) (f : Frame) → RightLengths w [] → in_range w.device ≡ true → held_in (unit_of w) ≡ f ∷ [] → is_good f ≡ true
    → NoOverlap (length w.memory) (pieces (unit_of w) w)
    → GoodExit f c w
good_exit c w f l r h g p =
    let least = (allowed (length w.memory) l.size).least in
    exit_of c w f l.area (unbuffered_most f.form (frame_form f (held_fits w.device f r h))) (omega arith) g p (good_held c w f r h g)

-- ---- a bad frame

bad_exit_of : (c : Call) (w : World) (f : Frame) → length w.holding ≡ holding_size → unbuffered f.form ≤ 14 → 14 ≤ length w.memory → is_good f ≡ false
    → NoOverlap (length w.memory) (pieces (unit_of w) w)
    → BadFate f c w
    → BadExit f c w
bad_exit_of c w f h u l g p (held.stays a b k m) = exit.stays a b k m
bad_exit_of c w f h u l g p (held.stored s free full n e q x k z) =
    let v = as_it_is f s q u in
    let o = closing_pieces w (ran c w) s free full h v e in
    exit.stored s free full n e q x (stored_stands false s _ w (ran c w) k h v l (separate_at (length w.memory) _ (pieces (unit_of w) w) o p))
    (counters_stand _ w (ran c w) o k.memory) z
bad_exit_of c w f h u l g p (held.lacking s n e q x k z) =
    let v = as_it_is f s q u in
    let o = saved_pieces w (ran c w) s f h v e q g in
    exit.lacking s n e q x (stored_stands true s _ w (ran c w) k h v l (separate_at (length w.memory) _ (pieces (unit_of w) w) o p))
    (counters_stand _ w (ran c w) o k.memory) z
bad_exit_of c w f h u l g p (held.lost a k) = exit.lost a k

-- every call that is not refused, while a bad frame is held, where no piece that is written lies over another
pub bad_exit : (c : Call) (w : World) (f : Frame) → RightLengths w [] → in_range w.device ≡ true → held_in (unit_of w) ≡ f ∷ [] → is_good f ≡ false
    → NoOverlap (length w.memory) (pieces (unit_of w) w)
    → BadExit f c w
bad_exit c w f l r h g p =
    let least = (allowed (length w.memory) l.size).least in
    bad_exit_of c w f l.area (unbuffered_most f.form (frame_form f (held_fits w.device f r h))) (omega arith) g p (bad_held c w f r h g)

-- ---- nothing else is written

-- a call that ends the frame loses none
ends_loses : (c : Call) (w : World) → ends c w ≡ true → loses c w ≡ true → ⊥
ends_loses reset w e l = true≢false (sym e)
ends_loses attention w e l = true≢false (sym e)
ends_loses (arrive f v) w e l = true≢false (sym e)
ends_loses (turn report) w e l = true≢false (sym l)

module _ (c : Call) (w : World) (f : Frame) (h : length w.holding ≡ holding_size) (u : unbuffered f.form ≤ 14) (n : ends c w ≡ true) (p : Piece) where
  good_else : is_good f ≡ true → GoodFate f c w → PieceStands w (ran c w) p
  good_else g (held.stays a b k m) = absurd (true≢false (sym n ∙ b))
  good_else g (held.stored s free full m e q x k z) = untouched _ w (ran c w) (closing_pieces w (ran c w) s free full h (as_it_is f s q u) e) k.memory p
  good_else g (held.counted s m e q b x k z) = untouched _ w (ran c w) (counted_pieces w (ran c w) s f _ e q g b) k.memory p
  good_else g (held.both s m e q b x k j z) =
      untouched _ w (ran c w)
      (both_pieces w (ran c w) s f ((word_at (apply (described true w s) w.memory) (in_scb w 12) + 1) % 65536) h (as_it_is f s q u) e q g b) k.memory p
  good_else g (held.lost a k) = absurd (ends_loses c w n a)

  bad_else : is_good f ≡ false → BadFate f c w → PieceStands w (ran c w) p
  bad_else g (held.stays a b k m) = absurd (true≢false (sym n ∙ b))
  bad_else g (held.stored s free full m e q x k z) = untouched _ w (ran c w) (closing_pieces w (ran c w) s free full h (as_it_is f s q u) e) k.memory p
  bad_else g (held.lacking s m e q x k z) = untouched _ w (ran c w) (saved_pieces w (ran c w) s f h (as_it_is f s q u) e q g) k.memory p
  bad_else g (held.lost a k) = absurd (ends_loses c w n a)

-- a turn that ends a frame, good or bad, leaves as it was what none of its pieces lies over
pub nothing_else : (c : Call) (w : World) (f : Frame) → RightLengths w [] → in_range w.device ≡ true → held_in (unit_of w) ≡ f ∷ [] → ends c w ≡ true
    → (p : Piece) → PieceStands w (ran c w) p
nothing_else c w f l r h n p =
    let u = unbuffered_most f.form (frame_form f (held_fits w.device f r h)) in
    by (is_good f) refl (λ g. good_else c w f l.area u n p g (good_held c w f r h g)) (λ g. bad_else c w f l.area u n p g (bad_held c w f r h g))
  where
    by : (b : Bool) → is_good f ≡ b → (is_good f ≡ true → PieceStands w (ran c w) p) → (is_good f ≡ false → PieceStands w (ran c w) p) → PieceStands w (ran c w) p
    by true e x y = x e
    by false e x y = y e
