-- Each wrong kind has a chip that is of it and no worse: all that the kind does not speak of is what the definitions leave, at every call. Assumes
-- nothing.
use mathlib.Core.Path.{◌≡◌, refl, sym, ap, ap₂, ◌∙◌}
use mathlib.Core.Bool.{Bool, true, false, not, cond, ◌&&◌}
use mathlib.Core.List.{List, [], ◌∷◌}
use mathlib.Core.Logic.{inl, inr}
use Prim.Native.Nat.{ℕ, zero, suc, ◌+◌, ◌-◌, ◌*◌, ◌/◌, ◌%◌, ◌^◌, ◌≤◌, ◌<◌}
use native.Mathlib.Omega.{arith}
use lib.Dec.{eqb}
use lib.ListN.{length, get_or, set, length-set}
use lib.Seq.{sets, length-sets, get_or-set_other}
use Rattle.memory.specs.Address.{place}
use Rattle.memory.specs.Memory.{put_byte, put_bytes, digits, word_at, apply}
use Rattle.memory.specs.declared.Offset.{Offset}
use Rattle.memory.specs.declared.RealAddress.{RealAddress}
use Rattle.memory.proofs.Laws.{length-put_bytes, length_apply}
use Rattle.scb.specs.Words.{bits_at}
use Rattle.device.specs.declared.Cu.{Cu}
use Rattle.numerals.proofs.Laws.{length_from}
use Rattle.packed.specs.Record.{setup_at}
use Rattle.packed.specs.SetUp.{setup_size}
use Rattle.actions.specs.Block.{block_status_at, argument_at}
use Rattle.chip.specs.Call.{Call, reset, attention, arrive, turn}
use Rattle.calls.specs.Calls.{Areas, Called}
use Rattle.traces.specs.Areas.{units_in}
use Rattle.traces.specs.Bytes.{called, number, sent_length, is_refused}
use Rattle.closure.specs.Refusals.{Untouched}
use Rattle.closure.proofs.Refusals.{untouched}
use Rattle.closure.proofs.Carried.{areas_as_long}
use Rattle.kinds.specs.Chips.{Handed}
use Rattle.kinds.specs.Demands.{lent_of}
use Rattle.kinds.specs.Kinds.{setup_in, from_edge, RefusesAll, OneAnswer, MemoryAsLent}
use Rattle.kinds.specs.Spoiled.{Piece, the_number, the_length, the_edge, memory_byte, holding_byte, outgoing_byte, record_byte, byte_in, piece_of, AsOursBut, plain, as_lent, refusing, with_answer, answering, OfAnswer, with_memory, leaving, OfMemory, spoiling, SpoiltTurn, always, at_seven, unset, OfSetup, measured_in, words_to, unmeasured, ByteOfWord, ByteOfWords, OfWords, OfWord, waited_in, marked_at_once, OfMark, unsent, unacted, OfAction, turned_over, overruns_in, counted_on, OfOverruns, setting_nothing, measuring_nothing, sending_nothing, marking_only, marking_at_seven, marking_at_once, inventing, counting}

-- ---- the pieces are all: what has the same pieces is the same

same_list : (xs ys : List ℕ) → ((i : ℕ) → byte_in i xs ≡ byte_in i ys) → xs ≡ ys
same_list [] [] h = refl
same_list [] (y ∷ ys) h = let e = h 0 in absurd (let z : ◌≡◌ {A = ℕ} 0 1 = cc in omega arith)
same_list (x ∷ xs) [] h = let e = h 0 in absurd (let z : ◌≡◌ {A = ℕ} 0 1 = cc in omega arith)
same_list (x ∷ xs) (y ∷ ys) h =
    let e = h 0 in let head : x ≡ y = cc in ap₂ (λ (z : ℕ) (zs : List ℕ). z ∷ zs) head (same_list xs ys (λ i. h (suc i)))

only : (x y : ℕ) → ◌≡◌ {A = List ℕ} (x ∷ []) (y ∷ []) → x ≡ y
only x y e = cc

together : ℕ → ℕ → ℕ → ℕ
together n l e = n + l * 2 ^ 16 + e * 2 ^ 32

taken_apart_lem : (x : ℕ) → x ≡ together (number x) (sent_length x) (from_edge x)
unfolding bits_at together
taken_apart_lem x = omega arith

same_answer : (x y : ℕ) → number x ≡ number y → sent_length x ≡ sent_length y → from_edge x ≡ from_edge y → x ≡ y
same_answer x y p q r = taken_apart_lem x ∙ rw (p, q, r) (sym (taken_apart_lem y))

pub same_pieces : (r s : Called) → ((p : Piece) → piece_of p r ≡ piece_of p s) → r ≡ s
same_pieces r s h =
    rw (
      same_answer r.answer s.answer (only _ _ (h the_number)) (only _ _ (h the_length)) (only _ _ (h the_edge)),
      same_list r.areas.memory s.areas.memory (λ i. h (memory_byte i)),
      same_list r.areas.holding s.areas.holding (λ i. h (holding_byte i)),
      same_list r.areas.outgoing s.areas.outgoing (λ i. h (outgoing_byte i)),
      same_list r.areas.kept s.areas.kept (λ i. h (record_byte i)),
    )

at_index : (i : ℕ) (xs ys : List ℕ) → length xs ≡ length ys → get_or xs i 0 ≡ get_or ys i 0 → byte_in i xs ≡ byte_in i ys
at_index i [] [] n e = refl
at_index i [] (y ∷ ys) n e = absurd (omega (arith, n))
at_index i (x ∷ xs) [] n e = absurd (omega (arith, n))
at_index zero (x ∷ xs) (y ∷ ys) n e = ap (λ (z : ℕ). z ∷ []) e
at_index (suc i) (x ∷ xs) (y ∷ ys) n e = at_index i xs ys (omega (arith, n)) e

-- ---- a chip that refuses everything

above : (n : ℕ) (b : Bool) → eqb n 0 ≡ b → not b ≡ true → 0 < n
above n true e z = absurd (let y : ◌≡◌ {A = ℕ} 0 1 = cc in omega arith)
above zero false e z = absurd (let y : ◌≡◌ {A = ℕ} 0 1 = cc in omega arith)
above (suc n) false e z = omega arith

refuses_by : (b : Bool) (r : Called) (a : Areas) → is_refused r ≡ b → 0 < number (cond b r (as_lent 1 a)).answer
unfolding bits_at
refuses_by true r a e = above (number r.answer) (eqb (number r.answer) 0) refl e
refuses_by false r a e = omega arith

pub refusing_is_of_its_kind : RefusesAll refusing
refusing_is_of_its_kind = record { each = λ s c d m h out k l. refuses_by (is_refused (called c (lent_of d m h out))) _ _ refl }

-- a call that is to be refused is refused as document 01 says
pub refusing_is_no_worse : AsOursBut refusing (λ s c a p. is_refused (called c a) ≡ false) (λ a r. as_lent 1 a)
refusing_is_no_worse =
    record { those = λ s c a p l h. rw h; others = λ s c a p l h. right_by (is_refused (called c a)) (called c a) a p h }
  where
    right_by : (b : Bool) (r : Called) (a : Areas) (p : Piece) → (b ≡ false → ⊥) → piece_of p (cond b r (as_lent 1 a)) ≡ piece_of p r
    right_by true r a p h = refl
    right_by false r a p h = absurd (h refl)

-- and a refusal changes nothing lent
pub refusing_changes_nothing : (c : Call) (a : Areas) → Untouched a (refusing.calls tt c a)
unfolding bits_at
refusing_changes_nothing c a = kept_by (is_refused (called c a)) (called c a) refl (untouched c a)
  where
    kept_by : (b : Bool) (r : Called) → is_refused r ≡ b → (is_refused r ≡ true → Untouched a r) → Untouched a (cond b r (as_lent 1 a))
    kept_by true r e h = h e
    kept_by false r e h = record { areas = refl; length = refl; edge = refl; reason = refl; whole = refl }

-- ---- one with a constant answer

pub answering_is_of_its_kind : (n : ℕ) → OneAnswer (answering n)
answering_is_of_its_kind n = record { answer = n; each = λ s c d m h out k l. refl }

pub answering_is_no_worse : (n : ℕ) → AsOursBut (answering n) (λ s c a p. OfAnswer p) (λ a. with_answer n)
answering_is_no_worse n = record { those = λ s c a p l h. refl; others = λ s c a p l h. rest c a p h }
  where
    rest : (c : Call) (a : Areas) (p : Piece) → (OfAnswer p → ⊥) → piece_of p ((answering n).calls tt c a) ≡ piece_of p (called c a)
    rest c a the_number h = absurd (h tt)
    rest c a the_length h = absurd (h tt)
    rest c a the_edge h = absurd (h tt)
    rest c a (memory_byte i) h = refl
    rest c a (holding_byte i) h = refl
    rest c a (outgoing_byte i) h = refl
    rest c a (record_byte i) h = refl

-- ---- one that leaves memory untouched

pub leaving_is_of_its_kind : MemoryAsLent leaving
leaving_is_of_its_kind = record { each = λ s c d m h out k l. refl }

pub leaving_is_no_worse : AsOursBut leaving (λ s c a p. OfMemory p) (λ a. with_memory a.memory)
leaving_is_no_worse = record { those = λ s c a p l h. refl; others = λ s c a p l h. rest c a p h }
  where
    rest : (c : Call) (a : Areas) (p : Piece) → (OfMemory p → ⊥) → piece_of p (leaving.calls tt c a) ≡ piece_of p (called c a)
    rest c a the_number h = refl
    rest c a the_length h = refl
    rest c a the_edge h = refl
    rest c a (memory_byte i) h = absurd (h tt)
    rest c a (holding_byte i) h = refl
    rest c a (outgoing_byte i) h = refl
    rest c a (record_byte i) h = refl

-- ---- what spoils a turn alone, and of that some pieces alone

pub chosen : (x y : Bool) (s r : Called) (p : Piece) → (x ≡ true → y ≡ false → piece_of p s ≡ piece_of p r)
    → piece_of p (cond (x && not y) s r) ≡ piece_of p r
chosen true true s r p h = refl
chosen true false s r p h = h refl refl
chosen false y s r p h = refl

module _ (at : ℕ → Bool) (spoil : Areas → Called → Called) (Of : Areas → Piece → Type 0)
    (law : (report : ℕ) (a : Areas) (p : Piece) → Handed (turn report) a → (Of a p → ⊥)
    → piece_of p (spoil a (called (turn report) a)) ≡ piece_of p (called (turn report) a)) where
  spoils_those : (c : Call) (a : Areas) (p : Piece) → SpoiltTurn at c a → piece_of p (spoiling at spoil c a) ≡ piece_of p (spoil a (called c a))
  spoils_those reset a p h = absurd h
  spoils_those attention a p h = absurd h
  spoils_those (arrive f v) a p h = absurd h
  spoils_those (turn report) a p h = rw (h.0, h.1)

  spoils_no_others : (c : Call) (a : Areas) (p : Piece) → Handed c a → (SpoiltTurn at c a × Of a p → ⊥)
      → piece_of p (spoiling at spoil c a) ≡ piece_of p (called c a)
  spoils_no_others reset a p l h = refl
  spoils_no_others attention a p l h = refl
  spoils_no_others (arrive f v) a p l h = refl
  spoils_no_others (turn report) a p l h =
      let r = called (turn report) a in chosen (at report) (is_refused r) (spoil a r) r p (λ e k. law report a p l (λ o. h ((e, k), o)))

  spoils_no_more : AsOursBut (plain (spoiling at spoil)) (λ s c a p. SpoiltTurn at c a × Of a p) spoil
  spoils_no_more = record { those = λ s c a p l h. spoils_those c a p h.0; others = λ s c a p l h. spoils_no_others c a p l h }

-- the settings
sets_other : (vs xs : List ℕ) (at i : ℕ) → ((at ≤ i) × (i < at + length vs) → ⊥) → get_or (sets xs at vs) i 0 ≡ get_or xs i 0
sets_other [] xs at i h = refl
sets_other (v ∷ vs) xs at i h =
    sets_other vs (set xs at v) (suc at) i (λ k. h (omega (arith, k.0), omega (arith, k.1)))
    ∙ get_or-set_other xs at i v 0 (λ e. h (omega (arith, e), omega (arith, e)))

unset_rest : (a : Areas) (r : Called) (p : Piece) → (OfSetup p → ⊥) → piece_of p (unset a r) ≡ piece_of p r
unset_rest a r the_number h = refl
unset_rest a r the_length h = refl
unset_rest a r the_edge h = refl
unset_rest a r (memory_byte i) h = refl
unset_rest a r (holding_byte i) h = refl
unset_rest a r (outgoing_byte i) h = refl
unset_rest a r (record_byte i) h =
    let k = r.areas.kept in
    let s = setup_in a.kept in
    at_index i (sets k setup_at s) k (length-sets k setup_at s)
    (sets_other s k setup_at i (λ q. h (q.0, omega (arith, q.1, length_from a.kept setup_at setup_size))))

-- words of blocks, TDR's among them
word_elsewhere : (m : List ℕ) (at w i : ℕ) → (ByteOfWord (length m) at i → ⊥) → get_or (put_bytes m at (digits 2 w)) i 0 ≡ get_or m i 0
unfolding put_bytes put_byte digits
word_elsewhere m at w i h =
    let x = set m (at % length m) (w % 256) in
    let n : length x ≡ length m = length-set m (at % length m) (w % 256) in
    let one : suc at ≡ at + 1 = omega arith in
    get_or-set_other x (suc at % length x) i (w / 256 % 256) 0 (λ e. h (inr (rw (n, one) at e))) ∙ get_or-set_other m (at % length m) i (w % 256) 0 (λ e. h (inl e))

words_elsewhere : (base : RealAddress) (field : ℕ) (value : Offset → ℕ) (os : List Offset) (m : List ℕ) (i : ℕ)
    → (ByteOfWords (length m) base field os i → ⊥)
    → get_or (apply (words_to base field value os) m) i 0 ≡ get_or m i 0
words_elsewhere base field value [] m i h = refl
words_elsewhere base field value (o ∷ os) m i h =
    let at = place base o field in
    let n : length (put_bytes m at (digits 2 (value o))) ≡ length m = length-put_bytes m at (digits 2 (value o)) in
    words_elsewhere base field value os (put_bytes m at (digits 2 (value o))) i (λ k. h (inr (rw n at k)))
    ∙ word_elsewhere m at (value o) i (λ e. h (inl e))

words_rest : (field : ℕ) (value : Offset → ℕ) (blocks : Cu → List Offset) (a : Areas) (r : Called) (p : Piece)
    → length r.areas.memory ≡ length a.memory → (OfWords field blocks a p → ⊥)
    → let u = units_in a.kept in
    piece_of p (with_memory (apply (words_to u.base field value (blocks u.cu)) r.areas.memory) r) ≡ piece_of p r
words_rest field value blocks a r the_number n h = refl
words_rest field value blocks a r the_length n h = refl
words_rest field value blocks a r the_edge n h = refl
words_rest field value blocks a r (memory_byte i) n h =
    let u = units_in a.kept in
    let os = blocks u.cu in
    let m = r.areas.memory in
    at_index i (apply (words_to u.base field value os) m) m (length_apply (words_to u.base field value os) m)
    (words_elsewhere u.base field value os m i (λ k. h (rw n at k)))
words_rest field value blocks a r (holding_byte i) n h = refl
words_rest field value blocks a r (outgoing_byte i) n h = refl
words_rest field value blocks a r (record_byte i) n h = refl

unmeasured_rest : (a : Areas) (r : Called) (p : Piece) → length r.areas.memory ≡ length a.memory → (OfWord a p → ⊥)
    → piece_of p (unmeasured a r) ≡ piece_of p r
unmeasured_rest a r p n h = words_rest argument_at (λ o. word_at a.memory (place (units_in a.kept).base o argument_at)) measured_in a r p n h

-- the length
unsent_number : (x : ℕ) → number (number x + from_edge x * 2 ^ 32) ≡ number x
unfolding bits_at
unsent_number x = omega arith

unsent_edge : (x : ℕ) → from_edge (number x + from_edge x * 2 ^ 32) ≡ from_edge x
unfolding bits_at
unsent_edge x = omega arith

pub unsent_length : (x : ℕ) → sent_length (number x + from_edge x * 2 ^ 32) ≡ 0
unfolding bits_at
unsent_length x = omega arith

unsent_rest : (r : Called) (p : Piece) → (p ≡ the_length → ⊥) → piece_of p (unsent r) ≡ piece_of p r
unsent_rest r the_number h = ap (λ (x : ℕ). x ∷ []) (unsent_number r.answer)
unsent_rest r the_length h = absurd (h refl)
unsent_rest r the_edge h = ap (λ (x : ℕ). x ∷ []) (unsent_edge r.answer)
unsent_rest r (memory_byte i) h = refl
unsent_rest r (holding_byte i) h = refl
unsent_rest r (outgoing_byte i) h = refl
unsent_rest r (record_byte i) h = refl

-- the edge
over_number : (x : ℕ) → number (x % 2 ^ 32 + (1 - from_edge x) * 2 ^ 32) ≡ number x
unfolding bits_at
over_number x = omega arith

over_length : (x : ℕ) → sent_length (x % 2 ^ 32 + (1 - from_edge x) * 2 ^ 32) ≡ sent_length x
unfolding bits_at
over_length x = omega arith

pub over_edge : (x : ℕ) → from_edge (x % 2 ^ 32 + (1 - from_edge x) * 2 ^ 32) ≡ 1 - from_edge x
over_edge x = omega arith

over_rest : (r : Called) (p : Piece) → (p ≡ the_edge → ⊥) → piece_of p (turned_over r) ≡ piece_of p r
over_rest r the_number h = ap (λ (x : ℕ). x ∷ []) (over_number r.answer)
over_rest r the_length h = ap (λ (x : ℕ). x ∷ []) (over_length r.answer)
over_rest r the_edge h = absurd (h refl)
over_rest r (memory_byte i) h = refl
over_rest r (holding_byte i) h = refl
over_rest r (outgoing_byte i) h = refl
over_rest r (record_byte i) h = refl

-- a counter
counted_rest : (a : Areas) (r : Called) (p : Piece) → length r.areas.memory ≡ length a.memory → (OfOverruns a p → ⊥)
    → piece_of p (counted_on a r) ≡ piece_of p r
counted_rest a r the_number n h = refl
counted_rest a r the_length n h = refl
counted_rest a r the_edge n h = refl
counted_rest a r (memory_byte i) n h =
    let m = r.areas.memory in
    let at = overruns_in a in
    let w = (word_at m at + 1) % 65536 in
    at_index i (put_bytes m at (digits 2 w)) m (length-put_bytes m at (digits 2 w)) (word_elsewhere m at w i (λ k. h (rw n at k)))
counted_rest a r (holding_byte i) n h = refl
counted_rest a r (outgoing_byte i) n h = refl
counted_rest a r (record_byte i) n h = refl

-- all three
pub as_long : (report : ℕ) (a : Areas) → Handed (turn report) a → length (called (turn report) a).areas.memory ≡ length a.memory
as_long report a l = (areas_as_long (turn report) a l.given.frame l.areas).memory

unacted_rest : (a : Areas) (r : Called) (p : Piece) → length r.areas.memory ≡ length a.memory → (OfAction a p → ⊥)
    → piece_of p (unacted a r) ≡ piece_of p r
unacted_rest a r p n h =
    unsent_rest (unmeasured a (unset a r)) p (λ o. h (inr (inr o))) ∙ unmeasured_rest a (unset a r) p n (λ o. h (inr (inl o)))
    ∙ unset_rest a r p (λ o. h (inl o))

pub setting_nothing_is_no_worse : AsOursBut setting_nothing (λ s c a p. SpoiltTurn always c a × OfSetup p) unset
setting_nothing_is_no_worse = spoils_no_more always unset (λ a. OfSetup) (λ report a p l. unset_rest a (called (turn report) a) p)

pub measuring_nothing_is_no_worse : AsOursBut measuring_nothing (λ s c a p. SpoiltTurn always c a × OfWord a p) unmeasured
measuring_nothing_is_no_worse =
    spoils_no_more always unmeasured OfWord (λ report a p l. unmeasured_rest a (called (turn report) a) p (as_long report a l))

pub sending_nothing_is_no_worse : AsOursBut sending_nothing (λ s c a p. SpoiltTurn always c a × (p ≡ the_length)) (λ a. unsent)
sending_nothing_is_no_worse = spoils_no_more always (λ a. unsent) (λ a p. p ≡ the_length) (λ report a p l. unsent_rest (called (turn report) a) p)

pub marking_only_is_no_worse : AsOursBut marking_only (λ s c a p. SpoiltTurn always c a × OfAction a p) unacted
marking_only_is_no_worse =
    spoils_no_more always unacted OfAction (λ report a p l. unacted_rest a (called (turn report) a) p (as_long report a l))

pub marking_at_seven_is_no_worse : AsOursBut marking_at_seven (λ s c a p. SpoiltTurn at_seven c a × OfAction a p) unacted
marking_at_seven_is_no_worse =
    spoils_no_more at_seven unacted OfAction (λ report a p l. unacted_rest a (called (turn report) a) p (as_long report a l))

pub marking_at_once_is_no_worse : AsOursBut marking_at_once (λ s c a p. SpoiltTurn at_seven c a × OfMark a p) marked_at_once
marking_at_once_is_no_worse =
    spoils_no_more at_seven marked_at_once OfMark
    (λ report a p l. words_rest block_status_at (λ o. 0xA000) waited_in a (called (turn report) a) p (as_long report a l))

pub inventing_is_no_worse : AsOursBut inventing (λ s c a p. SpoiltTurn at_seven c a × (p ≡ the_edge)) (λ a. turned_over)
inventing_is_no_worse = spoils_no_more at_seven (λ a. turned_over) (λ a p. p ≡ the_edge) (λ report a p l. over_rest (called (turn report) a) p)

pub counting_is_no_worse : AsOursBut counting (λ s c a p. SpoiltTurn at_seven c a × OfOverruns a p) counted_on
counting_is_no_worse =
    spoils_no_more at_seven counted_on OfOverruns (λ report a p l. counted_rest a (called (turn report) a) p (as_long report a l))
