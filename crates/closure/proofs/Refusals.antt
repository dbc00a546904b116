-- Demand 1: each number is given exactly when the table says, and a refusal changes nothing lent. 01, "Calls, lent areas, refusals". First any
-- list of rows, then each row's test, then the calls. Assumes nothing.
use mathlib.Core.Path.{◌≡◌, refl, sym, ap, ap₂, ◌∙◌, subst}
use mathlib.Core.Bool.{Bool, true, false, not, cond, true≢false, false≢true}
use mathlib.Core.List.{List, [], ◌∷◌}
use mathlib.Core.Logic.{◌⊎◌, inl, inr}
use Prim.Native.Nat.{ℕ, ◌<◌}
use native.Mathlib.Omega.{arith}
use borrow.Author.Tests.{leb-true, le-leb, eqb-true, eqb-false, eq-eqb}
use lib.Dec.{eqb}
use lib.ListN.{length}
use Rattle.std.specs.Prelude.{Option, Some, None}
use Rattle.memory.specs.Size.{Allowed}
use Rattle.memory.proofs.Bytes.{Bytes}
use Rattle.memory.proofs.Power.{allowed, size_allowed_lem}
use Rattle.device.specs.Limits.{holding_size, outgoing_size, record_size, longest}
use Rattle.device.specs.Numbers.{refusal_number, refusal_or_0}
use Rattle.device.proofs.Laws.{one_refusal}
use Rattle.device.specs.declared.Device.{Device}
use Rattle.device.specs.declared.Refusal.{Refusal}
use Rattle.device.specs.declared.Refusal.TheVariants as refusal
use Rattle.device.specs.declared.Units.{Units}
use Rattle.image.specs.Image.{decode_of, device_at}
use Rattle.image.specs.Found.{Found}
use Rattle.image.specs.Found as is
use Rattle.image.proofs.Steps.{decode_other}
use Rattle.image.proofs.Exact.{exact, foreign_exact}
use Rattle.chip.specs.World.{World, Ran, world_of, reset_of}
use Rattle.chip.specs.Attention.{attention_of}
use Rattle.chip.specs.Arrival.{arrival_of}
use Rattle.chip.specs.Turn.{turn_of}
use Rattle.chip.specs.Call.{Call, reset, attention, arrive, turn}
use Rattle.calls.specs.Refusals.{is_right, rows, first_wrong}
use Rattle.calls.specs.Calls.{Areas, answer_number, is_image, lengths_of, refusal_of, refused_answer, refused, on_bytes, called_on, called_by, attention_call, arrival_call, turn_call, renewed_in, renewed, reset_call}
use Rattle.calls.proofs.Answer.{told_number, told_alone, told_whole}
use Rattle.calls.proofs.Laws.{unrefused}
use Rattle.traces.specs.Bytes.{called, number, is_refused}
use Rattle.traces.specs.Areas.{arriving, Holds}
use Rattle.closure.specs.Refusals.{FrameRight, Right, rows_of, TakesAll, FirstWrong, When, Means, Untouched}
use Rattle.closure.proofs.Answers.{number_accepted}

-- ---- any rows, whose tests say what their conditions say

record Decides (right : Bool) (Right : Type 0) : Type 0 where
  sound : right ≡ true → Right
  whole : Right → right ≡ true

module _ (right : Refusal → Bool) (Right : Refusal → Type 0) (decides : (r : Refusal) → Decides (right r) (Right r)) where
  first_wrong_by : (x : Bool) (r : Refusal) (rs : List Refusal) → right r ≡ x → FirstWrong Right rs (refusal_or_0 (first_wrong right rs))
      → FirstWrong Right (r ∷ rs) (refusal_or_0 (cond x (first_wrong right rs) (Some r)))
  first_wrong_by true r rs e more = inr ((decides r).sound e, more)
  first_wrong_by false r rs e more = inl ((λ h. true≢false (sym ((decides r).whole h) ∙ e)), refl)

  -- the test of the first that is wrong is the condition
  first_wrong_lem : (rs : List Refusal) → FirstWrong Right rs (refusal_or_0 (first_wrong right rs))
  first_wrong_lem [] = refl
  first_wrong_lem (r ∷ rs) = first_wrong_by (right r) r rs refl (first_wrong_lem rs)

  only_by : (x : Bool) (r : Refusal) (rs : List Refusal) (n : ℕ) → right r ≡ x → (FirstWrong Right rs n → refusal_or_0 (first_wrong right rs) ≡ n)
      → FirstWrong Right (r ∷ rs) n → refusal_or_0 (cond x (first_wrong right rs) (Some r)) ≡ n
  only_by true r rs n e more (inl (wrong, q)) = absurd (wrong ((decides r).sound e))
  only_by true r rs n e more (inr (h, l)) = more l
  only_by false r rs n e more (inl (wrong, q)) = sym q
  only_by false r rs n e more (inr (h, l)) = absurd (true≢false (sym ((decides r).whole h) ∙ e))

  -- and no other number has that
  first_wrong_only : (rs : List Refusal) (n : ℕ) → FirstWrong Right rs n → refusal_or_0 (first_wrong right rs) ≡ n
  first_wrong_only [] n l = sym l
  first_wrong_only (r ∷ rs) n l = only_by (right r) r rs n refl (first_wrong_only rs n) l

-- a number above 0 is that of a row that is not right
pub wrong_row : (Right : Refusal → Type 0) (rs : List Refusal) (n : ℕ) → 0 < n → FirstWrong Right rs n
    → (r : Refusal) × (n ≡ refusal_number r) × (Right r → ⊥)
wrong_row Right [] n z l = absurd (omega (arith, z, l))
wrong_row Right (r ∷ rs) n z (inl (wrong, q)) = (r, q, wrong)
wrong_row Right (r ∷ rs) n z (inr (h, l)) = wrong_row Right rs n z l

-- ---- each row's test is its condition

decoded_length_by : (x : Bool) (r : List ℕ) (u : Units) → eqb (length r) record_size ≡ x → decode_of r ≡ is.Units u → length r ≡ record_size
decoded_length_by true r u l e = eqb-true _ _ l
decoded_length_by false r u l e = absurd (false≢true (ap is_image (decode_other r (eqb-false _ _ l) ∙ e)))

-- what is decoded has 256 bytes
pub decoded_length : (r : List ℕ) (u : Units) → decode_of r ≡ is.Units u → length r ≡ record_size
decoded_length r u e = decoded_length_by (eqb (length r) record_size) r u refl e

-- a record that is decoded is the image of a state in range
pub holds_of : (r : List ℕ) → Bytes r → (u : Units) → decode_of r ≡ is.Units u → Holds r (device_at r u)
holds_of r b u e = let x = exact r (decoded_length r u e) b u e in record { wide = x.wide; range = x.range; image = x.same }

pub foreign_holds : (r : List ℕ) → decode_of r ≡ is.Foreign → (d : Device) × Holds r d → ⊥
foreign_holds r e h = foreign_exact r e h.0 h.1.wide h.1.range h.1.image

decides_image : (r : List ℕ) → Bytes r → (x : Found) → decode_of r ≡ x → Decides (is_image x) ((d : Device) × Holds r d)
decides_image r b (is.Units u) e = record { sound = λ y. (device_at r u, holds_of r b u e); whole = λ h. refl }
decides_image r b is.Foreign e = record { sound = λ y. absurd (false≢true y); whole = λ h. absurd (foreign_holds r e h) }

decides : (c : Call) (a : Areas) → Bytes a.kept → (r : Refusal)
    → Decides (is_right (lengths_of a (arriving c)) (is_image (decode_of a.kept)) r) (Right c a r)
decides c a b refusal.Memory = record { sound = λ e. allowed (length a.memory) e; whole = λ h. size_allowed_lem (length a.memory) h }
decides c a b refusal.Record = record { sound = λ e. eqb-true _ _ e; whole = λ h. eq-eqb (length a.kept) record_size h }
decides c a b refusal.Holding = record { sound = λ e. eqb-true _ _ e; whole = λ h. eq-eqb (length a.holding) holding_size h }
decides c a b refusal.Outgoing = record { sound = λ e. eqb-true _ _ e; whole = λ h. eq-eqb (length a.outgoing) outgoing_size h }
decides c a b refusal.Overlong = record { sound = λ e. leb-true _ _ e; whole = λ h. le-leb (length (arriving c)) longest h }
decides c a b refusal.Foreign = decides_image a.kept b (decode_of a.kept) refl

-- ---- the number that a call gives is that of the first row that is wrong

kept_number : (x : Ran) → x.outcome.answer.refusal ≡ None → number (on_bytes x).answer ≡ 0
kept_number x e = told_number x.outcome.answer ∙ ap refusal_or_0 e

-- every run of the chip gives number 0
abbrev Accepts : (World → Ran) → Type 0
Accepts run = (w : World) → (run w).outcome.answer.refusal ≡ None

module _ (a : Areas) (f : List ℕ) (run : World → Ran) (n : Accepts run) where
  number_on : (x : Found) → is_image x ≡ true → number (called_on run a x).answer ≡ 0
  number_on (is.Units u) e =
      let w = world_of (device_at a.kept u) a.memory a.holding a.outgoing in kept_number (run w) (n w)
  number_on is.Foreign e = absurd (false≢true e)

  number_by : (r : Option Refusal) → refusal_of a f ≡ r → number (called_by r run a).answer ≡ refusal_or_0 r
  number_by None e = number_on (decode_of a.kept) (unrefused a f e).1
  number_by (Some r) e = told_number (refused_answer r)

  number_of : number (called_by (refusal_of a f) run a).answer ≡ refusal_or_0 (refusal_of a f)
  number_of = number_by (refusal_of a f) refl

number_renewed : (a : Areas) (x : Bool) → number (renewed (cond x None (Some refusal.Record)) a.kept).answer ≡ refusal_or_0 (cond x None (Some refusal.Record))
unfolding reset_of
number_renewed a true = told_number reset_of.answer
number_renewed a false = told_number (refused_answer refusal.Record)

abbrev first_of : Call → Areas → Option Refusal
first_of c a = first_wrong (is_right (lengths_of a (arriving c)) (is_image (decode_of a.kept))) (rows_of c)

given : (c : Call) (a : Areas) → number (called c a).answer ≡ refusal_or_0 (first_of c a)
unfolding attention_call arrival_call turn_call reset_call refusal_of
given reset a = number_renewed a (eqb (length a.kept) record_size)
given attention a = number_of a [] attention_of (number_accepted attention)
given (arrive f v) a = number_of a f (λ w. arrival_of w f v) (number_accepted (arrive f v))
given (turn report) a = number_of a [] (λ w. turn_of w report) (number_accepted (turn report))

-- ---- demand 1: each number is given exactly when document 01's table says, at every call

-- both ways: a number that is given is that of the first row that applies, and that number is given
pub table : (c : Call) (a : Areas) → Bytes a.kept → (n : ℕ)
    → (number (called c a).answer ≡ n → When n c a) × (When n c a → number (called c a).answer ≡ n)
table c a k n =
    let test = is_right (lengths_of a (arriving c)) (is_image (decode_of a.kept)) in (
      (λ e. subst (λ (m : ℕ). When m c a) (sym (given c a) ∙ e) (first_wrong_lem test (Right c a) (decides c a k) (rows_of c))),
      (λ l. given c a ∙ first_wrong_only test (Right c a) (decides c a k) (rows_of c) n l),
    )

-- ---- the table written out: which row a number names

module _ (c : Call) (a : Areas) (k : Bytes a.kept) where
  abbrev tested : Refusal → Bool
  tested = is_right (lengths_of a (arriving c)) (is_image (decode_of a.kept))

  yes : (r : Refusal) → tested r ≡ true → Right c a r
  yes r e = (decides c a k r).sound e

  no : (r : Refusal) → tested r ≡ false → Right c a r → ⊥
  no r e h = true≢false (sym ((decides c a k r).whole h) ∙ e)

  -- what the first row that is not right means is so
  means_by : (m r h o l i : Bool) → tested refusal.Memory ≡ m → tested refusal.Record ≡ r → tested refusal.Holding ≡ h → tested refusal.Outgoing ≡ o
      → tested refusal.Overlong ≡ l → tested refusal.Foreign ≡ i
      → Means
      (cond m
      (cond r
      (cond h (cond o (cond l (cond i None (Some refusal.Foreign)) (Some refusal.Overlong)) (Some refusal.Outgoing)) (Some refusal.Holding))
      (Some refusal.Record))
      (Some refusal.Memory))
      c a
  means_by false r h o l i e1 e2 e3 e4 e5 e6 = no refusal.Memory e1
  means_by true false h o l i e1 e2 e3 e4 e5 e6 = (yes refusal.Memory e1, no refusal.Record e2)
  means_by true true false o l i e1 e2 e3 e4 e5 e6 = (yes refusal.Memory e1, (yes refusal.Record e2, no refusal.Holding e3))
  means_by true true true false l i e1 e2 e3 e4 e5 e6 =
      (yes refusal.Memory e1, (yes refusal.Record e2, (yes refusal.Holding e3, no refusal.Outgoing e4)))
  means_by true true true true false i e1 e2 e3 e4 e5 e6 =
      (yes refusal.Memory e1, (yes refusal.Record e2, (yes refusal.Holding e3, (yes refusal.Outgoing e4, no refusal.Overlong e5))))
  means_by true true true true true false e1 e2 e3 e4 e5 e6 =
      (yes refusal.Memory e1, (yes refusal.Record e2, (yes refusal.Holding e3, (yes refusal.Outgoing e4, (yes refusal.Overlong e5, no refusal.Foreign e6)))))
  means_by true true true true true true e1 e2 e3 e4 e5 e6 =
      (yes refusal.Memory e1, (yes refusal.Record e2, (yes refusal.Holding e3, (yes refusal.Outgoing e4, (yes refusal.Overlong e5, yes refusal.Foreign e6)))))

  means : Means (first_wrong tested rows) c a
  means =
      means_by (tested refusal.Memory) (tested refusal.Record) (tested refusal.Holding) (tested refusal.Outgoing) (tested refusal.Overlong)
      (tested refusal.Foreign) refl refl refl refl refl refl

  -- and no other row does
  right_is : (r : Refusal) → Right c a r → tested r ≡ true
  right_is r h = (decides c a k r).whole h

  wrong_by : (x : Bool) (r : Refusal) → tested r ≡ x → (Right c a r → ⊥) → tested r ≡ false
  wrong_by true r e n = absurd (n (yes r e))
  wrong_by false r e n = e

  wrong_is : (r : Refusal) → (Right c a r → ⊥) → tested r ≡ false
  wrong_is r n = wrong_by (tested r) r refl n

  one_row : (r : Option Refusal) → Means r c a → first_wrong tested rows ≡ r
  one_row (Some refusal.Memory) n = rw (wrong_is refusal.Memory n)
  one_row (Some refusal.Record) (m, n) = rw (right_is refusal.Memory m, wrong_is refusal.Record n)
  one_row (Some refusal.Holding) (m, (r, n)) = rw (right_is refusal.Memory m, right_is refusal.Record r, wrong_is refusal.Holding n)
  one_row (Some refusal.Outgoing) (m, (r, (h, n))) =
      rw (right_is refusal.Memory m, right_is refusal.Record r, right_is refusal.Holding h, wrong_is refusal.Outgoing n)
  one_row (Some refusal.Overlong) (m, (r, (h, (o, n)))) =
      rw (right_is refusal.Memory m, right_is refusal.Record r, right_is refusal.Holding h, right_is refusal.Outgoing o, wrong_is refusal.Overlong n)
  one_row (Some refusal.Foreign) (m, (r, (h, (o, (l, n))))) =
      rw (
        right_is refusal.Memory m,
        right_is refusal.Record r,
        right_is refusal.Holding h,
        right_is refusal.Outgoing o,
        right_is refusal.Overlong l,
        wrong_is refusal.Foreign n,
      )
  one_row None (m, (r, (h, (o, (l, i))))) =
      rw (
        right_is refusal.Memory m,
        right_is refusal.Record r,
        right_is refusal.Holding h,
        right_is refusal.Outgoing o,
        right_is refusal.Overlong l,
        right_is refusal.Foreign i,
      )

  -- so a number is given exactly when its row's line says so
  named : rows_of c ≡ rows → (r : Option Refusal)
      → (number (called c a).answer ≡ refusal_or_0 r → Means r c a) × (Means r c a → number (called c a).answer ≡ refusal_or_0 r)
  named all r =
      let g : number (called c a).answer ≡ refusal_or_0 (first_wrong tested rows) = given c a ∙ ap (λ (rs : List Refusal). refusal_or_0 (first_wrong tested rs)) all in (
        (λ e. subst (λ (x : Option Refusal). Means x c a) (one_refusal (first_wrong tested rows) r (sym g ∙ e)) means),
        (λ s. g ∙ ap refusal_or_0 (one_row r s)),
      )

pub written_out : (c : Call) (a : Areas) → Bytes a.kept
    → TakesAll c
    ((r : Option Refusal)
    → (number (called c a).answer ≡ refusal_or_0 r → Means r c a) × (Means r c a → number (called c a).answer ≡ refusal_or_0 r))
written_out reset a k = tt
written_out attention a k = named attention a k refl
written_out (arrive f v) a k = named (arrive f v) a k refl
written_out (turn report) a k = named (turn report) a k refl

-- of reset
reset_by : (a : Areas) (x : Bool) → eqb (length a.kept) record_size ≡ x
    → ((length a.kept ≡ record_size) × (refusal_or_0 (cond x None (Some refusal.Record)) ≡ 0))
    ⊎ ((length a.kept ≡ record_size → ⊥) × (refusal_or_0 (cond x None (Some refusal.Record)) ≡ 21))
reset_by a true e = inl (eqb-true _ _ e, refl)
reset_by a false e = inr (eqb-false _ _ e, refl)

pub reset_numbers : (a : Areas)
    → ((length a.kept ≡ record_size) × (number (called reset a).answer ≡ 0))
    ⊎ ((length a.kept ≡ record_size → ⊥) × (number (called reset a).answer ≡ 21))
reset_numbers a = rw (given reset a) (reset_by a (eqb (length a.kept) record_size) refl)

-- ---- a call that is not refused

-- what is lent with one that takes all four
pub record AllRight (c : Call) (a : Areas) : Type 0 where
  pub size : Allowed (length a.memory)
  pub kept : length a.kept ≡ record_size
  pub holding : length a.holding ≡ holding_size
  pub outgoing : length a.outgoing ≡ outgoing_size
  pub frame : FrameRight c
  pub image : (d : Device) × Holds a.kept d

abbrev pub Unrefused : Call → Areas → Type 0
Unrefused reset a = length a.kept ≡ record_size
Unrefused attention a = AllRight attention a
Unrefused (arrive f v) a = AllRight (arrive f v) a
Unrefused (turn report) a = AllRight (turn report) a

-- a row's condition, if no number is given, and what is asked after it
right : (P : Type 0) (k : ℕ) (Rest : Type 0) → 0 < k → ((P → ⊥) × (0 ≡ k)) ⊎ (P × Rest) → P × Rest
right P k Rest z (inl (wrong, q)) = absurd (omega (arith, z, q))
right P k Rest z (inr x) = x

all_right_lem : (c : Call) (a : Areas) → FirstWrong (Right c a) rows 0 → AllRight c a
all_right_lem c a l =
    let m = right (Right c a refusal.Memory) 1 _ (omega arith) l in
    let k = right (Right c a refusal.Record) 21 _ (omega arith) m.1 in
    let h = right (Right c a refusal.Holding) 22 _ (omega arith) k.1 in
    let o = right (Right c a refusal.Outgoing) 23 _ (omega arith) h.1 in
    let f = right (Right c a refusal.Overlong) 3 _ (omega arith) o.1 in
    let i = right (Right c a refusal.Foreign) 4 _ (omega arith) f.1 in
    record { size = m.0; kept = k.0; holding = h.0; outgoing = o.0; frame = f.0; image = i.0 }

pub none_given : (c : Call) (a : Areas) → When 0 c a → Unrefused c a
none_given reset a l = (right (Right reset a refusal.Record) 21 _ (omega arith) l).0
none_given attention a l = all_right_lem attention a l
none_given (arrive f v) a l = all_right_lem (arrive f v) a l
none_given (turn report) a l = all_right_lem (turn report) a l

none_wrong : (c : Call) (a : Areas) → AllRight c a → FirstWrong (Right c a) rows 0
none_wrong c a r = inr (r.size, inr (r.kept, inr (r.holding, inr (r.outgoing, inr (r.frame, inr (r.image, refl))))))

pub gives_none : (c : Call) (a : Areas) → Unrefused c a → When 0 c a
gives_none reset a r = inr (r, refl)
gives_none attention a r = none_wrong attention a r
gives_none (arrive f v) a r = none_wrong (arrive f v) a r
gives_none (turn report) a r = none_wrong (turn report) a r

-- ---- demand 1: a refusal changes no lent byte, and gives length 0, no edge and no reason

refused_untouched : (r : Refusal) (a : Areas) → Untouched a (refused r a)
refused_untouched r a =
    let t = told_alone (refused_answer r) (omega arith) in
    record {
      areas = refl;
      length = t.sent;
      edge = t.edged;
      reason = t.explained;
      whole = told_whole (refused_answer r) refl refl refl ∙ sym (told_number (refused_answer r));
    }

not_zero : (x : ℕ) → x ≡ 0 → not (eqb x 0) ≡ true → ⊥
not_zero x e h = false≢true (sym (ap not (eq-eqb x 0 e)) ∙ h)

module _ (a : Areas) (run : World → Ran) (n : Accepts run) where
  on_untouched : (x : Found) → is_refused (called_on run a x) ≡ true → Untouched a (called_on run a x)
  on_untouched (is.Units u) h =
      let w = world_of (device_at a.kept u) a.memory a.holding a.outgoing in
      absurd (not_zero (number (on_bytes (run w)).answer) (kept_number (run w) (n w)) h)
  on_untouched is.Foreign h = refused_untouched refusal.Foreign a

  run_untouched : (r : Option Refusal) → is_refused (called_by r run a) ≡ true → Untouched a (called_by r run a)
  run_untouched None h = on_untouched (decode_of a.kept) h
  run_untouched (Some r) h = refused_untouched r a

reset_untouched : (a : Areas) (x : Bool) → let r = cond x None (Some refusal.Record) in
    is_refused (renewed_in a (renewed r a.kept)) ≡ true → Untouched a (renewed_in a (renewed r a.kept))
unfolding reset_of
reset_untouched a true h = absurd (not_zero (number (answer_number reset_of.answer)) (told_number reset_of.answer) h)
reset_untouched a false h =
    let x = refused_untouched refusal.Record a in record { areas = refl; length = x.length; edge = x.edge; reason = x.reason; whole = x.whole }

pub untouched : (c : Call) (a : Areas) → is_refused (called c a) ≡ true → Untouched a (called c a)
unfolding attention_call arrival_call turn_call reset_call
untouched reset a h = reset_untouched a (eqb (length a.kept) record_size) h
untouched attention a h = run_untouched a attention_of (number_accepted attention) (refusal_of a []) h
untouched (arrive f v) a h = run_untouched a (λ w. arrival_of w f v) (number_accepted (arrive f v)) (refusal_of a f) h
untouched (turn report) a h = run_untouched a (λ w. turn_of w report) (number_accepted (turn report)) (refusal_of a []) h

-- so all of it is its number, and what was lent
pub refused_whole : (c : Call) (a : Areas) → is_refused (called c a) ≡ true → called c a ≡ record { answer = number (called c a).answer; areas = a }
refused_whole c a h =
    let u = untouched c a h in ap₂ (λ (n : ℕ) (b : Areas). record { answer = n; areas = b }) u.whole u.areas
