-- What follows from the promises for every chip that meets them, ours among them: demand 1 and demand 2. Assumes nothing.
use mathlib.Core.Path.{◌≡◌, refl, sym, ◌∙◌}
use mathlib.Core.Bool.{Bool, true, false, not}
use Prim.Native.Nat.{ℕ, zero, suc, ◌<◌}
use native.Mathlib.Omega.{arith}
use borrow.Author.Tests.{eq-eqb, eqb-true}
use lib.Dec.{eqb}
use lib.ListN.{length}
use Rattle.device.specs.Limits.{record_size}
use Rattle.device.specs.State.{fresh}
use Rattle.image.proofs.Exact.{level}
use Rattle.chip.specs.World.{Ran, world_of}
use Rattle.chip.specs.Call.{Call, reset, attention, arrive, turn, ran}
use Rattle.calls.specs.Calls.{Areas, Called, on_bytes, reset_call}
use Rattle.traces.specs.Bytes.{called, number}
use Rattle.kinds.specs.Chips.{Chip, ours, Handed, Meets}
use Rattle.closure.specs.Refusals.{When, Untouched}
use Rattle.closure.proofs.Refusals.{table, AllRight, Unrefused, none_given, untouched}
use Rattle.kinds.specs.Demands.{Tabled, Demand1, Acceptable, lent_of, AsDefined, Demand2}
use Rattle.kinds.proofs.Equal.{permits, ours_meets, as_called}
use Rattle.kinds.proofs.Accepted.{accepted_call}

-- ---- the table

-- a number above 0 is a refusal
above : (n : ℕ) (b : Bool) → eqb n 0 ≡ b → 0 < n → not b ≡ true
above n true e z = absurd (omega (arith, eqb-true n 0 e))
above n false e z = refl

pub called_tabled : (c : Call) (a : Areas) → Handed c a → Tabled c a (called c a)
called_tabled c a l =
    record {
      given = λ k q. (table c a l.areas.kept k).1 q;
      only = λ k q. (table c a l.areas.kept k).0 q;
      refused = λ z. untouched c a (above (number (called c a).answer) (eqb (number (called c a).answer) 0) refl z);
    }

-- ---- the demands, of every chip that meets the promises

as_kept : (x : Ran) → AsDefined x (on_bytes x)
as_kept x =
    record { answer = refl; memory = refl; holding = refl; outgoing = refl; kept = refl; interrupt = sym (level x.outcome.device) }

reset_called : (a : Areas) → length a.kept ≡ record_size
    → called reset a ≡ on_bytes (ran reset (world_of fresh a.memory a.holding a.outgoing))
unfolding reset_call
reset_called a e = rw (eq-eqb (length a.kept) record_size e)

pub has_demand1 : (chip : Chip) → Meets chip → Demand1 chip
has_demand1 chip p = record { each = λ s c a l. rw (as_called chip p s c a l) (called_tabled c a l) }

pub has_demand2 : (chip : Chip) → Meets chip → Demand2 chip
has_demand2 chip p =
    record {
      each = λ s c d m h out k l. rw (as_called chip p s c (lent_of d m h out) l, accepted_call d m h out c k) (as_kept (ran c (world_of d m h out)));
      renewed =
          λ s a l e.
          rw (as_called chip p s reset a l, reset_called a e) (as_kept (ran reset (world_of fresh a.memory a.holding a.outgoing)));
    }

pub ours_demand1 : Demand1 ours
ours_demand1 = has_demand1 ours ours_meets

pub ours_demand2 : Demand2 ours
ours_demand2 = has_demand2 ours ours_meets

-- ---- and the other way: the two demands together are the promises

both_untouched : (a : Areas) (x y : Called) → number x.answer ≡ number y.answer → Untouched a x → Untouched a y → x ≡ y
both_untouched a x y n p q =
    rw (p.whole ∙ n ∙ sym q.whole, p.areas ∙ sym q.areas)

pub defined_kept : (x : Ran) (r : Called) → AsDefined x r → r ≡ on_bytes x
defined_kept x r p = rw (p.answer, p.memory, p.holding, p.outgoing, p.kept)

module _ (chip : Chip) (one : Demand1 chip) (two : Demand2 chip) (s : chip.Inner) where
  on_state : (c : Call) (a : Areas) → Handed c a → AllRight c a → chip.calls s c a ≡ called c a
  on_state c a l g =
      let d = g.image.0 in
      let i = g.image.1 in
      let m = a.memory in
      let k : Acceptable c (d) m a.holding a.outgoing =
      record { size = g.size; holding = g.holding; outgoing = g.outgoing; frame = g.frame; wide = i.wide; range = i.range }
      in
      let at = lent_of (d) m a.holding a.outgoing in
      let same : a ≡ at = rw i.image in
      let lent : Handed c at = rw (← same) l in
      rw same
      (defined_kept _ _ (two.each s c (d) m a.holding a.outgoing k lent)
      ∙ sym (accepted_call (d) m a.holding a.outgoing c k))

  accepting : (c : Call) (a : Areas) → Handed c a → Unrefused c a → chip.calls s c a ≡ called c a
  accepting reset a l p = defined_kept _ _ (two.renewed s a l p) ∙ sym (reset_called a p)
  accepting attention a l p = on_state attention a l p
  accepting (arrive f v) a l p = on_state (arrive f v) a l p
  accepting (turn report) a l p = on_state (turn report) a l p

  either : (c : Call) (a : Areas) (n : ℕ) → Handed c a → When n c a → chip.calls s c a ≡ called c a
  either c a zero l p = accepting c a l (none_given c a p)
  either c a (suc n) l p =
      let t = one.each s c a l in
      let u = called_tabled c a l in
      let x = t.given (suc n) p in
      let y = u.given (suc n) p in
      both_untouched a (chip.calls s c a) (called c a) (x ∙ sym y) (t.refused (omega (arith, x))) (u.refused (omega (arith, y)))

pub demands_meet : (chip : Chip) → Demand1 chip → Demand2 chip → Meets chip
demands_meet chip p q =
    record {
      each =
          λ s c a l.
          let n = number (chip.calls s c a).answer in
          rw (either chip p q s c a n l ((p.each s c a l).only n refl)) (permits c a);
    }
