-- An answer taken apart gives back its parts: number, length, edge, reason, and the turns of a run. Assumes nothing.
use mathlib.Core.Path.{◌≡◌, sym, ap, ◌∙◌, subst}
use mathlib.Core.Bool.{Bool, true, false}
use Prim.Native.Nat.{ℕ, ◌+◌, ◌*◌, ◌/◌, ◌^◌, ◌<◌}
use native.Mathlib.Omega.{arith}
use Rattle.std.specs.Prelude.{Option, Some, None}
use Rattle.scb.specs.Words.{bits_at, one}
use Rattle.device.specs.Numbers.{refusal_number, refusal_or_0, reason_number, reason_or_0}
use Rattle.device.specs.declared.Answer.{Answer}
use Rattle.device.specs.declared.Reason.{Reason}
use Rattle.device.specs.declared.Reason.TheVariants as reasons
use Rattle.device.specs.declared.Refusal.{Refusal}
use Rattle.device.specs.declared.Refusal.TheVariants as refusal
use Rattle.calls.specs.Answer.{answer_number, with_turns, number, sent_length, edge, reason, turns_taken, without_turns}

-- ---- of numbers that fit: n the number, l the length, e the edge, y the reason, k the turns

module _ (n l e y k : ℕ) (n-below : n < 2 ^ 16) where
  abbrev joined : ℕ
  joined = n + l * 2 ^ 16 + e * 2 ^ 32 + y * 2 ^ 40 + k * 2 ^ 48

  number_of : number joined ≡ n
  unfolding bits_at
  number_of =
      let q : joined / 2 ^ 0 ≡ n + (l + (e + (y + k * 2 ^ 8) * 2 ^ 8) * 2 ^ 16) * 2 ^ 16 = omega arith in
      rw q (omega arith)

  module _ (l-below : l < 2 ^ 16) where
    length_of_lem : sent_length joined ≡ l
    unfolding bits_at
    length_of_lem =
        let q : joined / 2 ^ 16 ≡ l + (e + (y + k * 2 ^ 8) * 2 ^ 8) * 2 ^ 16 = omega arith in
        rw q (omega arith)

    module _ (e-below : e < 2) where
      edge_of : edge joined ≡ e
      unfolding bits_at
      edge_of =
          let q : joined / 2 ^ 32 ≡ e + (y + k * 2 ^ 8) * 2 ^ 7 * 2 = omega arith in
          rw q (omega arith)

      module _ (y-below : y < 2 ^ 8) where
        reason_of_lem : reason joined ≡ y
        unfolding bits_at
        reason_of_lem =
            let q : joined / 2 ^ 40 ≡ y + k * 2 ^ 8 = omega arith in
            rw q (omega arith)

        turns_of_lem : turns_taken joined ≡ k
        turns_of_lem = omega arith

        rest_of : without_turns joined ≡ n + l * 2 ^ 16 + e * 2 ^ 32 + y * 2 ^ 40
        unfolding bits_at
        rest_of = omega arith

-- ---- of an answer

refusal_below_lem : (r : Refusal) → refusal_number r < 2 ^ 16
refusal_below_lem refusal.Memory = omega arith
refusal_below_lem refusal.Record = omega arith
refusal_below_lem refusal.Holding = omega arith
refusal_below_lem refusal.Outgoing = omega arith
refusal_below_lem refusal.Overlong = omega arith
refusal_below_lem refusal.Foreign = omega arith

pub refusal_below : (r : Option Refusal) → refusal_or_0 r < 2 ^ 16
refusal_below None = omega arith
refusal_below (Some r) = refusal_below_lem r

reason_below_lem : (r : Reason) → reason_number r < 2 ^ 8
reason_below_lem reasons.TooFew = omega arith
reason_below_lem reasons.NoMatch = omega arith
reason_below_lem reasons.UnitIdle = omega arith
reason_below_lem reasons.UnitSuspended = omega arith
reason_below_lem reasons.Bad = omega arith

reason_below : (r : Option Reason) → reason_or_0 r < 2 ^ 8
reason_below None = omega arith
reason_below (Some r) = reason_below_lem r

one_below : (b : Bool) → one b < 2
one_below true = omega arith
one_below false = omega arith

-- the parts of an answer that is made with so many turns
pub record Told (a : Answer) (turns n : ℕ) : Type 0 where
  pub sent : sent_length n ≡ a.length
  pub edged : edge n ≡ one a.edge
  pub explained : reason n ≡ reason_or_0 a.reason
  pub taken : turns_taken n ≡ turns
  pub last : without_turns n ≡ answer_number a

pub told : (a : Answer) (turns : ℕ) → a.length < 2 ^ 16 → Told a turns (with_turns (answer_number a) turns)
unfolding answer_number
told a turns l =
    let n = refusal_below a.refusal in
    let e = one_below a.edge in
    let y = reason_below a.reason in
    record {
      sent = length_of_lem _ _ _ _ turns n l;
      edged = edge_of _ _ _ _ turns n l e;
      explained = reason_of_lem _ _ _ _ turns n l e y;
      taken = turns_of_lem _ _ _ _ turns n l e y;
      last = rest_of _ _ _ _ turns n l e y;
    }

-- the number, however long the frame sent
pub told_number_of_run : (a : Answer) (turns : ℕ) → number (with_turns (answer_number a) turns) ≡ refusal_or_0 a.refusal
unfolding answer_number
told_number_of_run a turns = number_of (refusal_or_0 a.refusal) a.length (one a.edge) (reason_or_0 a.reason) turns (refusal_below a.refusal)

-- an answer with no turns
turnless : (n : ℕ) → with_turns n 0 ≡ n
turnless n = omega arith

pub told_number : (a : Answer) → number (answer_number a) ≡ refusal_or_0 a.refusal
told_number a = ap number (sym (turnless (answer_number a))) ∙ told_number_of_run a 0

pub told_alone : (a : Answer) → a.length < 2 ^ 16 → Told a 0 (answer_number a)
told_alone a l = subst (Told a 0) (turnless (answer_number a)) (told a 0 l)

-- a refused call's is its number alone
pub told_whole : (a : Answer) → a.length ≡ 0 → a.edge ≡ false → a.reason ≡ None → answer_number a ≡ refusal_or_0 a.refusal
unfolding answer_number
told_whole a l e y =
    let z : one a.edge ≡ 0 = ap one e in
    let x : reason_or_0 a.reason ≡ 0 = ap reason_or_0 y in
    omega (arith, l, z, x)
