-- A machine's held frame comes to its end within twice the services that are left. Assumes nothing.
use mathlib.Core.Path.{◌≡◌, refl, ap, ◌∙◌}
use mathlib.Core.Bool.{Bool, true, false}
use mathlib.Core.List.{List, [], ◌∷◌}
use Prim.Native.Nat.{ℕ, zero, suc, ◌+◌, ◌*◌, ◌≤◌}
use native.Mathlib.Omega.{arith}
use Rattle.progress.specs.Trace.{AllMay, bit, turns}
use Rattle.progress.specs.Holder.{Holder, Went, ended, goes, Stays, Laws, Ends}
use Rattle.progress.proofs.Machine.{bit_le}

module _ (H : Holder) where
  open H use {S, E, step, is_turn, held, served, last, left, O, ends, F, frame, of}

  -- one event more at the front
  later : (n k : ℕ) (x : F) (e : E) (es : List E) (s : S) → bit (is_turn e) + n ≤ k → held s ≡ true → frame s ≡ x → ends e s ≡ []
      → Ends H n x es (step e s) → Ends H k x (e ∷ es) s
  later n k x e es s le h f z r =
      record {
        before = e ∷ r.before;
        event = r.event;
        after = r.after;
        split = ap (λ (l : List E). e ∷ l) r.split;
        soon = omega (arith, le, r.soon);
        holds = ((h, f), z, r.holds);
        turned = r.turned;
        note = r.note;
        noted = r.noted;
        own = r.own;
      }

  module _ (may : E → S → Type 0) (K : Laws H may) where
    -- n turns are enough
    abbrev Enough : ℕ → F → List E → S → Type 0
    Enough n x es s =
        AllMay may step es s → held s ≡ true → frame s ≡ x → 2 * left s + bit (last s) ≤ n + 1 → n ≤ turns is_turn es → Ends H n x es s

    went : (n : ℕ) (x : F) (e : E) (es : List E) (s : S) → is_turn e ≡ true → held s ≡ true → frame s ≡ x → AllMay may step es (step e s)
        → 2 * left s + bit (last s) ≤ suc n + 1 → suc n ≤ turns is_turn (e ∷ es) → Enough n x es (step e s) → Went H e s
        → Ends H (suc n) x (e ∷ es) s
    went n x e es s t h f y le tu r (ended o z w) =
        record {
          before = [];
          event = e;
          after = es;
          split = refl;
          soon = omega arith;
          holds = (h, f);
          turned = t;
          note = o;
          noted = z;
          own = w ∙ f;
        }
    went n x e es s t h f y le tu r (goes z g fr d l) =
        later n (suc n) x e es s (rw t (omega arith)) h f z (r y g (fr ∙ f) (rw l (omega (arith, d, le))) (omega (arith, rw t at tu)))

    stay : (n k : ℕ) (x : F) (e : E) (es : List E) (s : S) → bit (is_turn e) + n ≤ k → held s ≡ true → frame s ≡ x → AllMay may step es (step e s)
        → Stays H e s → 2 * left s + bit (last (step e s)) ≤ n + 1 → n ≤ turns is_turn es → Enough n x es (step e s)
        → Ends H k x (e ∷ es) s
    stay n k x e es s b h f y st le tu r =
        later n k x e es s b h f st.none (r y st.holds (st.same ∙ f) (rw st.count le) tu)

    -- by the event: a turn that goes to the receive unit, another turn, no turn
    by : (t v : Bool) (n : ℕ) (x : F) (e : E) (es : List E) (s : S) → is_turn e ≡ t → served s ≡ v
        → ((k : ℕ) → Enough k x es (step e s)) → Enough n x (e ∷ es) s
    by true v zero x e es s t _ r y h f le tu = absurd (omega (arith, K.positive s))
    by true true (suc n) x e es s t v r y h f le tu = went n x e es s t h f y.1 le tu (r n) (K.serve e s y.0 h t v)
    by true false (suc n) x e es s t v r y h f le tu =
        let p = K.pass e s y.0 h t v in
        stay n (suc n) x e es s (rw t (omega arith)) h f y.1 p.0 (rw p.2 (omega (arith, rw p.1 at le))) (omega (arith, rw t at tu)) (r n)
    by false v n x e es s t _ r y h f le tu =
        let p = K.between e s y.0 h t in
        stay n n x e es s (rw t (omega arith)) h f y.1 p.0 (rw p.1 le) (omega (arith, rw t at tu)) (r n)

    enough : (n : ℕ) (x : F) (es : List E) (s : S) → Enough n x es s
    enough n x [] s y h f le tu = absurd (omega (arith, K.positive s))
    enough n x (e ∷ es) s y h f le tu = by (is_turn e) (served s) n x e es s refl refl (λ k. enough k x es (step e s)) y h f le tu

    pub ends_within : (n : ℕ) (es : List E) (s : S) → AllMay may step es s → held s ≡ true → 2 * left s ≤ n → n ≤ turns is_turn es
        → Ends H n (frame s) es s
    ends_within n es s y h le tu = enough n (frame s) es s y h refl (omega (arith, bit_le (last s))) tu
