-- The command unit alone and among others: the interleaving, list order, and how soon. Assumes nothing.
use mathlib.Core.Path.{◌≡◌, refl, sym, ◌∙◌}
use mathlib.Core.Bool.{Bool, true, false}
use mathlib.Core.List.{List, [], ◌∷◌, map-append, append_assoc, append-nil}
use Prim.Native.Nat.{ℕ, ◌*◌, ◌≤◌, ◌<◌}
use native.Mathlib.Omega.{arith}
use Rattle.memory.specs.Memory.{apply}
use Rattle.progress.specs.Same.{Same}
use Rattle.progress.specs.Trace.{run, AllMay, bit, turns}
use Rattle.progress.specs.Machine.{Machine, Laws, Alike, Served, Passed, Between, reports, own, Undisturbed, part', Live, Covers, Alone, Listing, Ordered, Finished}
use Rattle.progress.proofs.Same.{same_refl, same_trans, same_part, same_apply}

pub bit_le : (b : Bool) → bit b ≤ 1
bit_le true = omega arith
bit_le false = omega arith

module _ (M : Machine) where
  open M use {S, E, P, R, B, step, is_turn, report, view, mem, active, served, last, work, results, note, reads}

  module _ (may : E → S → Type 0) (K : Laws M may) (L : List ℕ) where
    abbrev Next : E → List E → S → P → List ℕ → Type 0
    Next e es s v q = Covers M L v q → Same L (mem (step e s)) q → view (step e s) ≡ v → Alone M L es (step e s) v q

    after_service : (e : E) (es : List E) (s : S) (v : P) (q : List ℕ) → is_turn e ≡ true → served s ≡ true
        → view s ≡ v → Covers M L v q → Same L (mem s) q → Same L (mem (step e s)) (apply (own M e s) (mem s))
        → Next e es s (work v q (report e)) (apply (results v q (report e)) q) → Alone M L (e ∷ es) s v q
    after_service e es s v q t h p c a k f =
        let r = report e in
        let sv : Served M e s = K.serve e s t h in
        let b : active v ≡ true = rw p at sv.busy in
        let al : Alike M v (mem s) q r = K.local v (mem s) q r (same_part (c [] tt b) a) in
        let ow : own M e s ≡ results v q r = rw (t, h, p) al.writes in
        let k' : Same L (mem (step e s)) (apply (results v q r) (mem s)) = rw ow at k in
        let ih : Alone M L es (step e s) (work v q r) (apply (results v q r) q) =
        f (λ rs l. c (r ∷ rs) (b, l)) (same_trans k' (same_apply L (results v q r) (mem s) q a)) (sv.part ∙ rw p al.part) in
        record {
          part = rw (t, h) ih.part;
          bytes = rw (t, h) ih.bytes;
          notes = rw (t, h, ih.notes, p, al.notes) refl;
          live = rw (t, h) (b, ih.live);
          was = λ _. b;
          pace = λ b. rw (t, h) (omega (arith, rw sv.turned at (ih.pace b)));
        }

    after_pass : (e : E) (es : List E) (s : S) (v : P) (q : List ℕ) → is_turn e ≡ true → served s ≡ false
        → view s ≡ v → Covers M L v q → Same L (mem s) q → Same L (mem (step e s)) (apply (own M e s) (mem s))
        → Next e es s v q → Alone M L (e ∷ es) s v q
    after_pass e es s v q t h p c a k f =
        let ps : Passed M e s = K.pass e s t h in
        let k' : Same L (mem (step e s)) (mem s) = rw (t, h) at k in
        let ih : Alone M L es (step e s) v q = f c (same_trans k' a) (ps.part ∙ p) in
        record {
          part = rw (t, h) ih.part;
          bytes = rw (t, h) ih.bytes;
          notes = rw (t, h) ih.notes;
          live = rw (t, h) ih.live;
          was = ih.was;
          pace = λ b.
              let w : (last s ≡ true) × (last (step e s) ≡ false) = ps.waits (rw p (ih.was b)) in
              rw (t, h, w.0) (omega (arith, rw w.1 at (ih.pace b)));
        }

    after_other : (e : E) (es : List E) (s : S) (v : P) (q : List ℕ) → may e s → is_turn e ≡ false
        → view s ≡ v → Covers M L v q → Same L (mem s) q → Same L (mem (step e s)) (apply (own M e s) (mem s))
        → Next e es s v q → Alone M L (e ∷ es) s v q
    after_other e es s v q y t p c a k f =
        let bt : Between M e s = K.between e s y t in
        let k' : Same L (mem (step e s)) (mem s) = rw t at k in
        let ih : Alone M L es (step e s) v q = f c (same_trans k' a) (bt.part ∙ p) in
        record {
          part = rw t ih.part;
          bytes = rw t ih.bytes;
          notes = rw t ih.notes;
          live = rw t ih.live;
          was = ih.was;
          pace = λ b. rw t (omega (arith, rw bt.order at (ih.pace b)));
        }

    after : (t : Bool) (h : Bool) (e : E) (es : List E) (s : S) (v : P) (q : List ℕ) → may e s → is_turn e ≡ t → served s ≡ h
        → view s ≡ v → Covers M L v q → Same L (mem s) q → Same L (mem (step e s)) (apply (own M e s) (mem s))
        → ((w : P) (p : List ℕ) → Next e es s w p) → Alone M L (e ∷ es) s v q
    after true true e es s v q y t h p c a k f = after_service e es s v q t h p c a k (f _ _)
    after true false e es s v q y t h p c a k f = after_pass e es s v q t h p c a k (f v q)
    after false h e es s v q y t _ p c a k f = after_other e es s v q y t p c a k (f v q)

    pub alone : (es : List E) (s : S) (v : P) (q : List ℕ) → view s ≡ v → AllMay may step es s → Undisturbed M L es s → Covers M L v q
        → Same L (mem s) q → Alone M L es s v q
    alone [] s v q p y k c a =
        record { part = p; bytes = a; notes = refl; live = tt; was = λ b. rw p at b; pace = λ b. omega arith }
    alone (e ∷ es) s v q p y k c a =
        after (is_turn e) (served s) e es s v q y.0 refl refl p c a k.0
        (λ w q₁ c₁ a₁ p₁. alone es (step e s) w q₁ p₁ y.1 k.1 c₁ a₁)

module _ (M : Machine) (O : Listing M) where
  open M use {S, E, P, R, B, step, is_turn, report, view, mem, active, served, last, work, results, note, reads}
  open O use {T, tag, Inv, todo, rank, next, some, over}

  pub ordered : (rs : List R) (bs : List ℕ) (v : P) (q : List ℕ) → Inv bs v q → Live M rs v q → (cs : List ℕ) × Ordered M O bs rs v q cs
  ordered [] bs v q i l = (bs, (i, refl, omega arith))
  ordered (r ∷ rs) bs v q i l =
      let n = next bs v q r i l.0 in
      let h = ordered rs n.0 (work v q r) (apply (results v q r) q) n.1 l.1 in (
        h.0,
        (
          h.1.0,
          rw (map-append, append_assoc, h.1.1) n.2,
          omega (arith, h.1.2, n.3),
        ),
      )

  finish_if : (b : Bool) (L bs : List ℕ) (es : List E) (s : S) → active (view (run step es s)) ≡ b → Inv bs (view s) (mem s) → Alone M L es s (view s) (mem s)
      → 2 * rank bs (view s) ≤ turns is_turn es → Finished M O L bs es s
  finish_if false L bs es s e i a t =
      let h = ordered (reports M es s) bs (view s) (mem s) i a.live in
      let z : todo h.0 (part' M (reports M es s) (view s) (mem s)) ≡ [] = over h.0 _ _ h.1.0 (rw a.part at e) in
      record { stopped = e; order = rw a.notes (sym (append-nil _) ∙ rw z at h.1.1); alone = a }
  finish_if true L bs es s e i a t =
      let h = ordered (reports M es s) bs (view s) (mem s) i a.live in
      let p : 0 < rank h.0 (part' M (reports M es s) (view s) (mem s)) = some h.0 _ _ h.1.0 (rw a.part at e) in
      absurd (omega (arith, h.1.2, a.pace e, bit_le (last s)))

  pub finish : (may : E → S → Type 0) → Laws M may → (L bs : List ℕ) (es : List E) (s : S) → Inv bs (view s) (mem s) → Covers M L (view s) (mem s) → AllMay may step es s
      → Undisturbed M L es s
      → 2 * rank bs (view s) ≤ turns is_turn es → Finished M O L bs es s
  finish may K L bs es s i c y k t =
      finish_if (active (view (run step es s))) L bs es s refl i (alone M may K L es s (view s) (mem s) refl y k c (same_refl L (mem s))) t
