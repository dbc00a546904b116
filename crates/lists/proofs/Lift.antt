-- What is asked of calls on lent areas can be met wherever it can be met on states: each call is lent what stands. And refused calls may be put in
-- anywhere. Assumes nothing.
use mathlib.Core.Path.{◌≡◌, refl, sym, ap, ◌∙◌, subst}
use mathlib.Core.Bool.{Bool, true, false, true≢false}
use mathlib.Core.List.{List, [], ◌∷◌, ◌++◌}
use Prim.Native.Nat.{ℕ, ◌+◌, ◌≤◌}
use native.Mathlib.Nat.{zero-add}
use lib.ListN.{length}
use Rattle.memory.specs.Memory.{apply}
use Rattle.device.specs.declared.Device.{Device}
use Rattle.chip.specs.Call.{Call}
use Rattle.chip.specs.World.{World, world_of}
use Rattle.calls.specs.Calls.{Areas, areas_of, Called}
use Rattle.progress.specs.Trace.{run, AllMay, bit, turns}
use Rattle.progress.specs.Machine.{Undisturbed, own}
use Rattle.progress.specs.Same.{Same}
use Rattle.progress.proofs.Same.{same_refl, same_trans}
use Rattle.traces.specs.Bytes.{called, is_refused}
use Rattle.traces.specs.Event.{Event, call, host, step, is_turn, DuringList}
use Rattle.traces.specs.Areas.{FrameBytes, AreBytes, Holds, world_in, Shows}
use Rattle.traces.specs.Driven.{Lending, lending, refused_at, left_by, left, is_taken, events_by, events_of, AllFair}
use Rattle.closure.specs.Carried.{Carried}
use Rattle.closure.proofs.Carried.{carry, shows_world}
use Rattle.lists.specs.Unit.{machine}
use Rattle.lists.specs.Done.{Premises, bytes_of}
use Rattle.lists.specs.OnBytes.{PremisesOnBytes}

-- ---- a refused call in between changes nothing of what follows

refused_events : (xs ys : List Lending) (l : Lending) → refused_at l ≡ true → events_of (xs ++ (l ∷ ys)) ≡ events_of (xs ++ ys)
refused_events [] ys l r = rw r
refused_events (x ∷ xs) ys l r = ap (λ (es : List Event). events_by (refused_at x) x es) (refused_events xs ys l r)

refused_turns : (xs ys : List Lending) (l : Lending) → refused_at l ≡ true → turns is_taken (xs ++ (l ∷ ys)) ≡ turns is_taken (xs ++ ys)
refused_turns [] ys l r = rw r (zero-add (turns is_taken ys))
refused_turns (x ∷ xs) ys l r = rw (refused_turns xs ys l r)

pub refused_left : (xs ys : List Lending) (l : Lending) (a : Areas) → refused_at l ≡ true → run left (xs ++ (l ∷ ys)) a ≡ run left (xs ++ ys) a
refused_left [] ys l a r = ap (λ (b : Bool). run left ys (left_by b l a)) r
refused_left (x ∷ xs) ys l a r = refused_left xs ys l (left x a) r

refused_fair : (May : Event → World → Type 0) (xs ys : List Lending) (l : Lending) (a : Areas) → refused_at l ≡ true → AllFair May (xs ++ ys) a
    → AllFair May (xs ++ (l ∷ ys)) a
refused_fair May [] ys l a r m = (λ e. absurd (true≢false (sym r ∙ e)), rw r m)
refused_fair May (x ∷ xs) ys l a r m = (m.0, refused_fair May xs ys l (left x a) r m.1)

pub refused_anywhere : (May : Event → World → Type 0) (least : ℕ → ℕ) (bs : List ℕ) (xs ys : List Lending) (l : Lending) (a : Areas) (v : World)
    → refused_at l ≡ true → PremisesOnBytes May least bs (xs ++ ys) a v → PremisesOnBytes May least bs (xs ++ (l ∷ ys)) a v
refused_anywhere May least bs xs ys l a v r p =
    record {
      fair = refused_fair May xs ys l a r p.fair;
      apart = p.apart;
      intact = rw (refused_events xs ys l r) p.intact;
      turns = rw (refused_turns xs ys l r) p.turns;
    }

-- ---- each call is lent what stands

abbrev pub lendings : List Event → Areas → List Lending
lendings [] a = []
lendings (call c ∷ es) a = lending c a ∷ lendings es (called c a).areas
lendings (host m h out ∷ es) a = lendings es (areas_of m h out a.kept)

-- no call is refused so, and each is given bytes
abbrev pub Accepted : List Event → Areas → Type 0
Accepted [] a = Unit {0}
Accepted (call c ∷ es) a = (is_refused (called c a) ≡ false) × (FrameBytes c × AreBytes a) × Accepted es (called c a).areas
Accepted (host m h out ∷ es) a = Accepted es (areas_of m h out a.kept)

turns_lift : (es : List Event) (a : Areas) → Accepted es a → turns is_taken (lendings es a) ≡ turns is_turn es
turns_lift [] a x = refl
turns_lift (call c ∷ es) a x = rw x.0 (ap (λ (n : ℕ). bit (is_turn (call c)) + n) (turns_lift es (called c a).areas x.2))
turns_lift (host m h out ∷ es) a x = turns_lift es (areas_of m h out a.kept) x ∙ sym (zero-add (turns is_turn es))

-- a stands, and shows the world w; v is the world that the last call left, so that w is v but for what the host did
record Stands (a : Areas) (w v : World) : Type 0 where
  now : world_in v.device a ≡ w
  holds : Holds a.kept v.device
  outgoing : a.outgoing ≡ v.outgoing

-- what a call leaves stands
areas_world : (c : Call) (a : Areas) (d : Device) → Carried c d a
    → world_in (step (call c) (world_in d a)).device (called c a).areas ≡ step (call c) (world_in d a)
areas_world c a d k = ap (λ (x : Called). world_in (step (call c) (world_in d a)).device x.areas) k.same

call_stands : (c : Call) (a : Areas) (w v : World) → Stands a w v → FrameBytes c × AreBytes a → is_refused (called c a) ≡ false
    → Stands (called c a).areas (step (call c) w) (step (call c) (world_in v.device a))
call_stands c a w v s g r =
    let k : Carried c v.device a = carry c a v.device g.0 g.1 s.holds r in
    record {
      now = areas_world c a v.device k ∙ ap (λ (x : World). step (call c) x) s.now;
      holds = k.holds;
      outgoing = ap (λ (x : Called). x.areas.outgoing) k.same;
    }

outgoing_now : (a : Areas) (w v : World) → Stands a w v → w.outgoing ≡ a.outgoing
outgoing_now a w v s = sym (ap (λ (x : World). x.outgoing) s.now)

host_stands : (m h out : List ℕ) (a : Areas) (w v : World) → out ≡ w.outgoing → Stands a w v
    → Stands (areas_of m h out a.kept) (step (host m h out) w) v
host_stands m h out a w v o s =
    record {
      now = ap (λ (x : World). world_of x.device m h out) s.now;
      holds = s.holds;
      outgoing = o ∙ outgoing_now a w v s ∙ s.outgoing;
    }

-- b is what the last call left, and has the same record and outgoing area
fair_lift : (es : List Event) (a b : Areas) (w v : World) → a.kept ≡ b.kept → a.outgoing ≡ b.outgoing → Stands a w v → Accepted es a
    → AllMay DuringList step es w → AllFair DuringList (lendings es a) b
fair_lift [] a b w v k o s x y = tt
fair_lift (call c ∷ es) a b w v k o s x y = (
  λ e. record { frame = x.1.0; bytes = x.1.1; kept = k; leaves = (refl, o); may = (y.0.0, tt) },
  rw x.0
      (fair_lift es (called c a).areas (called c a).areas (step (call c) w) (step (call c) (world_in v.device a)) refl refl
      (call_stands c a w v s x.1 x.0) x.2 y.1),
)
fair_lift (host m h out ∷ es) a b w v k o s x y =
    fair_lift es (areas_of m h out a.kept) b (step (host m h out) w) v k (y.0.1 ∙ outgoing_now a w v s ∙ o)
    (host_stands m h out a w v y.0.1 s) x y.1

call_same : (L : List ℕ) (c : Call) (a : Areas) (d : Device) → Carried c d a
    → Same L (called c a).areas.memory (step (call c) (world_in d a)).memory
call_same L c a d k =
    subst (λ (m : List ℕ). Same L m (step (call c) (world_in d a)).memory) (sym (ap (λ (x : Called). x.areas.memory) k.same))
    (same_refl L (step (call c) (world_in d a)).memory)

intact_lift : (L : List ℕ) (es : List Event) (a : Areas) (w v : World) → Stands a w v → Same L a.memory v.memory → Accepted es a
    → AllMay DuringList step es w → Undisturbed machine L es w → Undisturbed machine L (events_of (lendings es a)) v
intact_lift L [] a w v s m x y k = tt
intact_lift L (call c ∷ es) a w v s m x y k =
    let u : World = world_in v.device a in
    rw x.0 (
      m,
      (
        subst (λ (z : World). Same L (step (call c) z).memory (apply (own machine (call c) z) z.memory)) (sym s.now) k.0,
        intact_lift L es (called c a).areas (step (call c) w) (step (call c) u) (call_stands c a w v s x.1 x.0)
            (call_same L c a v.device (carry c a v.device x.1.0 x.1.1 s.holds x.0)) x.2 y.1 k.1,
      ),
    )
intact_lift L (host m₁ h out ∷ es) a w v s m x y k =
    intact_lift L es (areas_of m₁ h out a.kept) (step (host m₁ h out) w) v (host_stands m₁ h out a w v y.0.1 s)
    (same_trans k.0 (subst (λ (z : World). Same L z.memory v.memory) s.now m)) x y.1 k.1

-- a shows v, which the starting attention left: what holds of the trace es on v holds of the calls on the areas
pub lifted : (least : ℕ → ℕ) (bs : List ℕ) (es : List Event) (a : Areas) (v : World) → Shows a v → Accepted es a → Premises DuringList least bs es v
    → PremisesOnBytes DuringList least bs (lendings es a) a v
lifted least bs es a v s x p =
    let t : Stands a v v = record { now = shows_world a v s; holds = s.kept; outgoing = s.outgoing } in
    let m : Same (bytes_of v bs) a.memory v.memory =
    subst (λ (z : List ℕ). Same (bytes_of v bs) z v.memory) (sym s.memory) (same_refl (bytes_of v bs) v.memory) in
    record {
      fair = fair_lift es a a v v refl refl t x p.events;
      apart = p.apart;
      intact = intact_lift (bytes_of v bs) es a v v t m x p.events p.intact;
      turns = subst (λ (n : ℕ). least (length bs) ≤ n) (sym (turns_lift es a x)) p.turns;
    }
