-- One service of the receive unit with a frame held: the frame is settled, or stays held with a service fewer to come. Assumes nothing.
use mathlib.Core.Path.{◌≡◌, refl}
use mathlib.Core.Bool.{Bool, true, false, ◌||◌, false≢true}
use mathlib.Core.List.{List, [], ◌∷◌, head-eq_of_cons-eq}
use Prim.Native.Nat.{ℕ, suc, ◌+◌, ◌-◌, ◌≤◌, ◌<◌}
use native.Mathlib.Omega.{arith}
use lib.Dec.{leb}
use borrow.Author.Tests.{leb-false}
use Rattle.memory.specs.Memory.{Write, word_at}
use Rattle.memory.specs.Address.{place, offset_at, is_none}
use Rattle.memory.specs.declared.Offset.{Offset}
use Rattle.device.specs.State.{is_holding, held_in, is_good}
use Rattle.device.specs.declared.Fate.{Fate}
use Rattle.device.specs.declared.Fate.TheVariants as fate
use Rattle.device.specs.declared.Frame.{Frame}
use Rattle.device.specs.declared.Ru.{Ru}
use Rattle.device.specs.declared.Ru.TheVariants as ru
use Rattle.device.specs.declared.Storing.{Storing}
use Rattle.device.specs.declared.Walk.{Walk}
use Rattle.receive.specs.Part.{Part, first_at, control_at}
use Rattle.receive.specs.Begin.{begun_by, is_bare, to_first, begin}
use Rattle.receive.specs.Buffer.{descriptor_at, past, is_done, after_buffer, buffer}
use Rattle.receive.specs.End.{fate_by, fate_of, settles, before, proceeds, close, lack}
use Rattle.receive.specs.Service.{service_by}
use Rattle.held.specs.Held.{is_to_hold, is_settled}

-- at most so many services until the frame is settled: begin, 64 buffers, end; a walk that used k has 64 - k buffers before it, and ends
-- with one where a record says more
abbrev pub left_of : Ru → ℕ
left_of ru.Idle = 1
left_of ru.NoResources = 1
left_of (ru.Suspended fd) = 1
left_of (ru.Ready fd) = 1
left_of (ru.Held fd f p) = 66
left_of (ru.Filling s w) = suc (suc (63 - w.used))
left_of (ru.Closing s free full) = 1
left_of (ru.Lacking s) = 1

pub left_positive : (u : Ru) → 0 < left_of u
left_positive ru.Idle = omega arith
left_positive ru.NoResources = omega arith
left_positive (ru.Suspended fd) = omega arith
left_positive (ru.Ready fd) = omega arith
left_positive (ru.Held fd f p) = omega arith
left_positive (ru.Filling s w) = omega arith
left_positive (ru.Closing s free full) = omega arith
left_positive (ru.Lacking s) = omega arith

pub left_most : (u : Ru) → left_of u ≤ 66
left_most ru.Idle = omega arith
left_most ru.NoResources = omega arith
left_most (ru.Suspended fd) = omega arith
left_most (ru.Ready fd) = omega arith
left_most (ru.Held fd f p) = omega arith
left_most (ru.Filling s w) = omega arith
left_most (ru.Closing s free full) = omega arith
left_most (ru.Lacking s) = omega arith

-- the frames xs of a unit, after a service that left the unit u and said what became of them
pub data Serving (xs : List Frame) (left : ℕ) (u : Ru) (φs : List Fate) : Type 0 where
  goes : φs ≡ [] → is_holding u ≡ true → held_in u ≡ xs → left_of u < left → Serving xs left u φs
  ended : (φ : Fate) → φs ≡ φ ∷ [] → ((f : Frame) → xs ≡ f ∷ [] → is_to_hold f ≡ true → is_settled φ ≡ true) → held_in u ≡ [] → Serving xs left u φs

-- ---- begin

first : (bare void : Bool) (s : Storing) (o : Offset) → Serving (s.frame ∷ []) 66 (to_first bare void s o) []
first true void s o = goes refl refl refl (omega arith)
first false true s o = goes refl refl refl (omega arith)
first false false s o = goes refl refl refl (omega arith)

begins : (p : Part) (fd : Offset) (f : Frame) (pausing : Bool) (m : List ℕ)
    → Serving (f ∷ []) 66 (begin p fd f pausing m).unit (begin p fd f pausing m).fates
unfolding begin begun_by
begins p fd f pausing m =
    let o = offset_at m (place p.base fd first_at) in
    first (is_bare f) (is_none o) (begun_by fd f pausing (word_at m (place p.base fd control_at))) o

-- ---- a buffer

next : (done el void last : Bool) (k : ℕ) (s : Storing) (w : Walk) → w.used ≡ k + 1 → leb 64 (k + 1) ≡ last
    → Serving (s.frame ∷ []) (suc (suc (63 - k))) (after_buffer done el void last s w) []
next true el void last k s w u t = goes refl refl refl (omega arith)
next false true void last k s w u t = goes refl refl refl (omega arith)
next false false true last k s w u t = goes refl refl refl (omega arith)
next false false false true k s w u t = goes refl refl refl (omega arith)
next false false false false k s w u t = goes refl refl refl (omega (arith, u, leb-false 64 (k + 1) t))

fills : (p : Part) (s : Storing) (w : Walk) (m : List ℕ)
    → Serving (s.frame ∷ []) (suc (suc (63 - w.used))) (buffer p s w m).unit (buffer p s w m).fates
unfolding buffer
fills p s w m =
    let d = descriptor_at p.base w.next m in
    next (is_done s (past s w d)) d.el (is_none d.next) (leb 64 (w.used + 1)) w.used s (past s w d) refl refl

-- ---- the end

before_free : (b : Bool) (o : Offset) → held_in (before b o) ≡ []
before_free true o = refl
before_free false o = refl

closed : (exhausted : Bool) (xs : List Frame) (p : Part) (s : Storing) (free : Offset) (ws : List Write) (m : List ℕ)
    → Serving xs 1 (proceeds exhausted p s free fate.Stored ws m).unit (proceeds exhausted p s free fate.Stored ws m).fates
closed true xs p s free ws m = ended fate.Stored refl (λ f e t. refl) refl
closed false xs p s free ws m = ended fate.Stored refl (λ f e t. refl) (rw before_free)

closes : (p : Part) (s : Storing) (free : Offset) (full : Bool) (m : List ℕ)
    → Serving (s.frame ∷ []) 1 (close p s free full m).unit (close p s free full m).fates
unfolding close
closes p s free full m = closed (s.el || full) (s.frame ∷ []) p s free (settles false p s m) m

-- out of buffers: the one case that neither stores nor counts is of a frame that is not to be held
lack_settled : (saved good : Bool) → (good || saved) ≡ true → is_settled (fate_by true saved good) ≡ true
lack_settled true true h = refl
lack_settled true false h = refl
lack_settled false true h = refl
lack_settled false false h = absurd (false≢true h)

lacks : (p : Part) (s : Storing) (m : List ℕ) → Serving (s.frame ∷ []) 1 (lack p s m).unit (lack p s m).fates
unfolding lack
lacks p s m =
    ended (fate_of true s.frame) refl
    (λ f e t. lack_settled s.frame.savebad (is_good s.frame) (rw (head-eq_of_cons-eq e) t)) refl

-- ---- a service

pub serves : (u : Ru) (p : Part) (m : List ℕ) → is_holding u ≡ true
    → Serving (held_in u) (left_of u) (service_by u p m).unit (service_by u p m).fates
serves ru.Idle p m h = absurd (false≢true h)
serves ru.NoResources p m h = absurd (false≢true h)
serves (ru.Suspended fd) p m h = absurd (false≢true h)
serves (ru.Ready fd) p m h = absurd (false≢true h)
serves (ru.Held fd f q) p m h = begins p fd f q m
serves (ru.Filling s w) p m h = fills p s w m
serves (ru.Closing s free full) p m h = closes p s free full m
serves (ru.Lacking s) p m h = lacks p s m
