-- The bound is met, and attained: a run from reset on in which a held frame is still held after 131 turns and settled by the 132nd, so that no
-- smaller number would do. Assumes nothing.
use mathlib.Core.Path.{◌≡◌, refl, ap, ◌∙◌, subst}
use mathlib.Core.Bool.{Bool, true, false, not, ◌&&◌, ◌||◌, false≢true}
use mathlib.Core.List.{List, [], ◌∷◌, ◌++◌}
use Prim.Native.Nat.{ℕ, zero, suc, ◌*◌, ◌^◌, ◌%◌, ◌≤◌, ◌<◌}
use native.Mathlib.Omega.{arith}
use lib.Dec.{T, lit≤}
use lib.ListN.{replicate}
use Rattle.memory.specs.Memory.{word_at}
use Rattle.device.specs.State.{fresh_form}
use Rattle.device.specs.declared.Fate.{Fate}
use Rattle.device.specs.declared.Fate.TheVariants as fate
use Rattle.device.specs.declared.Frame.{Frame}
use Rattle.device.specs.declared.Verdict.TheVariants as verdict
use Rattle.chip.specs.Call.{attention, arrive, turn}
use Rattle.chip.specs.Cases.{Word, ◌is◌, put, start, passes}
use Rattle.chip.specs.Turn.{turn_of}
use Rattle.chip.specs.World.{World, afterwards}
use Rattle.chip.proofs.Board.{board, descriptors, buffer_at, broadcast, good}
use Rattle.progress.specs.Trace.{run, AllMay}
use Rattle.traces.specs.Event.{Event, call, host, step, WhileHeld}
use Rattle.held.specs.Held.{frames_in, is_settled, fates_at, Settled, Within}
use Rattle.held.proofs.Whole.{held_frame}

-- ---- the run

-- a NOP at 40h linked to itself; a buffer of 46 bytes for the first frame; then a descriptor at B0h of size 0, linked to itself
abbrev pub words : List Word
words = 0x44 is 0x40 ∷ 0x34 is 0x40 ∷ 0x36 is 0x60 ∷ descriptors ++ (buffer_at 0xA0 0xB0 0xC0 46 ++ (buffer_at 0xB0 0xB0 0xC0 0 ++ board))

abbrev pub given : World
given = start words

-- the host writes words
abbrev pub writes : List Word → World → World
writes ws w = step (host (put ws w.memory) w.holding w.outgoing) w

abbrev pub sixty : Event
sixty = call (arrive (broadcast 46) good)

-- both units are started; a frame comes and is stored beside the NOP, the receive unit served last; another frame comes
unfoldable pub begun : World
begun =
    run step (call attention ∷ sixty ∷ replicate 5 (call (turn 0)) ++ (sixty ∷ []))
    (writes (0x32 is 0xF110 ∷ []) (step (call attention) given))

abbrev pub frame : Frame
frame = record { length = 60; verdict = verdict.Good; short = false; savebad = false; form = fresh_form }

pub its_frame : frames_in begun ≡ frame ∷ []
unfolding begun passes
its_frame = refl

abbrev pub turns_of : ℕ → List Event
turns_of n = replicate n (call (turn 0))

pub calm_turns : (n : ℕ) (w : World) → AllMay WhileHeld step (turns_of n) w
calm_turns zero w = tt
calm_turns (suc n) w = (refl, calm_turns n (step (call (turn 0)) w))

-- ---- the bound is attained

-- one of these fates settles a frame
abbrev pub any_settles : List Fate → Bool
any_settles [] = false
any_settles (φ ∷ φs) = is_settled φ || any_settles φs

-- no turn of a trace does
abbrev quiet : List Event → World → Bool
quiet [] w = true
quiet (e ∷ es) w = not (any_settles (fates_at e w)) && quiet es (step e w)

quiet_131 : T (quiet (turns_of 131) begun)
unfolding begun passes
quiet_131 = tt

-- the frame is still held after 131 turns
pub still_held : frames_in (run step (turns_of 131) begun) ≡ frame ∷ []
unfolding begun passes
still_held = refl

-- and the next one counts it, out of buffers
pub then_counted : (turn_of (run step (turns_of 131) begun) 0).outcome.fates ≡ fate.Counted ∷ []
unfolding begun passes
then_counted = refl

pub then_free : frames_in (afterwards (turn_of (run step (turns_of 131) begun) 0)) ≡ []
unfolding begun passes
then_free = refl

-- RSCERRS, at 3Ch, is one up
pub then_one_up : (word_at (run step (turns_of 131) begun).memory 0x3C ≡ 0) × (word_at (turn_of (run step (turns_of 131) begun) 0).memory 0x3C ≡ 1)
unfolding begun passes
then_one_up = (refl, refl)

-- so no turn of those settles it
pub and_left : (a b : Bool) → T (a && b) → T a
and_left true b t = tt
and_left false b t = t

pub and_right : (a b : Bool) → T (a && b) → T b
and_right true b t = t
and_right false b t = absurd t

pub not_settled : (b : Bool) → T (not b) → b ≡ true → ⊥
not_settled true t e = t
not_settled false t e = false≢true e

pub one_settles : (φs : List Fate) (φ : Fate) → φs ≡ φ ∷ [] → is_settled φ ≡ true → any_settles φs ≡ true
one_settles φs φ g s = ap any_settles g ∙ ap (λ (b : Bool). b || false) s

quiet_at : (before : List Event) (report : ℕ) (after : List Event) (w : World) → T (quiet (before ++ (call (turn report) ∷ after)) w)
    → any_settles (turn_of (run step before w) report).outcome.fates ≡ true → ⊥
quiet_at [] report after w q =
    not_settled (any_settles (turn_of w report).outcome.fates)
    (and_left (not (any_settles (turn_of w report).outcome.fates)) (quiet after (step (call (turn report)) w)) q)
quiet_at (e ∷ es) report after w q =
    quiet_at es report after (step e w) (and_right (not (any_settles (fates_at e w))) (quiet (es ++ (call (turn report) ∷ after)) (step e w)) q)

pub unsettled : (n : ℕ) → Settled n frame (turns_of 131) begun → ⊥
unsettled n s =
    quiet_at s.before s.report s.after begun (subst (λ (es : List Event). T (quiet es begun)) s.split quiet_131)
    (one_settles (turn_of (run step s.before begun) s.report).outcome.fates s.fate s.given s.settled)

-- 132 is exact: the statement with any smaller number is false
pub exact : (n : ℕ) → n < 132 → Within n → ⊥
exact n l h =
    let le : n ≤ 131 = omega (arith, l) in
    unsettled n (h begun frame (turns_of 131) its_frame refl (calm_turns 131 begun) le)

-- ---- the premises can be met

-- the run itself: 132 turns, and nothing between them
pub met : Settled 132 frame (turns_of 132) begun
met = held_frame begun frame (turns_of 132) its_frame refl (calm_turns 132 begun) (lit≤ tt)

-- before each turn the host leaves another memory, of another size, and other areas, and a frame comes
abbrev pub restless : ℕ → List Event
restless zero = []
restless (suc n) =
    host (replicate (8192 * 2 ^ (n % 3)) (n % 256)) (replicate 2048 (n % 255)) (replicate 2048 (n % 254))
    ∷ sixty ∷ call (turn n) ∷ restless n

restless_calm : (n : ℕ) (w : World) → AllMay WhileHeld step (restless n) w
restless_calm zero w = tt
restless_calm (suc n) w = (refl, (refl, (refl, restless_calm n _)))

pub met_restless : Settled 132 frame (restless 132) begun
met_restless = held_frame begun frame (restless 132) its_frame refl (restless_calm 132 begun) (lit≤ tt)
