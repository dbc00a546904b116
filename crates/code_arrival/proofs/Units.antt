-- The word that the code puts together of an arriving frame is that of the unit that the definitions say. No contract cites this file. Assumes nothing.
use mathlib.Core.Path.{◌≡◌}
use mathlib.Core.Bool.{Bool, true, false}
use mathlib.Core.List.{List}
use Prim.Native.Nat.{ℕ, ◌<◌}
use native.Mathlib.Omega.{arith}
use Rattle.memory.specs.declared.Offset.{Offset}
use Rattle.device.specs.Answers.{is_held}
use Rattle.device.specs.State.{is_good}
use Rattle.device.specs.declared.Frame.{Frame}
use Rattle.device.specs.declared.Ru.{Ru}
use Rattle.device.specs.declared.Ru.TheVariants as ru
use Rattle.device.specs.declared.Settings.{Settings}
use Rattle.receive.specs.Arrival.{length_of, judged, counter_for, in_no_resources, fate_in, holding}
use Rattle.phases.specs.Forms.{FormWide}
use Rattle.phases.specs.Phases.{plain, frame_word, frame_number, WordWide}
use Rattle.phases.proofs.Units.{never, kind_below, verdict_in_lem, form_of_kind_lem, word_back}
use Rattle.packed.specs.Packed.{WordIs, RuIs}
use Rattle.packed.proofs.Words.{held, ready_back}
use Rattle.code_arrival.specs.Arrives.{frame_in}

-- ---- an arriving frame

-- a frame's word is as wide as its length
frame_wide : (o : Offset) (f : Frame) (p : Bool) → o.0 < 65536 → f.length < 65536 → WordWide (frame_word o f p)
frame_wide o f p h l = record { at = h; kind = omega (arith, kind_below f.verdict f.form); size = l; next = omega arith }

pub judged_below : (s : Settings) (f : List ℕ) (v : ℕ) → (judged s f v).length < 65536
unfolding judged length_of
judged_below s f v = omega arith

pub judged_form : (s : Settings) (f : List ℕ) (v : ℕ) → FormWide s.form → FormWide (judged s f v).form
unfolding judged
judged_form s f v h = h

-- and tells the frame
pub frame_back : (n : ℕ) (f : Frame) → n ≡ frame_number f → f.length < 65536 → FormWide f.form → frame_in n ≡ f
frame_back n f e l h =
    rw (e, word_back (frame_word (record { 0 = 0 }) f false) (frame_wide (record { 0 = 0 }) f false (omega arith) l))
    (rw (verdict_in_lem f.verdict f.form, form_of_kind_lem f.verdict f.form h))

never_held : (g : Bool) (f : Frame) → is_held (in_no_resources g (counter_for f)) ≡ true → ⊥
never_held true f e = never e
never_held false f e = never e

-- a unit that comes to hold a frame was Ready, and holds it before the descriptor that was next
pub held_unit : (u : Ru) (tag n rest : ℕ) (f : Frame) → RuIs u tag n rest → FormWide f.form → is_held (fate_in u f) ≡ true
    → (word : ℕ) → ((o : Offset) → WordIs (plain o.0) n → WordIs (frame_word o f false) word) → RuIs (holding u f) 4 word 0
held_unit ru.Idle tag n rest f h g e word put = absurd (never e)
held_unit ru.NoResources tag n rest f h g e word put = absurd (never_held (is_good f) f e)
held_unit (ru.Suspended o) tag n rest f h g e word put = absurd (never e)
held_unit (ru.Ready o) tag n rest f h g e word put =
    held word o f false g (put o (ready_back tag n rest o h))
held_unit (ru.Held o i p) tag n rest f h g e word put = absurd (never e)
held_unit (ru.Filling s w) tag n rest f h g e word put = absurd (never e)
held_unit (ru.Closing s o full) tag n rest f h g e word put = absurd (never e)
held_unit (ru.Lacking s) tag n rest f h g e word put = absurd (never e)
