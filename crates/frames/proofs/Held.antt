-- Demand 2 of frames at every call while a frame is held: what becomes of a good one, and of a bad one. Assumes nothing.
use mathlib.Core.Path.{◌≡◌, refl, sym, ap, ap₂, ◌∙◌, subst}
use mathlib.Core.Bool.{Bool, true, false, not, cond, ◌&&◌, ◌||◌, true≢false, false≢true}
use mathlib.Core.List.{List, [], ◌∷◌, ◌++◌, nil≢cons, append-nil}
use Prim.Native.Nat.{ℕ}
use borrow.Author.Tests.{eqb-true}
use lib.Dec.{eqb, leb, ltb}
use lib.ListN.{length}
use Rattle.memory.specs.Memory.{Write, word_to, apply}
use Rattle.memory.specs.declared.Offset.{Offset}
use Rattle.scb.specs.Control.{Code, code_of, start, resume, suspend, abort, other}
use Rattle.scb.specs.Words.{scb_command_at, resets, ruc, cu_number, ru_number, event_bits, no_events, any_of}
use Rattle.scb.specs.declared.Events.{Events}
use Rattle.scb.proofs.Raising.{raise_none}
use Rattle.device.specs.Answers.{is_held}
use Rattle.device.specs.Change.{with_events, with_units}
use Rattle.device.specs.Header.{header, unbuffered}
use Rattle.device.specs.State.{cu_state, ru_state, is_holding, held_in, is_good, fresh, cu_works, ru_works}
use Rattle.device.proofs.Laws.{some_held}
use Rattle.device.specs.declared.Device.{Device}
use Rattle.device.specs.declared.Fate.TheVariants as fate
use Rattle.device.specs.declared.Frame.{Frame}
use Rattle.device.specs.declared.Ru.{Ru}
use Rattle.device.specs.declared.Ru.TheVariants as ru
use Rattle.device.specs.declared.Storing.{Storing}
use Rattle.device.specs.declared.Units.{Units}
use Rattle.device.specs.declared.Walk.{Walk}
use Rattle.image.specs.Ranges.{form_fits, sized_from, has_data, in_range, has_next, cu_fits, initialised_or_fresh, units_fresh, units_idle, settings_fresh, addressing_fresh, units_fit, ru_fits, frame_fits}
use Rattle.phases.proofs.Units.{both as parts}
use Rattle.receive.specs.Arrival as arrivals
use Rattle.receive.specs.Part as receive
use Rattle.receive.specs.Begin as begins
use Rattle.receive.specs.Buffer as buffers
use Rattle.receive.specs.End.{lack}
use Rattle.receive.specs.Service as services
use Rattle.control.specs.Control.{ru_start, ru_resume, ru_suspend, ru_by, lost_by, aborted_ru}
use Rattle.control.specs.Obey.{Obeyed, obey_cuc, obey_ruc}
use Rattle.attention.specs.Attention as attentions
use Rattle.chip.specs.Arrival as chip
use Rattle.chip.specs.Attention.{attention_of}
use Rattle.chip.specs.Call.{Call, reset, attention, arrive, turn, ran}
use Rattle.chip.specs.Turn.{served_by, is_receive, raised_in, changes, status_by, receive_units, turn_by, turn_of, command_turn, receive_turn, concluded}
use Rattle.chip.specs.World.{World, Ran, writing, reset_of}
use Rattle.chip.proofs.Status.{receive_due}
use Rattle.filter.specs.Match.{matches}
use Rattle.traces.specs.Event.{call, is_calm}
use Rattle.frames.specs.Arrival.{in_scb, unit_of, settings_of, header_in}
use Rattle.frames.specs.Held.{of_held, chosen, held_fates, for_each, command_of, loses, end_is_next, is_served, ends, StaysHeld, begun_to, begun_unit, data_to, filled_to, filled_unit, OnlyWrites, Serves, suspends_at, Waits, untouched, suspends, Meanwhile, served, unserved, Lost, by_reset, by_resetting, by_abort, GoodFate, BadFate}
use Rattle.frames.specs.Held as held
use Rattle.frames.proofs.End.{part, turned, Closed, closed, Both, both, OnlyCounted, only_counted, Kept, kept}

-- ---- a unit that holds a frame

pub none≢one : {f : Frame} → [] ≡ f ∷ [] → ⊥
none≢one e = nil≢cons e

pub holds : (u : Ru) (f : Frame) → held_in u ≡ f ∷ [] → is_holding u ≡ true
holds u f h = some_held u f [] h

first_of : Frame → List Frame → Frame
first_of d [] = d
first_of d (f ∷ fs) = f

pub same_frame : (f g : Frame) → g ∷ [] ≡ f ∷ [] → g ≡ f
unfolding first_of
same_frame f g e = ap (first_of f) e

-- ---- in range

-- a device that is not initialised is the fresh one, which holds nothing
not_idle : (c : Bool) (u : Ru) → is_holding u ≡ true → (c && eqb (ru_number (ru_state u)) 0) ≡ true → ⊥
not_idle c ru.Idle h i = false≢true h
not_idle c ru.NoResources h i = false≢true h
not_idle c (ru.Suspended fd) h i = false≢true h
not_idle c (ru.Ready fd) h i = false≢true h
not_idle c (ru.Held fd g p) h i = false≢true (parts c _ i).1
not_idle c (ru.Filling s w) h i = false≢true (parts c _ i).1
not_idle c (ru.Closing s free full) h i = false≢true (parts c _ i).1
not_idle c (ru.Lacking s) h i = false≢true (parts c _ i).1

pub or_left : (a b : Bool) → (a || b) ≡ true → (b ≡ true → ⊥) → a ≡ true
or_left true b h n = refl
or_left false b h n = absurd (n h)

fresh_idle : (u : Units) → is_holding u.ru ≡ true → units_fresh u ≡ true → ⊥
unfolding units_fresh
fresh_idle u h i =
    not_idle (eqb (cu_number (cu_state u.cu)) 0) u.ru h
    (parts
    (eqb (event_bits u.events) 0 && not u.rulast && eqb u.base.0 0 && eqb u.scb.0 0 && settings_fresh u.settings)
    (units_idle u.cu u.ru) i
    ).1

pub held_initialised : (d : Device) → in_range d ≡ true → is_holding d.units.ru ≡ true → d.units.initialised ≡ true
unfolding in_range initialised_or_fresh
held_initialised d r h =
    or_left d.units.initialised (units_fresh d.units && addressing_fresh d) (parts (units_fit d.units) (initialised_or_fresh d) r).1
    (λ i. fresh_idle d.units h (parts (units_fresh d.units) (addressing_fresh d) i).0)

-- a frame that is held is in range
unit_fits : (u : Ru) (f : Frame) → held_in u ≡ f ∷ [] → ru_fits u ≡ true → frame_fits f ≡ true
unfolding ru_fits
unit_fits ru.Idle f h r = absurd (none≢one h)
unit_fits ru.NoResources f h r = absurd (none≢one h)
unit_fits (ru.Suspended fd) f h r = absurd (none≢one h)
unit_fits (ru.Ready fd) f h r = absurd (none≢one h)
unit_fits (ru.Held fd g p) f h r = ap frame_fits (sym (same_frame f g h)) ∙ r
unit_fits (ru.Filling s w) f h r =
    let least = leb (unbuffered s.frame.form) w.filled in
    ap frame_fits (sym (same_frame f s.frame h))
    ∙ (parts (frame_fits s.frame) (has_next w)
    (parts (frame_fits s.frame && has_next w) least (parts (frame_fits s.frame && has_next w && least) (ltb w.filled s.frame.length) r).0).0
    ).0
unit_fits (ru.Closing s free full) f h r =
    ap frame_fits (sym (same_frame f s.frame h)) ∙ (parts (frame_fits s.frame) (has_data s.frame || not full) r).0
unit_fits (ru.Lacking s) f h r = ap frame_fits (sym (same_frame f s.frame h)) ∙ (parts (frame_fits s.frame) (has_data s.frame) r).0

units_fit_lem : (u : Units) → units_fit u ≡ true → ru_fits u.ru ≡ true
unfolding units_fit
units_fit_lem u h =
    (parts (ltb u.base.0 16777216 && form_fits u.settings.form && cu_fits u.settings.form u.cu) (ru_fits u.ru) h).1

pub held_fits : (d : Device) (f : Frame) → in_range d ≡ true → held_in d.units.ru ≡ f ∷ [] → frame_fits f ≡ true
unfolding in_range
held_fits d f r h = unit_fits d.units.ru f h (units_fit_lem d.units (parts (units_fit d.units) (initialised_or_fresh d) r).0)

-- a bad one is held only to be saved
pub held_saved : (d : Device) (f : Frame) → in_range d ≡ true → held_in d.units.ru ≡ f ∷ [] → (is_good f || f.savebad) ≡ true
unfolding frame_fits
held_saved d f r h = (parts (form_fits f.form && sized_from (header f.form.length) f.length) (is_good f || f.savebad) (held_fits d f r h)).1

-- ---- what every held frame can come to, good or bad

pub data HeldFate (f : Frame) (c : Call) (w : World) : Type 0 where
  stays : loses c w ≡ false → ends c w ≡ false → StaysHeld f w (ran c w) → Meanwhile f c w → HeldFate f c w
  closing : (s : Storing) (free : Offset) (full : Bool) → ends c w ≡ true → unit_of w ≡ ru.Closing s free full → s.frame ≡ f
      → Closed w s free full (ran c w)
      → HeldFate f c w
  lacking : (s : Storing) → ends c w ≡ true → unit_of w ≡ ru.Lacking s → s.frame ≡ f
      → turned w (lack (part w) s w.memory) ≡ ran c w
      → HeldFate f c w
  lost : loses c w ≡ true → Lost w c → HeldFate f c w

-- ---- an arrival

arrival_fate : (few matched : Bool) (u : Ru) (j f : Frame) → held_in u ≡ f ∷ []
    → (is_held (arrivals.fate_by few matched u j) ≡ false) × (of_held (arrivals.fate_by few matched u j) ≡ false)
arrival_fate true matched u j f h = (refl, refl)
arrival_fate false false u j f h = (refl, refl)
arrival_fate false true ru.Idle j f h = absurd (none≢one h)
arrival_fate false true ru.NoResources j f h = absurd (none≢one h)
arrival_fate false true (ru.Suspended fd) j f h = absurd (none≢one h)
arrival_fate false true (ru.Ready fd) j f h = absurd (none≢one h)
arrival_fate false true (ru.Held fd g p) j f h = (refl, refl)
arrival_fate false true (ru.Filling s w) j f h = (refl, refl)
arrival_fate false true (ru.Closing s free full) j f h = (refl, refl)
arrival_fate false true (ru.Lacking s) j f h = (refl, refl)

at_arrival : (w : World) (f : Frame) (bs : List ℕ) (v : ℕ) → held_in (unit_of w) ≡ f ∷ [] → StaysHeld f w (chip.arrival_of w bs v)
unfolding chip.arrival_of chip.arrival arrivals.arrival arrivals.fate_of
at_arrival w f bs v h =
    let few = ltb (length bs) (header_in w) in
    let matched = matches (settings_of w) w.device.own w.device.filter bs in
    let j = arrivals.judged (settings_of w) bs v in
    let k = arrival_fate few matched (unit_of w) j f h in
    record { unit = rw k.0 h; holding = rw k.0; fates = ap (λ (b : Bool). chosen b (arrivals.fate_by few matched (unit_of w) j) []) k.1 }

-- the receive unit as it was
arrival_untouched : (w : World) (f : Frame) (bs : List ℕ) (v : ℕ) → held_in (unit_of w) ≡ f ∷ []
    → (chip.arrival_of w bs v).outcome.device.units.ru ≡ unit_of w
unfolding chip.arrival_of chip.arrival arrivals.arrival arrivals.fate_of
arrival_untouched w f bs v h =
    let few = ltb (length bs) (header_in w) in
    let matched = matches (settings_of w) w.device.own w.device.filter bs in
    rw (arrival_fate few matched (unit_of w) (arrivals.judged (settings_of w) bs v) f h).0

-- ---- an attention

unfoldable pub attended : World → attentions.Attended → Ran
attended w a = writing w a.writes a.outcome

pub to_attend : (w : World) → w.device.units.initialised ≡ true
    → attended w (attentions.attend_by (resets (command_of w)) w.device (command_of w) w.memory) ≡ attention_of w
unfolding attended attention_of attentions.attention attentions.attend
to_attend w i = ap (λ (b : Bool). attended w (attentions.attention_by b w.device w.memory)) (sym i)

-- it resets
reset_fates : (w : World) → (attended w (attentions.attend_by true w.device (command_of w) w.memory)).outcome.fates ≡ for_each fate.Reset w
unfolding attended attentions.attend_by
reset_fates w = refl

reset_fresh : (w : World) → (attended w (attentions.attend_by true w.device (command_of w) w.memory)).outcome.device ≡ fresh
unfolding attended attentions.attend_by
reset_fresh w = refl

reset_memory : (w : World) → (attended w (attentions.attend_by true w.device (command_of w) w.memory)).memory ≡ apply (word_to (in_scb w scb_command_at) 0x0000 ∷ []) w.memory
unfolding attended attentions.attend_by
reset_memory w = refl

at_reset : (w : World) → resets (command_of w) ≡ true → attended w (attentions.attend_by true w.device (command_of w) w.memory) ≡ attention_of w
    → Lost w attention
at_reset w r e =
    by_resetting r (ap (λ (x : Ran). x.outcome.fates) (sym e) ∙ reset_fates w) (ap (λ (x : Ran). x.outcome.device) (sym e) ∙ reset_fresh w)
    (ap (λ (x : Ran). x.memory) (sym e) ∙ reset_memory w)

-- it obeys
abbrev pub obeyed : World → Ran
obeyed w = attended w (attentions.attend_by false w.device (command_of w) w.memory)

-- what RUC comes to, on memory as CUC left it
abbrev pub obeyed_ruc : World → Obeyed Ru
obeyed_ruc w =
    let u = w.device.units in obey_ruc u (command_of w) (apply (obey_cuc u (command_of w) w.memory).writes w.memory)

record Aborted (w : World) (r : Ran) : Type 0 where
  fates : r.outcome.fates ≡ for_each fate.Aborted w
  unit : r.outcome.device.units.ru ≡ ru.Idle
  memory :
      r.memory
      ≡ apply ((obey_cuc w.device.units (command_of w) w.memory).writes ++ aborted_ru w.device.units.base (unit_of w)
      ++ attentions.settled_writes r.outcome.device.units) w.memory

-- ABORT alone loses the frame
abort_unit : (w : World) → ruc (command_of w) ≡ 4 → (obeyed_ruc w).unit ≡ ru.Idle
unfolding obey_ruc code_of
abort_unit w e = rw e

abort_writes : (w : World) → ruc (command_of w) ≡ 4 → (obeyed_ruc w).writes ≡ aborted_ru w.device.units.base (unit_of w)
unfolding obey_ruc code_of
abort_writes w e = rw e

aborted : (w : World) → ruc (command_of w) ≡ 4 → Aborted w (obeyed w)
unfolding attended attentions.attend_by
aborted w e =
    record {
      fates = ap (λ (u : Ru). lost_by fate.Aborted (held_in (unit_of w)) (held_in u)) (abort_unit w e);
      unit = abort_unit w e;
      memory =
          ap (λ (ws : List Write). apply ((obey_cuc w.device.units (command_of w) w.memory).writes ++ ws
          ++ attentions.settled_writes (obeyed w).outcome.device.units) w.memory) (abort_writes w e);
    }

abbrev pub is_abort : Code → Bool
is_abort start = false
is_abort resume = false
is_abort suspend = false
is_abort abort = true
is_abort other = false

-- a unit that does not go to Idle keeps its frame
suspend_keeps : (u : Ru) → held_in (ru_suspend u) ≡ held_in u
suspend_keeps ru.Idle = refl
suspend_keeps ru.NoResources = refl
suspend_keeps (ru.Suspended fd) = refl
suspend_keeps (ru.Ready fd) = refl
suspend_keeps (ru.Held fd f p) = refl
suspend_keeps (ru.Filling s w) = refl
suspend_keeps (ru.Closing s free full) = refl
suspend_keeps (ru.Lacking s) = refl

start_keeps : (rfa : Offset) (u : Ru) → held_in (ru_start rfa u) ≡ held_in u
start_keeps rfa ru.Idle = refl
start_keeps rfa ru.NoResources = refl
start_keeps rfa (ru.Suspended fd) = refl
start_keeps rfa (ru.Ready fd) = refl
start_keeps rfa (ru.Held fd f p) = refl
start_keeps rfa (ru.Filling s w) = refl
start_keeps rfa (ru.Closing s free full) = refl
start_keeps rfa (ru.Lacking s) = refl

resume_keeps : (u : Ru) → held_in (ru_resume u) ≡ held_in u
resume_keeps ru.Idle = refl
resume_keeps ru.NoResources = refl
resume_keeps (ru.Suspended fd) = refl
resume_keeps (ru.Ready fd) = refl
resume_keeps (ru.Held fd f p) = refl
resume_keeps (ru.Filling s w) = refl
resume_keeps (ru.Closing s free full) = refl
resume_keeps (ru.Lacking s) = refl

pub goes_on : (code : Code) (rfa : Offset) (u : Ru) → is_abort code ≡ false → held_in (ru_by code rfa u) ≡ held_in u
goes_on start rfa u i = start_keeps rfa u
goes_on resume rfa u i = resume_keeps u
goes_on suspend rfa u i = suspend_keeps u
goes_on abort rfa u i = absurd (true≢false i)
goes_on other rfa u i = refl

pub not_lost : (a b : List Frame) (f : Frame) (fs : List Frame) → b ≡ f ∷ fs → held_fates (lost_by fate.Aborted a b) ≡ []
not_lost a b f fs h = ap (λ (k : List Frame). held_fates (lost_by fate.Aborted a k)) h

code_by : (a b c : Bool) → is_abort (cond a start (cond b resume (cond c suspend other))) ≡ false
code_by true b c = refl
code_by false true c = refl
code_by false false true = refl
code_by false false false = refl

not_abort : (n : ℕ) → eqb n 4 ≡ false → is_abort (code_of n) ≡ false
unfolding code_of
not_abort n h = rw h (code_by (eqb n 1) (eqb n 2) (eqb n 3))

ruc_keeps : (w : World) → eqb (ruc (command_of w)) 4 ≡ false → held_in (obeyed_ruc w).unit ≡ held_in (unit_of w)
unfolding obey_ruc
ruc_keeps w a = goes_on (code_of (ruc (command_of w))) _ (unit_of w) (not_abort (ruc (command_of w)) a)

obeyed_keeps : (w : World) (f : Frame) → held_in (unit_of w) ≡ f ∷ [] → eqb (ruc (command_of w)) 4 ≡ false → StaysHeld f w (obeyed w)
unfolding attended attentions.attend_by
obeyed_keeps w f h a =
    let k : held_in (obeyed_ruc w).unit ≡ f ∷ [] = ruc_keeps w a ∙ h in
    record { unit = k; holding = refl; fates = not_lost (held_in (unit_of w)) (held_in (obeyed_ruc w).unit) f [] k }

-- how far storing has come stays
start_waits : (rfa : Offset) (u : Ru) → is_holding u ≡ true → ru_start rfa u ≡ u
start_waits rfa ru.Idle h = absurd (false≢true h)
start_waits rfa ru.NoResources h = absurd (false≢true h)
start_waits rfa (ru.Suspended fd) h = absurd (false≢true h)
start_waits rfa (ru.Ready fd) h = absurd (false≢true h)
start_waits rfa (ru.Held fd f p) h = refl
start_waits rfa (ru.Filling s w) h = refl
start_waits rfa (ru.Closing s free full) h = refl
start_waits rfa (ru.Lacking s) h = refl

resume_waits : (u : Ru) → is_holding u ≡ true → ru_resume u ≡ u
resume_waits ru.Idle h = absurd (false≢true h)
resume_waits ru.NoResources h = absurd (false≢true h)
resume_waits (ru.Suspended fd) h = absurd (false≢true h)
resume_waits (ru.Ready fd) h = absurd (false≢true h)
resume_waits (ru.Held fd f p) h = refl
resume_waits (ru.Filling s w) h = refl
resume_waits (ru.Closing s free full) h = refl
resume_waits (ru.Lacking s) h = refl

abbrev is_suspend : Code → Bool
is_suspend start = false
is_suspend resume = false
is_suspend suspend = true
is_suspend abort = false
is_suspend other = false

three_by : (a b c d : Bool) → c ≡ false → is_suspend (cond a start (cond b resume (cond c suspend (cond d abort other)))) ≡ false
three_by true b c d e = refl
three_by false true c d e = refl
three_by false false true d e = absurd (true≢false e)
three_by false false false true e = refl
three_by false false false false e = refl

is_three : (b : Bool) (n : ℕ) → eqb n 3 ≡ b → is_suspend (code_of n) ≡ b
unfolding code_of
is_three true n e = ap (λ (k : ℕ). is_suspend (code_of k)) (eqb-true n 3 e)
is_three false n e = three_by (eqb n 1) (eqb n 2) (eqb n 3) (eqb n 4) e

-- a SUSPEND comes to wait exactly by its code
waits_by : (code : Code) (w : World) → code_of (ruc (command_of w)) ≡ code → suspends_at attention w ≡ is_suspend code
waits_by code w c = sym (is_three (suspends_at attention w) (ruc (command_of w)) refl) ∙ ap is_suspend c

unit_waits : (code : Code) (rfa : Offset) (w : World) → code_of (ruc (command_of w)) ≡ code → is_holding (unit_of w) ≡ true → is_abort code ≡ false
    → (attention_of w).outcome.device.units.ru ≡ ru_by code rfa (unit_of w) → Waits w attention
unit_waits start rfa w c h a e = untouched (waits_by start w c) (e ∙ start_waits rfa (unit_of w) h)
unit_waits resume rfa w c h a e = untouched (waits_by resume w c) (e ∙ resume_waits (unit_of w) h)
unit_waits suspend rfa w c h a e = suspends (waits_by suspend w c) e
unit_waits abort rfa w c h a e = absurd (true≢false a)
unit_waits other rfa w c h a e = untouched (waits_by other w c) e

obeyed_unit : (w : World) → (obeyed w).outcome.device.units.ru ≡ (obeyed_ruc w).unit
unfolding attended attentions.attend_by
obeyed_unit w = refl

obeyed_waits : (w : World) (f : Frame) → held_in (unit_of w) ≡ f ∷ [] → eqb (ruc (command_of w)) 4 ≡ false → obeyed w ≡ attention_of w
    → Waits w attention
unfolding obey_ruc
obeyed_waits w f h a to =
    unit_waits (code_of (ruc (command_of w))) _ w refl (holds (unit_of w) f h) (not_abort (ruc (command_of w)) a)
    (ap (λ (r : Ran). r.outcome.device.units.ru) (sym to) ∙ obeyed_unit w)

at_abort : (w : World) → resets (command_of w) ≡ false → ruc (command_of w) ≡ 4 → Aborted w (attention_of w) → Lost w attention
at_abort w r a x = by_abort r a x.fates x.unit x.memory

at_attention : (reset aborts : Bool) (w : World) (f : Frame) → held_in (unit_of w) ≡ f ∷ [] → w.device.units.initialised ≡ true
    → resets (command_of w) ≡ reset → eqb (ruc (command_of w)) 4 ≡ aborts → HeldFate f attention w
at_attention true aborts w f h i r a =
    let to = ap (λ (b : Bool). attended w (attentions.attend_by b w.device (command_of w) w.memory)) (sym r) ∙ to_attend w i in
    lost (ap (λ (x : Bool). x || eqb (ruc (command_of w)) 4) r) (at_reset w r to)
at_attention false true w f h i r a =
    let to = ap (λ (b : Bool). attended w (attentions.attend_by b w.device (command_of w) w.memory)) (sym r) ∙ to_attend w i in
    let e = eqb-true (ruc (command_of w)) 4 a in
    lost (ap₂ (λ (x y : Bool). x || y) r a) (at_abort w r e (subst (Aborted w) to (aborted w e)))
at_attention false false w f h i r a =
    let to = ap (λ (b : Bool). attended w (attentions.attend_by b w.device (command_of w) w.memory)) (sym r) ∙ to_attend w i in
    stays (ap₂ (λ (x y : Bool). x || y) r a) refl (subst (StaysHeld f w) to (obeyed_keeps w f h a)) (unserved refl (obeyed_waits w f h a to))

-- ---- a turn

-- the command unit is served
command_keeps : (w : World) (f : Frame) (report : ℕ) → held_in (unit_of w) ≡ f ∷ [] → StaysHeld f w (command_turn w report)
unfolding command_turn concluded
command_keeps w f report h = record { unit = h; holding = refl; fates = refl }

command_untouched : (w : World) (report : ℕ) → (command_turn w report).outcome.device.units.ru ≡ unit_of w
unfolding command_turn concluded
command_untouched w report = refl

-- the receive unit is
pub to_turned : (w : World) (u : Ru) → unit_of w ≡ u → turned w (services.service_by u (part w) w.memory) ≡ receive_turn w
unfolding turned receive_turn services.service
to_turned w u e = ap (λ (x : Ru). turned w (services.service_by x (part w) w.memory)) (sym e)

first_keeps : (bare none : Bool) (s : Storing) (o : Offset) → held_in (begins.to_first bare none s o) ≡ s.frame ∷ []
first_keeps true none s o = refl
first_keeps false true s o = refl
first_keeps false false s o = refl

buffer_keeps : (done el none last : Bool) (s : Storing) (w : Walk) → held_in (buffers.after_buffer done el none last s w) ≡ s.frame ∷ []
buffer_keeps true el none last s w = refl
buffer_keeps false true none last s w = refl
buffer_keeps false false true last s w = refl
buffer_keeps false false false true s w = refl
buffer_keeps false false false false s w = refl

quiet_keeps : (w : World) (u : Ru) (ws : List Write) (f : Frame) → held_in u ≡ f ∷ [] → StaysHeld f w (turned w (receive.quietly u ws))
unfolding turned concluded
quiet_keeps w u ws f h = record { unit = h; holding = refl; fates = refl }

-- it writes what the service says, and nothing else
quiet_writes : (w : World) (next : Ru) (ws : List Write) → services.service_by (unit_of w) (part w) w.memory ≡ receive.quietly next ws
    → OnlyWrites next ws w (turned w (receive.quietly next ws))
unfolding turned concluded any_of services.service
quiet_writes w next ws e =
    let u = receive_units w.device (receive.quietly next ws) in
    let due : (any_of no_events || changes w.device.units u) ≡ any_of no_events =
    subst (λ (s : receive.Service). (any_of s.raised || changes w.device.units (receive_units w.device s)) ≡ any_of s.raised) e
    (receive_due w.device w.memory w.holding)
    in
    record {
      memory =
          ap (λ (b : Bool). apply (ws ++ status_by b (raised_in u no_events)) w.memory) due
          ∙ ap (λ (l : List Write). apply l w.memory) (append-nil ws);
      holding = refl;
      outgoing = refl;
      answer = refl;
      fates = refl;
      device = ap (λ (e : Events). with_units w.device (with_events u e)) (raise_none w.device.units.events);
    }

begin_keeps : (w : World) (fd : Offset) (f : Frame) (p : Bool) → StaysHeld f w (turned w (begins.begin (part w) fd f p w.memory))
unfolding begins.begin begins.begun_by
begin_keeps w fd f p = quiet_keeps w _ _ f (rw first_keeps)

fill_keeps : (w : World) (s : Storing) (k : Walk) → StaysHeld s.frame w (turned w (buffers.buffer (part w) s k w.memory))
unfolding buffers.buffer
fill_keeps w s k = quiet_keeps w _ _ s.frame (rw buffer_keeps)

begin_writes : (w : World) (fd : Offset) (f : Frame) (p : Bool) → unit_of w ≡ ru.Held fd f p
    → OnlyWrites (begun_unit w fd f p) (begun_to w fd ∷ []) w (turned w (begins.begin (part w) fd f p w.memory))
unfolding begins.begin
begin_writes w fd f p e = quiet_writes w _ _ (ap (λ (u : Ru). services.service_by u (part w) w.memory) e)

fill_writes : (w : World) (s : Storing) (k : Walk) → unit_of w ≡ ru.Filling s k
    → OnlyWrites (filled_unit w s k) (data_to w s k ∷ filled_to w s k ∷ []) w (turned w (buffers.buffer (part w) s k w.memory))
unfolding buffers.buffer
fill_writes w s k e = quiet_writes w _ _ (ap (λ (u : Ru). services.service_by u (part w) w.memory) e)

at_service : (u : Ru) (w : World) (f : Frame) (c : Call) → unit_of w ≡ u → held_in u ≡ f ∷ []
    → turned w (services.service_by u (part w) w.memory) ≡ ran c w
    → loses c w ≡ false → is_served c w ≡ true → ends c w ≡ end_is_next u → HeldFate f c w
at_service ru.Idle w f c e h r l v n = absurd (none≢one h)
at_service ru.NoResources w f c e h r l v n = absurd (none≢one h)
at_service (ru.Suspended fd) w f c e h r l v n = absurd (none≢one h)
at_service (ru.Ready fd) w f c e h r l v n = absurd (none≢one h)
at_service (ru.Held fd g p) w f c e h r l v n =
    let e' = same_frame f g h in
    let k = subst (λ (x : Frame). StaysHeld x w (turned w (begins.begin (part w) fd g p w.memory))) e' (begin_keeps w fd g p) in
    let own = subst (λ (x : Ran). Serves g w x) r (held.begin fd p e (begin_writes w fd g p e)) in
    stays l n (subst (StaysHeld f w) r k) (served v (subst (λ (x : Frame). Serves x w (ran c w)) e' own))
at_service (ru.Filling s k) w f c e h r l v n =
    let e' = same_frame f s.frame h in
    let j = subst (λ (x : Frame). StaysHeld x w (turned w (buffers.buffer (part w) s k w.memory))) e' (fill_keeps w s k) in
    stays l n (subst (StaysHeld f w) r j) (served v (held.buffer s k e e' (subst (OnlyWrites _ _ w) r (fill_writes w s k e))))
at_service (ru.Closing s free full) w f c e h r l v n =
    closing s free full n e (same_frame f s.frame h) (subst (Closed w s free full) r (closed w s free full))
at_service (ru.Lacking s) w f c e h r l v n = lacking s n e (same_frame f s.frame h) r

pub served_as : (c h l : Bool) (w : World) (report : ℕ) → cu_works w.device.units.cu ≡ c → ru_works (unit_of w) ≡ h
    → w.device.units.rulast ≡ l
    → turn_by (served_by c h l) w report ≡ turn_of w report
unfolding turn_of
served_as c h l w report a b d =
    ap (λ (x : Bool). turn_by (served_by x h l) w report) (sym a)
    ∙ ap (λ (x : Bool). turn_by (served_by (cu_works w.device.units.cu) x l) w report) (sym b)
    ∙ ap (λ (x : Bool). turn_by (served_by (cu_works w.device.units.cu) (ru_works (unit_of w)) x) w report) (sym d)

served_is : (c h l : Bool) (w : World) (report : ℕ) → cu_works w.device.units.cu ≡ c → ru_works (unit_of w) ≡ h
    → w.device.units.rulast ≡ l
    → is_served (turn report) w ≡ is_receive (served_by c h l)
served_is c h l w report a b d =
    ap (λ (x : Bool). is_receive (served_by (cu_works w.device.units.cu) (ru_works (unit_of w)) x)) d
    ∙ ap (λ (x : Bool). is_receive (served_by (cu_works w.device.units.cu) x l)) b
    ∙ ap (λ (x : Bool). is_receive (served_by x h l)) a

ends_as : (c h l : Bool) (w : World) (report : ℕ) → cu_works w.device.units.cu ≡ c → ru_works (unit_of w) ≡ h
    → w.device.units.rulast ≡ l
    → ends (turn report) w ≡ (is_receive (served_by c h l) && end_is_next (unit_of w))
ends_as c h l w report a b d = ap (λ (x : Bool). x && end_is_next (unit_of w)) (served_is c h l w report a b d)

at_turn : (c l : Bool) (w : World) (f : Frame) (report : ℕ) → held_in (unit_of w) ≡ f ∷ [] → cu_works w.device.units.cu ≡ c
    → w.device.units.rulast ≡ l
    → HeldFate f (turn report) w
at_turn true true w f report h a b =
    let k = holds (unit_of w) f h in
    let to = served_as true true true w report a k b in
    stays refl (ends_as true true true w report a k b) (subst (StaysHeld f w) to (command_keeps w f report h))
    (unserved (served_is true true true w report a k b)
    (untouched refl (subst (λ (r : Ran). r.outcome.device.units.ru ≡ unit_of w) to (command_untouched w report))))
at_turn true false w f report h a b =
    let k = holds (unit_of w) f h in
    at_service (unit_of w) w f (turn report) refl h (to_turned w (unit_of w) refl ∙ served_as true true false w report a k b) refl
    (served_is true true false w report a k b)
    (ends_as true true false w report a k b)
at_turn false l w f report h a b =
    let k = holds (unit_of w) f h in
    at_service (unit_of w) w f (turn report) refl h (to_turned w (unit_of w) refl ∙ served_as false true l w report a k b) refl
    (served_is false true l w report a k b)
    (ends_as false true l w report a k b)

-- ---- every call

reset_lost : (w : World) → Lost w reset
unfolding reset_of
reset_lost w = by_reset refl refl

-- a turn, whether the device is initialised or not
pub turn_fate : (w : World) (f : Frame) (report : ℕ) → held_in (unit_of w) ≡ f ∷ [] → HeldFate f (turn report) w
turn_fate w f report h = at_turn (cu_works w.device.units.cu) w.device.units.rulast w f report h refl refl

-- an arrival or a turn, likewise
pub calm_fate : (c : Call) (w : World) (f : Frame) → is_calm (call c) ≡ true → held_in (unit_of w) ≡ f ∷ [] → HeldFate f c w
calm_fate reset w f i h = absurd (false≢true i)
calm_fate attention w f i h = absurd (false≢true i)
calm_fate (arrive bs v) w f i h =
    stays refl refl (at_arrival w f bs v h) (unserved refl (untouched refl (arrival_untouched w f bs v h)))
calm_fate (turn report) w f i h = turn_fate w f report h

pub held_fate : (c : Call) (w : World) (f : Frame) → w.device.units.initialised ≡ true → held_in (unit_of w) ≡ f ∷ [] → HeldFate f c w
held_fate reset w f i h = lost refl (reset_lost w)
held_fate attention w f i h = at_attention (resets (command_of w)) (eqb (ruc (command_of w)) 4) w f h i refl refl
held_fate (arrive bs v) w f i h = calm_fate (arrive bs v) w f refl h
held_fate (turn report) w f i h = calm_fate (turn report) w f refl h

-- ---- a good one

good_lacking : (saved : Bool) (c : Call) (w : World) (f : Frame) (s : Storing) → ends c w ≡ true → unit_of w ≡ ru.Lacking s → s.frame ≡ f
    → is_good f ≡ true → f.savebad ≡ saved
    → turned w (lack (part w) s w.memory) ≡ ran c w → GoodFate f c w
good_lacking true c w f s n e q g b r =
    let x = subst (Both w s) r (both w s (ap (λ (k : Frame). k.savebad) q ∙ b) (ap is_good q ∙ g)) in
    held.both s n e q b x.fates x.stored x.counted x.end
good_lacking false c w f s n e q g b r =
    let x = subst (OnlyCounted w s) r (only_counted w s (ap (λ (k : Frame). k.savebad) q ∙ b) (ap is_good q ∙ g)) in
    held.counted s n e q b x.fates x.counted x.end

pub good_of : (c : Call) (w : World) (f : Frame) → is_good f ≡ true → HeldFate f c w → GoodFate f c w
good_of c w f g (stays l n k m) = held.stays l n k m
good_of c w f g (closing s free full n e q k) = held.stored s free full n e q k.fates k.stored k.end
good_of c w f g (lacking s n e q r) = good_lacking f.savebad c w f s n e q g refl r
good_of c w f g (lost l k) = held.lost l k

-- every call, while a good frame is held: it stays held; or it is stored; or counted; or both, exactly if kept with too few buffers; or lost, and
-- only by an RU abort, the reset call or a resetting attention
pub good_held : (c : Call) (w : World) (f : Frame) → in_range w.device ≡ true → held_in (unit_of w) ≡ f ∷ [] → is_good f ≡ true → GoodFate f c w
good_held c w f r h g = good_of c w f g (held_fate c w f (held_initialised w.device r (holds (unit_of w) f h)) h)

-- ---- a bad one

pub or_right : (a b : Bool) → (a || b) ≡ true → a ≡ false → b ≡ true
or_right true b h n = absurd (true≢false n)
or_right false b h n = h

pub bad_of : (c : Call) (w : World) (f : Frame) → is_good f ≡ false → f.savebad ≡ true → HeldFate f c w → BadFate f c w
bad_of c w f g b (stays l n k m) = held.stays l n k m
bad_of c w f g b (closing s free full n e q k) = held.stored s free full n e q k.fates k.stored k.end
bad_of c w f g b (lacking s n e q r) =
    let x = subst (Kept w s) r (kept w s (ap (λ (k : Frame). k.savebad) q ∙ b) (ap is_good q ∙ g)) in
    held.lacking s n e q x.fates x.stored x.end
bad_of c w f g b (lost l k) = held.lost l k

-- every call, while a bad frame is held: it stays held; or is stored, with bit 9 if out of buffers, and no counter moves in that turn; or is lost in
-- the same three ways
pub bad_held : (c : Call) (w : World) (f : Frame) → in_range w.device ≡ true → held_in (unit_of w) ≡ f ∷ [] → is_good f ≡ false → BadFate f c w
bad_held c w f r h g =
    bad_of c w f g (or_right (is_good f) f.savebad (held_saved w.device f r h) g)
    (held_fate c w f (held_initialised w.device r (holds (unit_of w) f h)) h)
