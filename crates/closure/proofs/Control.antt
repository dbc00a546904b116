-- An attention leaves a state in range, and writes bytes. Assumes nothing.
use mathlib.Core.Path.{◌≡◌, refl}
use mathlib.Core.Bool.{Bool, true, false, ◌&&◌}
use mathlib.Core.List.{List, [], ◌++◌}
use Prim.Native.Nat.{ℕ, ◌<◌}
use native.Mathlib.Omega.{arith}
use borrow.Author.Tests.{lt-ltb, le-leb, ltb-true}
use lib.Dec.{ltb}
use Rattle.memory.specs.Address.{beyond, offset_at}
use Rattle.memory.specs.Memory.{word_at, apply}
use Rattle.memory.specs.declared.Offset.{Offset}
use Rattle.memory.specs.declared.RealAddress.{RealAddress}
use Rattle.memory.proofs.Bytes.{Bytes, AllBytes, all_append, apply_bytes, field_bound, digits_bytes, bytes_cons, bytes_nil}
use Rattle.scb.specs.Words.{cbl_at, rfa_at, scb_command_at, cuc, ruc, resets}
use Rattle.scb.specs.Control.{Code, code_of, start, resume, suspend, abort, other}
use Rattle.device.specs.Change.{pausing_begun, pausing_storing}
use Rattle.device.specs.declared.Cu.{Cu}
use Rattle.device.specs.declared.Cu.TheVariants as cu
use Rattle.device.specs.declared.Device.{Device}
use Rattle.device.specs.declared.Form.{Form}
use Rattle.device.specs.declared.Ru.{Ru}
use Rattle.device.specs.declared.Ru.TheVariants as ru
use Rattle.device.specs.declared.Storing.{Storing}
use Rattle.device.specs.declared.Units.{Units}
use Rattle.actions.specs.Setup.{setup_of}
use Rattle.control.specs.Control.{cu_start, cu_resume, cu_suspend, cu_by, aborted_cu, cu_writes, ru_start, ru_resume, ru_suspend, ru_by, aborted_ru, ru_writes}
use Rattle.control.specs.Obey.{of_scb, obey_cuc, obey_ruc}
use Rattle.attention.specs.Status.{status_to}
use Rattle.attention.specs.Attention.{Attended, iscp_of, initialise, settled_writes, attend_by, attend, attention_by, attention}
use Rattle.image.specs.Ranges.{form_fits, cu_fits, ru_fits, units_fit, initialised_or_fresh, in_range, Wide}
use Rattle.image.proofs.Exact.{fits, fit_form, fresh_range, fresh_wide}
use Rattle.phases.proofs.Units.{both}
use Rattle.closure.proofs.Units.{CuGood, RuGood, cu_idle, cu_suspended, cu_waiting, cu_acting, cu_failing, cu_ending, cu_sending, at_suspended, at_waiting, at_acting, at_failing, at_ending, ending_size, at_sending, sending_walk, StoringGood, ru_idle, ru_suspended, ru_ready, ru_held, ru_filling, ru_closing, ru_lacking, fd_suspended, fd_ready, fd_held, held_frame, filling_storing, filling_left, filling_walk, closing_storing, closing_free, closing_full, lacking_storing, lacking_left}
use Rattle.closure.proofs.Command.{SetupGood}

-- ---- a state in range after the first attention, piece by piece

pub record Running (d : Device) : Type 0 where
  pub initialised : d.units.initialised ≡ true
  pub base : d.units.base.0 < 16777216
  pub scb : d.units.scb.0 < 65536
  pub cu : CuGood d.units.settings.form d.units.cu
  pub ru : RuGood d.units.ru
  pub setup : SetupGood (setup_of d)

pub running_range : (d : Device) → Running d → in_range d ≡ true
unfolding in_range units_fit initialised_or_fresh
running_range d h =
    rw (lt-ltb d.units.base.0 16777216 h.base, le-leb d.units.settings.form.length 6 h.setup.form, h.cu.fits, h.ru.fits, h.initialised)

pub running_wide : (d : Device) → Running d → Wide d
running_wide d h =
    record {
      scb = h.scb;
      minimum = h.setup.minimum;
      cu = h.cu.wide;
      ru = h.ru.wide;
      own = h.setup.own;
      own_bytes_lem = h.setup.own_bytes_lem.each;
      filter = h.setup.filter;
    }

pub setup_good : (d : Device) → in_range d ≡ true → Wide d → SetupGood (setup_of d)
setup_good d e h =
    record {
      minimum = h.minimum;
      form = fit_form d.units (fits d h e);
      own = h.own;
      own_bytes_lem = record { each = h.own_bytes_lem };
      filter = h.filter;
    }

-- what the ranges say of the units, initialised or not
fits_of : (d : Device) → in_range d ≡ true → (d.units.base.0 < 16777216) × (cu_fits d.units.settings.form d.units.cu ≡ true) × (ru_fits d.units.ru ≡ true)
unfolding in_range units_fit
fits_of d e =
    let f = d.units.settings.form in
    let x = both (units_fit d.units) (initialised_or_fresh d) e in
    let y = both (ltb d.units.base.0 16777216 && form_fits f && cu_fits f d.units.cu) (ru_fits d.units.ru) x.0 in
    let z = both (ltb d.units.base.0 16777216 && form_fits f) (cu_fits f d.units.cu) y.0 in
    (ltb-true _ _ (both (ltb d.units.base.0 16777216) (form_fits f) z.0).0, z.1, y.1)

pub cu_good : (d : Device) → in_range d ≡ true → Wide d → CuGood d.units.settings.form d.units.cu
cu_good d e h = record { fits = (fits_of d e).1; wide = h.cu }

pub running_of : (d : Device) → in_range d ≡ true → Wide d → d.units.initialised ≡ true → Running d
running_of d e h i =
    record {
      initialised = i;
      base = (fits_of d e).0;
      scb = h.scb;
      cu = cu_good d e h;
      ru = record { fits = (fits_of d e).2; wide = h.ru };
      setup = setup_good d e h;
    }

-- ---- the command unit obeys

start_good : {g : Form} (cbl : Offset) (u : Cu) → cbl.0 < 65536 → CuGood g u → CuGood g (cu_start cbl u)
start_good cbl cu.Idle f h = cu_waiting cbl f
start_good cbl (cu.Suspended o) f h = cu_waiting cbl f
start_good cbl (cu.Waiting o) f h = h
start_good cbl (cu.Acting b a) f h = h
start_good cbl (cu.Sending b w) f h = h
start_good cbl (cu.Ending b n) f h = h
start_good cbl (cu.Failing b) f h = h

resume_good : {g : Form} (u : Cu) → CuGood g u → CuGood g (cu_resume u)
resume_good cu.Idle h = h
resume_good (cu.Suspended o) h = cu_waiting o (at_suspended o h)
resume_good (cu.Waiting o) h = h
resume_good (cu.Acting b a) h = h
resume_good (cu.Sending b w) h = h
resume_good (cu.Ending b n) h = h
resume_good (cu.Failing b) h = h

suspend_good : {g : Form} (u : Cu) → CuGood g u → CuGood g (cu_suspend u)
suspend_good cu.Idle h = h
suspend_good (cu.Suspended o) h = h
suspend_good (cu.Waiting o) h = cu_suspended o (at_waiting o h)
suspend_good (cu.Acting b a) h = cu_acting (pausing_begun b) a (at_acting b a h)
suspend_good (cu.Sending b w) h = cu_sending (pausing_begun b) w (at_sending b w h) (sending_walk b w h)
suspend_good (cu.Ending b n) h = let z = ending_size b n h in cu_ending (pausing_begun b) n (at_ending b n h) z.0 z.1
suspend_good (cu.Failing b) h = cu_failing (pausing_begun b) (at_failing b h)

cu_by_good : {g : Form} (code : Code) (cbl : Offset) (u : Cu) → cbl.0 < 65536 → CuGood g u → CuGood g (cu_by code cbl u)
cu_by_good start cbl u f h = start_good cbl u f h
cu_by_good resume cbl u f h = resume_good u h
cu_by_good suspend cbl u f h = suspend_good u h
cu_by_good abort cbl u f h = cu_idle
cu_by_good other cbl u f h = h

aborted_cu_bytes : (base : RealAddress) (u : Cu) → AllBytes (aborted_cu base u)
aborted_cu_bytes base cu.Idle = tt
aborted_cu_bytes base (cu.Suspended o) = tt
aborted_cu_bytes base (cu.Waiting o) = tt
aborted_cu_bytes base (cu.Acting b a) = (digits_bytes 2 0x9000, tt)
aborted_cu_bytes base (cu.Sending b w) = (digits_bytes 2 0x9000, tt)
aborted_cu_bytes base (cu.Ending b n) = (digits_bytes 2 0x9000, tt)
aborted_cu_bytes base (cu.Failing b) = (digits_bytes 2 0x9000, tt)

cu_writes_bytes : (code : Code) (base : RealAddress) (u : Cu) → AllBytes (cu_writes code base u)
cu_writes_bytes start base u = tt
cu_writes_bytes resume base u = tt
cu_writes_bytes suspend base u = tt
cu_writes_bytes abort base u = aborted_cu_bytes base u
cu_writes_bytes other base u = tt

cuc_good : {g : Form} (u : Units) (command : ℕ) (m : List ℕ) → CuGood g u.cu → Bytes m → CuGood g (obey_cuc u command m).unit
unfolding obey_cuc
cuc_good u command m h b = cu_by_good (code_of (cuc command)) (offset_at m (of_scb u cbl_at)) u.cu (field_bound m (of_scb u cbl_at) 2 b) h

cuc_bytes : (u : Units) (command : ℕ) (m : List ℕ) → AllBytes (obey_cuc u command m).writes
unfolding obey_cuc
cuc_bytes u command m = cu_writes_bytes (code_of (cuc command)) u.base u.cu

-- ---- the receive unit obeys

ru_start_good : (rfa : Offset) (u : Ru) → rfa.0 < 65536 → RuGood u → RuGood (ru_start rfa u)
ru_start_good rfa ru.Idle f h = ru_ready rfa f
ru_start_good rfa ru.NoResources f h = ru_ready rfa f
ru_start_good rfa (ru.Suspended o) f h = ru_ready rfa f
ru_start_good rfa (ru.Ready o) f h = h
ru_start_good rfa (ru.Held o g p) f h = h
ru_start_good rfa (ru.Filling s w) f h = h
ru_start_good rfa (ru.Closing s o full) f h = h
ru_start_good rfa (ru.Lacking s) f h = h

ru_resume_good : (u : Ru) → RuGood u → RuGood (ru_resume u)
ru_resume_good ru.Idle h = h
ru_resume_good ru.NoResources h = h
ru_resume_good (ru.Suspended o) h = ru_ready o (fd_suspended o h)
ru_resume_good (ru.Ready o) h = h
ru_resume_good (ru.Held o g p) h = h
ru_resume_good (ru.Filling s w) h = h
ru_resume_good (ru.Closing s o full) h = h
ru_resume_good (ru.Lacking s) h = h

pausing_good : (s : Storing) → StoringGood s → StoringGood (pausing_storing s)
pausing_good s h = record { fd = h.fd; frame = h.frame }

ru_suspend_good : (u : Ru) → RuGood u → RuGood (ru_suspend u)
ru_suspend_good ru.Idle h = h
ru_suspend_good ru.NoResources h = h
ru_suspend_good (ru.Suspended o) h = h
ru_suspend_good (ru.Ready o) h = ru_suspended o (fd_ready o h)
ru_suspend_good (ru.Held o f p) h = ru_held o f true (fd_held o f p h) (held_frame o f p h)
ru_suspend_good (ru.Filling s w) h =
    ru_filling (pausing_storing s) w (pausing_good s (filling_storing s w h)) (filling_walk s w h) (filling_left s w h)
ru_suspend_good (ru.Closing s o full) h =
    ru_closing (pausing_storing s) o full (pausing_good s (closing_storing s o full h)) (closing_free s o full h) (closing_full s o full h)
ru_suspend_good (ru.Lacking s) h = ru_lacking (pausing_storing s) (pausing_good s (lacking_storing s h)) (lacking_left s h)

ru_by_good : (code : Code) (rfa : Offset) (u : Ru) → rfa.0 < 65536 → RuGood u → RuGood (ru_by code rfa u)
ru_by_good start rfa u f h = ru_start_good rfa u f h
ru_by_good resume rfa u f h = ru_resume_good u h
ru_by_good suspend rfa u f h = ru_suspend_good u h
ru_by_good abort rfa u f h = ru_idle
ru_by_good other rfa u f h = h

aborted_ru_bytes : (base : RealAddress) (u : Ru) → AllBytes (aborted_ru base u)
aborted_ru_bytes base ru.Idle = tt
aborted_ru_bytes base ru.NoResources = tt
aborted_ru_bytes base (ru.Suspended o) = tt
aborted_ru_bytes base (ru.Ready o) = tt
aborted_ru_bytes base (ru.Held o f p) = tt
aborted_ru_bytes base (ru.Filling s w) = (digits_bytes 2 0x0000, tt)
aborted_ru_bytes base (ru.Closing s o full) = (digits_bytes 2 0x0000, tt)
aborted_ru_bytes base (ru.Lacking s) = (digits_bytes 2 0x0000, tt)

ru_writes_bytes : (code : Code) (base : RealAddress) (u : Ru) → AllBytes (ru_writes code base u)
ru_writes_bytes start base u = tt
ru_writes_bytes resume base u = tt
ru_writes_bytes suspend base u = tt
ru_writes_bytes abort base u = aborted_ru_bytes base u
ru_writes_bytes other base u = tt

ruc_good : (u : Units) (command : ℕ) (m : List ℕ) → RuGood u.ru → Bytes m → RuGood (obey_ruc u command m).unit
unfolding obey_ruc
ruc_good u command m h b = ru_by_good (code_of (ruc command)) (offset_at m (of_scb u rfa_at)) u.ru (field_bound m (of_scb u rfa_at) 2 b) h

ruc_bytes : (u : Units) (command : ℕ) (m : List ℕ) → AllBytes (obey_ruc u command m).writes
unfolding obey_ruc
ruc_bytes u command m = ru_writes_bytes (code_of (ruc command)) u.base u.ru

-- ---- the status is of bytes

pub status_bytes_lem : (u : Units) → Bytes (status_to u).bytes
unfolding status_to
status_bytes_lem u = digits_bytes 2 _

-- ---- an attention

pub record AttendedGood (a : Attended) : Type 0 where
  pub range : in_range a.outcome.device ≡ true
  pub wide : Wide a.outcome.device
  pub writes : AllBytes a.writes

running_good : (a : Attended) → Running a.outcome.device → AllBytes a.writes → AttendedGood a
running_good a h w = record { range = running_range a.outcome.device h; wide = running_wide a.outcome.device h; writes = w }

-- the first one
initialise_good : (d : Device) (m : List ℕ) → in_range d ≡ true → Wide d → Bytes m → AttendedGood (initialise d m)
unfolding initialise
initialise_good d m e h b =
    let iscp = iscp_of m in
    running_good (initialise d m)
    (record {
      initialised = refl;
      base = field_bound m (beyond iscp 4) 3 b;
      scb = field_bound m (beyond iscp 2) 2 b;
      cu = cu_idle;
      ru = ru_idle;
      setup = setup_good d e h;
    })
    (bytes_cons 0 [] (omega arith) bytes_nil, (digits_bytes 2 0xA000, (digits_bytes 2 0x0000, tt)))

-- RESET
reset_good : (d : Device) (command : ℕ) (m : List ℕ) → AttendedGood (attend_by true d command m)
unfolding attend_by
reset_good d command m = record { range = fresh_range; wide = fresh_wide; writes = (digits_bytes 2 0x0000, tt) }

-- every other
obey_good : (d : Device) (command : ℕ) (m : List ℕ) → Running d → Bytes m → AttendedGood (attend_by false d command m)
unfolding attend_by
obey_good d command m h b =
    let c = obey_cuc d.units command m in
    let v = cuc_bytes d.units command m in
    let m₁ = apply c.writes m in
    let r = obey_ruc d.units command m₁ in
    let u = (attend_by false d command m).outcome.device.units in
    running_good (attend_by false d command m)
    (record {
      initialised = h.initialised;
      base = h.base;
      scb = h.scb;
      cu = cuc_good d.units command m h.cu b;
      ru = ruc_good d.units command m₁ h.ru (apply_bytes c.writes m v b);
      setup = h.setup;
    })
    (all_append (c.writes ++ r.writes) (settled_writes u) (all_append c.writes r.writes v (ruc_bytes d.units command m₁))
    (status_bytes_lem u, (digits_bytes 2 0x0000, tt)))

attend_good_by : (reset : Bool) (d : Device) (command : ℕ) (m : List ℕ) → Running d → Bytes m → AttendedGood (attend_by reset d command m)
attend_good_by true d command m h b = reset_good d command m
attend_good_by false d command m h b = obey_good d command m h b

attend_good : (d : Device) (m : List ℕ) → Running d → Bytes m → AttendedGood (attend d m)
unfolding attend
attend_good d m h b =
    let command = word_at m (of_scb d.units scb_command_at) in attend_good_by (resets command) d command m h b

attention_good_by : (initialised : Bool) (d : Device) (m : List ℕ) → d.units.initialised ≡ initialised → in_range d ≡ true → Wide d → Bytes m
    → AttendedGood (attention_by initialised d m)
attention_good_by false d m i e h b = initialise_good d m e h b
attention_good_by true d m i e h b = attend_good d m (running_of d e h i) b

pub attention_good : (d : Device) (m : List ℕ) → in_range d ≡ true → Wide d → Bytes m → AttendedGood (attention d m)
unfolding attention
attention_good d m e h b = attention_good_by d.units.initialised d m refl e h b
