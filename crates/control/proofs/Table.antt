-- The tables of the room scb follow from what the codes do: a unit that has obeyed is in the state that its table says, at once; but for SUSPEND
-- of a begun command or a held frame, which waits for the end: till then the state is as it was. Assumes nothing.
use mathlib.Core.Path.{◌≡◌, refl}
use mathlib.Core.Bool.{Bool, true, false, false≢true, true≢false}
use Rattle.memory.specs.declared.Offset.{Offset}
use Rattle.scb.specs.Control.{Code, start, resume, suspend, abort, other, cu_next, ru_next}
use Rattle.device.specs.State.{cu_state, ru_state, is_holding}
use Rattle.device.specs.declared.Cu.{Cu}
use Rattle.device.specs.declared.Cu.TheVariants as cu
use Rattle.device.specs.declared.Ru.{Ru}
use Rattle.device.specs.declared.Ru.TheVariants as ru
use Rattle.control.specs.Control.{cu_start, cu_resume, cu_suspend, cu_by, ru_start, ru_resume, ru_suspend, ru_by}

-- ---- the command unit

-- a command is begun
abbrev pub is_begun : Cu → Bool
is_begun cu.Idle = false
is_begun (cu.Suspended o) = false
is_begun (cu.Waiting o) = false
is_begun (cu.Acting b a) = true
is_begun (cu.Sending b w) = true
is_begun (cu.Ending b n) = true
is_begun (cu.Failing b) = true

start_leads : (cbl : Offset) (u : Cu) → cu_state (cu_start cbl u) ≡ cu_next start (cu_state u)
start_leads cbl cu.Idle = refl
start_leads cbl (cu.Suspended o) = refl
start_leads cbl (cu.Waiting o) = refl
start_leads cbl (cu.Acting b a) = refl
start_leads cbl (cu.Sending b w) = refl
start_leads cbl (cu.Ending b n) = refl
start_leads cbl (cu.Failing b) = refl

resume_leads : (u : Cu) → cu_state (cu_resume u) ≡ cu_next resume (cu_state u)
resume_leads cu.Idle = refl
resume_leads (cu.Suspended o) = refl
resume_leads (cu.Waiting o) = refl
resume_leads (cu.Acting b a) = refl
resume_leads (cu.Sending b w) = refl
resume_leads (cu.Ending b n) = refl
resume_leads (cu.Failing b) = refl

suspend_leads : (u : Cu) → is_begun u ≡ false → cu_state (cu_suspend u) ≡ cu_next suspend (cu_state u)
suspend_leads cu.Idle h = refl
suspend_leads (cu.Suspended o) h = refl
suspend_leads (cu.Waiting o) h = refl
suspend_leads (cu.Acting b a) h = absurd (true≢false h)
suspend_leads (cu.Sending b w) h = absurd (true≢false h)
suspend_leads (cu.Ending b n) h = absurd (true≢false h)
suspend_leads (cu.Failing b) h = absurd (true≢false h)

cu_abort_leads : (u : Cu) → cu_state cu.Idle ≡ cu_next abort (cu_state u)
cu_abort_leads cu.Idle = refl
cu_abort_leads (cu.Suspended o) = refl
cu_abort_leads (cu.Waiting o) = refl
cu_abort_leads (cu.Acting b a) = refl
cu_abort_leads (cu.Sending b w) = refl
cu_abort_leads (cu.Ending b n) = refl
cu_abort_leads (cu.Failing b) = refl

cu_other_leads : (u : Cu) → cu_state u ≡ cu_next other (cu_state u)
cu_other_leads cu.Idle = refl
cu_other_leads (cu.Suspended o) = refl
cu_other_leads (cu.Waiting o) = refl
cu_other_leads (cu.Acting b a) = refl
cu_other_leads (cu.Sending b w) = refl
cu_other_leads (cu.Ending b n) = refl
cu_other_leads (cu.Failing b) = refl

-- SUSPEND waits for the end of this unit's work
abbrev pub cu_pauses : Code → Cu → Bool
cu_pauses start u = false
cu_pauses resume u = false
cu_pauses suspend u = is_begun u
cu_pauses abort u = false
cu_pauses other u = false

pub cu_leads : (code : Code) (cbl : Offset) (u : Cu) → cu_pauses code u ≡ false → cu_state (cu_by code cbl u) ≡ cu_next code (cu_state u)
cu_leads start cbl u h = start_leads cbl u
cu_leads resume cbl u h = resume_leads u
cu_leads suspend cbl u h = suspend_leads u h
cu_leads abort cbl u h = cu_abort_leads u
cu_leads other cbl u h = cu_other_leads u

pub cu_pauses_lem : (u : Cu) → is_begun u ≡ true → cu_state (cu_suspend u) ≡ cu_state u
cu_pauses_lem cu.Idle h = absurd (false≢true h)
cu_pauses_lem (cu.Suspended o) h = absurd (false≢true h)
cu_pauses_lem (cu.Waiting o) h = absurd (false≢true h)
cu_pauses_lem (cu.Acting b a) h = refl
cu_pauses_lem (cu.Sending b w) h = refl
cu_pauses_lem (cu.Ending b n) h = refl
cu_pauses_lem (cu.Failing b) h = refl

-- ---- the receive unit

ru_start_leads : (rfa : Offset) (u : Ru) → ru_state (ru_start rfa u) ≡ ru_next start (ru_state u)
ru_start_leads rfa ru.Idle = refl
ru_start_leads rfa ru.NoResources = refl
ru_start_leads rfa (ru.Suspended o) = refl
ru_start_leads rfa (ru.Ready o) = refl
ru_start_leads rfa (ru.Held o f p) = refl
ru_start_leads rfa (ru.Filling s w) = refl
ru_start_leads rfa (ru.Closing s o e) = refl
ru_start_leads rfa (ru.Lacking s) = refl

ru_resume_leads : (u : Ru) → ru_state (ru_resume u) ≡ ru_next resume (ru_state u)
ru_resume_leads ru.Idle = refl
ru_resume_leads ru.NoResources = refl
ru_resume_leads (ru.Suspended o) = refl
ru_resume_leads (ru.Ready o) = refl
ru_resume_leads (ru.Held o f p) = refl
ru_resume_leads (ru.Filling s w) = refl
ru_resume_leads (ru.Closing s o e) = refl
ru_resume_leads (ru.Lacking s) = refl

ru_suspend_leads : (u : Ru) → is_holding u ≡ false → ru_state (ru_suspend u) ≡ ru_next suspend (ru_state u)
ru_suspend_leads ru.Idle h = refl
ru_suspend_leads ru.NoResources h = refl
ru_suspend_leads (ru.Suspended o) h = refl
ru_suspend_leads (ru.Ready o) h = refl
ru_suspend_leads (ru.Held o f p) h = absurd (true≢false h)
ru_suspend_leads (ru.Filling s w) h = absurd (true≢false h)
ru_suspend_leads (ru.Closing s o e) h = absurd (true≢false h)
ru_suspend_leads (ru.Lacking s) h = absurd (true≢false h)

ru_abort_leads : (u : Ru) → ru_state ru.Idle ≡ ru_next abort (ru_state u)
ru_abort_leads ru.Idle = refl
ru_abort_leads ru.NoResources = refl
ru_abort_leads (ru.Suspended o) = refl
ru_abort_leads (ru.Ready o) = refl
ru_abort_leads (ru.Held o f p) = refl
ru_abort_leads (ru.Filling s w) = refl
ru_abort_leads (ru.Closing s o e) = refl
ru_abort_leads (ru.Lacking s) = refl

ru_other_leads : (u : Ru) → ru_state u ≡ ru_next other (ru_state u)
ru_other_leads ru.Idle = refl
ru_other_leads ru.NoResources = refl
ru_other_leads (ru.Suspended o) = refl
ru_other_leads (ru.Ready o) = refl
ru_other_leads (ru.Held o f p) = refl
ru_other_leads (ru.Filling s w) = refl
ru_other_leads (ru.Closing s o e) = refl
ru_other_leads (ru.Lacking s) = refl

abbrev pub ru_pauses : Code → Ru → Bool
ru_pauses start u = false
ru_pauses resume u = false
ru_pauses suspend u = is_holding u
ru_pauses abort u = false
ru_pauses other u = false

pub ru_leads : (code : Code) (rfa : Offset) (u : Ru) → ru_pauses code u ≡ false → ru_state (ru_by code rfa u) ≡ ru_next code (ru_state u)
ru_leads start rfa u h = ru_start_leads rfa u
ru_leads resume rfa u h = ru_resume_leads u
ru_leads suspend rfa u h = ru_suspend_leads u h
ru_leads abort rfa u h = ru_abort_leads u
ru_leads other rfa u h = ru_other_leads u

pub ru_pauses_lem : (u : Ru) → is_holding u ≡ true → ru_state (ru_suspend u) ≡ ru_state u
ru_pauses_lem ru.Idle h = absurd (false≢true h)
ru_pauses_lem ru.NoResources h = absurd (false≢true h)
ru_pauses_lem (ru.Suspended o) h = absurd (false≢true h)
ru_pauses_lem (ru.Ready o) h = absurd (false≢true h)
ru_pauses_lem (ru.Held o f p) h = refl
ru_pauses_lem (ru.Filling s w) h = refl
ru_pauses_lem (ru.Closing s o e) h = refl
ru_pauses_lem (ru.Lacking s) h = refl
