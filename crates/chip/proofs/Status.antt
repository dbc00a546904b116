-- 01, "The SCB": status is written at every turn that raises an event or changes a unit's state. The second adds nothing to the first: a turn that
-- raises nothing leaves both units' states as they were. So the code writes it where an event is raised. Assumes nothing.
use mathlib.Core.Path.{◌≡◌, refl, ap}
use mathlib.Core.Bool.{Bool, true, false, not, ◌||◌, true≢false, false≢true}
use mathlib.Core.List.{List, [], ◌∷◌, ◌++◌}
use Prim.Native.Nat.{ℕ}
use Rattle.std.specs.Prelude.{Option, Some, None}
use Rattle.memory.specs.Address.{place, offset_at}
use Rattle.memory.specs.Memory.{Write, word_to, apply}
use Rattle.memory.specs.declared.Offset.{Offset}
use lib.Dec.{eqb}
use Rattle.scb.specs.Words.{any_of, cu_number, ru_number}
use Rattle.scb.specs.declared.Events.{Events}
use Rattle.scb.specs.declared.CuState.{CuState}
use Rattle.scb.specs.declared.CuState.TheVariants as cus
use Rattle.scb.specs.declared.RuState.{RuState}
use Rattle.scb.specs.declared.RuState.TheVariants as rus
use Rattle.device.specs.Answers.{is_stored}
use Rattle.device.specs.State.{cu_state, ru_state, is_active, is_ready}
use Rattle.device.specs.declared.Begun.{Begun}
use Rattle.device.specs.declared.Cu.{Cu}
use Rattle.device.specs.declared.Cu.TheVariants as cu
use Rattle.device.specs.declared.Device.{Device}
use Rattle.device.specs.declared.Fate.{Fate}
use Rattle.device.specs.declared.Ru.{Ru}
use Rattle.device.specs.declared.Ru.TheVariants as ru
use Rattle.device.specs.declared.Storing.{Storing}
use Rattle.device.specs.declared.Units.{Units}
use Rattle.device.specs.declared.Walk.{Walk}
use Rattle.command.specs.Part as command
use Rattle.actions.specs.Actions.{Acted, act, sent, not_sent}
use Rattle.command.specs.Begin as command_begin
use Rattle.command.specs.Buffer as command_buffer
use Rattle.command.specs.End.{end, next_after, status_to}
use Rattle.command.specs.Service as command_service
use Rattle.receive.specs.Part as receive
use Rattle.receive.specs.Begin as receive_begin
use Rattle.receive.specs.Buffer as receive_buffer
use Rattle.receive.specs.End.{fate_of, settles, end_at, before, proceeds, close, lack}
use Rattle.receive.specs.Service as receive_service
use Rattle.chip.specs.declared.Unit.{Unit}
use Rattle.chip.specs.declared.Unit.TheVariants as unit
use Rattle.chip.specs.Turn.{served_of, raised_in, changes, status_by, concluded, command_units, command_turn, receive_units, receive_turn, turn_by, turn_of}
use Rattle.chip.specs.World.{World, Ran}

-- the only state that is Active, or Ready, is Active, or Ready
active : (s : CuState) → is_active s ≡ true → s ≡ cus.Active
active cus.Idle h = absurd (false≢true h)
active cus.Suspended h = absurd (false≢true h)
active cus.Active h = refl

ready : (s : RuState) → is_ready s ≡ true → s ≡ rus.Ready
ready rus.Idle h = absurd (false≢true h)
ready rus.Suspended h = absurd (false≢true h)
ready rus.NoResources h = absurd (false≢true h)
ready rus.Ready h = refl

-- ---- the command unit

begun_active : (none : Bool) (filled : ℕ) (b : Begun) (o : Offset) → cu_state (command_begin.to_first none filled b o) ≡ cus.Active
begun_active true filled b o = refl
begun_active false filled b o = refl

to_begun_active : (t : Bool) (p : command.Part) (b : Begun) (word : ℕ) (m : List ℕ) → cu_state (command_begin.to_begun t p b word m).unit ≡ cus.Active
to_begun_active true p b word m = rw begun_active
to_begun_active false p b word m = refl

buffer_active : (fits eof none last : Bool) (b : Begun) (w : Walk) → cu_state (command_buffer.after_buffer fits eof none last b w) ≡ cus.Active
buffer_active false eof none last b w = refl
buffer_active true true none last b w = refl
buffer_active true false true last b w = refl
buffer_active true false false true b w = refl
buffer_active true false false false b w = refl

-- an end that raises neither CX nor CNA leaves the unit Active
not_left : (x y : Bool) → (x || false || not y || false) ≡ false → y ≡ true
not_left x true h = refl
not_left true false h = absurd (true≢false h)
not_left false false h = absurd (true≢false h)

end_active : (p : command.Part) (b : Begun) (a : Acted) (m : List ℕ) → any_of (end p b a m).raised ≡ false → cu_state (end p b a m).part.unit ≡ cus.Active
unfolding any_of end
end_active p b a m h =
    let next = next_after p.base b (apply (a.writes ++ (status_to p.base b a.status ∷ [])) m) in
    active (cu_state next) (not_left b.interrupt (is_active (cu_state next)) h)

pub cu_stays : (u : Cu) (p : command.Part) (m : List ℕ) (report : ℕ) → p.unit ≡ u
    → any_of (command_service.service_by u p m report).raised ≡ false → cu_state (command_service.service_by u p m report).part.unit ≡ cu_state u
unfolding command_begin.begin command_buffer.buffer
cu_stays cu.Idle p m r e h = ap cu_state e
cu_stays (cu.Suspended o) p m r e h = ap cu_state e
cu_stays (cu.Waiting o) p m r e h = rw to_begun_active
cu_stays (cu.Acting b x) p m r e h = end_active p b (act x p.base p.setup b.block m) m h
cu_stays (cu.Sending b w) p m r e h = rw buffer_active
cu_stays (cu.Ending b n) p m r e h = end_active p b (sent p.setup n r) m h
cu_stays (cu.Failing b) p m r e h = end_active p b (not_sent p.setup) m h

-- ---- the receive unit

first_ready : (bare none : Bool) (s : Storing) (o : Offset) → ru_state (receive_begin.to_first bare none s o) ≡ rus.Ready
first_ready true none s o = refl
first_ready false true s o = refl
first_ready false false s o = refl

buffer_ready : (done el none last : Bool) (s : Storing) (w : Walk) → ru_state (receive_buffer.after_buffer done el none last s w) ≡ rus.Ready
buffer_ready true el none last s w = refl
buffer_ready false true none last s w = refl
buffer_ready false false true last s w = refl
buffer_ready false false false true s w = refl
buffer_ready false false false false s w = refl

-- an end that raises neither FR nor RNR leaves the unit Ready
not_left_ready : (x y : Bool) → (false || x || false || not y) ≡ false → y ≡ true
not_left_ready x true h = refl
not_left_ready true false h = absurd (true≢false h)
not_left_ready false false h = absurd (true≢false h)

at_ready : (f : Fate) (next : Ru) (ws : List Write) → any_of (end_at f next ws).raised ≡ false → ru_state (end_at f next ws).unit ≡ rus.Ready
unfolding any_of
at_ready f next ws h = ready (ru_state next) (not_left_ready (is_stored f) (is_ready (ru_state next)) h)

goes_ready : (x : Bool) (p : receive.Part) (s : Storing) (free : Offset) (f : Fate) (ws : List Write) (m : List ℕ)
    → any_of (proceeds x p s free f ws m).raised ≡ false → ru_state (proceeds x p s free f ws m).unit ≡ rus.Ready
goes_ready true p s free f ws m h = at_ready f ru.NoResources ws h
goes_ready false p s free f ws m h =
    let link = offset_at (apply ws m) (place p.base s.fd receive.fd_link_at) in
    at_ready f (before (s.suspend || s.pausing) link) (ws ++ (word_to (place p.base link receive.first_at) free.0 ∷ [])) h

close_ready : (p : receive.Part) (s : Storing) (free : Offset) (full : Bool) (m : List ℕ)
    → any_of (close p s free full m).raised ≡ false → ru_state (close p s free full m).unit ≡ rus.Ready
unfolding close
close_ready p s free full m h = goes_ready (s.el || full) p s free (fate_of false s.frame) (settles false p s m) m h

lack_ready : (p : receive.Part) (s : Storing) (m : List ℕ) → any_of (lack p s m).raised ≡ false → ru_state (lack p s m).unit ≡ rus.Ready
unfolding lack
lack_ready p s m h = at_ready (fate_of true s.frame) ru.NoResources (settles true p s m) h

pub ru_stays : (u : Ru) (p : receive.Part) (m : List ℕ) → p.unit ≡ u → any_of (receive_service.service_by u p m).raised ≡ false
    → ru_state (receive_service.service_by u p m).unit ≡ ru_state u
unfolding receive_begin.begin receive_buffer.buffer
ru_stays ru.Idle p m e h = ap ru_state e
ru_stays ru.NoResources p m e h = ap ru_state e
ru_stays (ru.Suspended o) p m e h = ap ru_state e
ru_stays (ru.Ready o) p m e h = ap ru_state e
ru_stays (ru.Held o f q) p m e h = rw first_ready
ru_stays (ru.Filling s w) p m e h = rw buffer_ready
ru_stays (ru.Closing s free full) p m e h = close_ready p s free full m h
ru_stays (ru.Lacking s) p m e h = lack_ready p s m h

-- ---- a turn

-- the units' states are as they were
pub record StatesKept (w : World) (r : Ran) : Type 0 where
  pub cu : cu_state r.outcome.device.units.cu ≡ cu_state w.device.units.cu
  pub ru : ru_state r.outcome.device.units.ru ≡ ru_state w.device.units.ru

command_keeps : (w : World) (report : ℕ) → (command_turn w report).outcome.answer.edge ≡ false → StatesKept w (command_turn w report)
unfolding command_turn concluded command_service.service
command_keeps w report h =
    record { cu = cu_stays w.device.units.cu (command.part_of w.device w.outgoing) w.memory report refl h; ru = refl }

receive_keeps : (w : World) → (receive_turn w).outcome.answer.edge ≡ false → StatesKept w (receive_turn w)
unfolding receive_turn concluded receive_service.service
receive_keeps w h =
    record { cu = refl; ru = ru_stays w.device.units.ru (receive.part_of w.device.units w.holding) w.memory refl h }

kept_by : (s : Option Unit) (w : World) (report : ℕ) → (turn_by s w report).outcome.answer.edge ≡ false → StatesKept w (turn_by s w report)
kept_by None w report h = record { cu = refl; ru = refl }
kept_by (Some unit.Command) w report h = command_keeps w report h
kept_by (Some unit.Receive) w report h = receive_keeps w h

-- a turn that reports no edge, and so raises no event, changes no unit's state
pub quiet_turn : (w : World) (report : ℕ) → (turn_of w report).outcome.answer.edge ≡ false → StatesKept w (turn_of w report)
unfolding turn_of
quiet_turn w report h = kept_by (served_of w.device.units) w report h

-- ---- so "or changes a unit's state" adds nothing: the status is written exactly where an event is raised

cus_same : (c : CuState) → eqb (cu_number c) (cu_number c) ≡ true
cus_same cus.Idle = refl
cus_same cus.Suspended = refl
cus_same cus.Active = refl

rus_same : (r : RuState) → eqb (ru_number r) (ru_number r) ≡ true
rus_same rus.Idle = refl
rus_same rus.Suspended = refl
rus_same rus.NoResources = refl
rus_same rus.Ready = refl

unchanged : (u v : Units) → cu_state v.cu ≡ cu_state u.cu → ru_state v.ru ≡ ru_state u.ru → changes u v ≡ false
unchanged u v e f = rw (e, f, cus_same (cu_state u.cu), rus_same (ru_state u.ru))

due : (raises other : Bool) → (raises ≡ false → other ≡ false) → (raises || other) ≡ raises
due true other f = refl
due false other f = f refl

pub command_due : (d : Device) (m out : List ℕ) (report : ℕ)
    → let s = command_service.service (command.part_of d out) m report in (any_of s.raised || changes d.units (command_units d s)) ≡ any_of s.raised
unfolding command_service.service
command_due d m out report =
    let s = command_service.service_by d.units.cu (command.part_of d out) m report in
    due (any_of s.raised) (changes d.units (command_units d s))
    (λ h. unchanged d.units (command_units d s) (cu_stays d.units.cu (command.part_of d out) m report refl h) refl)

pub receive_due : (d : Device) (m holding : List ℕ)
    → let s = receive_service.service (receive.part_of d.units holding) m in (any_of s.raised || changes d.units (receive_units d s)) ≡ any_of s.raised
unfolding receive_service.service
receive_due d m holding =
    let s = receive_service.service_by d.units.ru (receive.part_of d.units holding) m in
    due (any_of s.raised) (changes d.units (receive_units d s))
    (λ h. unchanged d.units (receive_units d s) refl (ru_stays d.units.ru (receive.part_of d.units holding) m refl h))

-- the writes of a working turn, as the code makes them: the status where an event is raised
abbrev pub written_if_raised : List Write → Events → Units → List Write
written_if_raised writes raised after = writes ++ status_by (any_of raised) (raised_in after raised)

pub command_memory : (w : World) (report : ℕ)
    → let s = command_service.service (command.part_of w.device w.outgoing) w.memory report in
    (command_turn w report).memory ≡ apply (written_if_raised s.writes s.raised (command_units w.device s)) w.memory
unfolding command_turn
command_memory w report =
    let s = command_service.service (command.part_of w.device w.outgoing) w.memory report in
    ap (λ (x : Bool). apply (s.writes ++ status_by x (raised_in (command_units w.device s) s.raised)) w.memory)
    (command_due w.device w.memory w.outgoing report)

pub receive_memory : (w : World)
    → let s = receive_service.service (receive.part_of w.device.units w.holding) w.memory in
    (receive_turn w).memory ≡ apply (written_if_raised s.writes s.raised (receive_units w.device s)) w.memory
unfolding receive_turn
receive_memory w =
    let s = receive_service.service (receive.part_of w.device.units w.holding) w.memory in
    ap (λ (x : Bool). apply (s.writes ++ status_by x (raised_in (receive_units w.device s) s.raised)) w.memory)
    (receive_due w.device w.memory w.holding)
