-- A turn that has work changes the state of the unit that it serves, so a turn after which the state is what it was had none. Assumes nothing.
use mathlib.Core.Path.{◌≡◌, refl, ap}
use mathlib.Core.Bool.{Bool, true, false, ◌||◌, false≢true}
use mathlib.Core.List.{List}
use Prim.Native.Nat.{ℕ, ◌+◌, ◌<◌}
use native.Mathlib.Omega.{arith}
use lib.Dec.{eqb, leb}
use Rattle.memory.specs.Address.{place, offset_at, is_none}
use Rattle.memory.specs.Memory.{Write, word_at}
use Rattle.memory.specs.declared.Offset.{Offset}
use Rattle.device.specs.Header.{unbuffered}
use Rattle.device.specs.Limits.{most_buffers}
use Rattle.device.specs.Numbers.{transmit}
use Rattle.device.specs.State.{cu_state, is_active, is_holding, cu_works, ru_works}
use Rattle.device.specs.declared.Begun.{Begun}
use Rattle.device.specs.declared.Cu.{Cu}
use Rattle.device.specs.declared.Cu.TheVariants as cu
use Rattle.device.specs.declared.Device.{Device}
use Rattle.device.specs.declared.Fate.{Fate}
use Rattle.device.specs.declared.Ru.{Ru}
use Rattle.device.specs.declared.Ru.TheVariants as ru
use Rattle.device.specs.declared.Storing.{Storing}
use Rattle.device.specs.declared.Walk.{Walk}
use Rattle.actions.specs.Block.{block_command_at, argument_at}
use Rattle.actions.specs.Actions.{Acted, act, sent, not_sent}
use Rattle.command.specs.Part as command
use Rattle.command.specs.Begin as command_begin
use Rattle.command.specs.Buffer as command_buffer
use Rattle.command.specs.End.{after_end, end, next_after}
use Rattle.command.specs.Service as command_service
use Rattle.receive.specs.Part as receive
use Rattle.receive.specs.Begin as receive_begin
use Rattle.receive.specs.Buffer as receive_buffer
use Rattle.receive.specs.End.{before, proceeds, close, lack}
use Rattle.receive.specs.Service as receive_service
use Rattle.chip.specs.Turn.{served_by, concluded, command_turn, receive_turn, turn_by, turn_of}
use Rattle.chip.specs.World.{World}
use Rattle.chip.specs.Run.{stops, stops_at}

-- ---- the command unit: between commands, begun, or after so many buffers

cu_mark : Cu → ℕ
cu_mark cu.Idle = 0
cu_mark (cu.Suspended o) = 0
cu_mark (cu.Waiting o) = 0
cu_mark (cu.Acting b a) = 1
cu_mark (cu.Ending b n) = 1
cu_mark (cu.Failing b) = 1
cu_mark (cu.Sending b w) = w.used + 2

first_begun : (none : Bool) (filled : ℕ) (b : Begun) (o : Offset) → 0 < cu_mark (command_begin.to_first none filled b o)
unfolding cu_mark
first_begun true filled b o = omega arith
first_begun false filled b o = omega arith

begun : (t : Bool) (p : command.Part) (b : Begun) (word : ℕ) (m : List ℕ) → 0 < cu_mark (command_begin.to_begun t p b word m).unit
unfolding cu_mark
begun true p b word m =
    let first = offset_at m (place p.base b.block argument_at) in first_begun (is_none first) (unbuffered p.setup.settings.form) b first
begun false p b word m = omega arith

buffer_moves : (fits eof none last : Bool) (b : Begun) (w : Walk) (k : ℕ) → w.used ≡ k + 1
    → cu_mark (command_buffer.after_buffer fits eof none last b w) ≡ k + 2 → ⊥
unfolding cu_mark
buffer_moves false eof none last b w k e h = omega arith
buffer_moves true true none last b w k e h = omega arith
buffer_moves true false true last b w k e h = omega arith
buffer_moves true false false true b w k e h = omega arith
buffer_moves true false false false b w k e h = omega arith

after_end_lem : (el suspends : Bool) (link : Offset) → cu_mark (after_end el suspends link) ≡ 0
unfolding cu_mark
after_end_lem true suspends link = refl
after_end_lem false true link = refl
after_end_lem false false link = refl

end_mark : (p : command.Part) (b : Begun) (a : Acted) (m : List ℕ) → cu_mark (end p b a m).part.unit ≡ 0
unfolding end next_after
end_mark p b a m = after_end_lem b.el (b.suspend || b.pausing) _

cu_moves : (u : Cu) (p : command.Part) (m : List ℕ) (report : ℕ) → is_active (cu_state u) ≡ true
    → cu_mark (command_service.service_by u p m report).part.unit ≡ cu_mark u → ⊥
unfolding cu_mark command_begin.begin command_buffer.buffer
cu_moves cu.Idle p m r a h = false≢true a
cu_moves (cu.Suspended o) p m r a h = false≢true a
cu_moves (cu.Waiting o) p m r a h =
    let word = word_at m (place p.base o block_command_at) in
    omega (arith, h, begun (eqb (command_begin.cmd word) transmit) p (command_begin.begun_by o word) word m)
cu_moves (cu.Acting b x) p m r a h = omega (arith, h, end_mark p b (act x p.base p.setup b.block m) m)
cu_moves (cu.Sending b w) p m r a h =
    let d = command_buffer.descriptor_at p.base w.next m in
    buffer_moves (command_buffer.fits d w) d.eof (is_none d.next) (command_buffer.is_last w.used) b (command_buffer.past d w) w.used refl h
cu_moves (cu.Ending b n) p m r a h = omega (arith, h, end_mark p b (sent p.setup n r) m)
cu_moves (cu.Failing b) p m r a h = omega (arith, h, end_mark p b (not_sent p.setup) m)

-- ---- the receive unit: no frame held, held, before its end, or after so many buffers

ru_mark : Ru → ℕ
ru_mark ru.Idle = 0
ru_mark ru.NoResources = 0
ru_mark (ru.Suspended o) = 0
ru_mark (ru.Ready o) = 0
ru_mark (ru.Held o f p) = 1
ru_mark (ru.Closing s free full) = 2
ru_mark (ru.Lacking s) = 2
ru_mark (ru.Filling s w) = w.used + 3

first_moves : (bare none : Bool) (s : Storing) (o : Offset) → 1 < ru_mark (receive_begin.to_first bare none s o)
unfolding ru_mark
first_moves true none s o = omega arith
first_moves false true s o = omega arith
first_moves false false s o = omega arith

fill_moves : (done el none last : Bool) (s : Storing) (w : Walk) (k : ℕ) → w.used ≡ k + 1
    → ru_mark (receive_buffer.after_buffer done el none last s w) ≡ k + 3 → ⊥
unfolding ru_mark
fill_moves true el none last s w k e h = omega arith
fill_moves false true none last s w k e h = omega arith
fill_moves false false true last s w k e h = omega arith
fill_moves false false false true s w k e h = omega arith
fill_moves false false false false s w k e h = omega arith

before_mark : (suspends : Bool) (link : Offset) → ru_mark (before suspends link) ≡ 0
unfolding ru_mark
before_mark true link = refl
before_mark false link = refl

goes_mark : (x : Bool) (p : receive.Part) (s : Storing) (free : Offset) (f : Fate) (ws : List Write) (m : List ℕ)
    → ru_mark (proceeds x p s free f ws m).unit ≡ 0
unfolding ru_mark
goes_mark true p s free f ws m = refl
goes_mark false p s free f ws m = before_mark (s.suspend || s.pausing) _

close_mark : (p : receive.Part) (s : Storing) (free : Offset) (full : Bool) (m : List ℕ) → ru_mark (close p s free full m).unit ≡ 0
unfolding close
close_mark p s free full m = goes_mark (s.el || full) p s free _ _ m

ru_moves : (u : Ru) (p : receive.Part) (m : List ℕ) → is_holding u ≡ true → ru_mark (receive_service.service_by u p m).unit ≡ ru_mark u → ⊥
unfolding ru_mark receive_begin.begin receive_buffer.buffer lack
ru_moves ru.Idle p m a h = false≢true a
ru_moves ru.NoResources p m a h = false≢true a
ru_moves (ru.Suspended o) p m a h = false≢true a
ru_moves (ru.Ready o) p m a h = false≢true a
ru_moves (ru.Held o f q) p m a h =
    let first = offset_at m (place p.base o receive.first_at) in
    let s = receive_begin.begun_by o f q (word_at m (place p.base o receive.control_at)) in
    omega (arith, h, first_moves (receive_begin.is_bare f) (is_none first) s first)
ru_moves (ru.Filling s w) p m a h =
    let d = receive_buffer.descriptor_at p.base w.next m in
    let next = receive_buffer.past s w d in
    fill_moves (receive_buffer.is_done s next) d.el (is_none d.next) (leb most_buffers (w.used + 1)) s next w.used refl h
ru_moves (ru.Closing s free full) p m a h = omega (arith, h, close_mark p s free full m)
ru_moves (ru.Lacking s) p m a h = omega (arith, h)

-- ---- a turn

command_moves : (w : World) (report : ℕ) → is_active (cu_state w.device.units.cu) ≡ true → (command_turn w report).outcome.device ≡ w.device → ⊥
unfolding command_turn concluded command_service.service
command_moves w report a e =
    cu_moves w.device.units.cu (command.part_of w.device w.outgoing) w.memory report a
    (ap (λ (d : Device). cu_mark d.units.cu) e)

receive_moves : (w : World) → is_holding w.device.units.ru ≡ true → (receive_turn w).outcome.device ≡ w.device → ⊥
unfolding receive_turn concluded receive_service.service
receive_moves w a e =
    ru_moves w.device.units.ru (receive.part_of w.device.units w.holding) w.memory a
    (ap (λ (d : Device). ru_mark d.units.ru) e)

stops_by : (c r l : Bool) (w : World) (report : ℕ) → cu_works w.device.units.cu ≡ c → ru_works w.device.units.ru ≡ r
    → (turn_by (served_by c r l) w report).outcome.device ≡ w.device
    → stops (served_by c r l) (turn_by (served_by c r l) w report).outcome.answer ≡ true
unfolding stops
stops_by false false l w report a b e = refl
stops_by true false l w report a b e = absurd (command_moves w report a e)
stops_by false true l w report a b e = absurd (receive_moves w b e)
stops_by true true true w report a b e = absurd (command_moves w report a e)
stops_by true true false w report a b e = absurd (receive_moves w b e)

-- a turn after which the state is what it was had no work, and ends a run
pub unchanged_stops : (w : World) (report : ℕ) → (turn_of w report).outcome.device ≡ w.device → stops_at w report ≡ true
unfolding turn_of
unchanged_stops w report e =
    stops_by (cu_works w.device.units.cu) (ru_works w.device.units.ru) w.device.units.rulast w report refl refl e
