-- Closure: every state that a call leaves is in range, and all elements of the areas stay bytes. 01, "Calls, lent areas, refusals", refusal 4: docs/'
-- ranges hold every state a call can leave. Assumes nothing.
use mathlib.Core.Path.{◌≡◌, refl, ap}
use mathlib.Core.Bool.{Bool, true, false, ◌||◌}
use mathlib.Core.List.{List, []}
use Prim.Native.Nat.{ℕ}
use lib.ListN.{length}
use Rattle.memory.specs.Memory.{Write}
use Rattle.memory.proofs.Bytes.{Bytes, AllBytes, all_append, apply_bytes}
use Rattle.scb.specs.Words.{any_of}
use Rattle.scb.specs.declared.Events.{Events}
use Rattle.device.specs.Answers.{is_held}
use Rattle.device.specs.Change.{with_units, with_ru}
use Rattle.device.specs.State.{fresh, fresh_units, fresh_settings, cu_works, ru_works}
use Rattle.device.specs.declared.Device.{Device}
use Rattle.device.specs.declared.Fate.{Fate}
use Rattle.device.specs.declared.Ru.{Ru}
use Rattle.device.specs.declared.Ru.TheVariants as ru
use Rattle.device.specs.declared.Units.{Units}
use Rattle.filter.specs.Match.{matches}
use Rattle.actions.specs.Setup.{setup_of}
use Rattle.command.specs.Part as command
use Rattle.command.specs.Service as command_service
use Rattle.receive.specs.Arrival as arriving
use Rattle.receive.specs.Part as receive
use Rattle.receive.specs.Service as receive_service
use Rattle.attention.specs.Attention as attending
use Rattle.chip.specs.World.{World, world_of, afterwards, reset_of}
use Rattle.chip.specs.Attention.{attention_of}
use Rattle.chip.specs.Arrival.{arrival, arrival_of}
use Rattle.chip.specs.Turn.{served_by, raised_in, changes, status_by, written, concluded, command_units, command_turn, receive_units, receive_turn, turn_by, turn_of}
use Rattle.chip.specs.Call.{Call, reset, attention, arrive, turn, ran}
use Rattle.image.specs.Ranges.{in_range, Wide}
use Rattle.image.proofs.Exact.{fresh_range, fresh_wide, one_fresh}
use Rattle.traces.specs.Areas.{FrameBytes}
use Rattle.closure.specs.Sound.{Sound}
use Rattle.closure.proofs.Units.{CuGood, RuGood}
use Rattle.closure.proofs.Command.{SetupGood, command_good, ServiceGood as CommandGood}
use Rattle.closure.proofs.Receive.{arrival_good, area_bytes, counts_bytes, idle_stays, receive_good, ServiceGood as ReceiveGood}
use Rattle.closure.proofs.Control.{Running, running_range, running_wide, running_of, status_bytes_lem, attention_good}

-- ---- the fresh state

pub fresh_sound : (m h out : List ℕ) → Bytes m → Bytes h → Bytes out → Sound (world_of fresh m h out)
fresh_sound m h out p q r = record { range = fresh_range; wide = fresh_wide; memory = p; holding = q; outgoing = r }

running_sound : (d : Device) (m h out : List ℕ) → Running d → Bytes m → Bytes h → Bytes out → Sound (world_of d m h out)
running_sound d m h out g p q r = record { range = running_range d g; wide = running_wide d g; memory = p; holding = q; outgoing = r }

-- reset takes the record alone: nothing is asked of the device
pub reset_closed : (w : World) → Bytes w.memory → Bytes w.holding → Bytes w.outgoing → Sound (afterwards (ran reset w))
unfolding reset_of
reset_closed w p q r = fresh_sound w.memory w.holding w.outgoing p q r

-- ---- attention

attention_closed : (w : World) → Sound w → Sound (afterwards (attention_of w))
unfolding attention_of
attention_closed w s =
    let a = attending.attention w.device w.memory in
    let g = attention_good w.device w.memory s.range s.wide s.memory in
    record {
      range = g.range;
      wide = g.wide;
      memory = apply_bytes a.writes w.memory g.writes s.memory;
      holding = s.holding;
      outgoing = s.outgoing;
    }

-- ---- arrival

-- it changes the receive unit alone
arrival_running : (d : Device) (matched : Bool) (f : List ℕ) (v : ℕ) (m h : List ℕ) → Running d
    → Running (with_units d (with_ru d.units (arriving.arrival d.units matched f v m h).unit))
unfolding arriving.arrival
arrival_running d matched f v m h g =
    record {
      initialised = g.initialised;
      base = g.base;
      scb = g.scb;
      cu = g.cu;
      ru = arrival_good d.units.settings matched d.units.ru f v g.setup.form g.ru;
      setup = g.setup;
    }

arrival_bytes : (u : Units) (matched : Bool) (f : List ℕ) (v : ℕ) (m h : List ℕ) → AllBytes (arriving.arrival u matched f v m h).writes
unfolding arriving.arrival
arrival_bytes u matched f v m h = counts_bytes _ u.base u.scb m

arrival_area : (u : Units) (matched : Bool) (f : List ℕ) (v : ℕ) (m h : List ℕ) → Bytes h → Bytes f → Bytes (arriving.arrival u matched f v m h).area
unfolding arriving.arrival
arrival_area u matched f v m h p q = area_bytes (is_held (arriving.fate_of u.settings matched u.ru f v)) h f p q

-- the fresh state is left as it is: its receive unit is Idle
arrival_fresh : (matched : Bool) (f : List ℕ) (v : ℕ) (m h : List ℕ)
    → with_units fresh (with_ru fresh_units (arriving.arrival fresh_units matched f v m h).unit) ≡ fresh
unfolding arriving.arrival
arrival_fresh matched f v m h =
    ap (λ (u : Ru). with_units fresh (with_ru fresh_units u))
    (idle_stays (is_held (arriving.fate_of fresh_settings matched ru.Idle f v)) (arriving.judged fresh_settings f v))

-- a device in range that is not initialised stays
arrival_device : (i : Bool) (d : Device) (matched : Bool) (f : List ℕ) (v : ℕ) (m h : List ℕ) → d.units.initialised ≡ i → in_range d ≡ true → Wide d
    → (in_range (with_units d (with_ru d.units (arriving.arrival d.units matched f v m h).unit)) ≡ true)
    × Wide (with_units d (with_ru d.units (arriving.arrival d.units matched f v m h).unit))
arrival_device true d matched f v m h i e w =
    let g = arrival_running d matched f v m h (running_of d e w i) in (running_range _ g, running_wide _ g)
arrival_device false d matched f v m h i e w =
    rw (one_fresh d w e i) (rw (arrival_fresh matched f v m h) (fresh_range, fresh_wide))

arrival_closed : (w : World) (f : List ℕ) (v : ℕ) → Bytes f → Sound w → Sound (afterwards (arrival_of w f v))
unfolding arrival_of arrival
arrival_closed w f v b s =
    let d = w.device in
    let matched = matches d.units.settings d.own d.filter f in
    let a = arriving.arrival d.units matched f v w.memory w.holding in
    let g = arrival_device d.units.initialised d matched f v w.memory w.holding refl s.range s.wide in
    record {
      range = g.0;
      wide = g.1;
      memory = apply_bytes a.writes w.memory (arrival_bytes d.units matched f v w.memory w.holding) s.memory;
      holding = arrival_area d.units matched f v w.memory w.holding s.holding b;
      outgoing = s.outgoing;
    }

-- ---- turn

status_by_bytes : (raises : Bool) (u : Units) → AllBytes (status_by raises u)
status_by_bytes true u = (status_bytes_lem u, tt)
status_by_bytes false u = tt

written_bytes : (v : Units) (ws : List Write) (raised : Events) (u : Units) → AllBytes ws → AllBytes (written v ws raised u)
written_bytes v ws raised u h =
    let due = any_of raised || changes v u in
    all_append ws (status_by due (raised_in u raised)) h (status_by_bytes due (raised_in u raised))

command_running : (d : Device) (s : command.Service) (length : ℕ) (fs : List Fate) → Running d → CommandGood s
    → Running (concluded (command.with_part d s.part) (command_units d s) s.raised length fs).device
unfolding concluded
command_running d s length fs h g =
    record {
      initialised = h.initialised;
      base = h.base;
      scb = h.scb;
      cu = g.part.unit;
      ru = h.ru;
      setup = g.part.setup;
    }

pub served_good : (d : Device) (m out : List ℕ) (report : ℕ) → CuGood d.units.settings.form d.units.cu → SetupGood (setup_of d) → Bytes m → Bytes out
    → CommandGood (command_service.service (command.part_of d out) m report)
unfolding command_service.service
served_good d m out report c s b o =
    command_good d.units.cu (command.part_of d out) m report c (record { unit = c; setup = s; outgoing = o }) b

command_closed : (w : World) (report : ℕ) → Running w.device → Bytes w.memory → Bytes w.holding → Bytes w.outgoing
    → Sound (afterwards (command_turn w report))
unfolding command_turn
command_closed w report h p q r =
    let s = command_service.service (command.part_of w.device w.outgoing) w.memory report in
    let g = served_good w.device w.memory w.outgoing report h.cu h.setup p r in
    running_sound _ _ _ _ (command_running w.device s s.length [] h g)
    (apply_bytes (written w.device.units s.writes s.raised (command_units w.device s)) w.memory
    (written_bytes w.device.units s.writes s.raised (command_units w.device s) g.writes) p) q g.part.outgoing

receive_running : (d : Device) (s : receive.Service) → Running d → ReceiveGood s
    → Running (concluded d (receive_units d s) s.raised 0 s.fates).device
unfolding concluded
receive_running d s h g =
    record {
      initialised = h.initialised;
      base = h.base;
      scb = h.scb;
      cu = h.cu;
      ru = g.unit;
      setup = h.setup;
    }

received_good : (u : Units) (m h : List ℕ) → RuGood u.ru → Bytes m → Bytes h → ReceiveGood (receive_service.service (receive.part_of u h) m)
unfolding receive_service.service
received_good u m h g b o = receive_good u.ru (receive.part_of u h) m g g o b

receive_closed : (w : World) → Running w.device → Bytes w.memory → Bytes w.holding → Bytes w.outgoing → Sound (afterwards (receive_turn w))
unfolding receive_turn
receive_closed w h p q r =
    let s = receive_service.service (receive.part_of w.device.units w.holding) w.memory in
    let g = received_good w.device.units w.memory w.holding h.ru p q in
    running_sound _ _ _ _ (receive_running w.device s h g)
    (apply_bytes (written w.device.units s.writes s.raised (receive_units w.device s)) w.memory
    (written_bytes w.device.units s.writes s.raised (receive_units w.device s) g.writes) p) q r

turn_closed_by : (c r l : Bool) (w : World) (report : ℕ) → Running w.device → Bytes w.memory → Bytes w.holding → Bytes w.outgoing
    → Sound (afterwards (turn_by (served_by c r l) w report))
turn_closed_by false false l w report h p q o = running_sound w.device w.memory w.holding w.outgoing h p q o
turn_closed_by true false l w report h p q o = command_closed w report h p q o
turn_closed_by false true l w report h p q o = receive_closed w h p q o
turn_closed_by true true true w report h p q o = command_closed w report h p q o
turn_closed_by true true false w report h p q o = receive_closed w h p q o

-- the fresh state has no work
turn_fresh : (m h out : List ℕ) (report : ℕ) → Bytes m → Bytes h → Bytes out → Sound (afterwards (turn_of (world_of fresh m h out) report))
unfolding turn_of
turn_fresh m h out report p q o = fresh_sound m h out p q o

turn_closed_at : (i : Bool) (d : Device) (m h out : List ℕ) (report : ℕ) → d.units.initialised ≡ i → Sound (world_of d m h out)
    → Sound (afterwards (turn_of (world_of d m h out) report))
unfolding turn_of
turn_closed_at true d m h out report i s =
    turn_closed_by (cu_works d.units.cu) (ru_works d.units.ru) d.units.rulast (world_of d m h out) report
    (running_of d s.range s.wide i) s.memory s.holding s.outgoing
turn_closed_at false d m h out report i s =
    rw (one_fresh d s.wide s.range i) (turn_fresh m h out report s.memory s.holding s.outgoing)

-- ---- every state that a call leaves is in range, from any state in range, on any memory, holding area and outgoing area of bytes

pub closed : (c : Call) (w : World) → FrameBytes c → Sound w → Sound (afterwards (ran c w))
closed reset w f s = reset_closed w s.memory s.holding s.outgoing
closed attention w f s = attention_closed w s
closed (arrive x v) w f s = arrival_closed w x v f s
closed (turn report) w f s =
    turn_closed_at w.device.units.initialised w.device w.memory w.holding w.outgoing report refl s
