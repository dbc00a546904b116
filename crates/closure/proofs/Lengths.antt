-- The areas keep their lengths at every call, whatever the state and whatever the elements. Assumes nothing.
use mathlib.Core.Path.{◌≡◌, refl}
use mathlib.Core.Bool.{Bool, true, false}
use mathlib.Core.List.{List}
use Prim.Native.Nat.{ℕ}
use lib.Dec.{eqb}
use lib.ListN.{length}
use lib.Seq.{length-sets}
use Rattle.memory.specs.Address.{place}
use Rattle.memory.specs.Memory.{word_at, bytes_at}
use Rattle.memory.specs.declared.Offset.{Offset}
use Rattle.memory.specs.declared.RealAddress.{RealAddress}
use Rattle.memory.proofs.Laws.{length_apply}
use Rattle.device.specs.Answers.{is_held}
use Rattle.device.specs.Limits.{held_from}
use Rattle.device.specs.Numbers.{transmit}
use Rattle.device.specs.State.{cu_works, ru_works}
use Rattle.device.specs.declared.Begun.{Begun}
use Rattle.device.specs.declared.Cu.{Cu}
use Rattle.device.specs.declared.Cu.TheVariants as cu
use Rattle.device.specs.declared.Device.{Device}
use Rattle.device.specs.declared.Units.{Units}
use Rattle.device.specs.declared.Walk.{Walk}
use Rattle.filter.specs.Match.{matches}
use Rattle.actions.specs.Block.{block_command_at}
use Rattle.command.specs.Part as command
use Rattle.command.specs.Begin as command_begin
use Rattle.command.specs.Buffer as command_buffer
use Rattle.command.specs.End as command_end
use Rattle.command.specs.Service as command_service
use Rattle.receive.specs.Arrival as arriving
use Rattle.receive.specs.Part as receive
use Rattle.receive.specs.Service as receive_service
use Rattle.attention.specs.Attention as attending
use Rattle.chip.specs.World.{World}
use Rattle.chip.specs.Attention.{attention_of}
use Rattle.chip.specs.Arrival.{arrival, arrival_of}
use Rattle.chip.specs.Turn.{served_by, written, command_units, command_turn, receive_units, receive_turn, turn_by, turn_of}
use Rattle.chip.specs.Call.{Call, reset, attention, arrive, turn, ran}
use Rattle.closure.specs.Sound.{SameLengths}

area_length : (held : Bool) (area f : List ℕ) → length (arriving.area_by held area f) ≡ length area
area_length true area f = length-sets area held_from f
area_length false area f = refl

arrival_length : (u : Units) (matched : Bool) (f : List ℕ) (v : ℕ) (m h : List ℕ) → length (arriving.arrival u matched f v m h).area ≡ length h
unfolding arriving.arrival
arrival_length u matched f v m h = area_length (is_held (arriving.fate_of u.settings matched u.ru f v)) h f

begun_length : (t : Bool) (p : command.Part) (b : Begun) (word : ℕ) (m : List ℕ)
    → length (command_begin.to_begun t p b word m).outgoing ≡ length p.outgoing
begun_length true p b word m = length-sets p.outgoing 0 (command_begin.header_of p.base p.setup.settings.form p.setup.own b.block m)
begun_length false p b word m = refl

gathered_length : (fits : Bool) (out : List ℕ) (base : RealAddress) (o : Offset) (w : Walk) (m : List ℕ)
    → length (command_buffer.gathered fits out (command_buffer.descriptor_at base o m) w m) ≡ length out
gathered_length true out base o w m =
    let d = command_buffer.descriptor_at base o m in length-sets out w.filled (bytes_at m d.buffer.0 d.count)
gathered_length false out base o w m = refl

service_length : (u : Cu) (p : command.Part) (m : List ℕ) (report : ℕ)
    → length (command_service.service_by u p m report).part.outgoing ≡ length p.outgoing
unfolding command_begin.begin command_buffer.buffer command_end.end
service_length cu.Idle p m report = refl
service_length (cu.Suspended o) p m report = refl
service_length (cu.Waiting o) p m report =
    let word = word_at m (place p.base o block_command_at) in
    begun_length (eqb (command_begin.cmd word) transmit) p (command_begin.begun_by o word) word m
service_length (cu.Acting b a) p m report = refl
service_length (cu.Sending b w) p m report =
    let d = command_buffer.descriptor_at p.base w.next m in
    gathered_length (command_buffer.fits d w) p.outgoing p.base w.next w m
service_length (cu.Ending b n) p m report = refl
service_length (cu.Failing b) p m report = refl

command_length : (d : Device) (m out : List ℕ) (report : ℕ)
    → length (command_service.service (command.part_of d out) m report).part.outgoing ≡ length out
unfolding command_service.service
command_length d m out report = service_length d.units.cu (command.part_of d out) m report

command_lengths : (w : World) (report : ℕ) → SameLengths w (command_turn w report)
unfolding command_turn
command_lengths w report =
    let s = command_service.service (command.part_of w.device w.outgoing) w.memory report in
    record {
      memory = length_apply (written w.device.units s.writes s.raised (command_units w.device s)) w.memory;
      holding = refl;
      outgoing = command_length w.device w.memory w.outgoing report;
    }

receive_lengths : (w : World) → SameLengths w (receive_turn w)
unfolding receive_turn
receive_lengths w =
    let s = receive_service.service (receive.part_of w.device.units w.holding) w.memory in
    record {
      memory = length_apply (written w.device.units s.writes s.raised (receive_units w.device s)) w.memory;
      holding = refl;
      outgoing = refl;
    }

turn_lengths : (c r l : Bool) (w : World) (report : ℕ) → SameLengths w (turn_by (served_by c r l) w report)
turn_lengths false false l w report = record { memory = refl; holding = refl; outgoing = refl }
turn_lengths true false l w report = command_lengths w report
turn_lengths false true l w report = receive_lengths w
turn_lengths true true true w report = command_lengths w report
turn_lengths true true false w report = receive_lengths w

pub lengths_kept : (c : Call) (w : World) → SameLengths w (ran c w)
unfolding attention_of arrival_of arrival turn_of
lengths_kept reset w = record { memory = refl; holding = refl; outgoing = refl }
lengths_kept attention w =
    record { memory = length_apply (attending.attention w.device w.memory).writes w.memory; holding = refl; outgoing = refl }
lengths_kept (arrive f v) w =
    let d = w.device in
    let matched = matches d.units.settings d.own d.filter f in
    record {
      memory = length_apply (arriving.arrival d.units matched f v w.memory w.holding).writes w.memory;
      holding = arrival_length d.units matched f v w.memory w.holding;
      outgoing = refl;
    }
lengths_kept (turn report) w =
    turn_lengths (cu_works w.device.units.cu) (ru_works w.device.units.ru) w.device.units.rulast w report
