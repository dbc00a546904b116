-- The command unit as one of two units that take turns over one memory: what it is, what a service of it notes and reads. Assumes nothing.
use Rattle.std.specs.Prelude.{Bool, true, false, not, List, [], ◌∷◌, ◌++◌, ℕ, eqb}
use Rattle.memory.specs.Address.{place}
use Rattle.memory.specs.Memory.{word_at}
use Rattle.scb.specs.declared.Events.{Events}
use Rattle.device.specs.Numbers.{transmit}
use Rattle.device.specs.State.{cu_works}
use Rattle.device.specs.declared.Begun.{Begun}
use Rattle.device.specs.declared.Cu.{Cu}
use Rattle.device.specs.declared.Cu.TheVariants as cu
use Rattle.device.specs.declared.Units.{Units}
use Rattle.actions.specs.Actions.{Acted, act, sent, not_sent}
use Rattle.actions.specs.Block.{block_command_at, block_link_at, argument_at}
use Rattle.command.specs.Begin.{cmd}
use Rattle.command.specs.Buffer.{descriptor_at, fits}
use Rattle.command.specs.End.{end}
use Rattle.command.specs.Part.{Part, part_of}
use Rattle.command.specs.Service.{service}
use Rattle.chip.specs.World.{World}
use Rattle.chip.specs.Turn.{served_of, is_command}
use Rattle.traces.specs.Event.{Event, step, is_turn, report}
use Rattle.traces.specs.Told.{frame_of}
use Rattle.progress.specs.Machine.{Machine}
use Rattle.progress.specs.Same.{range}
use Rattle.lists.specs.Uses.{header_bytes, argument_bytes, descriptor_bytes, from}

-- ---- what is noted: a command is begun; it is done, with its status, the frame that was sent, if one was, and the events that its end raised

pub data Note : Type 0 where
  began : ℕ → Note
  ended : ℕ → ℕ → List (List ℕ) → Events → Note

-- the status is the action's, from which the end's writes are made too; frame and events are the end's, from which the call's answer is made
abbrev pub finished : Part → Begun → Acted → List ℕ → Note
finished p b a m =
    let s = end p b a m in ended b.block.0 a.status (frame_of s.length s.part.outgoing) s.raised

abbrev pub note_by : Cu → Part → List ℕ → ℕ → List Note
note_by cu.Idle p m report = []
note_by (cu.Suspended o) p m report = []
note_by (cu.Waiting o) p m report = began o.0 ∷ []
note_by (cu.Acting b a) p m report = finished p b (act a p.base p.setup b.block m) m ∷ []
note_by (cu.Sending b w) p m report = []
note_by (cu.Ending b filled) p m report = finished p b (sent p.setup filled report) m ∷ []
note_by (cu.Failing b) p m report = finished p b (not_sent p.setup) m ∷ []

-- what a note says of its command, beside status and frame: begun; done, with the events raised
pub data Tag : Type 0 where
  begun : ℕ → Tag
  done : ℕ → Events → Tag

abbrev pub tag : Note → Tag
tag (began c) = begun c
tag (ended c status frames raised) = done c raised

-- ---- the addresses that a service reads

-- begin: the command word; of a Transmit the offset at +6, and the header that its block has
abbrev pub begin_reads : (transmits : Bool) → Part → ℕ → List ℕ
begin_reads true p c = from p.base c argument_at 2 ++ header_bytes p.base p.setup c
begin_reads false p c = []

-- a buffer: the descriptor, and the data if it fits
abbrev pub data_reads : (fits : Bool) → ℕ → ℕ → List ℕ
data_reads true buffer count = range buffer count
data_reads false buffer count = []

-- an end: what the action reads, and the link
abbrev pub end_reads : Part → ℕ → List ℕ
end_reads p c = from p.base c block_link_at 2

abbrev pub reads_by : Cu → Part → List ℕ → List ℕ
reads_by cu.Idle p m = []
reads_by (cu.Suspended o) p m = []
reads_by (cu.Waiting o) p m =
    from p.base o.0 block_command_at 2 ++ begin_reads (eqb (cmd (word_at m (place p.base o block_command_at))) transmit) p o.0
reads_by (cu.Acting b a) p m = argument_bytes a p.base p.setup m b.block.0 ++ end_reads p b.block.0
reads_by (cu.Sending b w) p m =
    let d = descriptor_at p.base w.next m in descriptor_bytes p.base w.next ++ data_reads (fits d w) d.buffer.0 d.count
reads_by (cu.Ending b filled) p m = end_reads p b.block.0
reads_by (cu.Failing b) p m = end_reads p b.block.0

-- ---- the machine

-- a turn now goes to the command unit
abbrev pub command_next : Units → Bool
command_next u = is_command (served_of u)

abbrev pub machine : Machine
machine =
    record {
      S = World;
      E = Event;
      P = Part;
      R = ℕ;
      B = Note;
      step = step;
      is_turn = is_turn;
      report = report;
      view = λ w. part_of w.device w.outgoing;
      mem = λ w. w.memory;
      active = λ p. cu_works p.unit;
      served = λ w. command_next w.device.units;
      last = λ w. not w.device.units.rulast;
      work = λ p m r. (service p m r).part;
      results = λ p m r. (service p m r).writes;
      note = λ p m r. note_by p.unit p m r;
      reads = λ p m. reads_by p.unit p m;
    }
