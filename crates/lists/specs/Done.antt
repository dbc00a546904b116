-- Demand 3, first half: what is asked of the start and of the trace, and what follows. Assumes nothing.
use Rattle.std.specs.Prelude.{◌≡◌, Bool, true, false, List, [], ◌∷◌, map, ℕ, ◌*◌, ◌≤◌, length}
use Rattle.memory.specs.Address.{place}
use Rattle.memory.specs.Memory.{word_at}
use Rattle.memory.specs.declared.RealAddress.{RealAddress}
use Rattle.scb.specs.Words.{bit, scb_command_at, cuc, resets}
use Rattle.scb.specs.declared.Events.{Events}
use Rattle.device.specs.State.{cu_state, is_active}
use Rattle.device.specs.declared.Cu.TheVariants as cu
use Rattle.actions.specs.Block.{block_status_at}
use Rattle.actions.specs.Setup.{Setup, setup_of}
use Rattle.command.specs.Part.{part_of}
use Rattle.control.specs.Obey.{of_scb}
use Rattle.chip.specs.World.{World}
use Rattle.traces.specs.Event.{Event, step, is_turn}
use Rattle.traces.specs.Told.{frames_along}
use Rattle.progress.specs.Trace.{run, AllMay, turns}
use Rattle.progress.specs.Machine.{log, log', reports, part', mem', Undisturbed}
use Rattle.progress.specs.Same.{Same}
use Rattle.lists.specs.Uses.{block, word_of, list_setup, list_bytes, NoClash, Listed, first_of}
use Rattle.lists.specs.Unit.{machine, Note, began, ended, Tag, begun, done, tag}
use Rattle.lists.specs.Seen.{AllSeen, frames_of}

-- ---- the start

-- a channel attention that starts a list: initialised, RESET clear, CUC START from Idle or Suspended; any acknowledgement, any RUC
pub record Starts (w : World) : Type 0 where
  pub initialised : w.device.units.initialised ≡ true
  pub unreset : resets (word_at w.memory (of_scb w.device.units scb_command_at)) ≡ false
  pub start : cuc (word_at w.memory (of_scb w.device.units scb_command_at)) ≡ 1
  pub idle : is_active (cu_state w.device.units.cu) ≡ false

-- one that resumes a list before its block first: initialised, RESET clear, CUC RESUME from Suspended; any acknowledgement, any RUC
pub record Resumes (first : ℕ) (w : World) : Type 0 where
  pub initialised : w.device.units.initialised ≡ true
  pub unreset : resets (word_at w.memory (of_scb w.device.units scb_command_at)) ≡ false
  pub resume : cuc (word_at w.memory (of_scb w.device.units scb_command_at)) ≡ 2
  pub suspended : w.device.units.cu ≡ cu.Suspended (block first)

-- what either leaves: the command unit is Active before the first of the blocks, which stand in memory as a list
pub record Started (bs : List ℕ) (w : World) : Type 0 where
  pub unit : w.device.units.cu ≡ cu.Waiting (block (first_of bs))
  pub listed : Listed w.device.units.base w.memory bs

-- ---- the events that are due: I raises CX; the last block, which ends or suspends the list, leaves Active and so raises CNA, and no other does

abbrev pub is_last : (behind : List ℕ) → Bool
is_last [] = true
is_last (d ∷ ds) = false

abbrev pub due : (last : Bool) → (word : ℕ) → Events
due last word = record { cx = bit word 13; fr = false; cna = last; rnr = false }

-- each command of the list in m: begun, then done with its events, one after the other
abbrev pub each_once : RealAddress → List ℕ → List ℕ → List Tag
each_once base m [] = []
each_once base m (c ∷ cs) = begun c ∷ done c (due (is_last cs) (word_of base m c)) ∷ each_once base m cs

-- ---- what follows: the blocks are done, and the command unit's part and every byte of the list are as the unit alone leaves them,
-- by the definitions, on the memory as it stood at the start, with the line reports of its turns

abbrev pub bytes_of : World → List ℕ → List ℕ
bytes_of w bs = list_bytes w.device.units.base (setup_of w.device) w.memory bs

-- the setup that the list leaves
abbrev pub setup_left : World → List ℕ → Setup
setup_left w bs = list_setup w.device.units.base (setup_of w.device) w.memory bs

-- no result is a later command's byte
abbrev pub Apart : List ℕ → World → Type 0
Apart bs w = NoClash (length w.memory) w.device.units.base (setup_of w.device) w.memory bs

-- each command that is noted as done is complete in m: its status has C, and is the word that stands in its block
abbrev pub AllComplete : RealAddress → List ℕ → List Note → Type 0
AllComplete base m [] = Unit {0}
AllComplete base m (began c ∷ ns) = AllComplete base m ns
AllComplete base m (ended c status frames raised ∷ ns) =
    (bit status 15 ≡ true) × (word_at m (place base (block c) block_status_at) ≡ status) × AllComplete base m ns

pub record Done (bs : List ℕ) (es : List Event) (w : World) : Type 0 where
  -- begun, and done with the events that are due, once each, in list order, and nothing else is begun
  pub order : map tag (log machine es w) ≡ each_once w.device.units.base w.memory bs
  -- each as the definitions say: status, frame sent, events raised
  pub notes : log machine es w ≡ log' machine (reports machine es w) (part_of w.device w.outgoing) w.memory
  -- its status, with C, is what the host then reads in its block
  pub complete : AllComplete w.device.units.base (run step es w).memory (log machine es w)
  -- and the host sees it: the frames in the answers are these; edge and SCB status at each of its turns are the events' and the units'
  pub told : frames_along es w ≡ frames_of (log machine es w)
  pub seen : AllSeen es w
  -- settings, addresses, outgoing area, and where the unit stands
  pub part : part_of (run step es w).device (run step es w).outgoing
      ≡ part' machine (reports machine es w) (part_of w.device w.outgoing) w.memory
  -- the bytes of the list, its results among them
  pub bytes : Same (bytes_of w bs) (run step es w).memory
      (mem' machine (reports machine es w) (part_of w.device w.outgoing) w.memory)
  -- and the unit has left Active
  pub stopped : is_active (cu_state (run step es w).device.units.cu) ≡ false

-- so many turns are enough for n commands: demand 3's number
abbrev pub enough : ℕ → ℕ
enough n = 132 * n

-- the events of the trace may occur, by May; nothing writes into the list but each command's own results, and N stays; turns have come, at least as
-- many as least says for n commands
pub record Premises (May : Event → World → Type 0) (least : ℕ → ℕ) (bs : List ℕ) (es : List Event) (w : World) : Type 0 where
  pub size : 8192 ≤ length w.memory
  pub apart : Apart bs w
  pub events : AllMay May step es w
  pub intact : Undisturbed machine (bytes_of w bs) es w
  pub turns : least (length bs) ≤ turns is_turn es
