-- A command list in memory, and its start where no frame is held. Assumes nothing.
use Rattle.std.specs.Prelude.{◌≡◌, true, false, List, [], ◌∷◌, map, ℕ, ◌^◌, ◌<◌, length}
use Rattle.memory.specs.Address.{place, offset_at}
use Rattle.memory.specs.Memory.{word_at}
use Rattle.memory.specs.declared.Offset.{Offset}
use Rattle.memory.specs.declared.RealAddress.{RealAddress}
use Rattle.memory.proofs.Fields.{Apart}
use Rattle.scb.specs.Words as scb
use Rattle.scb.specs.Words.{cuc, resets}
use Rattle.device.specs.Numbers.{action_number}
use Rattle.device.specs.State.{cu_state, is_active, is_holding}
use Rattle.device.specs.declared.Action.TheVariants as action
use Rattle.device.specs.declared.Device.{Device}
use Rattle.actions.specs.Block.{block_status_at, block_command_at, argument_at}
use Rattle.command.specs.Begin.{cmd}
use Rattle.control.specs.Obey.{of_scb}
use Rattle.chip.specs.Call.{attention, turn}
use Rattle.calls.specs.Calls.{Areas}
use Rattle.traces.specs.Event.{call}
use Rattle.lists.specs.Uses as lists
use Rattle.kinds.specs.Chips.{Chip, Act, does, chip_run}

-- ---- a list: 01, "Turns". The first block that has EL or S is the last, each other's link leads to the next

abbrev pub Listed : RealAddress → List ℕ → List Offset → Type 0
Listed base m bs = lists.Listed base m (map (λ (b : Offset). b.0) bs)

-- something of every block
abbrev pub All : (Offset → Type 0) → List Offset → Type 0
All p [] = Unit {0}
All p (b ∷ bs) = p b × All p bs

-- a block whose command is TDR, CMD 5
abbrev pub IsTdr : RealAddress → List ℕ → Offset → Type 0
IsTdr base m b = cmd (word_at m (place base b block_command_at)) ≡ action_number action.Tdr

-- no result of the block b, its status or TDR's word, is one of the six bytes of the block c: status, command, link
pub record NoResult (n : ℕ) (base : RealAddress) (tdr : Offset → Type 0) (b c : Offset) : Type 0 where
  pub status : Apart n (place base b block_status_at) 2 (place base c block_status_at) 6
  pub word : tdr b → Apart n (place base b argument_at) 2 (place base c block_status_at) 6

-- 01, "Turns": no result may be another command's byte
abbrev pub BlocksApart : ℕ → RealAddress → (Offset → Type 0) → List Offset → Type 0
BlocksApart n base tdr [] = Unit {0}
BlocksApart n base tdr (b ∷ bs) = All (λ c. NoResult n base tdr b c × NoResult n base tdr c b) bs × BlocksApart n base tdr bs

-- ---- the start: an attention that is to start the command unit at the block b, where the list b, bs stands. No frame is held. The SCB's
-- status and command words are no bytes of the blocks
pub record Starting (d : Device) (m : List ℕ) (b : Offset) (bs : List Offset) : Type 0 where
  pub initialised : d.units.initialised ≡ true
  pub idle : is_active (cu_state d.units.cu) ≡ false
  pub free : is_holding d.units.ru ≡ false
  pub unreset : resets (word_at m (of_scb d.units scb.scb_command_at)) ≡ false
  pub start : cuc (word_at m (of_scb d.units scb.scb_command_at)) ≡ 1
  pub at : offset_at m (of_scb d.units scb.cbl_at) ≡ b
  pub listed : Listed d.units.base m (b ∷ bs)
  pub scb_apart : All (λ c. Apart (length m) (of_scb d.units scb.scb_status_at) 4 (place d.units.base c block_status_at) 6) (b ∷ bs)
  pub blocks_apart : BlocksApart (length m) d.units.base (IsTdr d.units.base m) (b ∷ bs)

-- ---- the run: the attention, and what happens after it

-- turns with their line reports
abbrev pub turns_of : List ℕ → List Act
turns_of [] = []
turns_of (r ∷ rs) = does (call (turn r)) ∷ turns_of rs

abbrev pub AllReports : List ℕ → Type 0
AllReports [] = Unit {0}
AllReports (r ∷ rs) = (r < 2 ^ 16) × AllReports rs

abbrev pub started : (chip : Chip) → chip.Inner → List Act → Areas → Areas
started chip s acts a = chip_run chip s (does (call attention) ∷ acts) a
