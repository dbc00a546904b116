-- Attention: 01, "First attention after reset" and "The SCB". Assumes nothing.
use Rattle.std.specs.Prelude.{Bool, true, false, List, [], ◌∷◌, ◌++◌, ℕ}
use Rattle.memory.specs.Memory.{Write, word_at, word_to, bytes_to, apply}
use Rattle.memory.specs.Address.{place, beyond, offset_at, address_at, scp}
use Rattle.memory.specs.declared.Offset.{Offset}
use Rattle.memory.specs.declared.RealAddress.{RealAddress}
use Rattle.scb.specs.Words.{scb_status_at, scb_command_at, resets, acknowledged, raise, any_of}
use Rattle.scb.specs.declared.Events.{Events}
use Rattle.device.specs.Answers.{answered, Outcome, outcome_of}
use Rattle.device.specs.Change.{with_cu, with_ru, with_events, with_units, initialised_at}
use Rattle.device.specs.State.{held_in, fresh}
use Rattle.device.specs.declared.Device.{Device}
use Rattle.device.specs.declared.Fate.TheVariants as fate
use Rattle.device.specs.declared.Units.{Units}
use Rattle.control.specs.Control.{lost_by}
use Rattle.control.specs.Obey.{of_scb, obey_cuc, obey_ruc}
use Rattle.attention.specs.Status.{status_to}

-- what an attention comes to: its outcome, and the writes in their order
pub record Attended : Type 0 where
  pub outcome : Outcome
  pub writes : List Write

-- ---- an attention of a chip that is initialised

-- leaving Active raises CNA, leaving Ready raises RNR
abbrev pub leaving : (cu ru : Bool) → Events
leaving cu ru = record { cx = false; fr = false; cna = cu; rnr = ru }

-- write status; write command 0
abbrev pub settled_writes : Units → List Write
settled_writes u = status_to u ∷ word_to (of_scb u scb_command_at) 0x0000 ∷ []

-- an attention, in order, its command being read; an edge is reported when it leaves any event set
unfoldable pub attend_by : (reset : Bool) → Device → (command : ℕ) → List ℕ → Attended
attend_by true d command m =
    -- if RESET, write command 0 and become as after reset, nothing else
    record {
      outcome = outcome_of fresh (answered 0 false) (lost_by fate.Reset (held_in d.units.ru) []);
      writes = word_to (of_scb d.units scb_command_at) 0x0000 ∷ [];
    }
attend_by false d command m =
    -- clear acknowledged events
    let cleared = acknowledged d.units.events command in
    -- obey CUC; obey RUC, on memory as CUC left it
    let c = obey_cuc d.units command m in
    let r = obey_ruc d.units command (apply c.writes m) in
    -- the units after that, and what an abort lost
    let after = with_events (with_ru (with_cu d.units c.unit) r.unit) (raise cleared (leaving c.left r.left)) in
    let lost = lost_by fate.Aborted (held_in d.units.ru) (held_in r.unit) in
    -- write status; write command 0
    record {
      outcome = outcome_of (with_units d after) (answered 0 (any_of after.events)) lost;
      writes = c.writes ++ r.writes ++ settled_writes after;
    }

-- read command; if RESET ..
unfoldable pub attend : Device → List ℕ → Attended
attend d m =
    let command = word_at m (of_scb d.units scb_command_at) in attend_by (resets command) d command m

-- ---- the first attention after reset

-- SCP: its pointer to ISCP is the real address at FFFFFCh
unfoldable pub iscp_of : List ℕ → RealAddress
iscp_of m = address_at m (beyond scp 6)

-- the events CX and CNA
abbrev pub initial_events : Events
initial_events = record { cx = true; fr = false; cna = true; rnr = false }

-- clears BUSY, writes SCB status A000h (CX, CNA) and command 0000h
abbrev pub initial_writes : RealAddress → RealAddress → Offset → List Write
initial_writes iscp base scb =
    bytes_to (beyond iscp 0) (0 ∷ []) ∷ word_to (place base scb scb_status_at) 0xA000 ∷ word_to (place base scb scb_command_at) 0x0000 ∷ []

-- ISCP: BUSY byte +0, SCB offset +2, SCB base (real) +4. It doesn't obey the command word
unfoldable pub initialise : Device → List ℕ → Attended
initialise d m =
    let iscp = iscp_of m in
    let scb = offset_at m (beyond iscp 2) in
    let base = address_at m (beyond iscp 4) in
    record {
      outcome = outcome_of (with_units d (initialised_at d.units base scb initial_events)) (answered 0 true) [];
      writes = initial_writes iscp base scb;
    }

-- ---- either

abbrev pub attention_by : (initialised : Bool) → Device → List ℕ → Attended
attention_by false d m = initialise d m
attention_by true d m = attend d m

unfoldable pub attention : Device → List ℕ → Attended
attention d m = attention_by d.units.initialised d m
