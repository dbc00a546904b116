-- The units' states as document 01's tables have them, what is known of a begun command and a held frame, and the fresh state. Assumes nothing.
use Rattle.std.specs.Prelude.{Bool, true, false, List, [], ◌∷◌, replicate}
use Rattle.memory.specs.Address.{origin}
use Rattle.scb.specs.declared.CuState.{CuState}
use Rattle.scb.specs.declared.CuState.TheVariants as cus
use Rattle.scb.specs.declared.RuState.{RuState}
use Rattle.scb.specs.declared.RuState.TheVariants as rus
use Rattle.scb.specs.Words.{no_events}
use Rattle.device.specs.Limits.{longest_address}
use Rattle.device.specs.declared.Cu.{Cu}
use Rattle.device.specs.declared.Cu.TheVariants as cu
use Rattle.device.specs.declared.Device.{Device}
use Rattle.device.specs.declared.Form.{Form}
use Rattle.device.specs.declared.Frame.{Frame}
use Rattle.device.specs.declared.Ru.{Ru}
use Rattle.device.specs.declared.Ru.TheVariants as ru
use Rattle.device.specs.declared.Settings.{Settings}
use Rattle.device.specs.declared.Units.{Units}
use Rattle.device.specs.declared.Verdict.{Verdict}
use Rattle.device.specs.declared.Verdict.TheVariants as verdict

-- ---- the command unit

-- 01, "The SCB": CUS Idle, Suspended, Active
abbrev pub cu_state : Cu → CuState
cu_state cu.Idle = cus.Idle
cu_state (cu.Suspended o) = cus.Suspended
cu_state (cu.Waiting o) = cus.Active
cu_state (cu.Acting b a) = cus.Active
cu_state (cu.Sending b w) = cus.Active
cu_state (cu.Ending b n) = cus.Active
cu_state (cu.Failing b) = cus.Active

abbrev pub is_active : CuState → Bool
is_active cus.Idle = false
is_active cus.Suspended = false
is_active cus.Active = true

-- ---- the receive unit

-- 01, "The SCB": RUS Idle, Suspended, No Resources, Ready
abbrev pub ru_state : Ru → RuState
ru_state ru.Idle = rus.Idle
ru_state ru.NoResources = rus.NoResources
ru_state (ru.Suspended o) = rus.Suspended
ru_state (ru.Ready o) = rus.Ready
ru_state (ru.Held o f p) = rus.Ready
ru_state (ru.Filling s w) = rus.Ready
ru_state (ru.Closing s o e) = rus.Ready
ru_state (ru.Lacking s) = rus.Ready

abbrev pub is_ready : RuState → Bool
is_ready rus.Idle = false
is_ready rus.Suspended = false
is_ready rus.NoResources = false
is_ready rus.Ready = true

-- a frame is held
abbrev pub is_holding : Ru → Bool
is_holding ru.Idle = false
is_holding ru.NoResources = false
is_holding (ru.Suspended o) = false
is_holding (ru.Ready o) = false
is_holding (ru.Held o f p) = true
is_holding (ru.Filling s w) = true
is_holding (ru.Closing s o e) = true
is_holding (ru.Lacking s) = true

-- the frames that are held, each as it was judged at its arrival, the oldest first
abbrev pub held_in : Ru → List Frame
held_in ru.Idle = []
held_in ru.NoResources = []
held_in (ru.Suspended o) = []
held_in (ru.Ready o) = []
held_in (ru.Held o f p) = f ∷ []
held_in (ru.Filling s w) = s.frame ∷ []
held_in (ru.Closing s o e) = s.frame ∷ []
held_in (ru.Lacking s) = s.frame ∷ []

-- 01, "Turns": RU has work while a frame is held, CU while Active
abbrev pub ru_works : Ru → Bool
ru_works u = is_holding u

abbrev pub cu_works : Cu → Bool
cu_works u = is_active (cu_state u)

-- 01, "Arrival and storing": neither short nor with a bad verdict
abbrev pub good_by : Bool → Verdict → Bool
good_by true v = false
good_by false verdict.Good = true
good_by false verdict.Crc = false
good_by false verdict.Misaligned = false

abbrev pub is_good : Frame → Bool
is_good f = good_by f.short f.verdict

-- ---- after reset

-- 01, Configure: reset gives 64 for minimum length, 6 for address length, those bits 0
abbrev pub fresh_form : Form
fresh_form = record { length = longest_address; location = false }

abbrev pub fresh_settings : Settings
fresh_settings = record { savebad = false; promiscuous = false; nobroadcast = false; minimum = 64; form = fresh_form }

-- not initialised, both units Idle, RU first
abbrev pub fresh_units : Units
fresh_units =
    record {
      initialised = false;
      base = origin;
      scb = record { 0 = 0 };
      events = no_events;
      rulast = false;
      settings = fresh_settings;
      cu = cu.Idle;
      ru = ru.Idle;
    }

-- 01, IA-Setup: after reset the address is six FFh. 000, 2.8.5: "RESET causes the HASH table to become all zeros"
abbrev pub fresh : Device
fresh = record { units = fresh_units; own = replicate longest_address 255; filter = 0 }
