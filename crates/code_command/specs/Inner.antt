-- The shapes of the contracts of the code's inner functions: the definitions, over numbers. Assumes nothing.
use Rattle.std.specs.Prelude.{◌≡◌, true, ◌||◌, List, [], ◌∷◌, ℕ, eqb}
use Rattle.memory.specs.Memory.{apply}
use Rattle.memory.specs.declared.Offset.{Offset}
use Rattle.memory.specs.declared.RealAddress.{RealAddress}
use Rattle.scb.specs.Words.{event_bits}
use Rattle.device.specs.Numbers.{transmit}
use Rattle.device.specs.declared.Begun.{Begun}
use Rattle.device.specs.declared.Cu.{Cu}
use Rattle.device.specs.declared.Cu.TheVariants as cu
use Rattle.device.specs.declared.Walk.{Walk}
use Rattle.actions.specs.Setup.{Setup}
use Rattle.actions.specs.Actions.{Acted, act, sent, not_sent}
use Rattle.command.specs.Part.{Part}
use Rattle.command.specs.Begin.{cmd, begun_by, to_begun, begin}
use Rattle.command.specs.Buffer.{buffer}
use Rattle.command.specs.End.{after_end, raised_by, status_to, next_after}
use Rattle.phases.specs.Phases.{word_of, begun_of, sending_of}
use Rattle.packed.specs.Packed.{BegunIs, CuUnitIs}
use Rattle.packed.specs.SetUp.{SetIs}
use Rattle.packed.specs.declared.cu.Unit.{Unit}
use Rattle.code_actions.specs.Acts.{Acts}
use Rattle.code_actions.specs.declared.Done.{Done}
use Rattle.code_command.specs.declared.Commanded.{Commanded}
use Rattle.code_command.specs.Serves.{part_by, Serves}

abbrev pub walk : Offset → ℕ → ℕ → Walk
walk next used filled = record { next = next; used = used; filled = filled }

-- a service by its unit's tag and word, what it raises and what it sends
abbrev pub served : (tag word raised length : ℕ) → Commanded
served tag word raised length = record { unit = record { tag = tag; word = word }; raised = raised; length = length }

-- one that raises nothing and sends nothing
abbrev pub quiet : ℕ → ℕ → Commanded
quiet tag word = served tag word 0 0

pub record Quiet (c : Cu) (r : Commanded) : Type 0 where
  pub unit : CuUnitIs c r.unit
  pub raised : r.raised ≡ 0
  pub length : r.length ≡ 0

-- and the outgoing area after it
pub record Goes (said : Part) (r : Commanded) (out : List ℕ) : Type 0 where
  pub quiet : Quiet said.unit r
  pub outgoing : out ≡ said.outgoing

-- the action of a command whose end is next; no other phase has one
abbrev pub acted_by : Cu → RealAddress → Setup → List ℕ → ℕ → Acted
acted_by cu.Idle base s m report = not_sent s
acted_by (cu.Suspended o) base s m report = not_sent s
acted_by (cu.Waiting o) base s m report = not_sent s
acted_by (cu.Acting b a) base s m report = act a base s b.block m
acted_by (cu.Sending b w) base s m report = not_sent s
acted_by (cu.Ending b filled) base s m report = sent s filled report
acted_by (cu.Failing b) base s m report = not_sent s

-- a command was ended, and the unit is the next
pub record Left (b : Begun) (next : Cu) (length : ℕ) (r : Commanded) : Type 0 where
  pub unit : CuUnitIs next r.unit
  pub raised : r.raised ≡ event_bits (raised_by b next)
  pub sent : r.length ≡ length

abbrev pub Leaves : Begun → Offset → ℕ → Commanded → Type 0
Leaves b link length r = Left b (after_end b.el (b.suspend || b.pausing) link) length r

-- and its status stands in memory, from which the link was read then
pub record Ends (base : RealAddress) (a : Done) (b : Begun) (before : List ℕ) (r : Commanded) (m : List ℕ) : Type 0 where
  pub left : Left b (next_after base b m) a.length r
  pub memory : m ≡ apply (status_to base b a.status ∷ []) before

-- ---- what the inner functions ensure of every unit and setup. m, out and set are memory, outgoing area and setup as they were; the primed ones, after

-- a Transmit is begun
abbrev pub Transmits : RealAddress → (block : Offset) → (b : ℕ) → (m out set : List ℕ) → Commanded → (out' : List ℕ) → Type 0
Transmits base block b m out set r out' =
    (v : Begun) (c : Cu) (s : Setup) → BegunIs v b → v.block ≡ block → SetIs s set → Goes (to_begun true (part_by base c s out) v 0 m) r out'

-- the command of a command word is begun
abbrev pub Begins : RealAddress → (block : Offset) → (word : ℕ) → (m out set : List ℕ) → Commanded → (out' : List ℕ) → Type 0
Begins base block word m out set r out' =
    (c : Cu) (s : Setup) → SetIs s set → Goes (to_begun (eqb (cmd word) transmit) (part_by base c s out) (begun_by block word) word m) r out'

-- and its status written
abbrev pub Opens : RealAddress → (block : Offset) → (m out set : List ℕ) → Commanded → (m' out' : List ℕ) → Type 0
Opens base block m out set r m' out' = (c : Cu) (s : Setup) → SetIs s set → Serves (begin (part_by base c s out) block m) m r m' out' set

-- a buffer of a Transmit, by the unit's word
abbrev pub Buffers : RealAddress → (n : ℕ) → (m out : List ℕ) → Commanded → (out' : List ℕ) → Type 0
Buffers base n m out r out' = (c : Cu) (s : Setup) → Goes (buffer (part_by base c s out) (begun_of (word_of n)) (sending_of (word_of n)) m).part r out'

-- the action of a command whose end is next
abbrev pub ActsBy : RealAddress → Unit → (report : ℕ) → (m set : List ℕ) → Done → (m' set' : List ℕ) → Type 0
ActsBy base unit report m set r m' set' = (c : Cu) (s : Setup) → CuUnitIs c unit → SetIs s set → Acts (acted_by c base s m report) m r m' set'
