-- A chip of each wrong kind that is no worse than that: ours, spoilt in one thing. Assumes nothing.
use Rattle.std.specs.Prelude.{◌≡◌, Bool, true, false, not, cond, ◌&&◌, List, [], ◌∷◌, ◌⊎◌, ℕ, ◌+◌, ◌-◌, ◌*◌, ◌%◌, ◌^◌, ◌≤◌, ◌<◌, eqb, length, take, drop}
use Rattle.std.proofs.lemmas.List.Edits.{sets}
use Rattle.memory.specs.Address.{place}
use Rattle.memory.specs.Memory.{word_at, Write, apply, word_to, count_to}
use Rattle.memory.specs.declared.Offset.{Offset}
use Rattle.memory.specs.declared.RealAddress.{RealAddress}
use Rattle.device.specs.Numbers.{counter_place}
use Rattle.device.specs.declared.Action.{Action}
use Rattle.device.specs.declared.Action.TheVariants as action
use Rattle.device.specs.declared.Counter.TheVariants as counter
use Rattle.device.specs.declared.Cu.{Cu}
use Rattle.device.specs.declared.Cu.TheVariants as cu
use Rattle.device.specs.declared.Device.{Device}
use Rattle.packed.specs.Record.{setup_at}
use Rattle.packed.specs.SetUp.{setup_size}
use Rattle.actions.specs.Block.{block_status_at, argument_at}
use Rattle.control.specs.Obey.{of_scb}
use Rattle.chip.specs.Call.{Call, reset, attention, arrive, turn}
use Rattle.chip.specs.Turn.{served_of, is_command, turn_of}
use Rattle.chip.specs.World.{World, world_of, afterwards}
use Rattle.calls.specs.Calls.{Areas, areas_of, Called}
use Rattle.traces.specs.Areas.{shown, units_in}
use Rattle.traces.specs.Bytes.{called, number, sent_length, is_refused}
use Rattle.traces.specs.Event.{call, step}
use Rattle.kinds.specs.Chips.{Chip, Handed}
use Rattle.kinds.specs.Demands.{Acceptable, lent_of}
use Rattle.kinds.specs.Lists.{Starting, turns_of, AllReports, started}
use Rattle.kinds.specs.Kinds.{setup_in, from_edge}

-- ---- all that a call leaves, piece by piece: three of the answer, the edge with what stands above it, and each byte of each area by its index

pub data Piece : Type 0 where
  the_number : Piece
  the_length : Piece
  the_edge : Piece
  memory_byte : ℕ → Piece
  holding_byte : ℕ → Piece
  outgoing_byte : ℕ → Piece
  record_byte : ℕ → Piece

-- the byte at an index; none beyond the end
abbrev pub byte_in : ℕ → List ℕ → List ℕ
byte_in i xs = take 1 (drop i xs)

abbrev pub piece_of : Piece → Called → List ℕ
piece_of the_number r = number r.answer ∷ []
piece_of the_length r = sent_length r.answer ∷ []
piece_of the_edge r = from_edge r.answer ∷ []
piece_of (memory_byte i) r = byte_in i r.areas.memory
piece_of (holding_byte i) r = byte_in i r.areas.holding
piece_of (outgoing_byte i) r = byte_in i r.areas.outgoing
piece_of (record_byte i) r = byte_in i r.areas.kept

-- whatever the inner state, the call and what is lent: the pieces that are said to be spoilt are those of what is left instead, and every other piece is
-- what the definitions leave. Instead: made of what is lent and what the definitions leave
pub record AsOursBut (chip : Chip) (spoilt : chip.Inner → Call → Areas → Piece → Type 0) (instead : Areas → Called → Called) : Type 0 where
  pub those : (s : chip.Inner) (c : Call) (a : Areas) (p : Piece) → Handed c a → spoilt s c a p
      → piece_of p (chip.calls s c a) ≡ piece_of p (instead a (called c a))
  pub others : (s : chip.Inner) (c : Call) (a : Areas) (p : Piece) → Handed c a → (spoilt s c a p → ⊥)
      → piece_of p (chip.calls s c a) ≡ piece_of p (called c a)

-- ---- chips without inner state

abbrev pub plain : (Call → Areas → Called) → Chip
plain does = record { Inner = Unit {0}; first = tt; calls = λ s c a. does c a; next = λ s c a. tt }

-- all is as lent, and n is answered
abbrev pub as_lent : ℕ → Areas → Called
as_lent n a = record { answer = n; areas = a }

-- it refuses every call: with document 01's number where there is one, else with 1
abbrev pub refusing : Chip
refusing = plain (λ c a. cond (is_refused (called c a)) (called c a) (as_lent 1 a))

-- it answers n
abbrev pub with_answer : ℕ → Called → Called
with_answer n r = record { answer = n; areas = r.areas }

abbrev pub answering : ℕ → Chip
answering n = plain (λ c a. with_answer n (called c a))

abbrev pub OfAnswer : Piece → Type 0
OfAnswer the_number = Unit {0}
OfAnswer the_length = Unit {0}
OfAnswer the_edge = Unit {0}
OfAnswer (memory_byte i) = ⊥
OfAnswer (holding_byte i) = ⊥
OfAnswer (outgoing_byte i) = ⊥
OfAnswer (record_byte i) = ⊥

-- it leaves memory as lent
abbrev pub with_memory : List ℕ → Called → Called
with_memory m r = record { answer = r.answer; areas = areas_of m r.areas.holding r.areas.outgoing r.areas.kept }

abbrev pub leaving : Chip
leaving = plain (λ c a. with_memory a.memory (called c a))

abbrev pub OfMemory : Piece → Type 0
OfMemory the_number = ⊥
OfMemory the_length = ⊥
OfMemory the_edge = ⊥
OfMemory (memory_byte i) = Unit {0}
OfMemory (holding_byte i) = ⊥
OfMemory (outgoing_byte i) = ⊥
OfMemory (record_byte i) = ⊥

-- ---- chips that spoil what a turn leaves: if it is not refused, and at the reports that are said

abbrev pub spoiled_by : Bool → (Called → Called) → Called → Called
spoiled_by at spoil r = cond (at && not (is_refused r)) (spoil r) r

abbrev pub spoiling : (ℕ → Bool) → (Areas → Called → Called) → Call → Areas → Called
spoiling at spoil reset a = called reset a
spoiling at spoil attention a = called attention a
spoiling at spoil (arrive f v) a = called (arrive f v) a
spoiling at spoil (turn report) a = spoiled_by (at report) (spoil a) (called (turn report) a)

-- such a turn
abbrev pub SpoiltTurn : (ℕ → Bool) → Call → Areas → Type 0
SpoiltTurn at reset a = ⊥
SpoiltTurn at attention a = ⊥
SpoiltTurn at (arrive f v) a = ⊥
SpoiltTurn at (turn report) a = (at report ≡ true) × (is_refused (called (turn report) a) ≡ false)

-- at every report, or at 7 alone
abbrev pub always : ℕ → Bool
always report = true

abbrev pub at_seven : ℕ → Bool
at_seven report = eqb report 7

-- the settings are those of the record lent
abbrev pub unset : Areas → Called → Called
unset a r =
    record {
      answer = r.answer;
      areas = areas_of r.areas.memory r.areas.holding r.areas.outgoing (sets r.areas.kept setup_at (setup_in a.kept));
    }

abbrev pub OfSetup : Piece → Type 0
OfSetup the_number = ⊥
OfSetup the_length = ⊥
OfSetup the_edge = ⊥
OfSetup (memory_byte i) = ⊥
OfSetup (holding_byte i) = ⊥
OfSetup (outgoing_byte i) = ⊥
OfSetup (record_byte i) = (setup_at ≤ i) × (i < setup_at + setup_size)

-- the word of a begun TDR is as lent
abbrev pub measured_by : Action → Offset → List Offset
measured_by action.Nop o = []
measured_by action.IaSetup o = []
measured_by action.Configure o = []
measured_by action.McSetup o = []
measured_by action.Tdr o = o ∷ []
measured_by action.Dump o = []
measured_by action.Diagnose o = []

abbrev pub measured_in : Cu → List Offset
measured_in cu.Idle = []
measured_in (cu.Suspended o) = []
measured_in (cu.Waiting o) = []
measured_in (cu.Acting g a) = measured_by a g.block
measured_in (cu.Sending g w) = []
measured_in (cu.Ending g n) = []
measured_in (cu.Failing g) = []

-- a word at a field of some blocks
abbrev pub words_to : RealAddress → (field : ℕ) → (Offset → ℕ) → List Offset → List Write
words_to base field value [] = []
words_to base field value (o ∷ os) = word_to (place base o field) (value o) ∷ words_to base field value os

abbrev pub words_back : RealAddress → List ℕ → List Offset → List Write
words_back base m os = words_to base argument_at (λ o. word_at m (place base o argument_at)) os

abbrev pub unmeasured : Areas → Called → Called
unmeasured a r =
    let u = units_in a.kept in with_memory (apply (words_back u.base a.memory (measured_in u.cu)) r.areas.memory) r

-- one of the two bytes of the word at an address, in n bytes of memory
abbrev pub ByteOfWord : ℕ → ℕ → ℕ → Type 0
ByteOfWord n at i = (i ≡ at % n) ⊎ (i ≡ (at + 1) % n)

abbrev pub ByteOfWords : ℕ → RealAddress → (field : ℕ) → List Offset → ℕ → Type 0
ByteOfWords n base field [] i = ⊥
ByteOfWords n base field (o ∷ os) i = ByteOfWord n (place base o field) i ⊎ ByteOfWords n base field os i

abbrev pub OfWords : (field : ℕ) → (Cu → List Offset) → Areas → Piece → Type 0
OfWords field blocks a the_number = ⊥
OfWords field blocks a the_length = ⊥
OfWords field blocks a the_edge = ⊥
OfWords field blocks a (memory_byte i) =
    let u = units_in a.kept in ByteOfWords (length a.memory) u.base field (blocks u.cu) i
OfWords field blocks a (holding_byte i) = ⊥
OfWords field blocks a (outgoing_byte i) = ⊥
OfWords field blocks a (record_byte i) = ⊥

abbrev pub OfWord : Areas → Piece → Type 0
OfWord a p = OfWords argument_at measured_in a p

-- the status of the block before which the unit waits is A000h, be the turn its begin turn or the receive unit's
abbrev pub waited_in : Cu → List Offset
waited_in cu.Idle = []
waited_in (cu.Suspended o) = []
waited_in (cu.Waiting o) = o ∷ []
waited_in (cu.Acting g a) = []
waited_in (cu.Sending g w) = []
waited_in (cu.Ending g n) = []
waited_in (cu.Failing g) = []

abbrev pub marked_at_once : Areas → Called → Called
marked_at_once a r =
    let u = units_in a.kept in with_memory (apply (words_to u.base block_status_at (λ o. 0xA000) (waited_in u.cu)) r.areas.memory) r

abbrev pub OfMark : Areas → Piece → Type 0
OfMark a p = OfWords block_status_at waited_in a p

-- length 0 is told
abbrev pub unsent : Called → Called
unsent r = with_answer (number r.answer + from_edge r.answer * 2 ^ 32) r

-- all three
abbrev pub unacted : Areas → Called → Called
unacted a r = unsent (unmeasured a (unset a r))

abbrev pub OfAction : Areas → Piece → Type 0
OfAction a p = OfSetup p ⊎ OfWord a p ⊎ (p ≡ the_length)

-- an edge is told where there is none, and none where there is one
abbrev pub turned_over : Called → Called
turned_over r = with_answer (r.answer % 2 ^ 32 + (1 - from_edge r.answer) * 2 ^ 32) r

-- OVRNERRS of the state that is lent is one more than what the definitions leave, modulo 65,536
abbrev pub overruns_in : Areas → ℕ
overruns_in a = of_scb (units_in a.kept) (counter_place counter.Overruns)

abbrev pub counted_on : Areas → Called → Called
counted_on a r = with_memory (apply (count_to r.areas.memory (overruns_in a) ∷ []) r.areas.memory) r

abbrev pub OfOverruns : Areas → Piece → Type 0
OfOverruns a the_number = ⊥
OfOverruns a the_length = ⊥
OfOverruns a the_edge = ⊥
OfOverruns a (memory_byte i) = ByteOfWord (length a.memory) (overruns_in a) i
OfOverruns a (holding_byte i) = ⊥
OfOverruns a (outgoing_byte i) = ⊥
OfOverruns a (record_byte i) = ⊥

abbrev pub setting_nothing : Chip
setting_nothing = plain (spoiling always unset)

abbrev pub measuring_nothing : Chip
measuring_nothing = plain (spoiling always unmeasured)

abbrev pub sending_nothing : Chip
sending_nothing = plain (spoiling always (λ a. unsent))

abbrev pub marking_only : Chip
marking_only = plain (spoiling always unacted)

abbrev pub marking_at_seven : Chip
marking_at_seven = plain (spoiling at_seven unacted)

abbrev pub marking_at_once : Chip
marking_at_once = plain (spoiling at_seven marked_at_once)

abbrev pub inventing : Chip
inventing = plain (spoiling at_seven (λ a. turned_over))

abbrev pub counting : Chip
counting = plain (spoiling at_seven counted_on)

-- ---- one that serves the first command and no other: it keeps in mind whether a command was completed since the last attention

-- the end turn of a command is next
abbrev pub is_end : Cu → Bool
is_end cu.Idle = false
is_end (cu.Suspended o) = false
is_end (cu.Waiting o) = false
is_end (cu.Acting g a) = true
is_end (cu.Sending g w) = false
is_end (cu.Ending g n) = true
is_end (cu.Failing g) = true

-- the command unit is to be served; it is, with an end turn
abbrev pub to_command : Areas → Bool
to_command a = is_command (served_of (units_in a.kept))

abbrev pub completing : Areas → Bool
completing a = to_command a && is_end (units_in a.kept).cu

-- after a completed command, a turn that is the command unit's leaves all as lent and answers 0, if it is not refused
abbrev pub first_calls : Bool → Call → Areas → Called
first_calls completed reset a = called reset a
first_calls completed attention a = called attention a
first_calls completed (arrive f v) a = called (arrive f v) a
first_calls completed (turn report) a =
    spoiled_by (completed && to_command a) (λ r. as_lent 0 a) (called (turn report) a)

abbrev pub first_next : Bool → Call → Areas → Bool
first_next completed reset a = false
first_next completed attention a = false
first_next completed (arrive f v) a = completed
first_next completed (turn report) a = cond (completing a && not (is_refused (called (turn report) a))) true completed

abbrev pub serving_first : Chip
serving_first = record { Inner = Bool; first = false; calls = first_calls; next = first_next }

-- the calls that it spoils
abbrev pub AfterFirst : Bool → Call → Areas → Type 0
AfterFirst completed reset a = ⊥
AfterFirst completed attention a = ⊥
AfterFirst completed (arrive f v) a = ⊥
AfterFirst completed (turn report) a = (completed ≡ true) × (to_command a ≡ true) × (is_refused (called (turn report) a) ≡ false)

-- turns, as the definitions go, to the end turn of the command that is in work
abbrev pub until_end : List ℕ → World → World
until_end [] w = w
until_end (r ∷ rs) w = cond (is_end w.device.units.cu) (afterwards (turn_of w r)) (until_end rs (afterwards (turn_of w r)))

-- it serves the first command as ours does, whatever the list: all bytes are as the definitions leave them, to the end turn of that command, and stay so
pub record ServesFirst (chip : Chip) : Type 0 where
  pub each : (s : chip.Inner) (d : Device) (m h out : List ℕ) (b : Offset) (bs : List Offset) (reports : List ℕ)
      → Acceptable attention d m h out → Handed attention (lent_of d m h out) → Starting d m b bs → AllReports reports
      → started chip s (turns_of reports) (lent_of d m h out) ≡ shown (until_end reports (step (call attention) (world_of d m h out)))
