-- A command list as it stands in a memory, and its bytes: 01, "Turns": its list is, as it stands after the starting attention, the n blocks with
-- all bytes their commands use, each Transmit's descriptors and their data; results are the status words and TDR's word. What a command uses is
-- said under the setup in force at it, which is the one that the commands before it leave. Assumes nothing.
use Rattle.std.specs.Prelude.{◌≡◌, ◌≢◌, Bool, true, false, ◌||◌, List, [], ◌∷◌, ◌++◌, ℕ, zero, suc, ◌+◌, ◌*◌, ◌%◌, eqb, leb}
use Rattle.memory.specs.Memory.{word_at, word_to, apply}
use Rattle.memory.specs.Address.{place, offset_at, is_none}
use Rattle.memory.specs.declared.Offset.{Offset}
use Rattle.memory.specs.declared.RealAddress.{RealAddress}
use Rattle.scb.specs.Words.{bit}
use Rattle.device.specs.Header.{unbuffered}
use Rattle.device.specs.Limits.{longest_address, type_length, longest, most_buffers}
use Rattle.device.specs.Numbers.{transmit, action_of, action_number}
use Rattle.device.specs.declared.Action.{Action}
use Rattle.device.specs.declared.Action.TheVariants as action
use Rattle.actions.specs.Block.{block_status_at, block_command_at, block_link_at, argument_at, destination_at, type_at}
use Rattle.actions.specs.Actions.{clamped, byte_of, groups, act}
use Rattle.actions.specs.Setup.{Setup}
use Rattle.command.specs.Begin.{cmd}
use Rattle.command.specs.Buffer.{descriptor_at}
use Rattle.progress.specs.Same.{In, range}

-- a block, by its offset; n bytes of it from a field on
abbrev pub block : ℕ → Offset
block c = record { 0 = c }

abbrev pub from : RealAddress → ℕ → ℕ → ℕ → List ℕ
from base c field n = range (place base (block c) field) n

-- the command word of the block at c
abbrev pub word_of : RealAddress → List ℕ → ℕ → ℕ
word_of base m c = word_at m (place base (block c) block_command_at)

-- ---- what the setup in force says of a command's bytes

-- the length of an address
unfoldable pub address_length_of : Setup → ℕ
address_length_of s = s.settings.form.length

-- what a Transmit's block has of the header: destination, and the type behind it; with location 1 the buffers have it, and the block's is not used
abbrev pub header_bytes_by : (location : Bool) → RealAddress → (l : ℕ) → ℕ → List ℕ
header_bytes_by true base l c = []
header_bytes_by false base l c = from base c destination_at l ++ from base c (type_at l) type_length

unfoldable pub header_bytes : RealAddress → Setup → ℕ → List ℕ
header_bytes base s c = header_bytes_by s.settings.form.location base (address_length_of s) c

-- what the frame has before the buffers' bytes
unfoldable pub header_length_of : Setup → ℕ
header_length_of s = unbuffered s.settings.form

-- ---- the bytes that a command uses

-- beside the six of its block, a command that is no Transmit uses what its kind and its count make it read; TDR's word is a result
abbrev pub argument_bytes : Action → RealAddress → Setup → List ℕ → ℕ → List ℕ
argument_bytes action.Nop base s m c = []
argument_bytes action.IaSetup base s m c = from base c argument_at longest_address
argument_bytes action.Configure base s m c = from base c argument_at (clamped (byte_of base (block c) m 0))
argument_bytes action.McSetup base s m c =
    from base c argument_at 2 ++ from base c destination_at (groups (address_length_of s) base (block c) m * address_length_of s)
argument_bytes action.Tdr base s m c = from base c argument_at 2
argument_bytes action.Dump base s m c = []
argument_bytes action.Diagnose base s m c = []

-- m, once the command at c has begun: a Transmit's chain, or an MC-Setup's list, may lead over its own status word
unfoldable pub marked : RealAddress → List ℕ → ℕ → List ℕ
marked base m c = apply (word_to (place base (block c) block_status_at) 0x4000 ∷ []) m

-- a descriptor: +0 EOF and count, +2 next offset, +4 real address (three bytes)
abbrev pub descriptor_bytes : RealAddress → Offset → List ℕ
descriptor_bytes base o = range (place base o 0) 2 ++ range (place base o 2) 2 ++ range (place base o 4) 3

-- behind a descriptor: none of the data of a buffer that would not fit, and no further descriptor; none either after EOF, or at FFFFh
abbrev pub behind : (fits eof none : Bool) → List ℕ → List ℕ → List ℕ
behind false eof none buffer more = []
behind true true none buffer more = buffer
behind true false true buffer more = buffer
behind true false false buffer more = buffer ++ more

-- a chain of at most k descriptors from o on, with so many bytes filled before it: up to the descriptor that ends or fails it
abbrev pub chain_bytes : ℕ → RealAddress → List ℕ → Offset → ℕ → List ℕ
chain_bytes zero base m o filled = []
chain_bytes (suc k) base m o filled =
    let d = descriptor_at base o m in
    let more = chain_bytes k base m d.next (filled + d.count) in
    descriptor_bytes base o
    ++ behind (leb (filled + d.count) longest) d.eof (is_none d.next) (range d.buffer.0 d.count) more

abbrev pub first_bytes : (none : Bool) → List ℕ → List ℕ
first_bytes true chain = []
first_bytes false chain = chain

-- a Transmit: the offset at +6, its block's header, and its chain of at most 64
abbrev pub transmit_bytes : RealAddress → Setup → List ℕ → ℕ → List ℕ
transmit_bytes base s m c =
    let first = offset_at m (place base (block c) argument_at) in
    from base c argument_at 2 ++ header_bytes base s c
    ++ first_bytes (is_none first) (chain_bytes most_buffers base (marked base m c) first (header_length_of s))

abbrev pub own_bytes : (transmits : Bool) → RealAddress → Setup → List ℕ → ℕ → List ℕ
own_bytes true base s m c = transmit_bytes base s m c
own_bytes false base s m c = argument_bytes (action_of (cmd (word_of base m c))) base s m c

-- six bytes of a block, and what its command uses besides
unfoldable pub uses : RealAddress → Setup → List ℕ → ℕ → List ℕ
uses base s m c =
    from base c block_status_at 2 ++ from base c block_command_at 2 ++ from base c block_link_at 2 ++ own_bytes (eqb (cmd (word_of base m c)) transmit) base s m c

-- ---- the setup that a command leaves: a Transmit the one in force, any other what its action makes of it. No earlier result is among the bytes
-- that the action reads (`NoClash`), so this is the setup that the command unit alone leaves

abbrev pub setup_by : (transmits : Bool) → RealAddress → Setup → List ℕ → ℕ → Setup
setup_by true base s m c = s
setup_by false base s m c = (act (action_of (cmd (word_of base m c))) base s (block c) (marked base m c)).setup

unfoldable pub setup_after : RealAddress → Setup → List ℕ → ℕ → Setup
setup_after base s m c = setup_by (eqb (cmd (word_of base m c)) transmit) base s m c

-- and the setup that a list leaves, command after command
abbrev pub list_setup : RealAddress → Setup → List ℕ → List ℕ → Setup
list_setup base s m [] = s
list_setup base s m (c ∷ cs) = list_setup base (setup_after base s m c) m cs

-- each command's bytes, under the setup that those before it leave
abbrev pub list_bytes : RealAddress → Setup → List ℕ → List ℕ → List ℕ
list_bytes base s m [] = []
list_bytes base s m (c ∷ cs) = uses base s m c ++ list_bytes base (setup_after base s m c) m cs

-- ---- results

-- results are the status words and TDR's word
abbrev pub tdr_bytes : (tdr : Bool) → RealAddress → ℕ → List ℕ
tdr_bytes true base c = from base c argument_at 2
tdr_bytes false base c = []

unfoldable pub result_bytes : RealAddress → List ℕ → ℕ → List ℕ
result_bytes base m c = from base c block_status_at 2 ++ tdr_bytes (eqb (cmd (word_of base m c)) (action_number action.Tdr)) base c

-- no result may be another command's byte, addresses taken modulo N. Asked of later commands alone, which is less than the sentence grants
abbrev pub NoClash : ℕ → RealAddress → Setup → List ℕ → List ℕ → Type 0
NoClash n base s m [] = Unit {0}
NoClash n base s m (c ∷ cs) =
    let t = setup_after base s m c in
    ((x y : ℕ) → In x (list_bytes base t m cs) → In y (result_bytes base m c) → x % n ≢ y % n) × NoClash n base t m cs

-- ---- the list

-- EL ends the list, S suspends it
abbrev pub stops : ℕ → Bool
stops word = bit word 15 || bit word 14

-- the blocks stand in m as a list: the last is the first that ends or suspends it, and each other's link leads to the next
abbrev pub Listed : RealAddress → List ℕ → List ℕ → Type 0
Listed base m [] = ⊥
Listed base m (c ∷ []) = stops (word_of base m c) ≡ true
Listed base m (c ∷ d ∷ ds) =
    (stops (word_of base m c) ≡ false) × (word_at m (place base (block c) block_link_at) ≡ d) × Listed base m (d ∷ ds)

abbrev pub first_of : List ℕ → ℕ
first_of [] = 0
first_of (c ∷ cs) = c
