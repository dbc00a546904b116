-- Begin: 01, "Turns": read the command word, which holds to the end; write status 4000h. A Transmit's +6 is read, and its header goes to the
-- outgoing area, if the buffers do not have it. Assumes nothing.
use Rattle.std.specs.Prelude.{Bool, true, false, List, [], ◌∷◌, ◌++◌, ℕ, eqb, take}
use Rattle.std.proofs.lemmas.List.Edits.{sets}
use Rattle.memory.specs.Memory.{word_at, bytes_at, word_to}
use Rattle.memory.specs.Address.{place, offset_at, is_none}
use Rattle.memory.specs.declared.Offset.{Offset}
use Rattle.memory.specs.declared.RealAddress.{RealAddress}
use Rattle.scb.specs.Words.{bits_at, bit}
use Rattle.device.specs.Header.{unbuffered}
use Rattle.device.specs.Limits.{type_length}
use Rattle.device.specs.Numbers.{transmit, action_of}
use Rattle.device.specs.declared.Begun.{Begun}
use Rattle.device.specs.declared.Cu.{Cu}
use Rattle.device.specs.declared.Cu.TheVariants as cu
use Rattle.device.specs.declared.Form.{Form}
use Rattle.command.specs.Part.{Part, Service, with_unit, with_outgoing, quietly}
use Rattle.actions.specs.Block.{block_status_at, block_command_at, argument_at, destination_at, type_at}

-- +2 command: 15 EL, 14 S, 13 I, 2-0 CMD
abbrev pub cmd : ℕ → ℕ
cmd word = bits_at word 0 3

-- the command word holds to the end; no SUSPEND waits yet
unfoldable pub begun_by : Offset → ℕ → Begun
begun_by block word =
    record { block = block; el = bit word 15; suspend = bit word 14; interrupt = bit word 13; pausing = false }

-- Transmit: +6, offset of a buffer descriptor, FFFFh none; so many bytes of the frame are in the outgoing area
abbrev pub to_first : (none : Bool) → (filled : ℕ) → Begun → Offset → Cu
to_first true filled b first = cu.Ending b filled
to_first false filled b first = cu.Sending b (record { next = first; used = 0; filled = filled })

-- Frame: destination, own address, type. 02, Wish 4: of the own address the first bytes, up to the length; with location 1 "the chip inserts no source
-- address", and the buffers have the header
abbrev pub header_by : (location : Bool) → (l : ℕ) → RealAddress → List ℕ → Offset → List ℕ → List ℕ
header_by true l base own block m = []
header_by false l base own block m =
    bytes_at m (place base block destination_at) l ++ take l own ++ bytes_at m (place base block (type_at l)) type_length

unfoldable pub header_of : RealAddress → Form → List ℕ → Offset → List ℕ → List ℕ
header_of base form own block m = header_by form.location form.length base own block m

-- the begun unit: a Transmit at its first descriptor with the header in the outgoing area, any other command before its end
abbrev pub to_begun : (transmits : Bool) → Part → Begun → ℕ → List ℕ → Part
to_begun true p b word m =
    let first = offset_at m (place p.base b.block argument_at) in
    let form = p.setup.settings.form in
    with_outgoing
    (with_unit p (to_first (is_none first) (unbuffered form) b first))
    (sets p.outgoing 0 (header_of p.base form p.setup.own b.block m))
to_begun false p b word m = with_unit p (cu.Acting b (action_of (cmd word)))

unfoldable pub begin : Part → Offset → List ℕ → Service
begin p block m =
    let word = word_at m (place p.base block block_command_at) in
    quietly (to_begun (eqb (cmd word) transmit) p (begun_by block word) word m) (word_to (place p.base block block_status_at) 0x4000 ∷ [])
