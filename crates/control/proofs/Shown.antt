-- The control codes, row by row: 01, "The SCB". Each is a computed case that another reading fails. Assumes nothing.
use mathlib.Core.Bool.{Bool, false, ◌&&◌, not}
use mathlib.Core.List.{List, [], ◌∷◌}
use Prim.Native.Nat.{ℕ, ◌*◌}
use lib.Dec.{T, eqb}
use lib.ListN.{length, replicate}
use Rattle.memory.specs.Address.{place}
use Rattle.memory.specs.Memory.{byte_at, put_byte, bytes_at, put_bytes, value, digits, field_at, word_at, word_to, apply}
use Rattle.scb.specs.Control.{code_of}
use Rattle.scb.specs.Words.{bits_at}
use Rattle.device.specs.Change.{with_cu, with_ru}
use Rattle.device.specs.State.{fresh_form, fresh_units}
use Rattle.device.specs.declared.Action.TheVariants as action
use Rattle.device.specs.declared.Begun.{Begun}
use Rattle.device.specs.declared.Cu.{Cu}
use Rattle.device.specs.declared.Cu.TheVariants as cu
use Rattle.device.specs.declared.Fate.TheVariants as fate
use Rattle.device.specs.declared.Frame.{Frame}
use Rattle.device.specs.declared.Ru.{Ru}
use Rattle.device.specs.declared.Ru.TheVariants as ru
use Rattle.device.specs.declared.Verdict.TheVariants as verdict
use Rattle.control.specs.Control.{lost_by}
use Rattle.control.specs.Obey.{Obeyed, obey_cuc, obey_ruc}

-- base and SCB are at 0; the CBL offset is 40h, the RFA offset 50h; 4000h stands at 60h and at 70h
abbrev memory : List ℕ
memory = apply (word_to 0x04 0x40 ∷ word_to 0x06 0x50 ∷ word_to 0x60 0x4000 ∷ word_to 0x70 0x4000 ∷ []) (replicate 128 0)

-- ---- the command unit

-- a command that is begun at 60h
abbrev begun : Begun
begun = record { block = record { 0 = 0x60 }; el = false; suspend = false; interrupt = false; pausing = false }

abbrev acting : Cu
acting = cu.Acting begun action.Nop

-- a unit obeys CUC 1 START, 2 RESUME, 3 SUSPEND or 4 ABORT
abbrev cu_does : (code : ℕ) → Cu → Obeyed Cu
cu_does code unit = obey_cuc (with_cu fresh_units unit) (code * 256) memory

-- the phase of a unit, by number, and the block where it is
abbrev cu_phase : Cu → ℕ
cu_phase cu.Idle = 0
cu_phase (cu.Suspended o) = 1
cu_phase (cu.Waiting o) = 2
cu_phase (cu.Acting b a) = 3
cu_phase (cu.Sending b w) = 4
cu_phase (cu.Ending b n) = 5
cu_phase (cu.Failing b) = 6

abbrev cu_at : Cu → ℕ
cu_at cu.Idle = 0
cu_at (cu.Suspended o) = o.0
cu_at (cu.Waiting o) = o.0
cu_at (cu.Acting b a) = b.block.0
cu_at (cu.Sending b w) = b.block.0
cu_at (cu.Ending b n) = b.block.0
cu_at (cu.Failing b) = b.block.0

abbrev waits : Cu → Bool
waits cu.Idle = false
waits (cu.Suspended o) = false
waits (cu.Waiting o) = false
waits (cu.Acting b a) = b.pausing
waits (cu.Sending b w) = b.pausing
waits (cu.Ending b n) = b.pausing
waits (cu.Failing b) = b.pausing

abbrev next : Cu
next = cu.Waiting (record { 0 = 0x60 })

abbrev paused : Cu
paused = cu.Suspended (record { 0 = 0x60 })

-- a unit that is to begin the block at o
abbrev cu_goes : Cu → (o : ℕ) → Bool
cu_goes unit o = eqb (cu_phase unit) 2 && eqb (cu_at unit) o

-- 1 START: Idle, Suspended to Active, at CBL offset; 2 RESUME: Suspended to Active, where it was. An Active unit goes on where it is
pub cu_starts : T (cu_goes (cu_does 1 cu.Idle).unit 0x40 && cu_goes (cu_does 1 paused).unit 0x40 && cu_goes (cu_does 2 paused).unit 0x60
    && cu_goes (cu_does 1 next).unit 0x60)
unfolding byte_at put_byte bytes_at put_bytes value digits field_at place bits_at code_of obey_cuc
cu_starts = tt

-- 3 SUSPEND: at the end of a begun command, else at once
pub cu_suspends : T (eqb (cu_phase (cu_does 3 acting).unit) 3 && waits (cu_does 3 acting).unit
    && eqb (cu_phase (cu_does 3 next).unit) 1 && eqb (cu_at (cu_does 3 next).unit) 0x60)
unfolding byte_at put_byte bytes_at put_bytes value digits field_at place bits_at code_of obey_cuc
cu_suspends = tt

-- every other pair does nothing: RESUME and SUSPEND of an Idle unit, SUSPEND of a Suspended one, RESUME of an Active one, codes 0 and 5 of any
pub cu_else : T (eqb (cu_phase (cu_does 2 cu.Idle).unit) 0 && eqb (cu_phase (cu_does 3 cu.Idle).unit) 0 && eqb (cu_phase (cu_does 3 paused).unit) 1
    && cu_goes (cu_does 2 next).unit 0x60 && eqb (cu_phase (cu_does 2 acting).unit) 3 && not (waits (cu_does 2 acting).unit)
    && cu_goes (cu_does 0 next).unit 0x60 && eqb (cu_phase (cu_does 5 paused).unit) 1 && eqb (cu_phase (cu_does 5 acting).unit) 3)
unfolding byte_at put_byte bytes_at put_bytes value digits field_at place bits_at code_of obey_cuc
cu_else = tt

-- leaving Active raises CNA: an ABORT of a unit that is not Active leaves nothing
pub cu_leaves : T ((cu_does 4 acting).left && (cu_does 3 next).left && not (cu_does 3 acting).left && not (cu_does 4 paused).left)
unfolding byte_at put_byte bytes_at put_bytes value digits field_at place bits_at code_of obey_cuc
cu_leaves = tt

-- CU abort of a begun command writes its status 9000h, and of one not begun nothing
abbrev block : Cu → ℕ
block unit = word_at (apply (cu_does 4 unit).writes memory) 0x60

pub cu_aborts : T (eqb (block acting) 0x9000 && eqb (block next) 0x4000)
unfolding byte_at put_byte bytes_at put_bytes value digits field_at place bits_at code_of obey_cuc
cu_aborts = tt

-- ---- the receive unit

-- a frame that is held before the descriptor at 70h, and one that is begun there
abbrev frame : Frame
frame = record { length = 16; verdict = verdict.Good; short = false; savebad = false; form = fresh_form }

abbrev held : Ru
held = ru.Held (record { 0 = 0x70 }) frame false

abbrev lacking : Ru
lacking = ru.Lacking (record { fd = record { 0 = 0x70 }; el = false; suspend = false; pausing = false; frame = frame })

-- a unit obeys RUC 1 START, 2 RESUME, 3 SUSPEND or 4 ABORT
abbrev ru_does : (code : ℕ) → Ru → Obeyed Ru
ru_does code unit = obey_ruc (with_ru fresh_units unit) (code * 16) memory

abbrev ru_phase : Ru → ℕ
ru_phase ru.Idle = 0
ru_phase (ru.Suspended o) = 1
ru_phase ru.NoResources = 2
ru_phase (ru.Ready o) = 3
ru_phase (ru.Held o f p) = 4
ru_phase (ru.Filling s w) = 5
ru_phase (ru.Closing s o e) = 6
ru_phase (ru.Lacking s) = 7

abbrev ru_at : Ru → ℕ
ru_at ru.Idle = 0
ru_at (ru.Suspended o) = o.0
ru_at ru.NoResources = 0
ru_at (ru.Ready o) = o.0
ru_at (ru.Held o f p) = o.0
ru_at (ru.Filling s w) = s.fd.0
ru_at (ru.Closing s o e) = s.fd.0
ru_at (ru.Lacking s) = s.fd.0

-- a unit that is Ready at o, with no frame held
abbrev ru_goes : Ru → (o : ℕ) → Bool
ru_goes unit o = eqb (ru_phase unit) 3 && eqb (ru_at unit) o

-- 1 START: Idle, Suspended, No Resources to Ready, at RFA offset; 2 RESUME: Suspended to Ready, where it was
pub ru_starts : T (ru_goes (ru_does 1 ru.Idle).unit 0x50 && ru_goes (ru_does 1 ru.NoResources).unit 0x50
    && ru_goes (ru_does 1 (ru.Suspended (record { 0 = 0x70 }))).unit 0x50 && ru_goes (ru_does 2 (ru.Suspended (record { 0 = 0x70 }))).unit 0x70)
unfolding byte_at put_byte bytes_at put_bytes value digits field_at place bits_at code_of obey_ruc
ru_starts = tt

-- a SUSPEND waits for the end of the held frame
abbrev ru_waits : Ru → Bool
ru_waits ru.Idle = false
ru_waits (ru.Suspended o) = false
ru_waits ru.NoResources = false
ru_waits (ru.Ready o) = false
ru_waits (ru.Held o f p) = p
ru_waits (ru.Filling s w) = s.pausing
ru_waits (ru.Closing s o e) = s.pausing
ru_waits (ru.Lacking s) = s.pausing

-- 3 SUSPEND: at the end of a held frame, begun or not, else at once
pub ru_suspends : T (eqb (ru_phase (ru_does 3 held).unit) 4 && ru_waits (ru_does 3 held).unit && not (ru_does 3 held).left
    && eqb (ru_phase (ru_does 3 lacking).unit) 7 && ru_waits (ru_does 3 lacking).unit
    && eqb (ru_phase (ru_does 3 (ru.Ready (record { 0 = 0x70 }))).unit) 1)
unfolding byte_at put_byte bytes_at put_bytes value digits field_at place bits_at code_of obey_ruc
ru_suspends = tt

-- every other pair does nothing: RESUME of a unit that is Idle, has No Resources or is Ready, SUSPEND of one that is not Ready, code 0
pub ru_else : T (eqb (ru_phase (ru_does 2 ru.Idle).unit) 0 && eqb (ru_phase (ru_does 2 ru.NoResources).unit) 2 && eqb (ru_phase (ru_does 2 held).unit) 4
    && ru_goes (ru_does 1 (ru.Ready (record { 0 = 0x70 }))).unit 0x70 && eqb (ru_phase (ru_does 3 ru.NoResources).unit) 2
    && eqb (ru_phase (ru_does 3 ru.Idle).unit) 0 && eqb (ru_phase (ru_does 0 held).unit) 4 && not (ru_waits (ru_does 0 held).unit))
unfolding byte_at put_byte bytes_at put_bytes value digits field_at place bits_at code_of obey_ruc
ru_else = tt

-- RU abort drops a held frame and writes 0000h to its frame descriptor if begun
abbrev descriptor : Ru → ℕ
descriptor unit = word_at (apply (ru_does 4 unit).writes memory) 0x70

pub ru_aborts : T (eqb (ru_phase (ru_does 4 held).unit) 0 && (ru_does 4 held).left && eqb (descriptor held) 0x4000 && eqb (descriptor lacking) 0)
unfolding byte_at put_byte bytes_at put_bytes value digits field_at place bits_at code_of obey_ruc
ru_aborts = tt

-- it drops every held frame, each by its fate, and nothing else does; one that is held after it is not dropped
pub each_lost : T (eqb (length (lost_by fate.Aborted (frame ∷ frame ∷ []) [])) 2 && eqb (length (lost_by fate.Aborted (frame ∷ []) (frame ∷ []))) 0
    && eqb (length (lost_by fate.Aborted [] [])) 0)
each_lost = tt
