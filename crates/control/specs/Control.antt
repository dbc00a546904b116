-- What the control codes do to a unit, over its phases: 01, "The SCB". The paper's table stands here row by row, a definition for each code and
-- unit. Assumes nothing.
use Rattle.std.specs.Prelude.{true, List, [], ◌∷◌, map}
use Rattle.memory.specs.Memory.{Write, word_to}
use Rattle.memory.specs.Address.{place}
use Rattle.memory.specs.declared.Offset.{Offset}
use Rattle.memory.specs.declared.RealAddress.{RealAddress}
use Rattle.scb.specs.Control.{Code, start, resume, suspend, abort, other}
use Rattle.device.specs.Change.{pausing_begun, pausing_storing}
use Rattle.device.specs.declared.Cu.{Cu}
use Rattle.device.specs.declared.Cu.TheVariants as cu
use Rattle.device.specs.declared.Fate.{Fate}
use Rattle.device.specs.declared.Frame.{Frame}
use Rattle.device.specs.declared.Ru.{Ru}
use Rattle.device.specs.declared.Ru.TheVariants as ru
use Rattle.actions.specs.Block as block
use Rattle.receive.specs.Part as descriptor

-- ---- the command unit

-- START: Idle, Suspended to Active, at CBL offset
abbrev pub cu_start : (cbl : Offset) → Cu → Cu
cu_start cbl cu.Idle = cu.Waiting cbl
cu_start cbl (cu.Suspended next) = cu.Waiting cbl
cu_start cbl (cu.Waiting next) = cu.Waiting next
cu_start cbl (cu.Acting b a) = cu.Acting b a
cu_start cbl (cu.Sending b w) = cu.Sending b w
cu_start cbl (cu.Ending b n) = cu.Ending b n
cu_start cbl (cu.Failing b) = cu.Failing b

-- RESUME: Suspended to Active
abbrev pub cu_resume : Cu → Cu
cu_resume cu.Idle = cu.Idle
cu_resume (cu.Suspended next) = cu.Waiting next
cu_resume (cu.Waiting next) = cu.Waiting next
cu_resume (cu.Acting b a) = cu.Acting b a
cu_resume (cu.Sending b w) = cu.Sending b w
cu_resume (cu.Ending b n) = cu.Ending b n
cu_resume (cu.Failing b) = cu.Failing b

-- SUSPEND: Active: at the end of a begun command, else at once
abbrev pub cu_suspend : Cu → Cu
cu_suspend cu.Idle = cu.Idle
cu_suspend (cu.Suspended next) = cu.Suspended next
cu_suspend (cu.Waiting next) = cu.Suspended next
cu_suspend (cu.Acting b a) = cu.Acting (pausing_begun b) a
cu_suspend (cu.Sending b w) = cu.Sending (pausing_begun b) w
cu_suspend (cu.Ending b n) = cu.Ending (pausing_begun b) n
cu_suspend (cu.Failing b) = cu.Failing (pausing_begun b)

-- ABORT: any to Idle
abbrev pub cu_abort : Cu → Cu
cu_abort unit = cu.Idle

-- every other pair does nothing (ours)
abbrev pub cu_by : Code → (cbl : Offset) → Cu → Cu
cu_by start cbl unit = cu_start cbl unit
cu_by resume cbl unit = cu_resume unit
cu_by suspend cbl unit = cu_suspend unit
cu_by abort cbl unit = cu_abort unit
cu_by other cbl unit = unit

-- CU abort of a begun command writes its status 9000h
abbrev pub aborted_block : RealAddress → Offset → List Write
aborted_block base o = word_to (place base o block.block_status_at) 0x9000 ∷ []

abbrev pub aborted_cu : RealAddress → Cu → List Write
aborted_cu base cu.Idle = []
aborted_cu base (cu.Suspended next) = []
aborted_cu base (cu.Waiting next) = []
aborted_cu base (cu.Acting b a) = aborted_block base b.block
aborted_cu base (cu.Sending b w) = aborted_block base b.block
aborted_cu base (cu.Ending b n) = aborted_block base b.block
aborted_cu base (cu.Failing b) = aborted_block base b.block

abbrev pub cu_writes : Code → RealAddress → Cu → List Write
cu_writes start base unit = []
cu_writes resume base unit = []
cu_writes suspend base unit = []
cu_writes abort base unit = aborted_cu base unit
cu_writes other base unit = []

-- ---- the receive unit

-- START: Idle, Suspended, No Resources to Ready, at RFA offset
abbrev pub ru_start : (rfa : Offset) → Ru → Ru
ru_start rfa ru.Idle = ru.Ready rfa
ru_start rfa ru.NoResources = ru.Ready rfa
ru_start rfa (ru.Suspended fd) = ru.Ready rfa
ru_start rfa (ru.Ready fd) = ru.Ready fd
ru_start rfa (ru.Held fd f p) = ru.Held fd f p
ru_start rfa (ru.Filling s w) = ru.Filling s w
ru_start rfa (ru.Closing s free full) = ru.Closing s free full
ru_start rfa (ru.Lacking s) = ru.Lacking s

-- RESUME: Suspended to Ready
abbrev pub ru_resume : Ru → Ru
ru_resume ru.Idle = ru.Idle
ru_resume ru.NoResources = ru.NoResources
ru_resume (ru.Suspended fd) = ru.Ready fd
ru_resume (ru.Ready fd) = ru.Ready fd
ru_resume (ru.Held fd f p) = ru.Held fd f p
ru_resume (ru.Filling s w) = ru.Filling s w
ru_resume (ru.Closing s free full) = ru.Closing s free full
ru_resume (ru.Lacking s) = ru.Lacking s

-- SUSPEND: Ready: at the end of a held frame, else at once
abbrev pub ru_suspend : Ru → Ru
ru_suspend ru.Idle = ru.Idle
ru_suspend ru.NoResources = ru.NoResources
ru_suspend (ru.Suspended fd) = ru.Suspended fd
ru_suspend (ru.Ready fd) = ru.Suspended fd
ru_suspend (ru.Held fd f p) = ru.Held fd f true
ru_suspend (ru.Filling s w) = ru.Filling (pausing_storing s) w
ru_suspend (ru.Closing s free full) = ru.Closing (pausing_storing s) free full
ru_suspend (ru.Lacking s) = ru.Lacking (pausing_storing s)

-- ABORT: any to Idle
abbrev pub ru_abort : Ru → Ru
ru_abort unit = ru.Idle

-- every other pair does nothing (ours)
abbrev pub ru_by : Code → (rfa : Offset) → Ru → Ru
ru_by start rfa unit = ru_start rfa unit
ru_by resume rfa unit = ru_resume unit
ru_by suspend rfa unit = ru_suspend unit
ru_by abort rfa unit = ru_abort unit
ru_by other rfa unit = unit

-- RU abort drops a held frame uncounted and writes 0000h to its frame descriptor if begun
abbrev pub aborted_descriptor : RealAddress → Offset → List Write
aborted_descriptor base o = word_to (place base o descriptor.fd_status_at) 0x0000 ∷ []

abbrev pub aborted_ru : RealAddress → Ru → List Write
aborted_ru base ru.Idle = []
aborted_ru base ru.NoResources = []
aborted_ru base (ru.Suspended fd) = []
aborted_ru base (ru.Ready fd) = []
aborted_ru base (ru.Held fd f p) = []
aborted_ru base (ru.Filling s w) = aborted_descriptor base s.fd
aborted_ru base (ru.Closing s free full) = aborted_descriptor base s.fd
aborted_ru base (ru.Lacking s) = aborted_descriptor base s.fd

abbrev pub ru_writes : Code → RealAddress → Ru → List Write
ru_writes start base unit = []
ru_writes resume base unit = []
ru_writes suspend base unit = []
ru_writes abort base unit = aborted_ru base unit
ru_writes other base unit = []

-- the held frames that an abort or a reset loses, each by this fate: all, or none where some are held after it
abbrev pub lost_by : Fate → (before after : List Frame) → List Fate
lost_by x before [] = map (λ (f : Frame). x) before
lost_by x before (g ∷ gs) = []
