-- End of a held frame: 01, "Arrival and storing". What is written follows from the frame's fate. Assumes nothing.
use Rattle.std.specs.Prelude.{Bool, true, false, not, cond, ◌||◌, List, [], ◌∷◌, ◌++◌, ℕ, ◌+◌, eqb, take, drop, None}
use Rattle.memory.specs.Memory.{Write, bytes_to, word_to, apply}
use Rattle.memory.specs.Address.{place, offset_at, none}
use Rattle.memory.specs.declared.Offset.{Offset}
use Rattle.scb.specs.declared.Events.{Events}
use Rattle.device.specs.Answers.{counter_of, is_stored, counts}
use Rattle.device.specs.Header.{unbuffered}
use Rattle.device.specs.Limits.{held_from}
use Rattle.device.specs.State.{is_good, ru_state, is_ready}
use Rattle.device.specs.declared.Fate.{Fate}
use Rattle.device.specs.declared.Fate.TheVariants as fate
use Rattle.device.specs.declared.Frame.{Frame}
use Rattle.device.specs.declared.Ru.{Ru}
use Rattle.device.specs.declared.Ru.TheVariants as ru
use Rattle.device.specs.declared.Storing.{Storing}
use Rattle.device.specs.declared.Verdict.{Verdict}
use Rattle.device.specs.declared.Verdict.TheVariants as verdict
use Rattle.receive.specs.Part.{Part, Service, fd_status_at, fd_link_at, first_at, header_at}
use Rattle.receive.specs.Begin.{is_bare}

-- what becomes of the frame: stored. Out of buffers: kept if save-bad was set at arrival, and either way RSCERRS follows if otherwise good.
-- A bad frame is held only to be saved, so the last case is for records that no call leaves
abbrev pub fate_by : (lacking saved good : Bool) → Fate
fate_by false saved good = fate.Stored
fate_by true true true = fate.StoredCounted
fate_by true true false = fate.Stored
fate_by true false true = fate.Counted
fate_by true false false = fate.Bad None

abbrev pub fate_of : (lacking : Bool) → Frame → Fate
fate_of lacking f = fate_by lacking f.savebad (is_good f)

-- ---- the descriptor's status: 15 C, 13 OK; 11 CRC, 10 alignment, 9 out of buffers, 7 short

-- all bits that apply are set, 10 excluding 11
abbrev pub verdict_bit : Verdict → ℕ
verdict_bit verdict.Good = 0
verdict_bit verdict.Crc = 0x0800
verdict_bit verdict.Misaligned = 0x0400

abbrev pub error_bits : (lacking : Bool) → Frame → ℕ
error_bits lacking f = verdict_bit f.verdict + cond lacking 0x0200 0 + cond f.short 0x0080 0

-- OK only with no error bit
unfoldable pub frame_status : (lacking : Bool) → Frame → ℕ
frame_status lacking f = cond (eqb (error_bits lacking f) 0) 0xA000 (0x8000 + error_bits lacking f)

-- ---- what is written to the descriptor

-- stored: the header bytes, with location 1 none; status, FFFFh at +6 if no data. Not stored: status 0000h
abbrev pub bare_mark : (bare : Bool) → ℕ → List Write
bare_mark true a = word_to a none.0 ∷ []
bare_mark false a = []

abbrev pub descriptor_by : (stored lacking : Bool) → Part → Storing → List Write
descriptor_by true lacking p s =
    bytes_to (place p.base s.fd header_at) (take (unbuffered s.frame.form) (drop held_from p.holding))
    ∷ word_to (place p.base s.fd fd_status_at) (frame_status lacking s.frame)
    ∷ bare_mark (is_bare s.frame) (place p.base s.fd first_at)
descriptor_by false lacking p s = word_to (place p.base s.fd fd_status_at) 0x0000 ∷ []

-- then the counter, on memory as it stands then
unfoldable pub settles : (lacking : Bool) → Part → Storing → List ℕ → List Write
settles lacking p s m =
    let described = descriptor_by (is_stored (fate_of lacking s.frame)) lacking p s in
    described ++ counts (counter_of (fate_of lacking s.frame)) p.base p.scb (apply described m)

-- ---- where the unit goes

-- FR if stored; leaving Ready raises RNR
abbrev pub raised_by : Fate → Ru → Events
raised_by f next = record { cx = false; fr = is_stored f; cna = false; rnr = not (is_ready (ru_state next)) }

abbrev pub end_at : Fate → Ru → List Write → Service
end_at f next writes = record { unit = next; writes = writes; raised = raised_by f next; fates = f ∷ [] }

-- S or a waiting SUSPEND suspends
abbrev pub before : (suspends : Bool) → Offset → Ru
before true link = ru.Suspended link
before false link = ru.Ready link

-- out of buffers, descriptor EL, or EL on the last buffer used: No Resources, which wins over Suspended.
-- Otherwise +6 of the next frame descriptor (link read now) gets the next free offset
abbrev pub proceeds : (exhausted : Bool) → Part → Storing → Offset → Fate → List Write → List ℕ → Service
proceeds true p s free f writes m = end_at f ru.NoResources writes
proceeds false p s free f writes m =
    let link = offset_at (apply writes m) (place p.base s.fd fd_link_at) in
    end_at f (before (s.suspend || s.pausing) link) (writes ++ (word_to (place p.base link first_at) free.0 ∷ []))

-- all is stored: the next free offset, and whether the last buffer used had EL
unfoldable pub close : Part → Storing → Offset → Bool → List ℕ → Service
close p s free full m = proceeds (s.el || full) p s free (fate_of false s.frame) (settles false p s m) m

-- out of buffers
unfoldable pub lack : Part → Storing → List ℕ → Service
lack p s m = end_at (fate_of true s.frame) ru.NoResources (settles true p s m)
