-- The actions, done at the end turn: 01, "Turns". Each says the status, and what it changes. Assumes nothing.
use Rattle.std.specs.Prelude.{Bool, true, not, cond, ◌&&◌, ◌||◌, List, [], ◌∷◌, ℕ, zero, suc, ◌+◌, ◌*◌, ◌/◌, ◌^◌, min, max, leb, ltb}
use Rattle.memory.specs.Memory.{byte_at, word_at, bytes_at, Write, word_to}
use Rattle.memory.specs.Address.{place}
use Rattle.memory.specs.declared.Offset.{Offset}
use Rattle.memory.specs.declared.RealAddress.{RealAddress}
use Rattle.scb.specs.Words.{bits_at, bit}
use Rattle.hash.specs.Hash.{hash}
use Rattle.device.specs.Limits.{longest_address}
use Rattle.device.specs.declared.Action.{Action}
use Rattle.device.specs.declared.Action.TheVariants as action
use Rattle.device.specs.declared.Form.{Form}
use Rattle.device.specs.declared.Settings.{Settings}
use Rattle.filter.specs.Match.{with_bit}
use Rattle.actions.specs.Block.{argument_at, destination_at}
use Rattle.actions.specs.Setup.{Setup}

-- Command block: 15 C, 13 OK
abbrev pub done : ℕ
done = 0xA000

abbrev pub failed : ℕ
failed = 0x8000

-- what an action comes to
pub record Acted : Type 0 where
  pub status : ℕ
  pub setup : Setup
  pub writes : List Write
  pub length : ℕ

-- nothing but the status and, if a frame is sent, its length
abbrev pub plainly : Setup → ℕ → ℕ → Acted
plainly s status length = record { status = status; setup = s; writes = []; length = length }

-- done with another setup, if that is accepted; else 8000h, nothing changed
abbrev pub setting : (accepted : Bool) → Setup → Setup → Acted
setting accepted s new = plainly (cond accepted new s) (cond accepted done failed) 0

-- ---- 1 IA-Setup: six bytes at +6, whatever the address length

abbrev pub ia_setup : RealAddress → Setup → Offset → List ℕ → Acted
ia_setup base s block m =
    setting true s
    (record { settings = s.settings; own = bytes_at m (place base block argument_at) longest_address; filter = s.filter })

-- ---- 2 Configure

-- byte count, low 4 bits of +6, below 4 taken as 4, above 12 as 12
abbrev pub clamped : ℕ → ℕ
clamped byte = min 12 (max 4 (bits_at byte 0 4))

-- that many bytes are taken from +6 (byte 0)
abbrev pub byte_of : RealAddress → Offset → List ℕ → ℕ → ℕ
byte_of base block m k = byte_at m (place base block (argument_at + k))

-- Byte 3: bits 2-0 address length, 3 address location, 6 and 7 loopback
abbrev pub length_in : ℕ → ℕ
length_in byte = bits_at byte 0 3

abbrev pub form_in : ℕ → Form
form_in byte = record { length = length_in byte; location = bit byte 3 }

-- the others are kept. Byte 2: bit 7 save bad frames. Byte 8: bit 0 promiscuous, 1 broadcast disabled. Byte 10: minimum length. Bytes 2 and 3 are always taken
unfoldable pub settings_by : ℕ → (ℕ → ℕ) → Settings → Settings
settings_by count byte s =
    record {
      savebad = bit (byte 2) 7;
      promiscuous = cond (ltb 8 count) (bit (byte 8) 0) s.promiscuous;
      nobroadcast = cond (ltb 8 count) (bit (byte 8) 1) s.nobroadcast;
      minimum = cond (ltb 10 count) (byte 10) s.minimum;
      form = form_in (byte 3);
    }

-- 02, Wish 4: "lengths 0 to 6 and address location 1 ... 7 and loopback still give 8000h"
abbrev pub acceptable : ℕ → Bool
acceptable byte = leb (length_in byte) longest_address && not (bit byte 6) && not (bit byte 7)

-- if the result is not acceptable: status 8000h, nothing changed (ours)
abbrev pub configure : RealAddress → Setup → Offset → List ℕ → Acted
configure base s block m =
    let byte = byte_of base block m in
    setting (acceptable (byte 3)) s
    (record { settings = settings_by (clamped (byte 0)) byte s.settings; own = s.own; filter = s.filter })

-- ---- 3 MC-Setup

-- low 14 bits at +6 count bytes
abbrev pub count_of : RealAddress → Offset → List ℕ → ℕ
count_of base block m = bits_at (word_at m (place base block argument_at)) 0 14

-- of them whole addresses of l bytes, a remainder ignored; 02, Wish 4: none at length 0
abbrev pub groups_of : ℕ → ℕ → ℕ
groups_of zero count = 0
groups_of (suc l) count = count / suc l

abbrev pub groups : ℕ → RealAddress → Offset → List ℕ → ℕ
groups l base block m = groups_of l (count_of base block m)

-- of those from a on, the one behind n others
abbrev pub group_at : ℕ → List ℕ → ℕ → ℕ → List ℕ
group_at l m a n = bytes_at m (a + n * l) l

-- 02, Wish 1: "it folds each address through the CRC into a 64-bit filter": that of the n addresses from a on, whatever the low bit of each
unfoldable pub filtering : ℕ → List ℕ → ℕ → ℕ → ℕ
filtering l m a zero = 0
filtering l m a (suc n) = with_bit (filtering l m a n) (hash (group_at l m a n))

-- addresses from +8, of the length in force; nothing of the old filter stays. 02, Wish 1: any count works, a count of 0 empties the filter; Wish 4: so
-- does length 0
abbrev pub mc_setup : RealAddress → Setup → Offset → List ℕ → Acted
mc_setup base s block m =
    let l = s.settings.form.length in
    let filter = filtering l m (place base block destination_at) (groups l base block m) in
    setting true s (record { settings = s.settings; own = s.own; filter = filter })

-- ---- 5 TDR: word +6 becomes 8000h

abbrev pub tdr : RealAddress → Setup → Offset → Acted
tdr base s block =
    record { status = done; setup = s; writes = word_to (place base block argument_at) 0x8000 ∷ []; length = 0 }

-- ---- 0 NOP, 7 Diagnose: A000h. 6 Dump: 8000h

unfoldable pub act : Action → RealAddress → Setup → Offset → List ℕ → Acted
act action.Nop base s block m = plainly s done 0
act action.IaSetup base s block m = ia_setup base s block m
act action.Configure base s block m = configure base s block m
act action.McSetup base s block m = mc_setup base s block m
act action.Tdr base s block m = tdr base s block
act action.Dump base s block m = plainly s failed 0
act action.Diagnose base s block m = plainly s done 0

-- ---- 4 Transmit

-- bits 10, 9, 7, 6, 5, 3-0 of the line report
unfoldable pub reported : ℕ → ℕ
reported report = bits_at report 9 2 * 2 ^ 9 + bits_at report 5 3 * 2 ^ 5 + bits_at report 0 4

-- 10, 9, 5 are clear
unfoldable pub is_sent : ℕ → Bool
is_sent report = not (bit report 10 || bit report 9 || bit report 5)

-- those bits are set with C; OK, and the frame sent, exactly if 10, 9, 5 are clear
unfoldable pub sent : Setup → ℕ → ℕ → Acted
sent s filled report = plainly s (cond (is_sent report) done failed + reported report) (cond (is_sent report) filled 0)

-- 8100h, nothing sent (ours)
abbrev pub not_sent : Setup → Acted
not_sent s = plainly s 0x8100 0
