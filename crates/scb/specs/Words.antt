-- The SCB's words: 01, "The SCB". Assumes nothing.
use Rattle.std.specs.Prelude.{Bool, false, not, cond, ◌&&◌, ◌||◌, ℕ, ◌+◌, ◌*◌, ◌/◌, ◌%◌, ◌^◌, eqb}
use Rattle.scb.specs.declared.CuState.{CuState}
use Rattle.scb.specs.declared.CuState.TheVariants as cu
use Rattle.scb.specs.declared.Events.{Events}
use Rattle.scb.specs.declared.RuState.{RuState}
use Rattle.scb.specs.declared.RuState.TheVariants as ru

-- ---- where its words stand: +0 status, +2 command, +4 CBL offset, +6 RFA offset, +8 CRCERRS, +10 ALNERRS, +12 RSCERRS, +14 OVRNERRS

abbrev pub scb_status_at : ℕ
scb_status_at = 0

abbrev pub scb_command_at : ℕ
scb_command_at = 2

abbrev pub cbl_at : ℕ
cbl_at = 4

abbrev pub rfa_at : ℕ
rfa_at = 6

-- ---- fields of a word, one rule for every place and width

-- the so many bits of w from bit at on
unfoldable pub bits_at : ℕ → ℕ → ℕ → ℕ
bits_at w at bits = w / 2 ^ at % 2 ^ bits

abbrev pub bit : ℕ → ℕ → Bool
bit w at = eqb (bits_at w at 1) 1

-- the word w, all below bit at, with the number v from bit at on
unfoldable pub joined : ℕ → ℕ → ℕ → ℕ
joined w at v = w + v * 2 ^ at

abbrev pub one : Bool → ℕ
one b = cond b 1 0

-- ---- events: 15 CX, 14 FR, 13 CNA, 12 RNR

abbrev pub no_events : Events
no_events = record { cx = false; fr = false; cna = false; rnr = false }

-- an event is set if it was or is raised
abbrev pub raise : Events → Events → Events
raise e by =
    record {
      cx = e.cx || by.cx;
      fr = e.fr || by.fr;
      cna = e.cna || by.cna;
      rnr = e.rnr || by.rnr;
    }

-- bits 15-12 of the command acknowledge the same events
unfoldable pub acknowledged : Events → ℕ → Events
acknowledged e command =
    record {
      cx = e.cx && not (bit command 15);
      fr = e.fr && not (bit command 14);
      cna = e.cna && not (bit command 13);
      rnr = e.rnr && not (bit command 12);
    }

-- bits 15-12 are not all zero: the interrupt is high
unfoldable pub any_of : Events → Bool
any_of e = e.cx || e.fr || e.cna || e.rnr

-- the four events as a number, CX the highest bit
unfoldable pub event_bits : Events → ℕ
event_bits e = joined (joined (joined (one e.rnr) 1 (one e.cna)) 2 (one e.fr)) 3 (one e.cx)

-- ---- the units' states: CUS 0 Idle, 1 Suspended, 2 Active; RUS 0 Idle, 1 Suspended, 2 No Resources, 4 Ready

abbrev pub cu_number : CuState → ℕ
cu_number cu.Idle = 0
cu_number cu.Suspended = 1
cu_number cu.Active = 2

abbrev pub ru_number : RuState → ℕ
ru_number ru.Idle = 0
ru_number ru.Suspended = 1
ru_number ru.NoResources = 2
ru_number ru.Ready = 4

-- the status word: events in 15-12, CUS in 10-8, RUS in 6-4, all else zero
unfoldable pub status_word : Events → CuState → RuState → ℕ
status_word e c r = joined (joined (joined 0 4 (ru_number r)) 8 (cu_number c)) 12 (event_bits e)

-- ---- the command word: 15-12 acknowledge, 10-8 CUC, 7 RESET, 6-4 RUC

abbrev pub cuc : ℕ → ℕ
cuc command = bits_at command 8 3

abbrev pub resets : ℕ → Bool
resets command = bit command 7

abbrev pub ruc : ℕ → ℕ
ruc command = bits_at command 4 3
