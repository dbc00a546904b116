-- Numbers of states: the status word, the events of an initialisation, a reset, and the setup after it. Assumes nothing.
use mathlib.Core.Path.{◌≡◌, refl, ap, ◌∙◌}
use mathlib.Core.List.{List}
use Prim.Native.Nat.{ℕ, ◌*◌, ◌%◌, ◌<◌, ◌≤◌}
use native.Mathlib.Omega.{arith}
use lib.Bits.{bit_or}
use lib.ListN.{length, length-append}
use Rattle.memory.specs.Memory.{digits}
use Rattle.memory.proofs.Fields.{length_digits}
use Rattle.scb.specs.Words.{joined, event_bits, ru_number}
use Rattle.scb.proofs.Fields.{join_law}
use Rattle.device.specs.State.{ru_state, fresh_units, fresh}
use Rattle.device.specs.declared.Ru.{Ru}
use Rattle.device.specs.declared.Ru.TheVariants as ru
use Rattle.actions.specs.Setup.{Setup, setup_of}
use Rattle.phases.specs.Phases.{number_of, cu_word, ru_tag, ru_word, ru_rest}
use Rattle.packed.specs.Packed.{packed_of, PackedIs}
use Rattle.packed.specs.SetUp.{setup_bytes, SetIs}
use Rattle.attention.specs.Attention.{initial_events}
use Rattle.code_control.proofs.CuCodes.{cu_idle_is}
use Rattle.code_control.proofs.RuCodes.{ru_idle_is}

-- ---- RUS of a tag

pub rus_own : (v : Ru) → ru_tag v < 3 → ru_tag v ≡ ru_number (ru_state v)
rus_own ru.Idle h = refl
rus_own ru.NoResources h = refl
rus_own (ru.Suspended o) h = refl
rus_own (ru.Ready o) h = absurd (omega arith)
rus_own (ru.Held o f p) h = absurd (omega arith)
rus_own (ru.Filling s w) h = absurd (omega arith)
rus_own (ru.Closing s o full) h = absurd (omega arith)
rus_own (ru.Lacking s) h = absurd (omega arith)

pub rus_ready : (v : Ru) → 3 ≤ ru_tag v → 4 ≡ ru_number (ru_state v)
rus_ready ru.Idle h = absurd (omega arith)
rus_ready ru.NoResources h = absurd (omega arith)
rus_ready (ru.Suspended o) h = absurd (omega arith)
rus_ready (ru.Ready o) h = refl
rus_ready (ru.Held o f p) h = refl
rus_ready (ru.Filling s w) h = refl
rus_ready (ru.Closing s o full) h = refl
rus_ready (ru.Lacking s) h = refl

-- ---- the status word of its fields

pub status_joined : (events cus rus : ℕ) → events < 16 → cus < 8 → rus < 8
    → bit_or (bit_or (rus * 16 % 65536) (cus * 256 % 65536)) (events * 4096 % 65536) ≡ joined (joined (joined 0 4 rus) 8 cus) 12 events
unfolding joined
status_joined events cus rus a b c =
    let low : rus * 16 % 65536 ≡ joined 0 4 rus = omega arith in
    let mid : bit_or (joined 0 4 rus) (cus * 256 % 65536) ≡ joined (joined 0 4 rus) 8 cus = join_law (joined 0 4 rus) 8 cus (omega arith) (omega arith) in
    let high : bit_or (joined (joined 0 4 rus) 8 cus) (events * 4096 % 65536) ≡ joined (joined (joined 0 4 rus) 8 cus) 12 events =
    join_law (joined (joined 0 4 rus) 8 cus) 12 events (omega arith) (omega arith) in
    cc

-- ---- the units after reset, and the events of an initialisation

pub initial_bits : 10 ≡ event_bits initial_events
unfolding event_bits joined
initial_bits = refl

pub fresh_is : PackedIs fresh_units (record { status = 0; cu = 0; ru = 0; rest = 0 })
unfolding packed_of number_of cu_word ru_word ru_rest event_bits joined
fresh_is =
    record {
      same = refl;
      wide =
          record {
            scb_wide = omega arith;
            base_wide = omega arith;
            cu_wide = cu_idle_is.wide;
            ru_wide = ru_idle_is.wide;
            holding_wide = tt;
          };
    }

-- ---- the setup

pub setup_length : (s : Setup) (b : List ℕ) → SetIs s b → length b ≡ 16
unfolding setup_bytes
setup_length s b h =
    ap length h.bytes_are ∙ rw (length-append s.own (digits 8 s.filter), h.own_wide, length_digits 8 s.filter)

pub setup_fresh : (b : List ℕ) → b ≡ setup_bytes (setup_of fresh) → SetIs (setup_of fresh) b
setup_fresh b e = record { bytes_are = e; minimum_wide = omega arith; form_wide = omega arith; own_wide = refl; filter_wide = omega arith }
