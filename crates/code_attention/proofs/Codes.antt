-- The control codes of a command over numbers: codes of 0, what the units left, and both codes one behind the other. Assumes nothing.
use mathlib.Core.Path.{◌≡◌, refl, sym, ap, subst, ◌∙◌}
use mathlib.Core.Bool.{Bool, true, false, not, ◌&&◌}
use mathlib.Core.List.{List, []}
use Prim.Native.Nat.{ℕ, ◌+◌, ◌*◌, ◌/◌, ◌%◌, ◌<◌, ◌≤◌}
use native.Mathlib.Omega.{arith}
use lib.Bits.{bit_and, and_mask, and_shr, and_mod}
use Rattle.memory.specs.Memory.{apply}
use Rattle.memory.proofs.Laws.{apply_append}
use Rattle.scb.specs.Control.{code_of}
use Rattle.scb.specs.Words.{one, bits_at, joined, event_bits, acknowledged, cuc, ruc}
use Rattle.scb.proofs.Raising.{raise_none}
use Rattle.device.specs.Change.{with_events}
use Rattle.device.specs.State.{cu_state, ru_state, is_active, is_ready}
use Rattle.device.specs.declared.Cu.{Cu}
use Rattle.device.specs.declared.Cu.TheVariants as cu
use Rattle.device.specs.declared.Ru.{Ru}
use Rattle.device.specs.declared.Ru.TheVariants as ru
use Rattle.device.specs.declared.Units.{Units}
use Rattle.phases.specs.Phases.{cu_tag, ru_tag}
use Rattle.packed.specs.Packed.{CuUnitIs, RuUnitIs, PackedIs, both_with}
use Rattle.packed.specs.declared.Packed.{Packed}
use Rattle.control.specs.Obey.{obey_cuc, obey_ruc}
use Rattle.attention.specs.Attention.{leaving}
use Rattle.code_control.specs.Obeys.{CuObeys, RuObeys}
use Rattle.packed.specs.declared.cu.Unit as command_unit
use Rattle.packed.specs.declared.ru.Unit as receive_unit
use Rattle.code_attention.specs.Attends.{left_active, left_ready, codes, Obeys}

-- ---- codes of 0

pub no_cuc : (command : ℕ) → bit_and command 0x0770 ≡ 0 → cuc command ≡ 0
unfolding bits_at
no_cuc command e =
    let a : bit_and (command / 256) 7 ≡ 0 = sym (and_shr command 0x0770 8) ∙ ap (λ (n : ℕ). n / 256) e in
    sym (and_mask (command / 256) 3) ∙ a

pub no_ruc : (command : ℕ) → bit_and command 0x0770 ≡ 0 → ruc command ≡ 0
unfolding bits_at
no_ruc command e =
    let a : bit_and (command / 16) 0x77 ≡ 0 = sym (and_shr command 0x0770 4) ∙ ap (λ (n : ℕ). n / 16) e in
    let b : bit_and (command / 16 % 8) 7 ≡ 0 = sym (and_mod (command / 16) 0x77 3) ∙ ap (λ (n : ℕ). n % 8) a in
    let c : command / 16 % 8 % 8 ≡ 0 = sym (and_mask (command / 16 % 8) 3) ∙ b in
    omega (arith, c)

not_left : (b : Bool) → (b && not b) ≡ false
not_left true = refl
not_left false = refl

cu_none : (u : Units) (command : ℕ) (m : List ℕ) → cuc command ≡ 0 → obey_cuc u command m ≡ record { unit = u.cu; writes = []; left = false }
unfolding obey_cuc code_of
cu_none u command m e = rw (e, not_left (is_active (cu_state u.cu)))

ru_none : (u : Units) (command : ℕ) (m : List ℕ) → ruc command ≡ 0 → obey_ruc u command m ≡ record { unit = u.ru; writes = []; left = false }
unfolding obey_ruc code_of
ru_none u command m e = rw (e, not_left (is_ready (ru_state u.ru)))

-- a command with both codes 0 acknowledges, and nothing else
pub codes_none : (u : Units) (command : ℕ) (m : List ℕ) → bit_and command 0x0770 ≡ 0
    → codes u command m ≡ record { units = with_events u (acknowledged u.events command); writes = [] }
unfolding codes
codes_none u command m e =
    rw (cu_none u command m (no_cuc command e), ru_none u command m (no_ruc command e), raise_none (acknowledged u.events command))

-- ---- what the units left

pub leaving_bits : (c r : Bool) → event_bits (leaving c r) ≡ 2 * one c + one r
unfolding event_bits joined
leaving_bits c r = omega arith

pub active_not : (c : Cu) → cu_tag c < 2 → is_active (cu_state c) ≡ false
active_not cu.Idle h = refl
active_not (cu.Suspended o) h = refl
active_not (cu.Waiting o) h = absurd (omega arith)
active_not (cu.Acting b a) h = absurd (omega arith)
active_not (cu.Sending b w) h = absurd (omega arith)
active_not (cu.Ending b n) h = absurd (omega arith)
active_not (cu.Failing b) h = absurd (omega arith)

pub active_is : (c : Cu) → 2 ≤ cu_tag c → is_active (cu_state c) ≡ true
active_is cu.Idle h = absurd (omega arith)
active_is (cu.Suspended o) h = absurd (omega arith)
active_is (cu.Waiting o) h = refl
active_is (cu.Acting b a) h = refl
active_is (cu.Sending b w) h = refl
active_is (cu.Ending b n) h = refl
active_is (cu.Failing b) h = refl

pub ready_not : (v : Ru) → ru_tag v < 3 → is_ready (ru_state v) ≡ false
ready_not ru.Idle h = refl
ready_not ru.NoResources h = refl
ready_not (ru.Suspended o) h = refl
ready_not (ru.Ready o) h = absurd (omega arith)
ready_not (ru.Held o f p) h = absurd (omega arith)
ready_not (ru.Filling s w) h = absurd (omega arith)
ready_not (ru.Closing s o full) h = absurd (omega arith)
ready_not (ru.Lacking s) h = absurd (omega arith)

pub ready_is : (v : Ru) → 3 ≤ ru_tag v → is_ready (ru_state v) ≡ true
ready_is ru.Idle h = absurd (omega arith)
ready_is ru.NoResources h = absurd (omega arith)
ready_is (ru.Suspended o) h = absurd (omega arith)
ready_is (ru.Ready o) h = refl
ready_is (ru.Held o f p) h = refl
ready_is (ru.Filling s w) h = refl
ready_is (ru.Closing s o full) h = refl
ready_is (ru.Lacking s) h = refl

-- ---- both codes obeyed, one behind the other

pub codes_are : (u : Units) (command : ℕ) (m m1 m2 : List ℕ) (c : command_unit.Unit) (r : receive_unit.Unit) (x : Packed)
    → CuObeys (obey_cuc u command m) m c m1 → RuObeys (obey_ruc u command m1) m1 r m2
    → ((a : Cu) (v : Ru) → CuUnitIs a c → RuUnitIs v r
    → PackedIs (both_with (with_events u (acknowledged u.events command)) a v (leaving (left_active u.cu a) (left_ready u.ru v))) x)
    → Obeys (codes u command m) m x m2
unfolding codes obey_cuc obey_ruc
codes_are u command m m1 m2 c r x oc or f =
    let after = apply (obey_cuc u command m).writes m in
    let o : RuObeys (obey_ruc u command after) after r m2 = subst (λ (z : List ℕ). RuObeys (obey_ruc u command z) z r m2) oc.memory or in
    record {
      packed = f (obey_cuc u command m).unit (obey_ruc u command after).unit oc.unit o.unit;
      memory = o.memory ∙ sym (apply_append (obey_cuc u command m).writes (obey_ruc u command after).writes m);
    }
