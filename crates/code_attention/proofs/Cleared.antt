-- Acknowledged events, as numbers: what a command clears, and what is left, are together what stood. Assumes nothing.
use mathlib.Core.Path.{◌≡◌}
use mathlib.Core.Bool.{Bool, not, ◌&&◌}
use Prim.Native.Nat.{ℕ, ◌+◌, ◌*◌, ◌/◌, ◌%◌, ◌<◌}
use native.Mathlib.Omega.{arith}
use lib.Bits.{bit_and}
use lib.Dec.{T, eqb, eqb→eq}
use Rattle.scb.specs.Words.{bits_at, joined, event_bits, acknowledged}
use Rattle.scb.specs.declared.Events.{Events}
use Rattle.scb.proofs.Below.{all, below}
use Rattle.packed.proofs.Laws.{events_at, events_at_lem, events_below}

less : Events → Events → Events
less e by =
    record { cx = e.cx && not by.cx; fr = e.fr && not by.fr; cna = e.cna && not by.cna; rnr = e.rnr && not by.rnr }

-- every pair of them, computed
clears : ℕ → Bool
clears k = eqb (bit_and (k / 16) (k % 16) + event_bits (less (events_at (k / 16)) (events_at (k % 16)))) (k / 16)

all_clear : T (all clears 256)
unfolding clears less events_at event_bits joined
all_clear = tt

clear_pair : (a b : ℕ) → a < 16 → b < 16 → bit_and a b + event_bits (less (events_at a) (events_at b)) ≡ a
unfolding clears
clear_pair a b g h =
    let k = 16 * a + b in
    let q : k / 16 ≡ a = omega arith in
    let r : k % 16 ≡ b = omega arith in
    let t : bit_and (k / 16) (k % 16) + event_bits (less (events_at (k / 16)) (events_at (k % 16))) ≡ k / 16 =
    eqb→eq _ _ (below clears 256 all_clear k (omega arith)) in
    cc

-- bits 15-12 of a command, as the number of the events that they acknowledge

acknowledged_by : (e : Events) (command : ℕ) → acknowledged e command ≡ less e (events_at (command / 4096))
unfolding acknowledged less events_at bits_at
acknowledged_by e command =
    let a : command / 4096 / 8 ≡ command / 32768 = omega arith in
    let b : command / 4096 / 4 ≡ command / 16384 = omega arith in
    let c : command / 4096 / 2 ≡ command / 8192 = omega arith in
    rw (a, b, c)

pub cleared : (e : Events) (command : ℕ) → command < 65536 → bit_and (event_bits e) (command / 4096) + event_bits (acknowledged e command) ≡ event_bits e
cleared e command h =
    let t : bit_and (event_bits e) (command / 4096) + event_bits (less (events_at (event_bits e)) (events_at (command / 4096))) ≡ event_bits e =
    clear_pair (event_bits e) (command / 4096) (events_below e) (omega arith) in
    let b : events_at (event_bits e) ≡ e = events_at_lem e.cx e.fr e.cna e.rnr in
    rw (acknowledged_by e command) (rw b at t)
