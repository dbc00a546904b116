-- A begun command, the tests of the code on words, and a service by its tag. Assumes nothing.
use mathlib.Core.Path.{◌≡◌, refl, ◌∙◌}
use mathlib.Core.Bool.{Bool, true, false, not}
use mathlib.Core.List.{List, [], ◌∷◌, ◌++◌}
use mathlib.Core.Logic.{⊎_elim}
use Prim.Native.Nat.{ℕ, ◌+◌, ◌*◌, ◌/◌, ◌%◌, ◌≤◌, ◌<◌, ◌^◌}
use native.Mathlib.Omega.{arith}
use borrow.Author.Tests.{le-leb, lt-leb, ne_eqb}
use lib.Dec.{eqb, leb}
use Rattle.memory.specs.Address.{place}
use Rattle.memory.specs.Memory.{word_at, apply}
use Rattle.memory.specs.declared.Offset.{Offset}
use Rattle.memory.specs.declared.RealAddress.{RealAddress}
use Rattle.memory.proofs.Laws.{below_or_not, apply_append}
use Rattle.scb.specs.Words.{one, bits_at, bit, joined, event_bits}
use Rattle.device.specs.Numbers.{transmit}
use Rattle.device.specs.State.{cu_state, is_active}
use Rattle.device.specs.declared.Begun.{Begun}
use Rattle.device.specs.declared.Cu.{Cu}
use Rattle.device.specs.declared.Cu.TheVariants as cu
use Rattle.actions.specs.Setup.{Setup}
use Rattle.actions.specs.Actions.{Acted, not_sent}
use Rattle.actions.specs.Block.{block_command_at}
use Rattle.command.specs.Begin.{cmd, begun_by, to_begun, begin}
use Rattle.command.specs.End.{raised_by, status_to, end}
use Rattle.command.specs.Part.{Part}
use Rattle.command.specs.Service.{service_by, service}
use Rattle.phases.specs.Phases.{word_of, cu_tag, cu_word, cu_of, begun_of, begun_with}
use Rattle.phases.proofs.Units.{word_back}
use Rattle.packed.specs.Packed.{CuIs}
use Rattle.packed.proofs.Laws.{cu_of_lem}
use Rattle.code_actions.specs.Acts.{Acts}
use Rattle.code_actions.specs.declared.Done.{Done}
use Rattle.code_command.specs.declared.Commanded.{Commanded}
use Rattle.packed.specs.SetUp.{SetIs}
use Rattle.code_command.specs.Serves.{part_by, Serves}
use Rattle.code_command.specs.Inner.{quiet, acted_by, Ends}

-- ---- a begun command

-- bits 13 to 15 of a command word are its flags
pub begun_by_is : (block : Offset) (w : ℕ) → begun_with block (w / 2 ^ 13) ≡ begun_by block w
unfolding begun_by bits_at
begun_by_is block w =
    let a : w / 2 ^ 13 / 2 ≡ w / 2 ^ 14 = omega arith in
    let b : w / 2 ^ 13 / 2 ^ 2 ≡ w / 2 ^ 15 = omega arith in
    rw (a, b)

-- every number but a Transmit's is an action's
pub no_transmit : (k : ℕ) → (k ≡ 4 → ⊥) → not (eqb k 4) ≡ true
no_transmit k e = rw (ne_eqb k 4 e)

-- ---- tests on words

pub cmd_is : (w : ℕ) → bits_at w 0 3 ≡ w % 8
unfolding bits_at
cmd_is w = omega arith

pub count_is : (w : ℕ) → bits_at w 0 14 ≡ w % 2 ^ 14
unfolding bits_at
count_is w = omega arith

pub eof_is : (w : ℕ) → w < 65536 → leb 32768 w ≡ bit w 15
unfolding bits_at
eof_is w h =
    ⊎_elim (λ (l : w < 32768). let z : w / 32768 % 2 ≡ 0 = omega arith in rw (lt-leb 32768 w l, z))
    (λ (l : 32768 ≤ w). let z : w / 32768 % 2 ≡ 1 = omega arith in rw (le-leb 32768 w l, z))
    (below_or_not w 32768)

-- ---- the setup

-- a begin leaves it alone
begun_setup : (transmits : Bool) (p : Part) (b : Begun) (word : ℕ) (m : List ℕ) → (to_begun transmits p b word m).setup ≡ p.setup
begun_setup true p b word m = refl
begun_setup false p b word m = refl

pub begin_setup : (p : Part) (block : Offset) (m : List ℕ) → (begin p block m).part.setup ≡ p.setup
unfolding begin
begin_setup p block m =
    let word = word_at m (place p.base block block_command_at) in
    begun_setup (eqb (cmd word) transmit) p (begun_by block word) word m

-- ---- the events of an end

pub raised_is : (b : Begun) (cx : ℕ) → one b.interrupt ≡ cx → (next : Cu) (cna : ℕ) → cna ≡ 2 * one (not (is_active (cu_state next))) → cx * 8 + cna ≡ event_bits (raised_by b next)
unfolding event_bits joined
raised_is b cx e next cna f = rw (← e, f) (omega arith)

-- ---- a service by its tag

pub phased : (p : Part) (tag n : ℕ) (m : List ℕ) (report : ℕ) → CuIs p.unit tag n → service p m report ≡ service_by (cu_of tag (word_of n)) p m report
unfolding service
phased p tag n m report h = rw (cu_of_lem p.unit tag n h)

-- Idle and Suspended have no work
pub rests : (base : RealAddress) (c : Cu) (s : Setup) (out set m : List ℕ) (report tag n : ℕ) → CuIs c tag n → SetIs s set → tag < 2
    → Serves (service (part_by base c s out) m report) m (quiet tag n) m out set
unfolding service joined event_bits
rests base cu.Idle s out set m report tag n h g l = record { unit = h; raised = refl; length = refl; memory = refl; outgoing = refl; setup = g }
rests base (cu.Suspended o) s out set m report tag n h g l = record { unit = h; raised = refl; length = refl; memory = refl; outgoing = refl; setup = g }
rests base (cu.Waiting o) s out set m report tag n h g l = absurd (omega (arith, h.tag_is))
rests base (cu.Acting b a) s out set m report tag n h g l = absurd (omega (arith, h.tag_is))
rests base (cu.Sending b w) s out set m report tag n h g l = absurd (omega (arith, h.tag_is))
rests base (cu.Ending b k) s out set m report tag n h g l = absurd (omega (arith, h.tag_is))
rests base (cu.Failing b) s out set m report tag n h g l = absurd (omega (arith, h.tag_is))

-- a phase that is no Acting and no Ending has the action of a failed Transmit
pub acted_rest : (c : Cu) (tag : ℕ) → tag ≡ cu_tag c → (tag ≡ 3 → ⊥) → (tag ≡ 5 → ⊥)
    → (base : RealAddress) (s : Setup) (m : List ℕ) (report : ℕ) → acted_by c base s m report ≡ not_sent s
acted_rest cu.Idle tag e x y base s m report = refl
acted_rest (cu.Suspended o) tag e x y base s m report = refl
acted_rest (cu.Waiting o) tag e x y base s m report = refl
acted_rest (cu.Acting b a) tag e x y base s m report = absurd (x e)
acted_rest (cu.Sending b w) tag e x y base s m report = refl
acted_rest (cu.Ending b n) tag e x y base s m report = absurd (y e)
acted_rest (cu.Failing b) tag e x y base s m report = refl

-- a phase that has no other work is ended
ends_by : (c : Cu) (tag n : ℕ) → CuIs c tag n → (tag ≡ 0 → ⊥) → (tag ≡ 1 → ⊥) → (tag ≡ 2 → ⊥) → (tag ≡ 4 → ⊥)
    → (p : Part) (m : List ℕ) (report : ℕ) → service_by c p m report ≡ end p (begun_of (cu_word c)) (acted_by c p.base p.setup m report) m
unfolding cu_word
ends_by cu.Idle tag n h x y z w p m report = absurd (x h.tag_is)
ends_by (cu.Suspended o) tag n h x y z w p m report = absurd (y h.tag_is)
ends_by (cu.Waiting o) tag n h x y z w p m report = absurd (z h.tag_is)
ends_by (cu.Acting b a) tag n h x y z w p m report = refl
ends_by (cu.Sending b k) tag n h x y z w p m report = absurd (w h.tag_is)
ends_by (cu.Ending b k) tag n h x y z w p m report = refl
ends_by (cu.Failing b) tag n h x y z w p m report = refl

pub ends_rest : (p : Part) (tag n : ℕ) → CuIs p.unit tag n → (tag ≡ 0 → ⊥) → (tag ≡ 1 → ⊥) → (tag ≡ 2 → ⊥) → (tag ≡ 4 → ⊥)
    → (m : List ℕ) (report : ℕ) → service p m report ≡ end p (begun_of (word_of n)) (acted_by p.unit p.base p.setup m report) m
unfolding service
ends_rest p tag n h x y z w m report =
    let e : word_of n ≡ cu_word p.unit = rw h.word_is (word_back (cu_word p.unit) h.wide) in
    rw e (ends_by p.unit tag n h x y z w p m report)

-- an action and the end after it are the end of a command
pub ended : (p : Part) (a : Acted) (v : Begun) (before : List ℕ) (done : Done) (m set : List ℕ) (r : Commanded) (after : List ℕ)
    → Acts a before done m set → Ends p.base done v m r after → Serves (end p v a before) before r after p.outgoing set
unfolding end
ended p a v before done m set r after x y =
    let results = a.writes ++ (status_to p.base v a.status ∷ []) in
    let w : after ≡ apply results before = rw apply_append (rw (x.told.status, x.memory) at y.memory) in
    record {
      unit = rw w at y.left.unit;
      raised = rw w at y.left.raised;
      length = y.left.sent ∙ x.told.length;
      memory = w;
      outgoing = refl;
      setup = x.setup;
    }
