-- A command that is noted as done is complete: its status has C, and stands in its block as long as nothing writes there. Assumes nothing.
use mathlib.Core.Path.{◌≡◌, refl, sym, ap, ◌∙◌}
use mathlib.Core.Bool.{Bool, true, false, cond}
use mathlib.Core.List.{List, [], ◌∷◌, ◌++◌, append_assoc}
use Prim.Native.Nat.{ℕ, ◌+◌, ◌/◌, ◌%◌, ◌≤◌, ◌<◌}
use native.Mathlib.Nat.{mod-eq_of_lt}
use native.Mathlib.Omega.{arith}
use borrow.Author.Tests.{eq-eqb}
use lib.ListN.{length}
use Rattle.memory.specs.Memory.{word_at, Write, word_to, apply}
use Rattle.memory.specs.Address.{place}
use Rattle.memory.specs.declared.Offset.{Offset}
use Rattle.memory.specs.declared.RealAddress.{RealAddress}
use Rattle.memory.proofs.Laws.{length_apply, apply_append}
use Rattle.memory.proofs.Fields.{word_same}
use Rattle.scb.specs.Words.{bits_at, bit}
use Rattle.scb.proofs.Fields.{bits_below}
use Rattle.device.specs.declared.Action.{Action}
use Rattle.device.specs.declared.Action.TheVariants as action
use Rattle.device.specs.declared.Begun.{Begun}
use Rattle.device.specs.declared.Cu.{Cu}
use Rattle.device.specs.declared.Cu.TheVariants as cu
use Rattle.actions.specs.Actions.{Acted, done, failed, acceptable, byte_of, act, reported, is_sent, sent, not_sent}
use Rattle.actions.specs.Block.{block_status_at}
use Rattle.actions.specs.Setup.{Setup}
use Rattle.command.specs.End.{end}
use Rattle.command.specs.Part.{Part}
use Rattle.command.specs.Service.{service_by, service}
use Rattle.progress.specs.Same.{Same}
use Rattle.progress.proofs.Same.{in_left, in_right, same_part, same_field}
use Rattle.lists.specs.Uses.{block, from}
use Rattle.lists.specs.Unit.{Note, began, ended, finished, note_by}
use Rattle.lists.specs.Done.{AllComplete}
use Rattle.lists.proofs.Stands.{status_bytes}

-- ---- every status that an action comes to is a word with C

abbrev HasC : ℕ → Type 0
HasC status = (0x8000 ≤ status) × (status < 65536)

c_set : (status : ℕ) → HasC status → bit status 15 ≡ true
unfolding bits_at
c_set status h = eq-eqb (status / 32768 % 2) 1 (omega (arith, h.0, h.1))

-- A000h or 8000h, with bits below OK added
with_bits : (b : Bool) (n : ℕ) → n < 0x2000 → HasC (cond b done failed + n)
with_bits true n h = (omega arith, omega (arith, h))
with_bits false n h = (omega arith, omega (arith, h))

plain : (b : Bool) → HasC (cond b done failed)
plain b = let h = with_bits b 0 (omega arith) in (omega (arith, h.0), omega (arith, h.1))

act_c : (a : Action) (base : RealAddress) (s : Setup) (o : Offset) (m : List ℕ) → HasC (act a base s o m).status
unfolding act
act_c action.Nop base s o m = (omega arith, omega arith)
act_c action.IaSetup base s o m = (omega arith, omega arith)
act_c action.Configure base s o m = plain (acceptable (byte_of base o m 3))
act_c action.McSetup base s o m = (omega arith, omega arith)
act_c action.Tdr base s o m = (omega arith, omega arith)
act_c action.Dump base s o m = (omega arith, omega arith)
act_c action.Diagnose base s o m = (omega arith, omega arith)

-- whatever the report
reported_below : (report : ℕ) → reported report < 0x2000
unfolding reported
reported_below report = omega (arith, bits_below report 9 2, bits_below report 5 3, bits_below report 0 4)

sent_c : (s : Setup) (filled report : ℕ) → HasC (sent s filled report).status
unfolding sent
sent_c s filled report = with_bits (is_sent report) (reported report) (reported_below report)

-- ---- one service

-- the status is the last that an end writes
last_word_lem : (ws : List Write) (a status : ℕ) (q : List ℕ) → status < 65536 → 2 ≤ length q
    → word_at (apply (ws ++ (word_to a status ∷ [])) q) a ≡ status
last_word_lem ws a status q h big =
    let l : length (apply ws q) ≡ length q = length_apply ws q in
    rw (apply_append ws (word_to a status ∷ []) q) (word_same (apply ws q) a status (rw l big) ∙ mod-eq_of_lt h)

end_complete : (p : Part) (b : Begun) (a : Acted) (q : List ℕ) → HasC a.status → 2 ≤ length q
    → AllComplete p.base (apply (end p b a q).writes q) (finished p b a q ∷ [])
unfolding end
end_complete p b a q h big =
    (c_set a.status h, last_word_lem a.writes (place p.base b.block block_status_at) a.status q h.1 big, tt)

by_unit : (unit : Cu) (p : Part) (q : List ℕ) (r : ℕ) → 2 ≤ length q
    → AllComplete p.base (apply (service_by unit p q r).writes q) (note_by unit p q r)
by_unit cu.Idle p q r big = tt
by_unit (cu.Suspended o) p q r big = tt
by_unit (cu.Waiting o) p q r big = tt
by_unit (cu.Acting b a) p q r big =
    end_complete p b (act a p.base p.setup b.block q) q (act_c a p.base p.setup b.block q) big
by_unit (cu.Sending b w) p q r big = tt
by_unit (cu.Ending b n) p q r big = end_complete p b (sent p.setup n r) q (sent_c p.setup n r) big
by_unit (cu.Failing b) p q r big = end_complete p b (not_sent p.setup) q (omega arith, omega arith) big

pub service_complete : (p : Part) (q : List ℕ) (r : ℕ) → 2 ≤ length q
    → AllComplete p.base (apply (service p q r).writes q) (note_by p.unit p q r)
unfolding service
service_complete p q r big = by_unit p.unit p q r big

-- ---- notes one after the other, and a memory with the same status words

pub complete_append : (base : RealAddress) (m : List ℕ) (ns os : List Note) → AllComplete base m ns → AllComplete base m os → AllComplete base m (ns ++ os)
complete_append base m [] os f g = g
complete_append base m (began c ∷ ns) os f g = complete_append base m ns os f g
complete_append base m (ended c status frames raised ∷ ns) os f g = (f.0, f.1, complete_append base m ns os f.2 g)

pub status_append : (base : RealAddress) (ns os : List Note) → status_bytes base (ns ++ os) ≡ status_bytes base ns ++ status_bytes base os
status_append base [] os = refl
status_append base (began c ∷ ns) os = status_append base ns os
status_append base (ended c status frames raised ∷ ns) os =
    ap (λ (F : List ℕ). from base c block_status_at 2 ++ F) (status_append base ns os) ∙ sym (append_assoc (from base c block_status_at 2) _ _)

pub complete_same : (base : RealAddress) (m q : List ℕ) (ns : List Note) → Same (status_bytes base ns) m q → AllComplete base q ns → AllComplete base m ns
complete_same base m q [] h f = tt
complete_same base m q (began c ∷ ns) h f = complete_same base m q ns h f
complete_same base m q (ended c status frames raised ∷ ns) h f = (
  f.0,
  same_field 2 (place base (block c) block_status_at) (λ a i. in_left (status_bytes base ns) i) h ∙ f.1,
  complete_same base m q ns (same_part (λ a i. in_right (from base c block_status_at 2) i) h) f.2,
)
