-- CUC over the command unit's numbers: each case of a tag is a case of the unit. Assumes nothing.
use mathlib.Core.Path.{◌≡◌, refl, sym, ap, subst, ◌∙◌}
use mathlib.Core.Bool.{Bool, true, false, cond}
use mathlib.Core.List.{List, []}
use Prim.Native.Nat.{ℕ, ◌%◌, ◌<◌, ◌≤◌}
use native.Mathlib.Omega.{arith}
use lib.Dec.{eqb, ltb}
use Rattle.std.specs.Bool.{then_some}
use Rattle.memory.specs.Address.{offset_at}
use Rattle.memory.specs.Memory.{Write, apply}
use Rattle.memory.specs.declared.Offset.{Offset}
use Rattle.memory.specs.declared.RealAddress.{RealAddress}
use Rattle.scb.specs.Control.{Code, code_of, start, resume, suspend, abort, other, cu_next}
use Rattle.scb.specs.Words.{cbl_at, cuc, cu_number}
use Rattle.scb.specs.declared.CuState.{CuState}
use Rattle.scb.specs.declared.CuState.TheVariants as cus
use Rattle.device.specs.State.{cu_state}
use Rattle.device.specs.declared.Cu.{Cu}
use Rattle.device.specs.declared.Cu.TheVariants as cu
use Rattle.device.specs.declared.Units.{Units}
use Rattle.phases.specs.Fields.{offset_in}
use Rattle.phases.specs.Phases.{number_of, plain, cu_tag, cu_word}
use Rattle.packed.specs.Packed.{WordIs, CuIs, begun_pausing}
use Rattle.control.specs.Control.{cu_start, cu_suspend, cu_by, aborted_cu, cu_writes}
use Rattle.control.specs.Obey.{of_scb, obey_cuc}
use Rattle.code_control.specs.Obeys.{of_word, aborted, first_of, CuObeys}
use Rattle.packed.specs.declared.cu.Unit.{Unit}
use Rattle.code_control.proofs.Flags.{at_is, plain_wide, offset_of_lem, real_of_lem, from}

-- ---- the command unit: a law for each arm of the code

pub cu_number_past : (c : Cu) → 2 < cu_tag c → 2 ≡ cu_number (cu_state c)
cu_number_past cu.Idle h = absurd (omega arith)
cu_number_past (cu.Suspended o) h = absurd (omega arith)
cu_number_past (cu.Waiting o) h = refl
cu_number_past (cu.Acting b a) h = refl
cu_number_past (cu.Sending b w) h = refl
cu_number_past (cu.Ending b n) h = refl
cu_number_past (cu.Failing b) h = refl

pub cu_number_own : (c : Cu) → cu_tag c ≤ 2 → cu_tag c ≡ cu_number (cu_state c)
cu_number_own cu.Idle h = refl
cu_number_own (cu.Suspended o) h = refl
cu_number_own (cu.Waiting o) h = refl
cu_number_own (cu.Acting b a) h = absurd (omega arith)
cu_number_own (cu.Sending b w) h = absurd (omega arith)
cu_number_own (cu.Ending b n) h = absurd (omega arith)
cu_number_own (cu.Failing b) h = absurd (omega arith)

pub suspend_inactive : (c : Cu) → cu_tag c < 2 → cu_suspend c ≡ c
suspend_inactive cu.Idle h = refl
suspend_inactive (cu.Suspended o) h = refl
suspend_inactive (cu.Waiting o) h = absurd (omega arith)
suspend_inactive (cu.Acting b a) h = absurd (omega arith)
suspend_inactive (cu.Sending b w) h = absurd (omega arith)
suspend_inactive (cu.Ending b n) h = absurd (omega arith)
suspend_inactive (cu.Failing b) h = absurd (omega arith)

pub suspend_waiting : (c : Cu) (tag n : ℕ) → cu_tag c ≡ 2 → CuIs c tag n → CuIs (cu_suspend c) 1 n
unfolding cu_word
suspend_waiting cu.Idle tag n e h = absurd (omega arith)
suspend_waiting (cu.Suspended o) tag n e h = absurd (omega arith)
suspend_waiting (cu.Waiting o) tag n e h = record { tag_is = refl; word_is = h.word_is; wide = h.wide }
suspend_waiting (cu.Acting b a) tag n e h = absurd (omega arith)
suspend_waiting (cu.Sending b w) tag n e h = absurd (omega arith)
suspend_waiting (cu.Ending b k) tag n e h = absurd (omega arith)
suspend_waiting (cu.Failing b) tag n e h = absurd (omega arith)

pub suspend_begun : (c : Cu) (tag n paused : ℕ) → 2 < cu_tag c → CuIs c tag n → WordIs (begun_pausing (cu_word c)) paused → CuIs (cu_suspend c) tag paused
unfolding cu_word
suspend_begun cu.Idle tag n paused l h i = absurd (omega arith)
suspend_begun (cu.Suspended o) tag n paused l h i = absurd (omega arith)
suspend_begun (cu.Waiting o) tag n paused l h i = absurd (omega arith)
suspend_begun (cu.Acting b a) tag n paused l h i = record { tag_is = h.tag_is; word_is = i.number_is; wide = i.wide }
suspend_begun (cu.Sending b w) tag n paused l h i = record { tag_is = h.tag_is; word_is = i.number_is; wide = i.wide }
suspend_begun (cu.Ending b k) tag n paused l h i = record { tag_is = h.tag_is; word_is = i.number_is; wide = i.wide }
suspend_begun (cu.Failing b) tag n paused l h i = record { tag_is = h.tag_is; word_is = i.number_is; wide = i.wide }

waiting_is : (first : Offset) (n : ℕ) → WordIs (plain first.0) n → CuIs (cu.Waiting first) 2 n
unfolding cu_word
waiting_is first n i = record { tag_is = refl; word_is = i.number_is; wide = i.wide }

pub active_from : (first : Offset) (n : ℕ) (c : Cu) → WordIs (plain first.0) n → cu_tag c < 2 → CuIs (cu_start first c) 2 n
active_from first n cu.Idle i h = waiting_is first n i
active_from first n (cu.Suspended o) i h = waiting_is first n i
active_from first n (cu.Waiting o) i h = absurd (omega arith)
active_from first n (cu.Acting b a) i h = absurd (omega arith)
active_from first n (cu.Sending b k) i h = absurd (omega arith)
active_from first n (cu.Ending b k) i h = absurd (omega arith)
active_from first n (cu.Failing b) i h = absurd (omega arith)

pub active_stays : (first : Offset) (c : Cu) → 2 ≤ cu_tag c → cu_start first c ≡ c
active_stays first cu.Idle h = absurd (omega arith)
active_stays first (cu.Suspended o) h = absurd (omega arith)
active_stays first (cu.Waiting o) h = refl
active_stays first (cu.Acting b a) h = refl
active_stays first (cu.Sending b w) h = refl
active_stays first (cu.Ending b n) h = refl
active_stays first (cu.Failing b) h = refl

pub cu_idle_is : CuIs cu.Idle 0 0
unfolding number_of cu_word
cu_idle_is = record { tag_is = refl; word_is = refl; wide = plain_wide 0 (omega arith) }

-- the block where a unit is, which is the offset in its word; an Idle one is nowhere
abbrev at_of : Cu → Offset
at_of cu.Idle = record { 0 = 0 }
at_of (cu.Suspended o) = o
at_of (cu.Waiting o) = o
at_of (cu.Acting b a) = b.block
at_of (cu.Sending b w) = b.block
at_of (cu.Ending b n) = b.block
at_of (cu.Failing b) = b.block

cu_at_lem : (c : Cu) → (at_of c).0 ≡ (cu_word c).at
unfolding cu_word
cu_at_lem cu.Idle = refl
cu_at_lem (cu.Suspended o) = refl
cu_at_lem (cu.Waiting o) = refl
cu_at_lem (cu.Acting b a) = refl
cu_at_lem (cu.Sending b w) = refl
cu_at_lem (cu.Ending b n) = refl
cu_at_lem (cu.Failing b) = refl

pub word_at_lem : (c : Cu) (tag n : ℕ) → CuIs c tag n → of_word n ≡ at_of c
word_at_lem c tag n h = offset_of_lem (at_of c) (n % 65536) (rw h.word_is (at_is (cu_word c) h.wide) ∙ sym (cu_at_lem c))

pub aborts_cu : (base : RealAddress) (c : Cu) (tag n : ℕ) → CuIs c tag n → aborted base (then_some (ltb 2 tag) (of_word n)) 0x9000 ≡ aborted_cu base c
aborts_cu base c tag n h = rw (word_at_lem c tag n h, h.tag_is) (by c)
  where
    by : (x : Cu) → aborted base (then_some (ltb 2 (cu_tag x)) (at_of x)) 0x9000 ≡ aborted_cu base x
    by cu.Idle = refl
    by (cu.Suspended o) = refl
    by (cu.Waiting o) = refl
    by (cu.Acting b a) = refl
    by (cu.Sending b w) = refl
    by (cu.Ending b k) = refl
    by (cu.Failing b) = refl

-- the state of a number
pub to_idle : (s : CuState) → 0 ≡ cu_number s → s ≡ cus.Idle
to_idle cus.Idle e = refl
to_idle cus.Suspended e = absurd (omega arith)
to_idle cus.Active e = absurd (omega arith)

pub to_suspended : (s : CuState) → 1 ≡ cu_number s → s ≡ cus.Suspended
to_suspended cus.Idle e = absurd (omega arith)
to_suspended cus.Suspended e = refl
to_suspended cus.Active e = absurd (omega arith)

pub to_active : (s : CuState) → (cu_number s ≡ 0 → ⊥) → (cu_number s ≡ 1 → ⊥) → s ≡ cus.Active
to_active cus.Idle a b = absurd (a refl)
to_active cus.Suspended a b = absurd (b refl)
to_active cus.Active a b = refl

-- ---- the code goes by the state that the table leads to: to Idle with what an abort writes, to Suspended as SUSPEND does, to Active as START does,
-- from the CBL offset or from where the unit is

abbrev way : CuState → RealAddress → Offset → Cu → Cu × List Write
way cus.Idle base first c = (cu.Idle, aborted_cu base c)
way cus.Suspended base first c = (cu_suspend c, [])
way cus.Active base first c = (cu_start first c, [])

abbrev first_for : Code → (cbl : Offset) → Cu → Offset
first_for start cbl c = cbl
first_for resume cbl c = at_of c
first_for suspend cbl c = at_of c
first_for abort cbl c = at_of c
first_for other cbl c = at_of c

by_table : (code : Code) (base : RealAddress) (cbl : Offset) (c : Cu)
    → (cu_by code cbl c, cu_writes code base c) ≡ way (cu_next code (cu_state c)) base (first_for code cbl c) c
by_table start base cbl cu.Idle = refl
by_table start base cbl (cu.Suspended o) = refl
by_table start base cbl (cu.Waiting o) = refl
by_table start base cbl (cu.Acting b a) = refl
by_table start base cbl (cu.Sending b w) = refl
by_table start base cbl (cu.Ending b n) = refl
by_table start base cbl (cu.Failing b) = refl
by_table resume base cbl cu.Idle = refl
by_table resume base cbl (cu.Suspended o) = refl
by_table resume base cbl (cu.Waiting o) = refl
by_table resume base cbl (cu.Acting b a) = refl
by_table resume base cbl (cu.Sending b w) = refl
by_table resume base cbl (cu.Ending b n) = refl
by_table resume base cbl (cu.Failing b) = refl
by_table suspend base cbl cu.Idle = refl
by_table suspend base cbl (cu.Suspended o) = refl
by_table suspend base cbl (cu.Waiting o) = refl
by_table suspend base cbl (cu.Acting b a) = refl
by_table suspend base cbl (cu.Sending b w) = refl
by_table suspend base cbl (cu.Ending b n) = refl
by_table suspend base cbl (cu.Failing b) = refl
by_table abort base cbl cu.Idle = refl
by_table abort base cbl (cu.Suspended o) = refl
by_table abort base cbl (cu.Waiting o) = refl
by_table abort base cbl (cu.Acting b a) = refl
by_table abort base cbl (cu.Sending b w) = refl
by_table abort base cbl (cu.Ending b n) = refl
by_table abort base cbl (cu.Failing b) = refl
by_table other base cbl cu.Idle = refl
by_table other base cbl (cu.Suspended o) = refl
by_table other base cbl (cu.Waiting o) = refl
by_table other base cbl (cu.Acting b a) = refl
by_table other base cbl (cu.Sending b w) = refl
by_table other base cbl (cu.Ending b n) = refl
by_table other base cbl (cu.Failing b) = refl

first_for_lem : (i j k l : Bool) (cbl : Offset) (c : Cu)
    → first_for (cond i start (cond j resume (cond k suspend (cond l abort other)))) cbl c ≡ cond i cbl (at_of c)
first_for_lem true j k l cbl c = refl
first_for_lem false true k l cbl c = refl
first_for_lem false false true l cbl c = refl
first_for_lem false false false true cbl c = refl
first_for_lem false false false false cbl c = refl

-- ---- CUC obeyed, by the number of the next state

module _ (u : Units) (base : RealAddress) (command tag n : ℕ) (m : List ℕ) (b : base.0 ≡ u.base.0) (h : CuIs u.cu tag n) where
  abbrev code : Code
  code = code_of (cuc command)

  abbrev cbl : Offset
  cbl = offset_at m (of_scb u cbl_at)

  abbrev next : CuState
  next = cu_next code (cu_state u.cu)

  -- what CUC comes to, if the table leads to s
  obeys : (s : CuState) (r : Unit) (left : List ℕ) → next ≡ s → CuIs (way s u.base (first_for code cbl u.cu) u.cu).0 r.tag r.word
      → left ≡ apply (way s u.base (first_for code cbl u.cu) u.cu).1 m → CuObeys (obey_cuc u command m) m r left
  unfolding obey_cuc
  obeys s r left e f w =
      let t : (cu_by code cbl u.cu, cu_writes code u.base u.cu) ≡ way s u.base (first_for code cbl u.cu) u.cu =
      by_table code u.base cbl u.cu ∙ ap (λ (x : CuState). way x u.base (first_for code cbl u.cu) u.cu) e in
      record {
        unit = subst (λ (x : Cu × List Write). CuIs x.0 r.tag r.word) (sym t) f;
        memory = subst (λ (x : Cu × List Write). left ≡ apply x.1 m) (sym t) w;
      }

  pub cuc_idle : (left : List ℕ) (block : Offset) → block.0 ≡ offset_in n → 0 ≡ cu_number next
      → left ≡ apply (aborted base (then_some (ltb 2 tag) block) 0x9000) m
      → CuObeys (obey_cuc u command m) m (record { tag = 0; word = 0 }) left
  cuc_idle left block o e f =
      let w : aborted base (then_some (ltb 2 tag) block) 0x9000 ≡ aborted_cu u.base u.cu =
      rw (real_of_lem base u.base b, offset_of_lem (of_word n) block.0 o) (aborts_cu u.base u.cu tag n h) in
      obeys cus.Idle (record { tag = 0; word = 0 }) left (to_idle next e) cu_idle_is (f ∙ ap (λ (ws : List Write). apply ws m) w)

  pub cuc_suspended : (r : Unit) → 1 ≡ cu_number next → CuIs (cu_suspend u.cu) r.tag r.word → CuObeys (obey_cuc u command m) m r m
  cuc_suspended r e f = obeys cus.Suspended r m (to_suspended next e) f refl

  pub cuc_active : (r : Unit) (scb first : Offset) → scb.0 ≡ u.scb.0 → (cu_number next ≡ 0 → ⊥) → (cu_number next ≡ 1 → ⊥)
      → first.0 ≡ first_of base scb (eqb (cuc command) 1) 4 n m → CuIs (cu_start first u.cu) r.tag r.word
      → CuObeys (obey_cuc u command m) m r m
  unfolding code_of
  cuc_active r scb first s e0 e1 f i =
      let k = cuc command in
      let at = ap (λ (x : Offset). x.0) (word_at_lem u.cu tag n h) in
      let o : first ≡ first_for code cbl u.cu =
      offset_of_lem (cond (eqb k 1) cbl (at_of u.cu)) first.0 (f ∙ from u base scb m b s (eqb k 1) 4 n (at_of u.cu) at)
      ∙ sym (first_for_lem (eqb k 1) (eqb k 2) (eqb k 3) (eqb k 4) cbl u.cu) in
      obeys cus.Active r m (to_active next e0 e1) (subst (λ (x : Offset). CuIs (cu_start x u.cu) r.tag r.word) o i) refl
