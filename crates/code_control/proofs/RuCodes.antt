-- RUC over the receive unit's numbers: each case of a tag is a case of the unit. Assumes nothing.
use mathlib.Core.Path.{◌≡◌, refl, sym, ap, subst, ◌∙◌}
use mathlib.Core.Bool.{Bool, true, false, cond}
use mathlib.Core.List.{List, []}
use Prim.Native.Nat.{ℕ, ◌%◌, ◌<◌, ◌≤◌}
use native.Mathlib.Omega.{arith}
use lib.Dec.{eqb, ltb}
use Rattle.std.specs.Bool.{then_some}
use Rattle.memory.specs.Address.{offset_at}
use Rattle.memory.specs.Memory.{Write, apply}
use Rattle.memory.specs.declared.Offset.{Offset}
use Rattle.memory.specs.declared.RealAddress.{RealAddress}
use Rattle.scb.specs.Control.{Code, code_of, start, resume, suspend, abort, other, ru_next}
use Rattle.scb.specs.Words.{rfa_at, ruc}
use Rattle.scb.specs.Numbers.{ru_column}
use Rattle.scb.specs.declared.RuState.{RuState}
use Rattle.scb.specs.declared.RuState.TheVariants as rus
use Rattle.device.specs.State.{ru_state}
use Rattle.device.specs.declared.Ru.{Ru}
use Rattle.device.specs.declared.Ru.TheVariants as ru
use Rattle.device.specs.declared.Units.{Units}
use Rattle.phases.specs.Fields.{offset_in}
use Rattle.phases.specs.Phases.{number_of, plain, ru_tag, ru_word, ru_rest}
use Rattle.packed.specs.Packed.{WordIs, RuIs, held_pausing}
use Rattle.control.specs.Control.{ru_start, ru_suspend, ru_by, aborted_ru, ru_writes}
use Rattle.control.specs.Obey.{of_scb, obey_ruc}
use Rattle.code_control.specs.Obeys.{of_word, aborted, first_of, RuObeys}
use Rattle.packed.specs.declared.ru.Unit.{Unit}
use Rattle.code_control.proofs.Flags.{at_is, plain_wide, offset_of_lem, real_of_lem, from}

-- ---- the receive unit

pub ru_column_past : (v : Ru) → 3 < ru_tag v → 3 ≡ ru_column (ru_state v)
ru_column_past ru.Idle h = absurd (omega arith)
ru_column_past ru.NoResources h = absurd (omega arith)
ru_column_past (ru.Suspended o) h = absurd (omega arith)
ru_column_past (ru.Ready o) h = refl
ru_column_past (ru.Held o f p) h = refl
ru_column_past (ru.Filling s w) h = refl
ru_column_past (ru.Closing s o full) h = refl
ru_column_past (ru.Lacking s) h = refl

pub ru_column_own : (v : Ru) → ru_tag v ≤ 3 → ru_tag v ≡ ru_column (ru_state v)
ru_column_own ru.Idle h = refl
ru_column_own ru.NoResources h = refl
ru_column_own (ru.Suspended o) h = refl
ru_column_own (ru.Ready o) h = refl
ru_column_own (ru.Held o f p) h = absurd (omega arith)
ru_column_own (ru.Filling s w) h = absurd (omega arith)
ru_column_own (ru.Closing s o full) h = absurd (omega arith)
ru_column_own (ru.Lacking s) h = absurd (omega arith)

pub suspend_unready : (v : Ru) → ru_tag v < 3 → ru_suspend v ≡ v
suspend_unready ru.Idle h = refl
suspend_unready ru.NoResources h = refl
suspend_unready (ru.Suspended o) h = refl
suspend_unready (ru.Ready o) h = absurd (omega arith)
suspend_unready (ru.Held o f p) h = absurd (omega arith)
suspend_unready (ru.Filling s w) h = absurd (omega arith)
suspend_unready (ru.Closing s o full) h = absurd (omega arith)
suspend_unready (ru.Lacking s) h = absurd (omega arith)

pub suspend_ready_lem : (v : Ru) (tag n rest : ℕ) → ru_tag v ≡ 3 → RuIs v tag n rest → RuIs (ru_suspend v) 1 n rest
unfolding ru_word ru_rest
suspend_ready_lem ru.Idle tag n rest e h = absurd (omega arith)
suspend_ready_lem ru.NoResources tag n rest e h = absurd (omega arith)
suspend_ready_lem (ru.Suspended o) tag n rest e h = absurd (omega arith)
suspend_ready_lem (ru.Ready o) tag n rest e h = record { tag_is = refl; word_is = h.word_is; rest_is = h.rest_is; wide = h.wide; holding = tt }
suspend_ready_lem (ru.Held o f p) tag n rest e h = absurd (omega arith)
suspend_ready_lem (ru.Filling s w) tag n rest e h = absurd (omega arith)
suspend_ready_lem (ru.Closing s o full) tag n rest e h = absurd (omega arith)
suspend_ready_lem (ru.Lacking s) tag n rest e h = absurd (omega arith)

pub suspend_held_lem : (v : Ru) (tag n paused rest : ℕ) → 3 < ru_tag v → RuIs v tag n rest → WordIs (held_pausing (ru_word v)) paused
    → RuIs (ru_suspend v) tag paused rest
unfolding ru_word ru_rest
suspend_held_lem ru.Idle tag n paused rest l h i = absurd (omega arith)
suspend_held_lem ru.NoResources tag n paused rest l h i = absurd (omega arith)
suspend_held_lem (ru.Suspended o) tag n paused rest l h i = absurd (omega arith)
suspend_held_lem (ru.Ready o) tag n paused rest l h i = absurd (omega arith)
suspend_held_lem (ru.Held o f p) tag n paused rest l h i = record { tag_is = h.tag_is; word_is = i.number_is; rest_is = h.rest_is; wide = i.wide; holding = h.holding }
suspend_held_lem (ru.Filling s w) tag n paused rest l h i = record { tag_is = h.tag_is; word_is = i.number_is; rest_is = h.rest_is; wide = i.wide; holding = h.holding }
suspend_held_lem (ru.Closing s o full) tag n paused rest l h i = record { tag_is = h.tag_is; word_is = i.number_is; rest_is = h.rest_is; wide = i.wide; holding = h.holding }
suspend_held_lem (ru.Lacking s) tag n paused rest l h i = record { tag_is = h.tag_is; word_is = i.number_is; rest_is = h.rest_is; wide = i.wide; holding = h.holding }

ready_is : (first : Offset) (n : ℕ) → WordIs (plain first.0) n → RuIs (ru.Ready first) 3 n 0
unfolding ru_word ru_rest
ready_is first n i = record { tag_is = refl; word_is = i.number_is; rest_is = refl; wide = i.wide; holding = tt }

pub ready_from : (first : Offset) (n : ℕ) (v : Ru) → WordIs (plain first.0) n → ru_tag v < 3 → RuIs (ru_start first v) 3 n 0
ready_from first n ru.Idle i h = ready_is first n i
ready_from first n ru.NoResources i h = ready_is first n i
ready_from first n (ru.Suspended o) i h = ready_is first n i
ready_from first n (ru.Ready o) i h = absurd (omega arith)
ready_from first n (ru.Held o f p) i h = absurd (omega arith)
ready_from first n (ru.Filling s k) i h = absurd (omega arith)
ready_from first n (ru.Closing s o full) i h = absurd (omega arith)
ready_from first n (ru.Lacking s) i h = absurd (omega arith)

pub ready_stays : (first : Offset) (v : Ru) → 3 ≤ ru_tag v → ru_start first v ≡ v
ready_stays first ru.Idle h = absurd (omega arith)
ready_stays first ru.NoResources h = absurd (omega arith)
ready_stays first (ru.Suspended o) h = absurd (omega arith)
ready_stays first (ru.Ready o) h = refl
ready_stays first (ru.Held o f p) h = refl
ready_stays first (ru.Filling s w) h = refl
ready_stays first (ru.Closing s o full) h = refl
ready_stays first (ru.Lacking s) h = refl

pub ru_idle_is : RuIs ru.Idle 0 0 0
unfolding number_of ru_word ru_rest
ru_idle_is = record { tag_is = refl; word_is = refl; rest_is = refl; wide = plain_wide 0 (omega arith); holding = tt }

-- the frame descriptor where a unit is, which is the offset in its word; one that is Idle or has No Resources is nowhere
abbrev at_of : Ru → Offset
at_of ru.Idle = record { 0 = 0 }
at_of ru.NoResources = record { 0 = 0 }
at_of (ru.Suspended o) = o
at_of (ru.Ready o) = o
at_of (ru.Held o f p) = o
at_of (ru.Filling s w) = s.fd
at_of (ru.Closing s o full) = s.fd
at_of (ru.Lacking s) = s.fd

ru_at_lem : (v : Ru) → (at_of v).0 ≡ (ru_word v).at
unfolding ru_word
ru_at_lem ru.Idle = refl
ru_at_lem ru.NoResources = refl
ru_at_lem (ru.Suspended o) = refl
ru_at_lem (ru.Ready o) = refl
ru_at_lem (ru.Held o f p) = refl
ru_at_lem (ru.Filling s w) = refl
ru_at_lem (ru.Closing s o full) = refl
ru_at_lem (ru.Lacking s) = refl

pub word_at_lem : (v : Ru) (tag n rest : ℕ) → RuIs v tag n rest → of_word n ≡ at_of v
word_at_lem v tag n rest h = offset_of_lem (at_of v) (n % 65536) (rw h.word_is (at_is (ru_word v) h.wide) ∙ sym (ru_at_lem v))

pub aborts_ru : (base : RealAddress) (v : Ru) (tag n rest : ℕ) → RuIs v tag n rest → aborted base (then_some (ltb 4 tag) (of_word n)) 0 ≡ aborted_ru base v
aborts_ru base v tag n rest h = rw (word_at_lem v tag n rest h, h.tag_is) (by v)
  where
    by : (x : Ru) → aborted base (then_some (ltb 4 (ru_tag x)) (at_of x)) 0 ≡ aborted_ru base x
    by ru.Idle = refl
    by ru.NoResources = refl
    by (ru.Suspended o) = refl
    by (ru.Ready o) = refl
    by (ru.Held o f p) = refl
    by (ru.Filling s w) = refl
    by (ru.Closing s o full) = refl
    by (ru.Lacking s) = refl

-- the state of a column
pub ru_to_idle : (s : RuState) → 0 ≡ ru_column s → s ≡ rus.Idle
ru_to_idle rus.Idle e = refl
ru_to_idle rus.Suspended e = absurd (omega arith)
ru_to_idle rus.NoResources e = absurd (omega arith)
ru_to_idle rus.Ready e = absurd (omega arith)

pub ru_to_suspended : (s : RuState) → 1 ≡ ru_column s → s ≡ rus.Suspended
ru_to_suspended rus.Idle e = absurd (omega arith)
ru_to_suspended rus.Suspended e = refl
ru_to_suspended rus.NoResources e = absurd (omega arith)
ru_to_suspended rus.Ready e = absurd (omega arith)

pub ru_to_none : (s : RuState) → 2 ≡ ru_column s → s ≡ rus.NoResources
ru_to_none rus.Idle e = absurd (omega arith)
ru_to_none rus.Suspended e = absurd (omega arith)
ru_to_none rus.NoResources e = refl
ru_to_none rus.Ready e = absurd (omega arith)

pub ru_to_ready : (s : RuState) → (ru_column s ≡ 0 → ⊥) → (ru_column s ≡ 1 → ⊥) → (ru_column s ≡ 2 → ⊥) → s ≡ rus.Ready
ru_to_ready rus.Idle a b c = absurd (a refl)
ru_to_ready rus.Suspended a b c = absurd (b refl)
ru_to_ready rus.NoResources a b c = absurd (c refl)
ru_to_ready rus.Ready a b c = refl

-- ---- the code goes by the state that the table leads to: to Idle with what an abort writes, to Suspended as SUSPEND does, to Ready as START does,
-- from the RFA offset or from where the unit is; to No Resources only from there

abbrev way : RuState → RealAddress → Offset → Ru → Ru × List Write
way rus.Idle base first v = (ru.Idle, aborted_ru base v)
way rus.Suspended base first v = (ru_suspend v, [])
way rus.NoResources base first v = (v, [])
way rus.Ready base first v = (ru_start first v, [])

abbrev first_for : Code → (rfa : Offset) → Ru → Offset
first_for start rfa v = rfa
first_for resume rfa v = at_of v
first_for suspend rfa v = at_of v
first_for abort rfa v = at_of v
first_for other rfa v = at_of v

by_table : (code : Code) (base : RealAddress) (rfa : Offset) (v : Ru)
    → (ru_by code rfa v, ru_writes code base v) ≡ way (ru_next code (ru_state v)) base (first_for code rfa v) v
by_table start base rfa ru.Idle = refl
by_table start base rfa ru.NoResources = refl
by_table start base rfa (ru.Suspended o) = refl
by_table start base rfa (ru.Ready o) = refl
by_table start base rfa (ru.Held o f p) = refl
by_table start base rfa (ru.Filling s w) = refl
by_table start base rfa (ru.Closing s o full) = refl
by_table start base rfa (ru.Lacking s) = refl
by_table resume base rfa ru.Idle = refl
by_table resume base rfa ru.NoResources = refl
by_table resume base rfa (ru.Suspended o) = refl
by_table resume base rfa (ru.Ready o) = refl
by_table resume base rfa (ru.Held o f p) = refl
by_table resume base rfa (ru.Filling s w) = refl
by_table resume base rfa (ru.Closing s o full) = refl
by_table resume base rfa (ru.Lacking s) = refl
by_table suspend base rfa ru.Idle = refl
by_table suspend base rfa ru.NoResources = refl
by_table suspend base rfa (ru.Suspended o) = refl
by_table suspend base rfa (ru.Ready o) = refl
by_table suspend base rfa (ru.Held o f p) = refl
by_table suspend base rfa (ru.Filling s w) = refl
by_table suspend base rfa (ru.Closing s o full) = refl
by_table suspend base rfa (ru.Lacking s) = refl
by_table abort base rfa ru.Idle = refl
by_table abort base rfa ru.NoResources = refl
by_table abort base rfa (ru.Suspended o) = refl
by_table abort base rfa (ru.Ready o) = refl
by_table abort base rfa (ru.Held o f p) = refl
by_table abort base rfa (ru.Filling s w) = refl
by_table abort base rfa (ru.Closing s o full) = refl
by_table abort base rfa (ru.Lacking s) = refl
by_table other base rfa ru.Idle = refl
by_table other base rfa ru.NoResources = refl
by_table other base rfa (ru.Suspended o) = refl
by_table other base rfa (ru.Ready o) = refl
by_table other base rfa (ru.Held o f p) = refl
by_table other base rfa (ru.Filling s w) = refl
by_table other base rfa (ru.Closing s o full) = refl
by_table other base rfa (ru.Lacking s) = refl

first_for_lem : (i j k l : Bool) (rfa : Offset) (v : Ru)
    → first_for (cond i start (cond j resume (cond k suspend (cond l abort other)))) rfa v ≡ cond i rfa (at_of v)
first_for_lem true j k l rfa v = refl
first_for_lem false true k l rfa v = refl
first_for_lem false false true l rfa v = refl
first_for_lem false false false true rfa v = refl
first_for_lem false false false false rfa v = refl

-- ---- RUC obeyed, by the column of the next state

module _ (u : Units) (base : RealAddress) (command tag n rest : ℕ) (m : List ℕ) (b : base.0 ≡ u.base.0) (h : RuIs u.ru tag n rest) where
  abbrev code : Code
  code = code_of (ruc command)

  abbrev rfa : Offset
  rfa = offset_at m (of_scb u rfa_at)

  abbrev next : RuState
  next = ru_next code (ru_state u.ru)

  -- what RUC comes to, if the table leads to s
  obeys : (s : RuState) (r : Unit) (left : List ℕ) → next ≡ s
      → RuIs (way s u.base (first_for code rfa u.ru) u.ru).0 r.tag r.word r.rest
      → left ≡ apply (way s u.base (first_for code rfa u.ru) u.ru).1 m → RuObeys (obey_ruc u command m) m r left
  unfolding obey_ruc
  obeys s r left e f w =
      let t : (ru_by code rfa u.ru, ru_writes code u.base u.ru) ≡ way s u.base (first_for code rfa u.ru) u.ru =
      by_table code u.base rfa u.ru ∙ ap (λ (x : RuState). way x u.base (first_for code rfa u.ru) u.ru) e in
      record {
        unit = subst (λ (x : Ru × List Write). RuIs x.0 r.tag r.word r.rest) (sym t) f;
        memory = subst (λ (x : Ru × List Write). left ≡ apply x.1 m) (sym t) w;
      }

  pub ruc_idle : (left : List ℕ) (block : Offset) → block.0 ≡ offset_in n → 0 ≡ ru_column next
      → left ≡ apply (aborted base (then_some (ltb 4 tag) block) 0) m
      → RuObeys (obey_ruc u command m) m (record { tag = 0; word = 0; rest = 0 }) left
  ruc_idle left block o e f =
      let w : aborted base (then_some (ltb 4 tag) block) 0 ≡ aborted_ru u.base u.ru =
      rw (real_of_lem base u.base b, offset_of_lem (of_word n) block.0 o) (aborts_ru u.base u.ru tag n rest h) in
      obeys rus.Idle (record { tag = 0; word = 0; rest = 0 }) left (ru_to_idle next e) ru_idle_is (f ∙ ap (λ (ws : List Write). apply ws m) w)

  pub ruc_suspended : (r : Unit) → 1 ≡ ru_column next → RuIs (ru_suspend u.ru) r.tag r.word r.rest
      → RuObeys (obey_ruc u command m) m r m
  ruc_suspended r e f = obeys rus.Suspended r m (ru_to_suspended next e) f refl

  pub ruc_none : 2 ≡ ru_column next → RuObeys (obey_ruc u command m) m (record { tag = tag; word = n; rest = rest }) m
  ruc_none e = obeys rus.NoResources (record { tag = tag; word = n; rest = rest }) m (ru_to_none next e) h refl

  pub ruc_ready : (r : Unit) (scb first : Offset) → scb.0 ≡ u.scb.0 → (ru_column next ≡ 0 → ⊥) → (ru_column next ≡ 1 → ⊥)
      → (ru_column next ≡ 2 → ⊥)
      → first.0 ≡ first_of base scb (eqb (ruc command) 1) 6 n m → RuIs (ru_start first u.ru) r.tag r.word r.rest
      → RuObeys (obey_ruc u command m) m r m
  unfolding code_of
  ruc_ready r scb first s e0 e1 e2 f i =
      let k = ruc command in
      let at = ap (λ (x : Offset). x.0) (word_at_lem u.ru tag n rest h) in
      let o : first ≡ first_for code rfa u.ru =
      offset_of_lem (cond (eqb k 1) rfa (at_of u.ru)) first.0 (f ∙ from u base scb m b s (eqb k 1) 6 n (at_of u.ru) at)
      ∙ sym (first_for_lem (eqb k 1) (eqb k 2) (eqb k 3) (eqb k 4) rfa u.ru) in
      obeys rus.Ready r m (ru_to_ready next e0 e1 e2)
      (subst (λ (x : Offset). RuIs (ru_start x u.ru) r.tag r.word r.rest) o i) refl
