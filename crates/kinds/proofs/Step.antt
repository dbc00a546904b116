-- The command unit at a block of a list: no service writes but the block's results and the SCB's status, and before its end turn the command stays
-- in work. Assumes nothing.
use mathlib.Core.Path.{◌≡◌, refl, sym, ap, ◌∙◌}
use mathlib.Core.Bool.{Bool, true, false, cond}
use mathlib.Core.List.{List, [], ◌∷◌, ◌++◌}
use Prim.Native.Nat.{ℕ}
use native.Mathlib.Omega.{arith}
use borrow.Author.Tests.{eqb-true}
use lib.Dec.{eqb}
use lib.ListN.{length}
use Rattle.memory.specs.Address.{place, offset_at, is_none}
use Rattle.memory.specs.Memory.{digits, word_at, Write, apply, word_to}
use Rattle.memory.specs.declared.Offset.{Offset}
use Rattle.memory.specs.declared.RealAddress.{RealAddress}
use Rattle.memory.proofs.Laws.{length_apply}
use Rattle.scb.specs.Words.{any_of}
use Rattle.device.specs.Header.{unbuffered}
use Rattle.device.specs.Numbers.{transmit, action_number, action_of}
use Rattle.device.specs.declared.Action.{Action}
use Rattle.device.specs.declared.Action.TheVariants as action
use Rattle.device.specs.declared.Begun.{Begun}
use Rattle.device.specs.declared.Cu.{Cu}
use Rattle.device.specs.declared.Cu.TheVariants as cu
use Rattle.device.specs.declared.Units.{Units}
use Rattle.device.specs.declared.Walk.{Walk}
use Rattle.actions.specs.Actions.{Acted, act, sent, not_sent}
use Rattle.actions.specs.Setup.{Setup}
use Rattle.command.specs.Part.{Part}
use Rattle.command.specs.Begin.{cmd, begun_by, to_first, to_begun, begin}
use Rattle.command.specs.Buffer.{descriptor_at, after_buffer, past, is_last, fits, buffer}
use Rattle.command.specs.End.{status_to, end}
use Rattle.command.specs.Service.{service_by}
use Rattle.attention.specs.Status as status
use Rattle.chip.specs.Turn.{raised_in, status_by}
use Rattle.chip.proofs.Status.{written_if_raised}
use Rattle.kinds.specs.Lists.{All, IsTdr, NoResult}
use Rattle.kinds.specs.Spoiled.{is_end}
use Rattle.kinds.proofs.Service.{at_status, at_word, at_scb, Own, AllOwn, own_append, ScbApart}

never : ◌≡◌ {A = Bool} true false → ⊥
never e = let z : ◌≡◌ {A = ℕ} 0 1 = cc in omega arith

-- ---- where the unit stands

-- a TDR, to be begun or begun, is one of the blocks that are said to be
abbrev pub AtBlock : (Offset → Type 0) → RealAddress → List ℕ → Cu → Offset → Type 0
AtBlock tdr base m cu.Idle b = ⊥
AtBlock tdr base m (cu.Suspended o) b = ⊥
AtBlock tdr base m (cu.Waiting o) b = (o ≡ b) × (IsTdr base m b → tdr b)
AtBlock tdr base m (cu.Acting g a) b = (g.block ≡ b) × (a ≡ action.Tdr → tdr b)
AtBlock tdr base m (cu.Sending g w) b = g.block ≡ b
AtBlock tdr base m (cu.Ending g n) b = g.block ≡ b
AtBlock tdr base m (cu.Failing g) b = g.block ≡ b

-- the unit is at b, and bs are to come
pub record At (n : ℕ) (tdr : Offset → Type 0) (base : RealAddress) (scb : ℕ) (m : List ℕ) (u : Cu) (b : Offset) (bs : List Offset) : Type 0 where
  pub size : length m ≡ n
  pub unit : AtBlock tdr base m u b
  pub scb_apart : All (ScbApart n base scb) bs
  pub blocks_apart : All (λ c. NoResult n base tdr b c × NoResult n base tdr c b) bs

-- ---- begin

begun_block : (o : Offset) (word : ℕ) → (begun_by o word).block ≡ o
unfolding begun_by
begun_block o word = refl

first_at_lem : (none : Bool) (filled : ℕ) (tdr : Offset → Type 0) (base : RealAddress) (m : List ℕ) (g : Begun) (o b : Offset) → g.block ≡ b
    → AtBlock tdr base m (to_first none filled g o) b
first_at_lem true filled tdr base m g o b e = e
first_at_lem false filled tdr base m g o b e = e

begun_at : (transmits : Bool) (tdr : Offset → Type 0) (p : Part) (g : Begun) (word : ℕ) (q m : List ℕ) (b : Offset) → g.block ≡ b
    → (action_of (cmd word) ≡ action.Tdr → tdr b) → AtBlock tdr p.base m (to_begun transmits p g word q).unit b
begun_at true tdr p g word q m b e t =
    let first = offset_at q (place p.base g.block 6) in
    first_at_lem (is_none first) (unbuffered p.setup.settings.form) tdr p.base m g first b e
begun_at false tdr p g word q m b e t = (e, t)

-- an action that is TDR has the number 5
action_is : (a b c d e f : Bool)
    → cond a action.Nop (cond b action.IaSetup (cond c action.Configure (cond d action.McSetup (cond e action.Tdr (cond f action.Dump action.Diagnose)))))
    ≡ action.Tdr → e ≡ true
action_is true b c d e f h = absurd (let z : ◌≡◌ {A = ℕ} 0 1 = cc in omega arith)
action_is false true c d e f h = absurd (let z : ◌≡◌ {A = ℕ} 0 1 = cc in omega arith)
action_is false false true d e f h = absurd (let z : ◌≡◌ {A = ℕ} 0 1 = cc in omega arith)
action_is false false false true e f h = absurd (let z : ◌≡◌ {A = ℕ} 0 1 = cc in omega arith)
action_is false false false false true f h = refl
action_is false false false false false true h = absurd (let z : ◌≡◌ {A = ℕ} 0 1 = cc in omega arith)
action_is false false false false false false h = absurd (let z : ◌≡◌ {A = ℕ} 0 1 = cc in omega arith)

action_tdr : (n : ℕ) → action_of n ≡ action.Tdr → n ≡ action_number action.Tdr
unfolding action_of
action_tdr n h = eqb-true n 5 (action_is (eqb n 0) (eqb n 1) (eqb n 2) (eqb n 3) (eqb n 5) (eqb n 6) h)

-- ---- a buffer

buffer_at_lem : (fits eof none last : Bool) (tdr : Offset → Type 0) (base : RealAddress) (m : List ℕ) (g : Begun) (w : Walk) (b : Offset) → g.block ≡ b
    → AtBlock tdr base m (after_buffer fits eof none last g w) b
buffer_at_lem false eof none last tdr base m g w b e = e
buffer_at_lem true true none last tdr base m g w b e = e
buffer_at_lem true false true last tdr base m g w b e = e
buffer_at_lem true false false true tdr base m g w b e = e
buffer_at_lem true false false false tdr base m g w b e = e

-- ---- end: what an action writes, the status, and the SCB's

module _ (T : Type 0) (base : RealAddress) (b : Offset) (scb : ℕ) where
  act_own : (a : Action) (s : Setup) (o : Offset) (m : List ℕ) → o ≡ b → (a ≡ action.Tdr → T) → AllOwn T base b scb (act a base s o m).writes
  unfolding act digits
  act_own action.Nop s o m e t = tt
  act_own action.IaSetup s o m e t = tt
  act_own action.Configure s o m e t = tt
  act_own action.McSetup s o m e t = tt
  act_own action.Tdr s o m e t = (record { spot = at_word (t refl) (ap (λ (x : Offset). place base x 6) e); two = refl }, tt)
  act_own action.Dump s o m e t = tt
  act_own action.Diagnose s o m e t = tt

  sent_own : (s : Setup) (filled report : ℕ) → AllOwn T base b scb (sent s filled report).writes
  unfolding sent
  sent_own s filled report = tt

  status_own : (o : Offset) (v : ℕ) → o ≡ b → Own T base b scb (word_to (place base o 0) v)
  unfolding digits
  status_own o v e = record { spot = at_status (ap (λ (x : Offset). place base x 0) e); two = refl }

  scb_own : (raises : Bool) (x : Units) → place x.base x.scb 0 ≡ scb → AllOwn T base b scb (status_by raises x)
  unfolding status.status_to digits
  scb_own true x e = (record { spot = at_scb e; two = refl }, tt)
  scb_own false x e = tt

-- ---- any service

module _ (tdr : Offset → Type 0) (p : Part) (scb : ℕ) (m : List ℕ) (b : Offset) (x : Units) (to : place x.base x.scb 0 ≡ scb) where
  end_own : (g : Begun) (a : Acted) → g.block ≡ b → AllOwn (tdr b) p.base b scb a.writes
      → AllOwn (tdr b) p.base b scb (written_if_raised (end p g a m).writes (end p g a m).raised x)
  unfolding end
  end_own g a e own =
      let raised = (end p g a m).raised in
      own_append (tdr b) p.base b scb (a.writes ++ (status_to p.base g a.status ∷ [])) (status_by (any_of raised) (raised_in x raised))
      (own_append (tdr b) p.base b scb a.writes (status_to p.base g a.status ∷ []) own
      (status_own (tdr b) p.base b scb g.block a.status e, tt))
      (scb_own (tdr b) p.base b scb (any_of raised) (raised_in x raised) to)

  -- every service writes the block's results and the SCB's status, and nothing else
  pub service_own : (u : Cu) (report : ℕ) → AtBlock tdr p.base m u b
      → AllOwn (tdr b) p.base b scb (written_if_raised (service_by u p m report).writes (service_by u p m report).raised x)
  unfolding begin buffer any_of
  service_own cu.Idle report k = absurd k
  service_own (cu.Suspended o) report k = absurd k
  service_own (cu.Waiting o) report k = (status_own (tdr b) p.base b scb o 0x4000 k.0, tt)
  service_own (cu.Acting g a) report k =
      end_own g (act a p.base p.setup g.block m) k.0 (act_own (tdr b) p.base b scb a p.setup g.block m k.0 k.1)
  service_own (cu.Sending g w) report k = tt
  service_own (cu.Ending g n) report k = end_own g (sent p.setup n report) k (sent_own (tdr b) p.base b scb p.setup n report)
  service_own (cu.Failing g) report k = end_own g (not_sent p.setup) k tt

-- before its end turn a command stays in work, whatever memory is then
unit_stays : (tdr : Offset → Type 0) (p : Part) (m q : List ℕ) (b : Offset) (u : Cu) (report : ℕ) → is_end u ≡ false → AtBlock tdr p.base m u b
    → AtBlock tdr p.base q (service_by u p m report).part.unit b
unfolding begin buffer
unit_stays tdr p m q b cu.Idle report e k = absurd k
unit_stays tdr p m q b (cu.Suspended o) report e k = absurd k
unit_stays tdr p m q b (cu.Waiting o) report e k =
    let word = word_at m (place p.base o 2) in
    begun_at (eqb (cmd word) transmit) tdr p (begun_by o word) word m q b (begun_block o word ∙ k.0)
    (λ h. k.1 (ap (λ (c : Offset). cmd (word_at m (place p.base c 2))) (sym k.0) ∙ action_tdr (cmd word) h))
unit_stays tdr p m q b (cu.Acting g a) report e k = absurd (never e)
unit_stays tdr p m q b (cu.Sending g w) report e k =
    let d = descriptor_at p.base w.next m in
    buffer_at_lem (fits d w) d.eof (is_none d.next) (is_last w.used) tdr p.base q g (past d w) b k
unit_stays tdr p m q b (cu.Ending g n) report e k = absurd (never e)
unit_stays tdr p m q b (cu.Failing g) report e k = absurd (never e)

pub service_stays : (n : ℕ) (tdr : Offset → Type 0) (p : Part) (scb : ℕ) (m : List ℕ) (b : Offset) (bs : List Offset) (u : Cu) (report : ℕ)
    (ws : List Write) → is_end u ≡ false → At n tdr p.base scb m u b bs
    → At n tdr p.base scb (apply ws m) (service_by u p m report).part.unit b bs
service_stays n tdr p scb m b bs u report ws e s =
    record {
      size = length_apply ws m ∙ s.size;
      unit = unit_stays tdr p m (apply ws m) b u report e s.unit;
      scb_apart = s.scb_apart;
      blocks_apart = s.blocks_apart;
    }
