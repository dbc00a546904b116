-- The chip that serves the first command and no other: it is of its kind, it is ours until a command is completed, and it does serve the first.
-- Assumes nothing.
use mathlib.Core.Path.{◌≡◌, refl, sym, ap, ap₂, ◌∙◌, subst}
use mathlib.Core.Bool.{Bool, true, false, not, cond, ◌&&◌}
use mathlib.Core.List.{List, [], ◌∷◌}
use Prim.Native.Nat.{ℕ, ◌<◌, ◌^◌}
use native.Mathlib.Omega.{arith}
use lib.ListN.{length}
use Rattle.memory.specs.Address.{place}
use Rattle.memory.specs.Memory.{word_at}
use Rattle.memory.specs.declared.Offset.{Offset}
use Rattle.memory.specs.declared.RealAddress.{RealAddress}
use Rattle.memory.proofs.Bytes.{bytes_nil}
use Rattle.scb.specs.Words.{bit}
use Rattle.device.specs.State.{cu_works, ru_works}
use Rattle.device.specs.declared.Device.{Device}
use Rattle.image.specs.Image.{image_of}
use Rattle.actions.specs.Block.{block_status_at}
use Rattle.chip.specs.World.{World, Ran, world_of, afterwards}
use Rattle.chip.specs.Turn.{served_by, is_command, concluded, command_turn, turn_of}
use Rattle.chip.specs.Call.{Call, reset, attention, arrive, turn}
use Rattle.calls.specs.Calls.{Areas, Called}
use Rattle.traces.specs.Areas.{shown, units_in}
use Rattle.traces.specs.Bytes.{called, is_refused}
use Rattle.traces.specs.Event.{call, step}
use Rattle.lists.proofs.Tests.{keptb, idle_turn_lem}
use Rattle.kinds.specs.Chips.{Given, Handed, chip_run}
use Rattle.kinds.specs.Closed.{Right}
use Rattle.kinds.specs.Demands.{Acceptable, lent_of}
use Rattle.kinds.specs.Lists.{All, IsTdr, Starting, turns_of, AllReports, started}
use Rattle.kinds.specs.Kinds.{FirstOnly}
use Rattle.kinds.specs.Spoiled.{Piece, piece_of, AsOursBut, as_lent, is_end, to_command, completing, first_calls, first_next, serving_first, AfterFirst, until_end, ServesFirst}
use Rattle.kinds.proofs.Accepted.{accepted_call}
use Rattle.kinds.proofs.Witness.{held_area, sent_area, attending}
use Rattle.kinds.proofs.Two.{zero_reports, two, one, other, idle, two_size, two_bytes, acceptable_two, handed_two, idle_wide, idle_range, starting}
use Rattle.kinds.proofs.Runs.{busy_turn, at_active, Here, turn_stays, turn_leaves}
use Rattle.kinds.proofs.Start.{Begins, list_begins}
use Rattle.kinds.proofs.Closing.{closing}
use Rattle.kinds.proofs.Spoiled.{chosen}
use Rattle.kinds.proofs.Marked.{not_refused, units_said}
use Rattle.kinds.proofs.Third.{right_acceptable, right_handed}
use Rattle.kinds.proofs.Inventing.{acceptable_right}

-- ---- no worse: but for the turns of the command unit after a completed command, every call is ours

spoils_after : (done : Bool) (c : Call) (a : Areas) (p : Piece) → (AfterFirst done c a → ⊥) → piece_of p (first_calls done c a) ≡ piece_of p (called c a)
spoils_after done reset a p h = refl
spoils_after done attention a p h = refl
spoils_after done (arrive f v) a p h = refl
spoils_after done (turn report) a p h =
    let r = called (turn report) a in
    chosen (done && to_command a) (is_refused r) (as_lent 0 a) r p
    (λ e k. let x = both done (to_command a) e in absurd (h (x.0, x.1, k)))
  where
    both : (x y : Bool) → (x && y) ≡ true → (x ≡ true) × (y ≡ true)
    both true true e = (refl, refl)
    both true false e = absurd (let z : ◌≡◌ {A = ℕ} 0 1 = cc in omega arith)
    both false y e = absurd (let z : ◌≡◌ {A = ℕ} 0 1 = cc in omega arith)

-- and at these it leaves all as lent, and answers 0
does_nothing : (done : Bool) (c : Call) (a : Areas) (p : Piece) → AfterFirst done c a → piece_of p (first_calls done c a) ≡ piece_of p (as_lent 0 a)
does_nothing done reset a p h = absurd h
does_nothing done attention a p h = absurd h
does_nothing done (arrive f v) a p h = absurd h
does_nothing done (turn report) a p h = rw (h.0, h.1, h.2)

pub serving_first_is_no_worse : AsOursBut serving_first (λ s c a p. AfterFirst s c a) (λ a r. as_lent 0 a)
serving_first_is_no_worse = record { those = λ s c a p l h. does_nothing s c a p h; others = λ s c a p l h. spoils_after s c a p h }

-- ---- a turn in a world that is right

module _ (r : ℕ) (w : World) (small : r < 2 ^ 16) (right : Right w) where
  turning : Given (turn r)
  turning = record { frame = bytes_nil; numbers = small }

  fits : Acceptable (turn r) w.device w.memory w.holding w.outgoing
  fits = right_acceptable (turn r) w (omega arith) right

  handed : Handed (turn r) (shown w)
  handed = right_handed (turn r) w turning right

  turn_left : (called (turn r) (shown w)).areas ≡ shown (afterwards (turn_of w r))
  turn_left = ap (λ (x : Called). x.areas) (accepted_call w.device w.memory w.holding w.outgoing (turn r) fits)

  unrefused : is_refused (called (turn r) (shown w)) ≡ false
  unrefused = not_refused r w.device w.memory w.holding w.outgoing fits handed

  said : units_in (image_of w.device) ≡ w.device.units
  said = units_said r w.device w.memory w.holding w.outgoing fits handed

  turn_right : Right (afterwards (turn_of w r))
  turn_right = closing.each (turn r) w turning (omega arith) right

  -- whose turn it is, no frame being held
  whose : ru_works w.device.units.ru ≡ false → to_command (shown w) ≡ cu_works w.device.units.cu
  whose h = rw (said, h) (by (cu_works w.device.units.cu) w.device.units.rulast)
    where
      by : (x z : Bool) → is_command (served_by x false z) ≡ x
      by true z = refl
      by false z = refl

  -- ---- after a completed command: nothing changes any more

  left_by_lem : ru_works w.device.units.ru ≡ false → (x : Bool) → cu_works w.device.units.cu ≡ x
      → (cond ((true && x) && not false) (as_lent 0 (shown w)) (called (turn r) (shown w))).areas ≡ shown w
  left_by_lem h true e = refl
  left_by_lem h false e = turn_left ∙ ap shown (idle_turn_lem w r e h)

  stays_left : ru_works w.device.units.ru ≡ false → (first_calls true (turn r) (shown w)).areas ≡ shown w
  stays_left h = rw (whose h, unrefused) (left_by_lem h (cu_works w.device.units.cu) refl)

  stays_done : first_next true (turn r) (shown w) ≡ true
  stays_done = by (completing (shown w) && not (is_refused (called (turn r) (shown w))))
    where
      by : (x : Bool) → cond x true true ≡ true
      by true = refl
      by false = refl

  -- ---- before: it is done with the end turn

  done_next : ru_works w.device.units.ru ≡ false → cu_works w.device.units.cu ≡ true
      → first_next false (turn r) (shown w) ≡ is_end w.device.units.cu
  done_next h c = rw (whose h, c, said, unrefused) (by (is_end w.device.units.cu))
    where
      by : (x : Bool) → cond ((true && x) && not false) true false ≡ x
      by true = refl
      by false = refl

-- the rest of a run, by what the turn before it leaves
next_run : (rs : List ℕ) (s t : Bool) (a b : Areas) → s ≡ t → a ≡ b → chip_run serving_first s (turns_of rs) a ≡ chip_run serving_first t (turns_of rs) b
next_run rs s t a b p q = ap₂ (λ (x : Bool) (y : Areas). chip_run serving_first x (turns_of rs) y) p q

still : (rs : List ℕ) (w : World) → AllReports rs → Right w → ru_works w.device.units.ru ≡ false
    → chip_run serving_first true (turns_of rs) (shown w) ≡ shown w
still [] w p right h = refl
still (r ∷ rs) w p right h =
    next_run rs _ true _ (shown w) (stays_done r w p.0 right) (stays_left r w p.0 right h) ∙ still rs w p.1 right h

-- ---- one turn at the first block

-- the statuses of blocks in one memory are those in another
abbrev Same : RealAddress → List ℕ → List ℕ → List Offset → Type 0
Same base m q cs = All (λ c. word_at m (place base c block_status_at) ≡ word_at q (place base c block_status_at)) cs

same_self : (base : RealAddress) (m : List ℕ) (cs : List Offset) → Same base m m cs
same_self base m [] = tt
same_self base m (c ∷ cs) = (refl, same_self base m cs)

same_then : (base : RealAddress) (m q x : List ℕ) (cs : List Offset) → Same base m q cs → Same base q x cs → Same base m x cs
same_then base m q x [] f g = tt
same_then base m q x (c ∷ cs) f g = (f.0 ∙ g.0, same_then base m q x cs f.1 g.1)

module _ (n : ℕ) (tdr : Offset → Type 0) (b : Offset) (bs : List Offset) where
  -- the command is still in work, or this was its end turn; no frame is held, and no later block's status is another
  record Onward (w v : World) : Type 0 where
    pub here : is_end w.device.units.cu ≡ false → Here n tdr v b bs
    pub free : ru_works v.device.units.ru ≡ false
    pub base : v.device.units.base ≡ w.device.units.base
    pub statuses : Same w.device.units.base v.memory w.memory bs

  command_onward : (w : World) (r : ℕ) → ru_works w.device.units.ru ≡ false → Here n tdr w b bs → Onward w (afterwards (command_turn w r))
  unfolding command_turn concluded
  command_onward w r h at =
      record {
        here = λ e. turn_stays n tdr w r b bs e at;
        free = h;
        base = refl;
        statuses = turn_leaves n tdr w r b bs at;
      }

  works : (w : World) → Here n tdr w b bs → cu_works w.device.units.cu ≡ true
  works w at = at_active tdr w.device.units.base w.memory w.device.units.cu b at.unit

  onward : (w : World) (r : ℕ) → ru_works w.device.units.ru ≡ false → Here n tdr w b bs → Onward w (afterwards (turn_of w r))
  onward w r h at = subst (λ (x : Ran). Onward w (afterwards x)) (sym (busy_turn w r (works w at) h)) (command_onward w r h at)

  -- ---- a run: as the definitions go, to the end turn of the first command and no further

  AsFar : List ℕ → Type 0
  AsFar rs =
      AllReports rs → (w : World) → Right w → ru_works w.device.units.ru ≡ false → Here n tdr w b bs
      → chip_run serving_first false (turns_of rs) (shown w) ≡ shown (until_end rs w)

  as_far_by : (rs : List ℕ) → AsFar rs → AllReports rs → (x : Bool) (w v : World) → is_end w.device.units.cu ≡ x → Right v → Onward w v
      → chip_run serving_first x (turns_of rs) (shown v) ≡ shown (cond x v (until_end rs v))
  unfolding AsFar
  as_far_by rs more p true w v e right on = still rs v p right on.free
  as_far_by rs more p false w v e right on = more p v right on.free (on.here e)

  as_far : (rs : List ℕ) → AsFar rs
  unfolding AsFar
  as_far [] p w right h at = refl
  as_far (r ∷ rs) p w right h at =
      let v = afterwards (turn_of w r) in
      let x = is_end w.device.units.cu in
      next_run rs _ x _ (shown v) (done_next r w p.0 right h (works w at)) (turn_left r w p.0 right)
      ∙ as_far_by rs (as_far rs) p.1 x w v refl (turn_right r w p.0 right) (onward w r h at)

  -- so the status of every later block stays
  Stays : List ℕ → Type 0
  Stays rs =
      (w : World) → ru_works w.device.units.ru ≡ false → Here n tdr w b bs
      → Same w.device.units.base (until_end rs w).memory w.memory bs

  stays_by : (rs : List ℕ) → Stays rs → (x : Bool) (w v : World) → is_end w.device.units.cu ≡ x → Onward w v
      → Same w.device.units.base (cond x v (until_end rs v)).memory v.memory bs
  unfolding Stays
  stays_by rs more true w v e on = same_self w.device.units.base v.memory bs
  stays_by rs more false w v e on =
      subst (λ (base : RealAddress). Same base (until_end rs v).memory v.memory bs) on.base (more v on.free (on.here e))

  stays : (rs : List ℕ) → Stays rs
  unfolding Stays
  stays [] w h at = same_self w.device.units.base w.memory bs
  stays (r ∷ rs) w h at =
      let v = afterwards (turn_of w r) in
      let x = is_end w.device.units.cu in
      let on = onward w r h at in
      same_then w.device.units.base (cond x v (until_end rs v)).memory v.memory w.memory bs (stays_by rs (stays rs) x w v refl on) on.statuses

-- ---- from the start on

module _ (d : Device) (m h out : List ℕ) (b : Offset) (bs : List Offset) (reports : List ℕ) (k : Acceptable attention d m h out)
    (l : Handed attention (lent_of d m h out)) (start : Starting d m b bs) where
  -- the definitions' world after the attention
  abbrev after : World
  after = step (call attention) (world_of d m h out)

  after_right : Right after
  after_right = closing.each attention (world_of d m h out) l.given k.frame (acceptable_right attention (world_of d m h out) k l)

  begins : Begins (world_of d m h out) b bs start after
  begins = list_begins (world_of d m h out) b bs start

  to_the_end_turn : AllReports reports → (s : Bool) → started serving_first s (turns_of reports) (lent_of d m h out) ≡ shown (until_end reports after)
  unfolding AsFar
  to_the_end_turn p s =
      next_run reports false false _ (shown after) refl (ap (λ (x : Called). x.areas) (accepted_call d m h out attention k))
      ∙ as_far (length m) (IsTdr d.units.base m) b bs reports p after after_right begins.free begins.at

  later_stay : Same d.units.base (until_end reports after).memory m bs
  unfolding Stays
  later_stay =
      same_then d.units.base (until_end reports after).memory after.memory m bs
      (subst (λ (base : RealAddress). Same base (until_end reports after).memory after.memory bs) begins.base
      (stays (length m) (IsTdr d.units.base m) b bs reports after begins.free begins.at))
      begins.statuses

pub serving_first_serves_the_first : ServesFirst serving_first
serving_first_serves_the_first = record { each = λ s d m h out b bs reports k l start p. to_the_end_turn d m h out b bs reports k l start p s }

-- a status that stays gets no C
no_c : (base : RealAddress) (m q : List ℕ) (cs : List Offset) → Same base m q cs
    → All (λ c. bit (word_at m (place base c block_status_at)) 15 ≡ true → bit (word_at q (place base c block_status_at)) 15 ≡ true) cs
no_c base m q [] f = tt
no_c base m q (c ∷ cs) f = (λ e. ap (λ (x : ℕ). bit x 15) (sym f.0) ∙ e, no_c base m q cs f.1)

pub serving_first_is_of_its_kind : FirstOnly serving_first
serving_first_is_of_its_kind =
    record {
      each =
          λ s d m h out b bs reports k l start p.
          no_c d.units.base _ m bs
          (subst (λ (a : Areas). Same d.units.base a.memory m bs) (sym (to_the_end_turn d m h out b bs reports k l start p s))
          (later_stay d m h out b bs reports k l start));
    }

-- of two NOPs the first is done, by the second turn
first_done : word_at (until_end (0 ∷ 0 ∷ []) (step (call attention) (world_of idle two held_area sent_area))).memory (place (record { 0 = 0 }) one block_status_at)
    ≡ 0xA000
unfolding keptb
first_done = refl

pub first_of_two_done : (s : Bool)
    → word_at (started serving_first s (turns_of (0 ∷ 0 ∷ [])) (lent_of idle two held_area sent_area)).memory (place (record { 0 = 0 }) one block_status_at)
    ≡ 0xA000
first_of_two_done s =
    let k = acceptable_two attention idle two (omega arith) two_size idle_wide idle_range in
    let l = handed_two attention idle two attending two_bytes idle_wide in
    let e = serving_first_serves_the_first.each s idle two held_area sent_area one (other ∷ []) (0 ∷ 0 ∷ []) k l starting (zero_reports 2) in
    ap (λ (a : Areas). word_at a.memory (place (record { 0 = 0 }) one block_status_at)) e ∙ first_done
