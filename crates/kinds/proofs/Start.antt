-- The starting attention: the command unit is before the first block, every later block's status is as it was, and no frame is held. Assumes nothing.
use mathlib.Core.Path.{◌≡◌, refl, sym, ap, ◌∙◌, subst}
use mathlib.Core.Bool.{Bool, true, false}
use mathlib.Core.List.{List, [], ◌∷◌, ◌++◌}
use Prim.Native.Nat.{ℕ, ◌+◌, ◌≤◌}
use native.Mathlib.Omega.{arith}
use lib.ListN.{length}
use Rattle.memory.specs.Address.{place, offset_at}
use Rattle.memory.specs.Memory.{digits, word_at, Write, apply}
use Rattle.memory.specs.declared.Offset.{Offset}
use Rattle.memory.specs.declared.RealAddress.{RealAddress}
use Rattle.memory.proofs.Fields.{Apart, AllApart}
use Rattle.memory.proofs.Laws.{length_apply}
use Rattle.scb.specs.Control.{Code, code_of, start, resume, suspend, abort, other}
use Rattle.scb.specs.Words.{ruc, resets, scb_command_at, cbl_at}
use Rattle.device.specs.State.{cu_state, is_active, is_holding}
use Rattle.device.specs.declared.Cu.{Cu}
use Rattle.device.specs.declared.Cu.TheVariants as cu
use Rattle.device.specs.declared.Device.{Device}
use Rattle.device.specs.declared.Ru.{Ru}
use Rattle.device.specs.declared.Ru.TheVariants as ru
use Rattle.device.specs.declared.Units.{Units}
use Rattle.command.specs.Begin.{cmd}
use Rattle.control.specs.Control.{cu_start, ru_start, ru_resume, ru_suspend, ru_by, aborted_ru, ru_writes}
use Rattle.control.specs.Obey.{of_scb, obey_cuc, obey_ruc}
use Rattle.attention.specs.Attention.{Attended, attention_by, attention, attend, attend_by, settled_writes}
use Rattle.attention.specs.Status.{status_to}
use Rattle.chip.specs.World.{World, writing, afterwards}
use Rattle.chip.specs.Attention.{attention_of}
use Rattle.kinds.specs.Lists.{All, IsTdr, BlocksApart, Starting}
use Rattle.kinds.proofs.Service.{word_kept, ScbApart}
use Rattle.kinds.proofs.Step.{At}

never : ◌≡◌ {A = Bool} true false → ⊥
never e = let z : ◌≡◌ {A = ℕ} 0 1 = cc in omega arith

-- ---- the units: START leads to the block, and whatever RUC says, no frame is held and nothing is written

start_unit : (c : Cu) (first : Offset) → is_active (cu_state c) ≡ false → cu_start first c ≡ cu.Waiting first
start_unit cu.Idle first a = refl
start_unit (cu.Suspended o) first a = refl
start_unit (cu.Waiting o) first a = absurd (never a)
start_unit (cu.Acting g x) first a = absurd (never a)
start_unit (cu.Sending g w) first a = absurd (never a)
start_unit (cu.Ending g n) first a = absurd (never a)
start_unit (cu.Failing g) first a = absurd (never a)

free_start : (first : Offset) (u : Ru) → is_holding u ≡ false → is_holding (ru_start first u) ≡ false
free_start first ru.Idle h = refl
free_start first ru.NoResources h = refl
free_start first (ru.Suspended o) h = refl
free_start first (ru.Ready o) h = refl
free_start first (ru.Held o f p) h = absurd (never h)
free_start first (ru.Filling s w) h = absurd (never h)
free_start first (ru.Closing s o e) h = absurd (never h)
free_start first (ru.Lacking s) h = absurd (never h)

free_resume : (u : Ru) → is_holding u ≡ false → is_holding (ru_resume u) ≡ false
free_resume ru.Idle h = refl
free_resume ru.NoResources h = refl
free_resume (ru.Suspended o) h = refl
free_resume (ru.Ready o) h = refl
free_resume (ru.Held o f p) h = absurd (never h)
free_resume (ru.Filling s w) h = absurd (never h)
free_resume (ru.Closing s o e) h = absurd (never h)
free_resume (ru.Lacking s) h = absurd (never h)

free_suspend : (u : Ru) → is_holding u ≡ false → is_holding (ru_suspend u) ≡ false
free_suspend ru.Idle h = refl
free_suspend ru.NoResources h = refl
free_suspend (ru.Suspended o) h = refl
free_suspend (ru.Ready o) h = refl
free_suspend (ru.Held o f p) h = absurd (never h)
free_suspend (ru.Filling s w) h = absurd (never h)
free_suspend (ru.Closing s o e) h = absurd (never h)
free_suspend (ru.Lacking s) h = absurd (never h)

free_unit : (code : Code) (first : Offset) (u : Ru) → is_holding u ≡ false → is_holding (ru_by code first u) ≡ false
free_unit start first u h = free_start first u h
free_unit resume first u h = free_resume u h
free_unit suspend first u h = free_suspend u h
free_unit abort first u h = refl
free_unit other first u h = h

free_abort : (base : RealAddress) (u : Ru) → is_holding u ≡ false → aborted_ru base u ≡ []
free_abort base ru.Idle h = refl
free_abort base ru.NoResources h = refl
free_abort base (ru.Suspended o) h = refl
free_abort base (ru.Ready o) h = refl
free_abort base (ru.Held o f p) h = absurd (never h)
free_abort base (ru.Filling s w) h = absurd (never h)
free_abort base (ru.Closing s o e) h = absurd (never h)
free_abort base (ru.Lacking s) h = absurd (never h)

free_writes : (code : Code) (base : RealAddress) (u : Ru) → is_holding u ≡ false → ru_writes code base u ≡ []
free_writes start base u h = refl
free_writes resume base u h = refl
free_writes suspend base u h = refl
free_writes abort base u h = free_abort base u h
free_writes other base u h = refl

-- ---- an attention that does not reset

attends_by : (x : Bool) (d : Device) (m : List ℕ) → x ≡ true → attention_by x d m ≡ attend d m
attends_by true d m e = refl
attends_by false d m e = absurd (never (sym e))

attention_obeys : (d : Device) (m : List ℕ) → d.units.initialised ≡ true → resets (word_at m (of_scb d.units scb_command_at)) ≡ false
    → attention d m ≡ attend_by false d (word_at m (of_scb d.units scb_command_at)) m
unfolding attention attend
attention_obeys d m i r =
    let command = word_at m (of_scb d.units scb_command_at) in
    attends_by d.units.initialised d m i ∙ ap (λ (reset : Bool). attend_by reset d command m) r

-- ---- what it writes: status and command of the SCB, four bytes

place_add : (base : RealAddress) (b : Offset) (f : ℕ) → place base b 0 + f ≡ place base b f
unfolding place
place_add base b f = omega arith

apart_within : (n a j b k x j' y k' : ℕ) → x + j' ≤ j → y + k' ≤ k → Apart n a j b k → Apart n (a + x) j' (b + y) k'
apart_within n a j b k x j' y k' p q h s hs t ht e =
    let u : a + x + s ≡ a + (x + s) = omega arith in
    let v : b + y + t ≡ b + (y + t) = omega arith in
    h (x + s) (omega arith) (y + t) (omega arith) (rw (u, v) at e)

settled_apart : (u : Units) (n : ℕ) (base : RealAddress) (c : Offset) (g : ℕ) → g + 2 ≤ 6 → ScbApart n base (of_scb u 0) c
    → AllApart n (settled_writes u) (place base c g) 2
unfolding status_to digits
settled_apart u n base c g q h =
    let s = place u.base u.scb 0 in
    let first : Apart n (s + 0) 2 (place base c 0 + g) 2 = apart_within n s 4 (place base c 0) 6 0 2 g 2 (omega arith) q h in
    let second : Apart n (s + 2) 2 (place base c 0 + g) 2 = apart_within n s 4 (place base c 0) 6 2 2 g 2 (omega arith) q h in (
      rw (place_add u.base u.scb 0, place_add base c g) at first,
      (rw (place_add u.base u.scb 2, place_add base c g) at second, tt),
    )

module _ (base : RealAddress) (u : Units) (m : List ℕ) where
  -- a block's status and command stay
  stays : (c : Offset) (g : ℕ) → g + 2 ≤ 6 → ScbApart (length m) base (of_scb u 0) c
      → word_at (apply (settled_writes u) m) (place base c g) ≡ word_at m (place base c g)
  stays c g q h = word_kept (settled_writes u) m (place base c g) (settled_apart u (length m) base c g q h)

  statuses_stay : (cs : List Offset) → All (ScbApart (length m) base (of_scb u 0)) cs
      → All (λ c. word_at (apply (settled_writes u) m) (place base c 0) ≡ word_at m (place base c 0)) cs
  statuses_stay [] p = tt
  statuses_stay (c ∷ cs) p = (stays c 0 (omega arith) p.0, statuses_stay cs p.1)

-- the start, in plain terms
start_at : (u : Units) (ws : List Write) (m : List ℕ) (b : Offset) (bs : List Offset) (c : Cu) → ws ≡ settled_writes u → c ≡ cu.Waiting b
    → All (ScbApart (length m) u.base (of_scb u 0)) (b ∷ bs) → BlocksApart (length m) u.base (IsTdr u.base m) (b ∷ bs)
    → At (length m) (IsTdr u.base m) u.base (of_scb u 0) (apply ws m) c b bs
start_at u ws m b bs c e f p q =
    rw (e, f)
    (record {
      size = length_apply (settled_writes u) m;
      unit = (refl, λ h. ap cmd (sym (stays u.base u m b 2 (omega arith) p.0)) ∙ h);
      scb_apart = p.1;
      blocks_apart = q.0;
    })

-- ---- obeyed

module _ (d : Device) (m : List ℕ) (b : Offset) (bs : List Offset) (s : Starting d m b bs) where
  abbrev command : ℕ
  command = word_at m (of_scb d.units scb_command_at)

  abbrev obeyed : Attended
  obeyed = attend_by false d command m

  obeyed_unit : obeyed.outcome.device.units.cu ≡ cu.Waiting b
  unfolding attend_by obey_cuc code_of
  obeyed_unit = rw s.start (start_unit d.units.cu (offset_at m (of_scb d.units cbl_at)) s.idle ∙ ap cu.Waiting s.at)

  obeyed_free : is_holding obeyed.outcome.device.units.ru ≡ false
  unfolding attend_by obey_ruc
  obeyed_free = free_unit (code_of (ruc command)) _ d.units.ru s.free

  start_writes : (obey_cuc d.units command m).writes ≡ []
  unfolding obey_cuc code_of
  start_writes = rw s.start

  obeyed_writes : obeyed.writes ≡ settled_writes obeyed.outcome.device.units
  unfolding attend_by obey_ruc
  obeyed_writes =
      ap (λ (ws : List Write). (ws ++ (obey_ruc d.units command (apply (obey_cuc d.units command m).writes m)).writes)
      ++ settled_writes obeyed.outcome.device.units)
      start_writes
      ∙ ap (λ (ws : List Write). ws ++ settled_writes obeyed.outcome.device.units)
      (free_writes (code_of (ruc command)) d.units.base d.units.ru s.free)

  obeyed_at : At (length m) (IsTdr d.units.base m) d.units.base (of_scb d.units 0) (apply obeyed.writes m)
      obeyed.outcome.device.units.cu b bs
  unfolding attend_by
  obeyed_at =
      let u = obeyed.outcome.device.units in
      start_at u obeyed.writes m b bs u.cu obeyed_writes obeyed_unit s.scb_apart s.blocks_apart

-- ---- the world that it leaves

module _ (w : World) (b : Offset) (bs : List Offset) (s : Starting w.device w.memory b bs) where
  attended : attention w.device w.memory ≡ attend_by false w.device (command w.device w.memory b bs s) w.memory
  attended = attention_obeys w.device w.memory s.initialised s.unreset

  -- the world after an attention that came to a
  abbrev world_after : Attended → World
  world_after a = afterwards (writing w a.writes a.outcome)

  -- at once: the unit is at the first block, no frame is held, and the status of every block is as it was
  pub record Begins (v : World) : Type 0 where
    pub at : At (length w.memory) (IsTdr w.device.units.base w.memory) v.device.units.base (of_scb v.device.units 0)
        v.memory v.device.units.cu b bs
    pub free : is_holding v.device.units.ru ≡ false
    pub base : v.device.units.base ≡ w.device.units.base
    pub statuses : All (λ c. word_at v.memory (place w.device.units.base c 0) ≡ word_at w.memory (place w.device.units.base c 0)) bs

  obeyed_begins : Begins (world_after (attend_by false w.device (command w.device w.memory b bs s) w.memory))
  unfolding attend_by
  obeyed_begins =
      let u = (obeyed w.device w.memory b bs s).outcome.device.units in
      record {
        at = obeyed_at w.device w.memory b bs s;
        free = obeyed_free w.device w.memory b bs s;
        base = refl;
        statuses =
            rw (obeyed_writes w.device w.memory b bs s)
            (statuses_stay w.device.units.base u w.memory bs s.scb_apart.1);
      }

  pub list_begins : Begins (afterwards (attention_of w))
  unfolding attention_of
  list_begins = subst (λ (a : Attended). Begins (world_after a)) (sym attended) obeyed_begins
