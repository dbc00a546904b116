-- The three ends of the command unit alone, of an action, of a frame gathered and of one that fails: each leads on in its list, and reads bytes
-- of its command alone. Assumes nothing.
use mathlib.Core.Path.{◌≡◌, refl, sym, ap, subst}
use mathlib.Core.Bool.{true, false}
use mathlib.Core.List.{List, ◌∷◌}
use Prim.Native.Nat.{ℕ, ◌+◌, ◌≤◌, ◌<◌}
use native.Mathlib.Omega.{arith}
use lib.Dec.{eqb}
use lib.ListN.{length}
use Rattle.memory.specs.Memory.{byte_at, word_at}
use Rattle.memory.specs.Address.{place}
use Rattle.memory.specs.declared.RealAddress.{RealAddress}
use Rattle.device.specs.Numbers.{transmit, action_of}
use Rattle.device.specs.declared.Action.{Action}
use Rattle.device.specs.declared.Action.TheVariants as action
use Rattle.device.specs.declared.Begun.{Begun}
use Rattle.device.specs.declared.Cu.{Cu}
use Rattle.device.specs.declared.Cu.TheVariants as cu
use Rattle.actions.specs.Actions.{Acted, act, sent, not_sent, clamped, byte_of}
use Rattle.actions.specs.Block.{argument_at}
use Rattle.actions.specs.Setup.{Setup}
use Rattle.command.specs.Begin.{cmd, begun_by}
use Rattle.command.specs.End.{end}
use Rattle.command.specs.Service.{service}
use Rattle.progress.specs.Same.{Same}
use Rattle.progress.proofs.Same.{Sub, sub-nil, in_left, same_refl, same_trans, same_part, same_field}
use Rattle.lists.specs.Uses.{block, from, word_of, marked, uses, argument_bytes, setup_after}
use Rattle.lists.specs.Unit.{end_reads, reads_by}
use Rattle.lists.proofs.Laws.{act_local}
use Rattle.lists.proofs.Blocks.{sub-append, range_first, link_in, own_in, marked_same}
use Rattle.lists.proofs.Stands.{Begins, Lies, Leads, part_with}
use Rattle.lists.proofs.Ends.{acted_writes, end_in_lem, at_end_lem}

module _ (base : RealAddress) (m₀ : List ℕ) (big : 8192 ≤ length m₀) where
  -- ---- what an action reads: what its kind and its count make it read

  -- a field behind the status word is that of the start
  behind_same : (s : Setup) (c f n : ℕ) (q : List ℕ) → 2 ≤ f → f + n ≤ 8192 → Sub (from base c f n) (uses base s m₀ c)
      → Same (uses base s m₀ c) q (marked base m₀ c) → Same (from base c f n) q m₀
  behind_same s c f n q h t k a = same_trans (same_part k a) (marked_same base m₀ big c f n h t)

  -- the count that an action reads is that of the start
  argument_same : (a : Action) (s : Setup) (c : ℕ) (q : List ℕ) → Sub (argument_bytes a base s m₀ c) (uses base s m₀ c)
      → Same (uses base s m₀ c) q (marked base m₀ c) → argument_bytes a base s q c ≡ argument_bytes a base s m₀ c
  argument_same action.Nop s c q k h = refl
  argument_same action.IaSetup s c q k h = refl
  argument_same action.Configure s c q k h =
      let n : ℕ = clamped (byte_of base (block c) m₀ 0) in
      let l : 0 < n = omega arith in
      let t : n ≤ 12 = omega arith in
      let at : ℕ = place base (block c) argument_at in
      let b : byte_at q at ≡ byte_at m₀ at = (behind_same s c argument_at n q (omega arith) (omega arith) k h).bytes at (range_first at n l) in
      rw b
  argument_same action.McSetup s c q k h =
      let at : ℕ = place base (block c) argument_at in
      let w : word_at q at ≡ word_at m₀ at =
      same_field 2 at (λ x i. i) (behind_same s c argument_at 2 q (omega arith) (omega arith) (λ x i. k x (in_left _ i)) h) in
      rw w
  argument_same action.Tdr s c q k h = refl
  argument_same action.Dump s c q k h = refl
  argument_same action.Diagnose s c q k h = refl

  pub acting_reads : (unit : Cu) (s : Setup) (out : List ℕ) (c : ℕ) (q : List ℕ) (b : Begun) (a : Action) → Begins base m₀ false s b c q
      → a ≡ action_of (cmd (word_of base m₀ c)) → Sub (reads_by (cu.Acting b a) (part_with base unit s out) q) (uses base s m₀ c)
  unfolding begun_by
  acting_reads unit s out c q b a i e =
      let k : Action = action_of (cmd (word_of base m₀ c)) in
      let u : Sub (argument_bytes k base s m₀ c) (uses base s m₀ c) = own_in base s m₀ c false i.kind in
      rw (e, i.begun, argument_same k s c q u i.same) (sub-append (argument_bytes k base s m₀ c) u (link_in base s m₀ c))

  -- a Transmit's end reads the link
  pub end_reads_lem : (unit : Cu) (s : Setup) (out : List ℕ) (c : ℕ) (q : List ℕ) (b : Begun) → Begins base m₀ true s b c q
      → Sub (end_reads (part_with base unit s out) b.block.0) (uses base s m₀ c)
  unfolding begun_by
  end_reads_lem unit s out c q b i = rw i.begun (link_in base s m₀ c)

  -- ---- the setup that the command unit alone leaves is the one by which the bytes of later commands are said

  pub acted_setup : (s : Setup) (c : ℕ) (q : List ℕ) → eqb (cmd (word_of base m₀ c)) transmit ≡ false → Same (uses base s m₀ c) q (marked base m₀ c)
      → (act (action_of (cmd (word_of base m₀ c))) base s (block c) q).setup ≡ setup_after base s m₀ c
  unfolding setup_after
  acted_setup s c q t h =
      let k : Action = action_of (cmd (word_of base m₀ c)) in
      let p : List ℕ = marked base m₀ c in
      let u : Sub (argument_bytes k base s m₀ c) (uses base s m₀ c) = own_in base s m₀ c false t in
      let e : argument_bytes k base s p c ≡ argument_bytes k base s m₀ c = argument_same k s c p u (same_refl (uses base s m₀ c) p) in
      rw t (ap (λ (x : Acted). x.setup) (act_local k base s (block c) q p (rw e (same_part u h))))

  pub sent_setup : (s : Setup) (c : ℕ) → eqb (cmd (word_of base m₀ c)) transmit ≡ true → s ≡ setup_after base s m₀ c
  unfolding setup_after
  sent_setup s c t = rw t

  -- ---- each end leads on

  abbrev begun_at : ℕ → Begun
  begun_at c = begun_by (block c) (word_of base m₀ c)

  acting : (s : Setup) (out : List ℕ) (c : ℕ) (cs q : List ℕ) (r : ℕ) → eqb (cmd (word_of base m₀ c)) transmit ≡ false
      → Same (uses base s m₀ c) q (marked base m₀ c) → Lies base m₀ s c cs q
      → Leads base m₀ (c ∷ cs) (part_with base (cu.Acting (begun_at c) (action_of (cmd (word_of base m₀ c)))) s out) q r
  unfolding service end begun_by
  acting s out c cs q r t h l =
      let a : Acted = act (action_of (cmd (word_of base m₀ c))) base s (block c) q in
      let g = at_end_lem base m₀ big s c cs a q (acted_setup s c q t h) (acted_writes (cmd (word_of base m₀ c)) base s c q) h l in
      record {
        left = cs;
        stands = g.stands out;
        part = g.part;
        setup = g.setup;
        noted = g.noted;
        fewer = g.rank;
        writes = end_in_lem base m₀ big s c cs a.writes a.status (acted_writes (cmd (word_of base m₀ c)) base s c q);
        words = g.words;
        missed = g.missed;
      }

  ending : (s : Setup) (out : List ℕ) (c : ℕ) (cs q : List ℕ) (r filled : ℕ) → eqb (cmd (word_of base m₀ c)) transmit ≡ true
      → Same (uses base s m₀ c) q (marked base m₀ c) → Lies base m₀ s c cs q
      → Leads base m₀ (c ∷ cs) (part_with base (cu.Ending (begun_at c) filled) s out) q r
  unfolding service end begun_by sent
  ending s out c cs q r filled t h l =
      let a : Acted = sent s filled r in
      let g = at_end_lem base m₀ big s c cs a q (sent_setup s c t) (sub-nil _) h l in
      record {
        left = cs;
        stands = g.stands out;
        part = g.part;
        setup = g.setup;
        noted = g.noted;
        fewer = g.rank;
        writes = end_in_lem base m₀ big s c cs a.writes a.status (sub-nil _);
        words = g.words;
        missed = g.missed;
      }

  failing : (s : Setup) (out : List ℕ) (c : ℕ) (cs q : List ℕ) (r : ℕ) → eqb (cmd (word_of base m₀ c)) transmit ≡ true
      → Same (uses base s m₀ c) q (marked base m₀ c) → Lies base m₀ s c cs q
      → Leads base m₀ (c ∷ cs) (part_with base (cu.Failing (begun_at c)) s out) q r
  unfolding service end begun_by
  failing s out c cs q r t h l =
      let a : Acted = not_sent s in
      let g = at_end_lem base m₀ big s c cs a q (sent_setup s c t) (sub-nil _) h l in
      record {
        left = cs;
        stands = g.stands out;
        part = g.part;
        setup = g.setup;
        noted = g.noted;
        fewer = g.rank;
        writes = end_in_lem base m₀ big s c cs a.writes a.status (sub-nil _);
        words = g.words;
        missed = g.missed;
      }

  pub at_acting : (s : Setup) (out : List ℕ) (c : ℕ) (cs q : List ℕ) (r : ℕ) (b : Begun) (a : Action) → Begins base m₀ false s b c q
      → a ≡ action_of (cmd (word_of base m₀ c)) → Lies base m₀ s c cs q → Leads base m₀ (c ∷ cs) (part_with base (cu.Acting b a) s out) q r
  at_acting s out c cs q r b a i e l =
      subst (λ (x : Begun). Leads base m₀ (c ∷ cs) (part_with base (cu.Acting x a) s out) q r) (sym i.begun)
      (subst (λ (x : Action). Leads base m₀ (c ∷ cs) (part_with base (cu.Acting (begun_at c) x) s out) q r) (sym e)
      (acting s out c cs q r i.kind i.same l))

  pub at_ending : (s : Setup) (out : List ℕ) (c : ℕ) (cs q : List ℕ) (r : ℕ) (b : Begun) (filled : ℕ) → Begins base m₀ true s b c q
      → Lies base m₀ s c cs q → Leads base m₀ (c ∷ cs) (part_with base (cu.Ending b filled) s out) q r
  at_ending s out c cs q r b filled i l =
      subst (λ (x : Begun). Leads base m₀ (c ∷ cs) (part_with base (cu.Ending x filled) s out) q r) (sym i.begun)
      (ending s out c cs q r filled i.kind i.same l)

  pub at_failing : (s : Setup) (out : List ℕ) (c : ℕ) (cs q : List ℕ) (r : ℕ) (b : Begun) → Begins base m₀ true s b c q
      → Lies base m₀ s c cs q → Leads base m₀ (c ∷ cs) (part_with base (cu.Failing b) s out) q r
  at_failing s out c cs q r b i l =
      subst (λ (x : Begun). Leads base m₀ (c ∷ cs) (part_with base (cu.Failing x) s out) q r) (sym i.begun)
      (failing s out c cs q r i.kind i.same l)
