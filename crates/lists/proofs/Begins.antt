-- A begin of the command unit alone leads on in its list. Assumes nothing.
use mathlib.Core.Path.{◌≡◌, refl, sym, ap, subst}
use mathlib.Core.Bool.{Bool, true, false}
use mathlib.Core.List.{List, [], ◌∷◌}
use Prim.Native.Nat.{ℕ, suc, ◌*◌, ◌<◌}
use native.Mathlib.Omega.{arith}
use lib.Dec.{eqb}
use lib.ListN.{length}
use Rattle.memory.specs.Memory.{word_at, word_to, apply}
use Rattle.memory.specs.Address.{place, offset_at, is_none}
use Rattle.memory.specs.declared.Offset.{Offset}
use Rattle.memory.specs.declared.RealAddress.{RealAddress}
use Rattle.device.specs.Header.{unbuffered}
use Rattle.device.specs.Limits.{most_buffers}
use Rattle.device.specs.Numbers.{transmit}
use Rattle.device.specs.declared.Begun.{Begun}
use Rattle.device.specs.declared.Cu.{Cu}
use Rattle.device.specs.declared.Cu.TheVariants as cu
use Rattle.actions.specs.Block.{block_status_at, block_command_at, argument_at}
use Rattle.actions.specs.Setup.{Setup}
use Rattle.command.specs.Begin.{cmd, begun_by, to_first, to_begun, begin}
use Rattle.command.specs.Part.{Part}
use Rattle.command.specs.Service.{service}
use Rattle.progress.specs.Same.{range, Same}
use Rattle.progress.proofs.Same.{Sub, sub-nil, in_left, in_right, same_apply, same_field}
use Rattle.lists.specs.Uses.{block, from, word_of, header_bytes, header_length_of, marked, uses, chain_bytes, first_bytes, list_setup, list_bytes}
use Rattle.lists.specs.Unit.{Tag, begun, begin_reads, reads_by}
use Rattle.lists.proofs.Laws.{begun_setup, begun_base}
use Rattle.lists.proofs.Blocks.{sub_refl, sub-append, status_in, command_in, own_in, word_targets, status_result, later}
use Rattle.lists.proofs.Stands.{begun_todo, todo, rank, misses_nil, Begins, Now, Lies, Leads, part_with}

-- ---- the unit that a begin leaves

-- by its kind, and by whether its first descriptor is none
first_rank : (none : Bool) (filled : ℕ) (b : Begun) (o : Offset) (k : ℕ) → rank (to_first none filled b o) (suc k) < 66 * suc k
first_rank true filled b o k = omega arith
first_rank false filled b o k = omega arith

begun_rank : (t : Bool) (p : Part) (b : Begun) (word : ℕ) (m : List ℕ) (k : ℕ) → rank (to_begun t p b word m).unit (suc k) < 66 * suc k
begun_rank true p b word m k =
    let first = offset_at m (place p.base b.block argument_at) in first_rank (is_none first) (unbuffered p.setup.settings.form) b first k
begun_rank false p b word m k = omega arith

module _ (base : RealAddress) (m₀ : List ℕ) where
  first_todo : (none : Bool) (filled : ℕ) (b : Begun) (o : Offset) (c : ℕ) (cs : List ℕ)
      → todo base m₀ (to_first none filled b o) (c ∷ cs) ≡ begun_todo base m₀ c cs
  first_todo true filled b o c cs = refl
  first_todo false filled b o c cs = refl

  begun_todo_lem : (t : Bool) (p : Part) (b : Begun) (word : ℕ) (m : List ℕ) (c : ℕ) (cs : List ℕ)
      → todo base m₀ (to_begun t p b word m).unit (c ∷ cs) ≡ begun_todo base m₀ c cs
  begun_todo_lem true p b word m c cs =
      let first = offset_at m (place p.base b.block argument_at) in first_todo (is_none first) (unbuffered p.setup.settings.form) b first c cs
  begun_todo_lem false p b word m c cs = refl

  first_now : (none : Bool) (s : Setup) (b : Begun) (o : Offset) (c : ℕ) (q : List ℕ) → Begins base m₀ true s b c q
      → Sub (first_bytes none (chain_bytes most_buffers base (marked base m₀ c) o (header_length_of s))) (uses base s m₀ c)
      → Now base m₀ (to_first none (unbuffered s.settings.form) b o) s c q
  unfolding header_length_of
  first_now true s b o c q i h = i
  first_now false s b o c q i h = (i, (63, refl, h))

  -- ---- what a Transmit uses: the offset at +6, the header that its block has, its chain

  chain : Setup → ℕ → List ℕ
  chain s c =
      let first = offset_at m₀ (place base (block c) argument_at) in
      first_bytes (is_none first) (chain_bytes most_buffers base (marked base m₀ c) first (header_length_of s))

  argument_in : (s : Setup) (c : ℕ) → eqb (cmd (word_of base m₀ c)) transmit ≡ true → Sub (from base c argument_at 2) (uses base s m₀ c)
  unfolding range
  argument_in s c t a i = own_in base s m₀ c true t a (in_left _ i)

  header_in_lem : (s : Setup) (c : ℕ) → eqb (cmd (word_of base m₀ c)) transmit ≡ true → Sub (header_bytes base s c) (uses base s m₀ c)
  unfolding range
  header_in_lem s c t a i = own_in base s m₀ c true t a (in_right (from base c argument_at 2) (in_left _ i))

  chain_in : (s : Setup) (c : ℕ) → eqb (cmd (word_of base m₀ c)) transmit ≡ true → Sub (chain s c) (uses base s m₀ c)
  unfolding chain range
  chain_in s c t a i = own_in base s m₀ c true t a (in_right (from base c argument_at 2) (in_right (header_bytes base s c) i))

  -- ---- a begin

  -- the command word that it reads is that of the start
  pub word_same : (s : Setup) (c : ℕ) (q : List ℕ) → Same (uses base s m₀ c) q m₀ → word_of base q c ≡ word_of base m₀ c
  word_same s c q h = same_field 2 (place base (block c) block_command_at) (command_in base s m₀ c) h

  begins_at : (t : Bool) (s : Setup) (c : ℕ) (q : List ℕ) → eqb (cmd (word_of base m₀ c)) transmit ≡ t → Same (uses base s m₀ c) q m₀
      → Begins base m₀ t s (begun_by (block c) (word_of base m₀ c)) c (apply (word_to (place base (block c) block_status_at) 0x4000 ∷ []) q)
  unfolding marked
  begins_at t s c q k h =
      record { begun = refl; kind = k; same = same_apply (uses base s m₀ c) (word_to (place base (block c) block_status_at) 0x4000 ∷ []) q m₀ h }

  begun_now : (t : Bool) (s : Setup) (out : List ℕ) (c : ℕ) (q p : List ℕ) → eqb (cmd (word_of base m₀ c)) transmit ≡ t
      → Same (uses base s m₀ c) q m₀ → Begins base m₀ t s (begun_by (block c) (word_of base m₀ c)) c p
      → Now base m₀ (to_begun t (part_with base (cu.Waiting (block c)) s out) (begun_by (block c) (word_of base m₀ c)) (word_of base m₀ c) q).unit s c p
  unfolding begun_by chain
  begun_now true s out c q p t h i =
      let e : word_at q (place base (block c) argument_at) ≡ word_at m₀ (place base (block c) argument_at) =
      same_field 2 (place base (block c) argument_at) (argument_in s c t) h in
      let first = offset_at m₀ (place base (block c) argument_at) in
      rw e (first_now (is_none first) s (begun_by (block c) (word_of base m₀ c)) first c p i (chain_in s c t))
  begun_now false s out c q p t h i = (i, refl)

  pub at_begin : (s : Setup) (out : List ℕ) (c : ℕ) (cs q : List ℕ) (r : ℕ) → Same (uses base s m₀ c) q m₀ → Lies base m₀ s c cs q
      → Leads base m₀ (c ∷ cs) (part_with base (cu.Waiting (block c)) s out) q r
  unfolding service begin
  at_begin s out c cs q r h l =
      let p = part_with base (cu.Waiting (block c)) s out in
      let w : ℕ = word_of base q c in
      let t : Bool = eqb (cmd w) transmit in
      let b : Begun = begun_by (block c) w in
      let e : w ≡ word_of base m₀ c = word_same s c q h in
      let k : s ≡ (to_begun t p b w q).setup = sym (begun_setup t p b w q) in
      let ws = word_to (place base (block c) block_status_at) 0x4000 ∷ [] in
      let now : Now base m₀ (to_begun t p b w q).unit s c (apply ws q) =
      rw e (begun_now (eqb (cmd (word_of base m₀ c)) transmit) s out c q (apply ws q) refl h
      (begins_at (eqb (cmd (word_of base m₀ c)) transmit) s c q refl h)) in
      let lies : Lies base m₀ s c cs (apply ws q) =
      record {
        listed = l.listed;
        apart = l.apart;
        later =
            later base s m₀ c ws cs q (λ a i. status_result base m₀ c a (word_targets (place base (block c) block_status_at) 0x4000 a i))
            h.size l.apart l.later;
      } in
      record {
        left = c ∷ cs;
        stands = (
          begun_base t p b w q,
          subst (λ (x : Setup). Now base m₀ (to_begun t p b w q).unit x c (apply ws q)) k now,
          subst (λ (x : Setup). Lies base m₀ x c cs (apply ws q)) k lies,
        );
        part = subst (λ (x : Setup). Sub (list_bytes base x m₀ (c ∷ cs)) (list_bytes base s m₀ (c ∷ cs))) k (sub_refl (list_bytes base s m₀ (c ∷ cs)));
        setup = ap (λ (x : Setup). list_setup base x m₀ (c ∷ cs)) (begun_setup t p b w q);
        noted = ap (λ (x : List Tag). begun c ∷ x) (begun_todo_lem t p b w q c cs);
        fewer = begun_rank t p b w q (length cs);
        writes = λ a i. in_left _ (status_in base s m₀ c a (word_targets (place base (block c) block_status_at) 0x4000 a i));
        words = sub-nil (list_bytes base s m₀ (c ∷ cs));
        missed = misses_nil (length m₀) (list_bytes base (to_begun t p b w q).setup m₀ (c ∷ cs));
      }

  -- and it reads bytes of its command alone
  begin_in_lem : (t : Bool) (unit : Cu) (s : Setup) (out : List ℕ) (c : ℕ) → eqb (cmd (word_of base m₀ c)) transmit ≡ t
      → Sub (begin_reads t (part_with base unit s out) c) (uses base s m₀ c)
  begin_in_lem true unit s out c t = sub-append (from base c argument_at 2) (argument_in s c t) (header_in_lem s c t)
  begin_in_lem false unit s out c t = sub-nil (uses base s m₀ c)

  pub begin_reads_lem : (unit : Cu) (s : Setup) (out : List ℕ) (c : ℕ) (q : List ℕ) → Same (uses base s m₀ c) q m₀
      → Sub (reads_by (cu.Waiting (block c)) (part_with base unit s out) q) (uses base s m₀ c)
  begin_reads_lem unit s out c q h =
      rw (word_same s c q h)
      (sub-append (from base c block_command_at 2) (command_in base s m₀ c) (begin_in_lem (eqb (cmd (word_of base m₀ c)) transmit) unit s out c refl))
