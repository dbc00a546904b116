-- An end of the command unit alone leads on in its list: to the next block, or out of Active after the last. Assumes nothing.
use mathlib.Core.Path.{◌≡◌, refl, sym, ap, ◌∙◌, subst}
use mathlib.Core.Logic.{◌≢◌}
use mathlib.Core.Bool.{Bool, true, false, cond, ◌||◌, true≢false, false≢true}
use mathlib.Core.List.{List, [], ◌∷◌, ◌++◌}
use Prim.Native.Nat.{ℕ, ◌+◌, ◌*◌, ◌%◌, ◌≤◌, ◌<◌}
use native.Mathlib.Omega.{arith}
use lib.Dec.{eqb}
use lib.ListN.{length}
use Rattle.memory.specs.Memory.{word_at, Write, word_to, apply}
use Rattle.memory.specs.Address.{place}
use Rattle.memory.specs.declared.Offset.{Offset}
use Rattle.memory.specs.declared.RealAddress.{RealAddress}
use Rattle.scb.specs.Words.{bit}
use Rattle.device.specs.Numbers.{action_of, action_number}
use Rattle.device.specs.State.{cu_state, is_active}
use Rattle.device.specs.declared.Action.TheVariants as action
use Rattle.device.specs.declared.Cu.{Cu}
use Rattle.device.specs.declared.Cu.TheVariants as cu
use Rattle.actions.specs.Actions.{Acted, act}
use Rattle.actions.specs.Block.{block_status_at, block_link_at, argument_at}
use Rattle.actions.specs.Setup.{Setup}
use Rattle.command.specs.Begin.{cmd, begun_by}
use Rattle.command.specs.End.{after_end, raised_by, next_after}
use Rattle.progress.specs.Same.{targets, Same}
use Rattle.progress.proofs.Same.{Sub, sub-nil, each_nil, in_left, in_right, same_trans, same_part, same_field, apart_writes}
use Rattle.lists.specs.Uses.{block, from, word_of, marked, uses, result_bytes, tdr_bytes, setup_after, list_setup, list_bytes, NoClash, stops}
use Rattle.lists.specs.Unit.{done}
use Rattle.lists.proofs.Blocks.{sub_refl, sub-append, each_append, word_targets, targets_append, status_in, link_in, status_result, tdr_result, result_in, link_apart, marked_same, marked_size, later, rest_in}
use Rattle.lists.proofs.Stands.{begun_todo, todo, rank, Misses, Lies, Stands, part_with}

-- ---- what an action writes besides the status: TDR its word, and no other anything

act_writes : (b0 b1 b2 b3 b5 b6 : Bool) (base : RealAddress) (s : Setup) (c : ℕ) (m : List ℕ)
    → Sub (targets (act (cond b0 action.Nop
    (cond b1 action.IaSetup
    (cond b2 action.Configure
    (cond b3 action.McSetup
    (cond b5 action.Tdr
    (cond b6 action.Dump action.Diagnose)))))) base s (block c) m).writes) (tdr_bytes b5 base c)
unfolding act
act_writes true b1 b2 b3 b5 b6 base s c m = sub-nil (tdr_bytes b5 base c)
act_writes false true b2 b3 b5 b6 base s c m = sub-nil (tdr_bytes b5 base c)
act_writes false false true b3 b5 b6 base s c m = sub-nil (tdr_bytes b5 base c)
act_writes false false false true b5 b6 base s c m = sub-nil (tdr_bytes b5 base c)
act_writes false false false false true b6 base s c m = word_targets (place base (block c) argument_at) 0x8000
act_writes false false false false false true base s c m = sub-nil []
act_writes false false false false false false base s c m = sub-nil []

pub acted_writes : (n : ℕ) (base : RealAddress) (s : Setup) (c : ℕ) (m : List ℕ)
    → Sub (targets (act (action_of n) base s (block c) m).writes) (tdr_bytes (eqb n (action_number action.Tdr)) base c)
unfolding action_of
acted_writes n base s c m = act_writes (eqb n 0) (eqb n 1) (eqb n 2) (eqb n 3) (eqb n 5) (eqb n 6) base s c m

-- ---- where an end leads: EL or S, and no SUSPEND waits

end_stops : (el s : Bool) (link : Offset) → (el || s) ≡ true → is_active (cu_state (after_end el (s || false) link)) ≡ false
end_stops true s link h = refl
end_stops false true link h = refl
end_stops false false link h = absurd (false≢true h)

end_goes : (el s : Bool) (link : Offset) → (el || s) ≡ false → after_end el (s || false) link ≡ cu.Waiting link
end_goes true s link h = absurd (true≢false h)
end_goes false true link h = absurd (true≢false h)
end_goes false false link h = refl

-- out of Active nothing is left
rank_out : (unit : Cu) → is_active (cu_state unit) ≡ false → rank unit 0 ≡ 0
rank_out cu.Idle h = refl
rank_out (cu.Suspended o) h = refl
rank_out (cu.Waiting o) h = refl
rank_out (cu.Acting b a) h = absurd (true≢false h)
rank_out (cu.Sending b w) h = absurd (true≢false h)
rank_out (cu.Ending b n) h = absurd (true≢false h)
rank_out (cu.Failing b) h = absurd (true≢false h)

module _ (base : RealAddress) (m₀ : List ℕ) (big : 8192 ≤ length m₀) where
  abbrev tdr_of : ℕ → List ℕ
  tdr_of c = tdr_bytes (eqb (cmd (word_of base m₀ c)) (action_number action.Tdr)) base c

  -- the results of an end are results of its command
  end_writes : (c : ℕ) (ws : List Write) (status : ℕ) → Sub (targets ws) (tdr_of c)
      → Sub (targets (ws ++ (word_to (place base (block c) block_status_at) status ∷ []))) (result_bytes base m₀ c)
  end_writes c ws status h =
      targets_append ws (word_to (place base (block c) block_status_at) status ∷ []) (λ a i. tdr_result base m₀ c a (h a i))
      (λ a i. status_result base m₀ c a (word_targets (place base (block c) block_status_at) status a i))

  pub end_in_lem : (s : Setup) (c : ℕ) (cs : List ℕ) (ws : List Write) (status : ℕ) → Sub (targets ws) (tdr_of c)
      → Sub (targets (ws ++ (word_to (place base (block c) block_status_at) status ∷ []))) (list_bytes base s m₀ (c ∷ cs))
  end_in_lem s c cs ws status h a i = in_left _ (result_in base s m₀ c a (end_writes c ws status h a i))

  -- the link, read after them, is that of the start
  end_link : (s : Setup) (c : ℕ) (ws : List Write) (status : ℕ) (q : List ℕ) → Sub (targets ws) (tdr_of c) → Same (uses base s m₀ c) q (marked base m₀ c)
      → word_at (apply (ws ++ (word_to (place base (block c) block_status_at) status ∷ [])) q) (place base (block c) block_link_at)
      ≡ word_at m₀ (place base (block c) block_link_at)
  end_link s c ws status q h k =
      let last = word_to (place base (block c) block_status_at) status ∷ [] in
      let n : length q ≡ length m₀ = k.size ∙ marked_size base m₀ c in
      let a : Same (from base c block_link_at 2) (apply (ws ++ last) q) q =
      apart_writes (from base c block_link_at 2) (ws ++ last) q
      (λ x y i j. link_apart (length q) (rw n big) base m₀ c x y i (end_writes c ws status h y j)) in
      same_field 2 (place base (block c) block_link_at) (sub_refl (from base c block_link_at 2))
      (same_trans a (same_trans (same_part (link_in base s m₀ c) k) (marked_same base m₀ big c block_link_at 2 (omega arith) (omega arith))))

  -- ---- the unit that an end leaves

  -- the end of the command at c: its results, and the unit
  abbrev writes_at : ℕ → Acted → List Write
  writes_at c a = a.writes ++ (word_to (place base (block c) block_status_at) a.status ∷ [])

  abbrev unit_after : ℕ → Acted → List ℕ → Cu
  unit_after c a q = next_after base (begun_by (block c) (word_of base m₀ c)) (apply (writes_at c a) q)

  -- the last block's end leaves Active
  last_stops : (c : ℕ) (a : Acted) (q : List ℕ) → stops (word_of base m₀ c) ≡ true → is_active (cu_state (unit_after c a q)) ≡ false
  unfolding next_after begun_by
  last_stops c a q h = end_stops (bit (word_of base m₀ c) 15) (bit (word_of base m₀ c) 14) _ h

  -- any other block's end leads to the next
  end_next : (s : Setup) (c d : ℕ) (a : Acted) (q : List ℕ) → stops (word_of base m₀ c) ≡ false → word_at m₀ (place base (block c) block_link_at) ≡ d
      → Sub (targets a.writes) (tdr_of c) → Same (uses base s m₀ c) q (marked base m₀ c) → unit_after c a q ≡ cu.Waiting (block d)
  unfolding next_after begun_by
  end_next s c d a q h e t k =
      end_goes (bit (word_of base m₀ c) 15) (bit (word_of base m₀ c) 14) _ h
      ∙ ap (λ (x : ℕ). cu.Waiting (block x)) (end_link s c a.writes a.status q t k ∙ e)

  -- what follows of it, whatever the action was: s was in force, x is left
  pub record Goes (s x : Setup) (unit : Cu) (c : ℕ) (cs : List ℕ) (q : List ℕ) : Type 0 where
    pub stands : (out : List ℕ) → Stands base m₀ cs (part_with base unit x out) q
    pub part : Sub (list_bytes base x m₀ cs) (list_bytes base s m₀ (c ∷ cs))
    pub setup : list_setup base x m₀ cs ≡ list_setup base s m₀ (c ∷ cs)
    pub noted : done c (raised_by (begun_by (block c) (word_of base m₀ c)) unit) ∷ todo base m₀ unit cs ≡ begun_todo base m₀ c cs
    pub rank : rank unit (length cs) < 1 + 66 * length cs
    pub words : Sub (from base c block_status_at 2 ++ []) (list_bytes base s m₀ (c ∷ cs))
    pub missed : Misses (length m₀) (list_bytes base x m₀ cs) (from base c block_status_at 2 ++ [])

  -- its status word is a byte of the list, and of no command behind it
  status_listed : (s : Setup) (c : ℕ) (cs : List ℕ) → Sub (from base c block_status_at 2 ++ []) (list_bytes base s m₀ (c ∷ cs))
  status_listed s c cs =
      sub-append (from base c block_status_at 2) (λ a i. in_left _ (status_in base s m₀ c a i)) (sub-nil (list_bytes base s m₀ (c ∷ cs)))

  status_missed : (s x : Setup) (c : ℕ) (cs : List ℕ) → x ≡ setup_after base s m₀ c → NoClash (length m₀) base s m₀ (c ∷ cs)
      → Misses (length m₀) (list_bytes base x m₀ cs) (from base c block_status_at 2 ++ [])
  status_missed s x c cs u nc =
      rw u
      (λ a b i. each_append (λ z. a % length m₀ ≢ z % length m₀) (from base c block_status_at 2)
      (λ z j. nc.0 a z i (status_result base m₀ c z j)) (each_nil (λ z. a % length m₀ ≢ z % length m₀)) b)

  -- the next command, and those behind it, under the setup that c leaves
  next_stands : (s : Setup) (c d : ℕ) (ds q : List ℕ) (out : List ℕ) → Lies base m₀ s c (d ∷ ds) q
      → Stands base m₀ (d ∷ ds) (part_with base (cu.Waiting (block d)) (setup_after base s m₀ c) out) q
  next_stands s c d ds q out l =
      let x : Setup = setup_after base s m₀ c in
      let y : Setup = setup_after base x m₀ d in (
        refl,
        (refl, same_part (λ a i. in_left (list_bytes base y m₀ ds) i) l.later),
        record { listed = l.listed.2; apart = l.apart.1; later = same_part (λ a i. in_right (uses base x m₀ d) i) l.later },
      )

  pub at_end_lem : (s : Setup) (c : ℕ) (cs : List ℕ) (a : Acted) (q : List ℕ) → a.setup ≡ setup_after base s m₀ c → Sub (targets a.writes) (tdr_of c)
      → Same (uses base s m₀ c) q (marked base m₀ c) → Lies base m₀ s c cs q → Goes s a.setup (unit_after c a q) c cs (apply (writes_at c a) q)
  unfolding begun_by
  at_end_lem s c [] a q u t k l =
      let h : is_active (cu_state (unit_after c a q)) ≡ false = last_stops c a q l.listed in
      record {
        stands = λ out. h;
        part = rest_in base s a.setup m₀ c [] u;
        setup = u;
        noted = rw h;
        rank = rw (rank_out (unit_after c a q) h) (omega arith);
        words = status_listed s c [];
        missed = status_missed s a.setup c [] u l.apart;
      }
  at_end_lem s c (d ∷ ds) a q u t k l =
      let e : unit_after c a q ≡ cu.Waiting (block d) = end_next s c d a q l.listed.0 l.listed.1 t k in
      let p : List ℕ = apply (writes_at c a) q in
      let i : Lies base m₀ s c (d ∷ ds) p =
      record {
        listed = l.listed;
        apart = l.apart;
        later =
            later base s m₀ c (writes_at c a) (d ∷ ds) q (end_writes c a.writes a.status t) (k.size ∙ marked_size base m₀ c)
            l.apart l.later;
      } in
      record {
        stands = λ out.
            subst (λ (y : Setup). Stands base m₀ (d ∷ ds) (part_with base (unit_after c a q) y out) p) (sym u)
            (subst (λ (z : Cu). Stands base m₀ (d ∷ ds) (part_with base z (setup_after base s m₀ c) out) p) (sym e) (next_stands s c d ds p out i));
        part = rest_in base s a.setup m₀ c (d ∷ ds) u;
        setup = ap (λ (x : Setup). list_setup base x m₀ (d ∷ ds)) u;
        noted = rw e;
        rank = rw e (omega arith);
        words = status_listed s c (d ∷ ds);
        missed = status_missed s a.setup c (d ∷ ds) u l.apart;
      }
