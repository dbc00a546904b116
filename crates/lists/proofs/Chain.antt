-- A buffer of the command unit alone leads on in its list: every descriptor counts. Assumes nothing.
use mathlib.Core.Path.{◌≡◌, refl}
use mathlib.Core.Bool.{Bool, true, false}
use mathlib.Core.List.{List, [], ◌∷◌}
use Prim.Native.Nat.{ℕ, zero, suc, ◌+◌, ◌-◌, ◌*◌, ◌<◌}
use native.Mathlib.Omega.{arith}
use borrow.Author.Tests.{leb-false}
use lib.Dec.{leb}
use lib.ListN.{length}
use Rattle.memory.specs.Address.{is_none}
use Rattle.memory.specs.declared.Offset.{Offset}
use Rattle.memory.specs.declared.RealAddress.{RealAddress}
use Rattle.device.specs.Limits.{most_buffers}
use Rattle.device.specs.declared.Begun.{Begun}
use Rattle.device.specs.declared.Cu.{Cu}
use Rattle.device.specs.declared.Cu.TheVariants as cu
use Rattle.device.specs.declared.Walk.{Walk}
use Rattle.actions.specs.Setup.{Setup}
use Rattle.command.specs.Buffer.{descriptor_at, past, is_last, after_buffer, fits, buffer}
use Rattle.command.specs.Service.{service}
use Rattle.progress.specs.Same.{range, Same}
use Rattle.progress.proofs.Same.{Sub, sub-nil, in_left, in_right, same_part}
use Rattle.lists.specs.Uses.{marked, uses, descriptor_bytes, behind, chain_bytes, list_bytes}
use Rattle.lists.specs.Unit.{data_reads, reads_by}
use Rattle.lists.proofs.Laws.{descriptor_local}
use Rattle.lists.proofs.Blocks.{sub_refl, sub-append}
use Rattle.lists.proofs.Stands.{begun_todo, todo, rank, misses_nil, Begins, Walks, Now, Lies, Leads, part_with}

-- ---- the unit that a buffer leaves, by its tests

-- with u descriptors before it, which leave one at least
next_rank : (f e n l : Bool) (b : Begun) (w : Walk) (u j k : ℕ) → w.used ≡ u + 1 → u + suc j ≡ most_buffers
    → rank (after_buffer f e n l b w) (suc k) < 65 - u + 66 * k
next_rank false e n l b w u j k h s = omega arith
next_rank true true n l b w u j k h s = omega arith
next_rank true false true l b w u j k h s = omega arith
next_rank true false false true b w u j k h s = omega arith
next_rank true false false false b w u j k h s = omega arith

module _ (base : RealAddress) (m₀ : List ℕ) where
  next_todo : (f e n l : Bool) (b : Begun) (w : Walk) (c : ℕ) (cs : List ℕ)
      → todo base m₀ (after_buffer f e n l b w) (c ∷ cs) ≡ begun_todo base m₀ c cs
  next_todo false e n l b w c cs = refl
  next_todo true true n l b w c cs = refl
  next_todo true false true l b w c cs = refl
  next_todo true false false true b w c cs = refl
  next_todo true false false false b w c cs = refl

  -- not the 64th: descriptors are left
  more : (x : Setup) (j u c : ℕ) (next : Offset) (filled : ℕ) → u + suc j ≡ most_buffers → leb most_buffers (u + 1) ≡ false
      → Sub (chain_bytes j base (marked base m₀ c) next filled) (uses base x m₀ c) → Walks base m₀ x (u + 1) filled next c
  more x zero u c next filled s t h = absurd (omega (arith, leb-false most_buffers (u + 1) t))
  more x (suc j) u c next filled s t h = (j, omega arith, h)

  next_now : (f e n l : Bool) (x : Setup) (b : Begun) (d : List ℕ) (next : Offset) (u filled c : ℕ) (q : List ℕ) (j : ℕ) → Begins base m₀ true x b c q
      → u + suc j ≡ most_buffers → leb most_buffers (u + 1) ≡ l
      → Sub (behind f e n d (chain_bytes j base (marked base m₀ c) next filled)) (uses base x m₀ c)
      → Now base m₀ (after_buffer f e n l b (record { next = next; used = u + 1; filled = filled })) x c q
  next_now false e n l x b d next u filled c q j i s t h = i
  next_now true true n l x b d next u filled c q j i s t h = i
  next_now true false true l x b d next u filled c q j i s t h = i
  next_now true false false true x b d next u filled c q j i s t h = i
  next_now true false false false x b d next u filled c q j i s t h =
      (i, more x j u c next filled s t (λ a k. h a (in_right d k)))

  -- ---- a buffer

  abbrev chain_of : ℕ → ℕ → Walk → List ℕ
  chain_of j c w = chain_bytes (suc j) base (marked base m₀ c) w.next w.filled

  -- the descriptor that it reads is that of the memory as the begin left it
  pub descriptor_same : (x : Setup) (j c : ℕ) (w : Walk) (q : List ℕ) → Same (uses base x m₀ c) q (marked base m₀ c)
      → Sub (chain_of j c w) (uses base x m₀ c) → descriptor_at base w.next q ≡ descriptor_at base w.next (marked base m₀ c)
  descriptor_same x j c w q h s =
      descriptor_local base w.next q (marked base m₀ c) (same_part (λ a i. s a (in_left _ i)) h)

  pub at_buffer : (s : Setup) (out : List ℕ) (c : ℕ) (cs q : List ℕ) (r : ℕ) (b : Begun) (w : Walk) → Begins base m₀ true s b c q
      → Walks base m₀ s w.used w.filled w.next c → Lies base m₀ s c cs q
      → Leads base m₀ (c ∷ cs) (part_with base (cu.Sending b w) s out) q r
  unfolding service buffer
  at_buffer s out c cs q r b w i k l =
      let e = descriptor_same s k.0 c w q i.same k.2 in
      let d = descriptor_at base w.next (marked base m₀ c) in
      record {
        left = c ∷ cs;
        stands = (
          refl,
          rw e
              (next_now (fits d w) d.eof (is_none d.next) (is_last w.used) s b (range d.buffer.0 d.count) d.next
              w.used (w.filled + d.count)
              c q k.0 i k.1 refl (λ a x. k.2 a (in_right (descriptor_bytes base w.next) x))),
          l,
        );
        part = sub_refl (list_bytes base s m₀ (c ∷ cs));
        setup = refl;
        noted = rw e (next_todo (fits d w) d.eof (is_none d.next) (is_last w.used) b (past d w) c cs);
        fewer = rw e (next_rank (fits d w) d.eof (is_none d.next) (is_last w.used) b (past d w) w.used k.0 (length cs) refl k.1);
        writes = sub-nil (list_bytes base s m₀ (c ∷ cs));
        words = sub-nil (list_bytes base s m₀ (c ∷ cs));
        missed = misses_nil (length m₀) (list_bytes base s m₀ (c ∷ cs));
      }

  -- and it reads bytes of its command alone
  data_in_lem : (f e n : Bool) (at count : ℕ) (chain : List ℕ) → Sub (data_reads f at count) (behind f e n (range at count) chain)
  data_in_lem false e n at count chain = sub-nil []
  data_in_lem true true n at count chain = sub_refl (range at count)
  data_in_lem true false true at count chain = sub_refl (range at count)
  data_in_lem true false false at count chain = λ a i. in_left chain i

  pub buffer_reads : (unit : Cu) (s : Setup) (out : List ℕ) (c : ℕ) (q : List ℕ) (b : Begun) (w : Walk) → Begins base m₀ true s b c q
      → Walks base m₀ s w.used w.filled w.next c → Sub (reads_by (cu.Sending b w) (part_with base unit s out) q) (uses base s m₀ c)
  buffer_reads unit s out c q b w i k =
      let e = descriptor_same s k.0 c w q i.same k.2 in
      let d = descriptor_at base w.next (marked base m₀ c) in
      let chain = chain_bytes k.0 base (marked base m₀ c) d.next (w.filled + d.count) in
      rw e
      (sub-append (descriptor_bytes base w.next) (λ a x. k.2 a (in_left _ x))
      (λ a x. k.2 a (in_right (descriptor_bytes base w.next)
      (data_in_lem (fits d w) d.eof (is_none d.next) d.buffer.0 d.count chain a x))))
