-- Where one service of the command unit may write at a block of a list, and that no other block's status is there. Assumes nothing.
use mathlib.Core.Path.{◌≡◌, ap}
use mathlib.Core.List.{List, [], ◌∷◌, ◌++◌}
use Prim.Native.Nat.{ℕ, ◌≤◌}
use native.Mathlib.Omega.{arith}
use lib.ListN.{length}
use Rattle.memory.specs.Address.{place}
use Rattle.memory.specs.Memory.{value, field_at, word_at, Write, apply}
use Rattle.memory.specs.declared.Offset.{Offset}
use Rattle.memory.specs.declared.RealAddress.{RealAddress}
use Rattle.memory.proofs.Fields.{Apart, AllApart, apply_other}
use Rattle.kinds.specs.Lists.{All, NoResult}

-- ---- a word that no write meets

pub word_kept : (ws : List Write) (m : List ℕ) (a : ℕ) → AllApart (length m) ws a 2 → word_at (apply ws m) a ≡ word_at m a
unfolding field_at
word_kept ws m a h = ap value (apply_other ws m a 2 h)

-- ---- where a service writes: the block's status, TDR's word, the SCB's status

pub data Spot (T : Type 0) (base : RealAddress) (b : Offset) (scb : ℕ) (a : ℕ) : Type 0 where
  at_status : a ≡ place base b 0 → Spot T base b scb a
  at_word : T → a ≡ place base b 6 → Spot T base b scb a
  at_scb : a ≡ scb → Spot T base b scb a

pub record Own (T : Type 0) (base : RealAddress) (b : Offset) (scb : ℕ) (w : Write) : Type 0 where
  pub spot : Spot T base b scb w.to
  pub two : length w.bytes ≡ 2

abbrev pub AllOwn : Type 0 → RealAddress → Offset → ℕ → List Write → Type 0
AllOwn T base b scb [] = Unit {0}
AllOwn T base b scb (w ∷ ws) = Own T base b scb w × AllOwn T base b scb ws

pub own_append : (T : Type 0) (base : RealAddress) (b : Offset) (scb : ℕ) (xs ys : List Write) → AllOwn T base b scb xs → AllOwn T base b scb ys
    → AllOwn T base b scb (xs ++ ys)
own_append T base b scb [] ys p q = q
own_append T base b scb (x ∷ xs) ys p q = (p.0, own_append T base b scb xs ys p.1 q)

-- ---- so the status of another block is not written

-- the SCB's status and command are apart from a block
abbrev pub ScbApart : ℕ → RealAddress → ℕ → Offset → Type 0
ScbApart n base scb b = Apart n scb 4 (place base b 0) 6

-- of what is apart from a block, the first word is apart from its status
status_apart : (n a k b : ℕ) → 2 ≤ k → Apart n a k b 6 → Apart n a 2 b 2
status_apart n a k b l h x p y q e = h x (omega arith) y (omega arith) e

module _ (n : ℕ) (tdr : Offset → Type 0) (base : RealAddress) (b : Offset) (scb : ℕ) where
  spot_apart : (c : Offset) (to : ℕ) → NoResult n base tdr b c → ScbApart n base scb c → Spot (tdr b) base b scb to → Apart n to 2 (place base c 0) 2
  spot_apart c to h s (at_status e) = rw e (status_apart n (place base b 0) 2 (place base c 0) (omega arith) h.status)
  spot_apart c to h s (at_word t e) = rw e (status_apart n (place base b 6) 2 (place base c 0) (omega arith) (h.word t))
  spot_apart c to h s (at_scb e) = rw e (status_apart n scb 4 (place base c 0) (omega arith) s)

  own_apart : (c : Offset) (ws : List Write) → NoResult n base tdr b c → ScbApart n base scb c → AllOwn (tdr b) base b scb ws
      → AllApart n ws (place base c 0) 2
  own_apart c [] h s p = tt
  own_apart c (w ∷ ws) h s p = (rw p.0.two (spot_apart c w.to h s p.0.spot), own_apart c ws h s p.1)

  pub statuses_kept : (ws : List Write) (m : List ℕ) → length m ≡ n → AllOwn (tdr b) base b scb ws → (cs : List Offset)
      → All (λ c. NoResult n base tdr b c × NoResult n base tdr c b) cs → All (ScbApart n base scb) cs
      → All (λ c. word_at (apply ws m) (place base c 0) ≡ word_at m (place base c 0)) cs
  statuses_kept ws m e own [] p q = tt
  statuses_kept ws m e own (c ∷ cs) p q = (
    word_kept ws m (place base c 0) (rw e (own_apart c ws p.0.0 q.0 own)),
    statuses_kept ws m e own cs p.1 q.1,
  )
