-- The command unit alone at work on a list: what is known of it between two of its services, what is still to be noted, and at most how many
-- services are left. Assumes nothing.
use mathlib.Core.Path.{◌≡◌}
use mathlib.Core.Logic.{◌≢◌}
use mathlib.Core.Bool.{Bool, true, false}
use mathlib.Core.List.{List, [], ◌∷◌, ◌++◌, map}
use Prim.Native.Nat.{ℕ, suc, ◌+◌, ◌-◌, ◌*◌, ◌%◌, ◌<◌, pred}
use lib.Dec.{eqb}
use lib.ListN.{length}
use Rattle.memory.specs.Memory.{apply}
use Rattle.memory.specs.declared.Offset.{Offset}
use Rattle.memory.specs.declared.RealAddress.{RealAddress}
use Rattle.device.specs.Limits.{most_buffers}
use Rattle.device.specs.Numbers.{transmit, action_of}
use Rattle.device.specs.State.{cu_state, is_active}
use Rattle.device.specs.declared.Begun.{Begun}
use Rattle.device.specs.declared.Cu.{Cu}
use Rattle.device.specs.declared.Cu.TheVariants as cu
use Rattle.actions.specs.Block.{block_status_at}
use Rattle.actions.specs.Setup.{Setup}
use Rattle.command.specs.Begin.{cmd, begun_by}
use Rattle.command.specs.Part.{Part}
use Rattle.command.specs.Service.{service}
use Rattle.progress.specs.Same.{In, targets, Same}
use Rattle.progress.proofs.Same.{Sub, each_nil}
use Rattle.lists.specs.Uses.{block, from, word_of, marked, uses, chain_bytes, setup_after, list_setup, list_bytes, NoClash, Listed}
use Rattle.lists.specs.Unit.{Note, began, ended, note_by, Tag, done, tag}
use Rattle.lists.specs.Done.{is_last, due, each_once}

-- at most so many services are left, with n commands to do: a begin, a buffer for each of 64 descriptors, an end
abbrev pub rank : Cu → ℕ → ℕ
rank cu.Idle n = 0
rank (cu.Suspended o) n = 0
rank (cu.Waiting o) n = 66 * n
rank (cu.Acting b a) n = 1 + 66 * pred n
rank (cu.Sending b w) n = 65 - w.used + 66 * pred n
rank (cu.Ending b filled) n = 1 + 66 * pred n
rank (cu.Failing b) n = 1 + 66 * pred n

-- the bytes of the status words of the commands that are noted as done
abbrev pub status_bytes : RealAddress → List Note → List ℕ
status_bytes base [] = []
status_bytes base (began c ∷ ns) = status_bytes base ns
status_bytes base (ended c status frames raised ∷ ns) = from base c block_status_at 2 ++ status_bytes base ns

-- no byte of L is a byte of F, addresses taken modulo n
abbrev pub Misses : ℕ → List ℕ → List ℕ → Type 0
Misses n L F = (x y : ℕ) → In x L → In y F → x % n ≢ y % n

pub misses_nil : (n : ℕ) (L : List ℕ) → Misses n L []
misses_nil n L x y i j = each_nil (λ z. x % n ≢ z % n) y j

module _ (base : RealAddress) (m₀ : List ℕ) where
  -- what is still to be noted, once the command at c is begun
  abbrev pub begun_todo : ℕ → List ℕ → List Tag
  begun_todo c cs = done c (due (is_last cs) (word_of base m₀ c)) ∷ each_once base m₀ cs

  -- what is still to be noted, with these blocks to do
  abbrev pub todo : Cu → List ℕ → List Tag
  todo unit [] = []
  todo cu.Idle (c ∷ cs) = []
  todo (cu.Suspended o) (c ∷ cs) = []
  todo (cu.Waiting o) (c ∷ cs) = each_once base m₀ (c ∷ cs)
  todo (cu.Acting b a) (c ∷ cs) = begun_todo c cs
  todo (cu.Sending b w) (c ∷ cs) = begun_todo c cs
  todo (cu.Ending b filled) (c ∷ cs) = begun_todo c cs
  todo (cu.Failing b) (c ∷ cs) = begun_todo c cs

  -- the command at c is begun, a Transmit or not, with the setup s in force: its word holds, and the bytes that it uses are as its own begin
  -- left them
  pub record Begins (transmits : Bool) (s : Setup) (b : Begun) (c : ℕ) (q : List ℕ) : Type 0 where
    pub begun : b ≡ begun_by (block c) (word_of base m₀ c)
    pub kind : eqb (cmd (word_of base m₀ c)) transmit ≡ transmits
    pub same : Same (uses base s m₀ c) q (marked base m₀ c)

  -- descriptors are left, and they are among its bytes
  abbrev pub Walks : Setup → (used filled : ℕ) → Offset → ℕ → Type 0
  Walks s used filled next c =
      (j : ℕ) × (used + suc j ≡ most_buffers) × Sub (chain_bytes (suc j) base (marked base m₀ c) next filled) (uses base s m₀ c)

  -- what is known of the command in work
  abbrev pub Now : Cu → Setup → ℕ → List ℕ → Type 0
  Now cu.Idle s c q = ⊥
  Now (cu.Suspended o) s c q = ⊥
  Now (cu.Waiting o) s c q = (o ≡ block c) × Same (uses base s m₀ c) q m₀
  Now (cu.Acting b a) s c q = Begins false s b c q × (a ≡ action_of (cmd (word_of base m₀ c)))
  Now (cu.Sending b w) s c q = Begins true s b c q × Walks s w.used w.filled w.next c
  Now (cu.Ending b filled) s c q = Begins true s b c q
  Now (cu.Failing b) s c q = Begins true s b c q

  -- the list, and its commands that are not begun: their bytes, under the setup that c leaves, are as they were
  pub record Lies (s : Setup) (c : ℕ) (cs : List ℕ) (q : List ℕ) : Type 0 where
    pub listed : Listed base m₀ (c ∷ cs)
    pub apart : NoClash (length m₀) base s m₀ (c ∷ cs)
    pub later : Same (list_bytes base (setup_after base s m₀ c) m₀ cs) q m₀

  -- with the blocks bs to do: the setup in force is the unit's own
  abbrev pub Stands : List ℕ → Part → List ℕ → Type 0
  Stands [] p q = is_active (cu_state p.unit) ≡ false
  Stands (c ∷ cs) p q = (p.base ≡ base) × Now p.unit p.setup c q × Lies p.setup c cs q

  -- a service leads on: with the blocks left to do, whose bytes are among those before, and which leave the setup that was to be left; what it
  -- notes was the next to be noted; fewer services are left. What it writes are bytes of the list, and so are the status words that it notes, which
  -- no command left to do uses
  pub record Leads (bs : List ℕ) (p : Part) (q : List ℕ) (r : ℕ) : Type 0 where
    pub left : List ℕ
    pub stands : Stands left (service p q r).part (apply (service p q r).writes q)
    pub part : Sub (list_bytes base (service p q r).part.setup m₀ left) (list_bytes base p.setup m₀ bs)
    pub setup : list_setup base (service p q r).part.setup m₀ left ≡ list_setup base p.setup m₀ bs
    pub noted : map tag (note_by p.unit p q r) ++ todo (service p q r).part.unit left ≡ todo p.unit bs
    pub fewer : rank (service p q r).part.unit (length left) < rank p.unit (length bs)
    pub writes : Sub (targets (service p q r).writes) (list_bytes base p.setup m₀ bs)
    pub words : Sub (status_bytes base (note_by p.unit p q r)) (list_bytes base p.setup m₀ bs)
    pub missed : Misses (length m₀) (list_bytes base (service p q r).part.setup m₀ left) (status_bytes base (note_by p.unit p q r))

-- a part with its base and unit as said
abbrev pub part_with : RealAddress → Cu → Setup → List ℕ → Part
part_with base unit s out = record { base = base; unit = unit; setup = s; outgoing = out }
