-- The bytes of a block and of what its command uses: where they lie, and what the command's own results leave alone. Assumes nothing.
use mathlib.Core.Path.{◌≡◌, refl, sym, subst}
use mathlib.Core.Logic.{◌≢◌}
use mathlib.Core.Bool.{Bool, true, false}
use mathlib.Core.List.{List, [], ◌∷◌, ◌++◌}
use Prim.Native.Nat.{ℕ, zero, suc, ◌+◌, ◌-◌, ◌%◌, ◌≤◌, ◌<◌}
use native.Mathlib.Omega.{arith}
use borrow.Author.Tests.{eqb-true}
use lib.Dec.{eqb}
use lib.ListN.{length}
use Rattle.memory.specs.Memory.{Write, word_to, apply, digits}
use Rattle.memory.specs.Address.{place}
use Rattle.memory.specs.declared.RealAddress.{RealAddress}
use Rattle.memory.proofs.Laws.{apart, length_apply}
use Rattle.device.specs.Numbers.{transmit, action_of, action_number}
use Rattle.device.specs.declared.Action.TheVariants as action
use Rattle.actions.specs.Block.{block_status_at, block_command_at, block_link_at, argument_at}
use Rattle.actions.specs.Setup.{Setup}
use Rattle.command.specs.Begin.{cmd}
use Rattle.progress.specs.Same.{In, here, there, range, targets, Same}
use Rattle.progress.proofs.Same.{Sub, sub-nil, each_nil, each_cons, in_left, in_right, same_trans, apart_writes}
use Rattle.lists.specs.Uses.{block, from, word_of, marked, uses, argument_bytes, own_bytes, result_bytes, tdr_bytes, setup_after, list_bytes, NoClash}

-- ---- parts of lists

pub sub_refl : (F : List ℕ) → Sub F F
sub_refl F a i = i

-- what holds of the elements of both parts
pub each_append : (T : ℕ → Type 0) (s : List ℕ) {t : List ℕ} → ((a : ℕ) → In a s → T a) → ((a : ℕ) → In a t → T a) → (a : ℕ) → In a (s ++ t) → T a
each_append T [] f g = g
each_append T (x ∷ s) f g = each_cons T (f x here) (each_append T s (λ b j. f b (there j)) g)

pub sub-append : (s : List ℕ) {t G : List ℕ} → Sub s G → Sub t G → Sub (s ++ t) G
sub-append s {G = G} f g = each_append (λ a. In a G) s f g

-- ---- runs of addresses

-- a run's addresses are from its first on, so many
pub in_bounds : (a n : ℕ) (x : ℕ) → In x (range a n) → (a ≤ x) × (x < a + n)
unfolding range
in_bounds a zero = each_nil (λ x. (a ≤ x) × (x < a + 0))
in_bounds a (suc n) =
    each_cons (λ x. (a ≤ x) × (x < a + suc n)) (omega arith, omega arith)
    (λ x i. let h = in_bounds (suc a) n x i in (omega (arith, h.0), omega (arith, h.1)))

-- the first address of a run that is not empty
pub range_first : (a n : ℕ) → 0 < n → In a (range a n)
unfolding range
range_first a zero h = absurd (omega arith)
range_first a (suc n) h = here

-- a word goes to two addresses
pub word_targets : (a w : ℕ) → Sub (targets (word_to a w ∷ [])) (range a 2)
unfolding digits
word_targets a w = sub-append (range a 2) (sub_refl (range a 2)) (sub-nil (range a 2))

pub targets_append : (xs ys : List Write) {G : List ℕ} → Sub (targets xs) G → Sub (targets ys) G → Sub (targets (xs ++ ys)) G
targets_append [] ys f g = g
targets_append (x ∷ xs) ys f g =
    sub-append (range x.to (length x.bytes)) (λ a i. f a (in_left (targets xs) i))
    (targets_append xs ys (λ a i. f a (in_right (range x.to (length x.bytes)) i)) g)

-- ---- fields of one block

-- two fields of a block, the one behind the other, share no byte, modulo any n from 8,192 on
pub fields_apart : (n : ℕ) → 8192 ≤ n → (base : RealAddress) (c f k g l : ℕ) → g + l ≤ f → f + k ≤ 8192
    → (x y : ℕ) → In x (from base c f k) → In y (from base c g l) → x % n ≢ y % n
unfolding place
fields_apart n big base c f k g l h t x y i j e =
    let p = in_bounds (place base (block c) f) k x i in
    let r = in_bounds (place base (block c) g) l y j in
    let s : y + (x - y) ≡ x = omega (arith, p.0, r.1) in
    apart y (x - y) n (omega (arith, p.0, r.1)) (omega (arith, p.1, r.0)) (rw s e)

-- what a command uses: its status word
pub status_in : (base : RealAddress) (s : Setup) (m : List ℕ) (c : ℕ) → Sub (from base c block_status_at 2) (uses base s m c)
unfolding uses range
status_in base s m c a i = in_left _ i

-- and besides
pub command_in : (base : RealAddress) (s : Setup) (m : List ℕ) (c : ℕ) → Sub (from base c block_command_at 2) (uses base s m c)
unfolding uses range
command_in base s m c a i = in_right (from base c block_status_at 2) (in_left _ i)

pub link_in : (base : RealAddress) (s : Setup) (m : List ℕ) (c : ℕ) → Sub (from base c block_link_at 2) (uses base s m c)
unfolding uses range
link_in base s m c a i = in_right (from base c block_status_at 2) (in_right (from base c block_command_at 2) (in_left _ i))

pub own_in : (base : RealAddress) (s : Setup) (m : List ℕ) (c : ℕ) (t : Bool) → eqb (cmd (word_of base m c)) transmit ≡ t
    → Sub (own_bytes t base s m c) (uses base s m c)
unfolding uses range
own_in base s m c t e =
    rw (← e) (λ a i. in_right (from base c block_status_at 2) (in_right (from base c block_command_at 2) (in_right (from base c block_link_at 2) i)))

-- the status word, and a TDR's word, are results
pub status_result : (base : RealAddress) (m : List ℕ) (c : ℕ) → Sub (from base c block_status_at 2) (result_bytes base m c)
unfolding result_bytes
status_result base m c a i = in_left _ i

pub tdr_result : (base : RealAddress) (m : List ℕ) (c : ℕ)
    → Sub (tdr_bytes (eqb (cmd (word_of base m c)) (action_number action.Tdr)) base c) (result_bytes base m c)
unfolding result_bytes
tdr_result base m c a i = in_right (from base c block_status_at 2) i

-- and results are among the bytes that the command uses
tdr_in : (t : Bool) (base : RealAddress) (s : Setup) (m : List ℕ) (c : ℕ) → eqb (cmd (word_of base m c)) (action_number action.Tdr) ≡ t
    → Sub (tdr_bytes t base c) (uses base s m c)
unfolding action_of
tdr_in true base s m c e =
    let n : cmd (word_of base m c) ≡ action_number action.Tdr = eqb-true _ _ e in
    let k : eqb (cmd (word_of base m c)) transmit ≡ false = rw n in
    subst (λ (x : ℕ). Sub (argument_bytes (action_of x) base s m c) (uses base s m c)) n (own_in base s m c false k)
tdr_in false base s m c e = sub-nil (uses base s m c)

pub result_in : (base : RealAddress) (s : Setup) (m : List ℕ) (c : ℕ) → Sub (result_bytes base m c) (uses base s m c)
unfolding result_bytes
result_in base s m c =
    sub-append (from base c block_status_at 2) (status_in base s m c) (tdr_in (eqb (cmd (word_of base m c)) (action_number action.Tdr)) base s m c refl)

-- ---- what a command's own results leave alone

-- results reach no field that lies between the status word and +6
tdr_apart : (t : Bool) (n : ℕ) → 8192 ≤ n → (base : RealAddress) (c x y : ℕ)
    → In x (from base c block_link_at 2) → In y (tdr_bytes t base c) → x % n ≢ y % n
tdr_apart true n big base c x y i j e = fields_apart n big base c argument_at 2 block_link_at 2 (omega arith) (omega arith) y x j i (sym e)
tdr_apart false n big base c x y i j e = each_nil (λ z. ⊥) y j

pub link_apart : (n : ℕ) → 8192 ≤ n → (base : RealAddress) (m : List ℕ) (c x y : ℕ)
    → In x (from base c block_link_at 2) → In y (result_bytes base m c) → x % n ≢ y % n
unfolding result_bytes
link_apart n big base m c x y i j =
    each_append (λ z. x % n ≢ z % n) (from base c block_status_at 2)
    (λ z k. fields_apart n big base c block_link_at 2 block_status_at 2 (omega arith) (omega arith) x z i k)
    (λ z k. tdr_apart (eqb (cmd (word_of base m c)) (action_number action.Tdr)) n big base c x z i k) y j

-- begun or not, a block is the same behind its status word
pub marked_same : (base : RealAddress) (m : List ℕ) → 8192 ≤ length m → (c f k : ℕ) → 2 ≤ f → f + k ≤ 8192
    → Same (from base c f k) (marked base m c) m
unfolding marked
marked_same base m big c f k h t =
    apart_writes (from base c f k) (word_to (place base (block c) block_status_at) 0x4000 ∷ []) m
    (λ x y i j. fields_apart (length m) big base c f k block_status_at 2 (omega arith) t x y i (word_targets (place base (block c) block_status_at) 0x4000 y j))

pub marked_size : (base : RealAddress) (m : List ℕ) (c : ℕ) → length (marked base m c) ≡ length m
unfolding marked
marked_size base m c = length_apply (word_to (place base (block c) block_status_at) 0x4000 ∷ []) m

-- a result of c leaves the bytes of later commands as they were
pub later : (base : RealAddress) (s : Setup) (m : List ℕ) (c : ℕ) (ws : List Write) (cs q : List ℕ) → Sub (targets ws) (result_bytes base m c)
    → length q ≡ length m → NoClash (length m) base s m (c ∷ cs)
    → Same (list_bytes base (setup_after base s m c) m cs) q m → Same (list_bytes base (setup_after base s m c) m cs) (apply ws q) m
later base s m c ws cs q t l nc h =
    same_trans (apart_writes (list_bytes base (setup_after base s m c) m cs) ws q (λ x y j k. rw l (nc.0 x y j (t y k)))) h

-- the bytes of later commands, under the setup that c leaves, are bytes of the list
pub rest_in : (base : RealAddress) (s x : Setup) (m : List ℕ) (c : ℕ) (cs : List ℕ) → x ≡ setup_after base s m c
    → Sub (list_bytes base x m cs) (list_bytes base s m (c ∷ cs))
rest_in base s x m c cs e = rw e (λ a i. in_right (uses base s m c) i)
