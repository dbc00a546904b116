-- What the setup in force says of the bytes that a command uses: of a Transmit and an MC-Setup its form alone, which is address length and address
-- location, and of any other command nothing. Only a Configure changes the form. So the bytes of a list whose commands leave the form as it is are
-- those of its commands, each by itself under any one setup with that form, and what `NoClash` asks of it is what it asks of them. Assumes nothing.
use mathlib.Core.Path.{◌≡◌, refl, ap, ap₂, ◌∙◌, subst}
use mathlib.Core.Logic.{◌≢◌}
use mathlib.Core.Bool.{Bool, true, false, cond, true≢false}
use mathlib.Core.List.{List, [], ◌∷◌, ◌++◌}
use Prim.Native.Nat.{ℕ, ◌+◌, ◌%◌}
use lib.Dec.{eqb}
use Rattle.memory.specs.Address.{place, offset_at, is_none}
use Rattle.memory.specs.declared.RealAddress.{RealAddress}
use Rattle.device.specs.Header.{unbuffered}
use Rattle.device.specs.Limits.{type_length, most_buffers}
use Rattle.device.specs.Numbers.{transmit, action_of, action_number}
use Rattle.device.specs.declared.Action.{Action}
use Rattle.device.specs.declared.Action.TheVariants as action
use Rattle.device.specs.declared.Form.{Form}
use Rattle.actions.specs.Actions.{act}
use Rattle.actions.specs.Block.{block_status_at, block_command_at, block_link_at, argument_at, destination_at}
use Rattle.actions.specs.Setup.{Setup}
use Rattle.command.specs.Begin.{cmd}
use Rattle.progress.specs.Same.{In, here, there}
use Rattle.progress.proofs.Same.{each_nil}
use Rattle.lists.specs.Uses.{block, from, word_of, address_length_of, header_bytes, header_length_of, argument_bytes, chain_bytes, first_bytes, own_bytes, uses, marked, setup_by, setup_after, list_bytes, result_bytes, NoClash}
use Rattle.lists.proofs.Blocks.{each_append}

abbrev pub form_of : Setup → Form
form_of s = s.settings.form

-- the command at c is of that kind
abbrev pub is_kind : ℕ → RealAddress → List ℕ → ℕ → Bool
is_kind kind base m c = eqb (cmd (word_of base m c)) kind

-- an action, by the tests for the kinds
abbrev action_by : (b0 b1 b2 b3 b5 b6 : Bool) → Action
action_by b0 b1 b2 b3 b5 b6 =
    cond b0 action.Nop
    (cond b1 action.IaSetup (cond b2 action.Configure (cond b3 action.McSetup (cond b5 action.Tdr (cond b6 action.Dump action.Diagnose)))))

-- ---- what a Transmit's block has of the header

-- destination, and the type behind it; with location 1 nothing, since it is in the buffers
pub header_in_block : (base : RealAddress) (s : Setup) (c : ℕ) → (form_of s).location ≡ false
    → header_bytes base s c ≡ from base c destination_at (form_of s).length ++ from base c (destination_at + (form_of s).length) type_length
unfolding header_bytes address_length_of
header_in_block base s c e = rw e

pub header_in_buffers : (base : RealAddress) (s : Setup) (c : ℕ) → (form_of s).location ≡ true → header_bytes base s c ≡ []
unfolding header_bytes
header_in_buffers base s c e = rw e

-- ---- what a command uses

argument_alike : (a : Action) (base : RealAddress) (s x : Setup) (m : List ℕ) (c : ℕ) → form_of s ≡ form_of x
    → argument_bytes a base s m c ≡ argument_bytes a base x m c
unfolding address_length_of
argument_alike action.Nop base s x m c e = refl
argument_alike action.IaSetup base s x m c e = refl
argument_alike action.Configure base s x m c e = refl
argument_alike action.McSetup base s x m c e = rw e
argument_alike action.Tdr base s x m c e = refl
argument_alike action.Dump base s x m c e = refl
argument_alike action.Diagnose base s x m c e = refl

header_alike : (base : RealAddress) (s x : Setup) (c : ℕ) → form_of s ≡ form_of x → header_bytes base s c ≡ header_bytes base x c
unfolding header_bytes address_length_of
header_alike base s x c e = rw e

length_alike : (s x : Setup) → form_of s ≡ form_of x → header_length_of s ≡ header_length_of x
unfolding header_length_of
length_alike s x e = ap unbuffered e

-- a chain is not unfolded here: it has 64 descriptors
own_alike : (transmits : Bool) (base : RealAddress) (s x : Setup) (m : List ℕ) (c : ℕ) → form_of s ≡ form_of x
    → own_bytes transmits base s m c ≡ own_bytes transmits base x m c
own_alike true base s x m c e =
    let first = offset_at m (place base (block c) argument_at) in
    ap₂ (λ (h : List ℕ) (n : ℕ).
    from base c argument_at 2 ++ h ++ first_bytes (is_none first) (chain_bytes most_buffers base (marked base m c) first n))
    (header_alike base s x c e) (length_alike s x e)
own_alike false base s x m c e = argument_alike (action_of (cmd (word_of base m c))) base s x m c e

-- beside the six bytes of its block
uses_by : (base : RealAddress) (s x : Setup) (m : List ℕ) (c : ℕ) → own_bytes (is_kind transmit base m c) base s m c ≡ own_bytes (is_kind transmit base m c) base x m c
    → uses base s m c ≡ uses base x m c
unfolding uses
uses_by base s x m c e = ap (λ (l : List ℕ). from base c block_status_at 2 ++ from base c block_command_at 2 ++ from base c block_link_at 2 ++ l) e

pub uses_alike : (base : RealAddress) (s x : Setup) (m : List ℕ) (c : ℕ) → form_of s ≡ form_of x → uses base s m c ≡ uses base x m c
uses_alike base s x m c e = uses_by base s x m c (own_alike (is_kind transmit base m c) base s x m c e)

-- a command that is neither a Transmit nor an MC-Setup uses the same bytes under every setup
kind_alike : (b0 b1 b2 b3 b5 b6 : Bool) (base : RealAddress) (s x : Setup) (m : List ℕ) (c : ℕ) → b3 ≡ false
    → argument_bytes (action_by b0 b1 b2 b3 b5 b6) base s m c ≡ argument_bytes (action_by b0 b1 b2 b3 b5 b6) base x m c
kind_alike true b1 b2 b3 b5 b6 base s x m c e = refl
kind_alike false true b2 b3 b5 b6 base s x m c e = refl
kind_alike false false true b3 b5 b6 base s x m c e = refl
kind_alike false false false true b5 b6 base s x m c e = absurd (true≢false e)
kind_alike false false false false true b6 base s x m c e = refl
kind_alike false false false false false true base s x m c e = refl
kind_alike false false false false false false base s x m c e = refl

pub uses_no_form : (base : RealAddress) (s x : Setup) (m : List ℕ) (c : ℕ) → is_kind transmit base m c ≡ false
    → is_kind (action_number action.McSetup) base m c ≡ false → uses base s m c ≡ uses base x m c
unfolding action_of
uses_no_form base s x m c t g =
    let n = cmd (word_of base m c) in
    uses_by base s x m c (rw t (kind_alike (eqb n 0) (eqb n 1) (eqb n 2) (eqb n 3) (eqb n 5) (eqb n 6) base s x m c g))

-- ---- what a command leaves of the form: any other than a Configure all of it

acted_form : (b0 b1 b2 b3 b5 b6 : Bool) (base : RealAddress) (s : Setup) (m : List ℕ) (c : ℕ) → b2 ≡ false
    → form_of (act (action_by b0 b1 b2 b3 b5 b6) base s (block c) m).setup ≡ form_of s
unfolding act
acted_form true b1 b2 b3 b5 b6 base s m c e = refl
acted_form false true b2 b3 b5 b6 base s m c e = refl
acted_form false false true b3 b5 b6 base s m c e = absurd (true≢false e)
acted_form false false false true b5 b6 base s m c e = refl
acted_form false false false false true b6 base s m c e = refl
acted_form false false false false false true base s m c e = refl
acted_form false false false false false false base s m c e = refl

form_by : (transmits : Bool) (base : RealAddress) (s : Setup) (m : List ℕ) (c : ℕ) → is_kind (action_number action.Configure) base m c ≡ false
    → form_of (setup_by transmits base s m c) ≡ form_of s
unfolding action_of
form_by true base s m c e = refl
form_by false base s m c e =
    let n = cmd (word_of base m c) in acted_form (eqb n 0) (eqb n 1) (eqb n 2) (eqb n 3) (eqb n 5) (eqb n 6) base s (marked base m c) c e

pub form_kept : (base : RealAddress) (s : Setup) (m : List ℕ) (c : ℕ) → is_kind (action_number action.Configure) base m c ≡ false
    → form_of (setup_after base s m c) ≡ form_of s
unfolding setup_after
form_kept base s m c e = form_by (is_kind transmit base m c) base s m c e

module _ (base : RealAddress) (m : List ℕ) where
  -- each command of the list leaves the form that it finds
  abbrev pub FormStays : Setup → List ℕ → Type 0
  FormStays s [] = Unit {0}
  FormStays s (c ∷ cs) = (form_of (setup_after base s m c) ≡ form_of s) × FormStays (setup_after base s m c) cs

  -- as where none is a Configure
  pub stays : (s : Setup) (bs : List ℕ) → ((b : ℕ) → In b bs → is_kind (action_number action.Configure) base m b ≡ false) → FormStays s bs
  stays s [] f = tt
  stays s (c ∷ cs) f = (form_kept base s m c (f c here), stays (setup_after base s m c) cs (λ b i. f b (there i)))

-- ---- the bytes of a list, command by command, under one setup

module _ (base : RealAddress) (x : Setup) (m : List ℕ) where
  abbrev pub each_bytes : List ℕ → List ℕ
  each_bytes [] = []
  each_bytes (c ∷ cs) = uses base x m c ++ each_bytes cs

  pub list_alike : (s : Setup) (bs : List ℕ) → form_of s ≡ form_of x → FormStays base m s bs → list_bytes base s m bs ≡ each_bytes bs
  list_alike s [] e k = refl
  list_alike s (c ∷ cs) e k = rw (uses_alike base s x m c e, list_alike (setup_after base s m c) cs (k.0 ∙ e) k.1)

  -- what holds of the bytes of each command holds of those of the list
  each_command : (T : ℕ → Type 0) (bs : List ℕ) → ((b : ℕ) → In b bs → (a : ℕ) → In a (uses base x m b) → T a) → (a : ℕ) → In a (each_bytes bs) → T a
  each_command T [] f = each_nil T
  each_command T (c ∷ cs) f = each_append T (uses base x m c) (f c here) (each_command T cs (λ b i. f b (there i)))

  -- no result is a byte of any later command
  abbrev pub EachApart : ℕ → List ℕ → Type 0
  EachApart n [] = Unit {0}
  EachApart n (c ∷ cs) =
      ((b y z : ℕ) → In b cs → In y (uses base x m b) → In z (result_bytes base m c) → y % n ≢ z % n) × EachApart n cs

  pub no_clash : (n : ℕ) (s : Setup) (bs : List ℕ) → form_of s ≡ form_of x → FormStays base m s bs → EachApart n bs → NoClash n base s m bs
  no_clash n s [] e k h = tt
  no_clash n s (c ∷ cs) e k h =
      let t : Setup = setup_after base s m c in
      let f : form_of t ≡ form_of x = k.0 ∙ e in (
        (λ y z i j.
            each_command (λ a. a % n ≢ z % n) cs (λ b k a l. h.0 b a z k l j) y
            (subst (λ (L : List ℕ). In y L) (list_alike t cs f k.1) i)),
        no_clash n t cs f k.1 h.1,
      )
