-- 132 turns a command is exact: a list of one command can take 132 turns, one of two 264, so the statement with fewer is false. The command is
-- a Transmit whose descriptor, without EOF and data, is linked to itself: 64 buffer turns; and the receive unit, which goes first, has a frame
-- to store at every other turn: 64 bytes of data into a buffer of one byte, whose descriptor is linked to itself. Assumes nothing.
use mathlib.Core.Path.{◌≡◌, refl, sym, ◌∙◌}
use mathlib.Core.Bool.{true, true≢false}
use mathlib.Core.List.{List, [], ◌∷◌, ◌++◌}
use Prim.Native.Nat.{ℕ, ◌*◌, ◌≤◌}
use lib.Dec.{lit≤}
use lib.ListN.{length, replicate}
use Rattle.scb.specs.Words.{no_events}
use Rattle.device.specs.State.{cu_state, is_active}
use Rattle.actions.specs.Setup.{setup_of}
use Rattle.chip.specs.Cases.{Word, ◌is◌, put, start}
use Rattle.chip.specs.Call.{attention, arrive, turn}
use Rattle.chip.specs.World.{World}
use Rattle.traces.specs.Event.{Event, call, host, step, DuringList}
use Rattle.progress.specs.Trace.{run}
use Rattle.progress.specs.Machine.{Undisturbed, log}
use Rattle.lists.specs.Uses.{Listed, first_of}
use Rattle.lists.specs.Unit.{machine, began, ended}
use Rattle.lists.specs.Done.{Starts, enough, Premises, Done, bytes_of}
use Rattle.lists.proofs.Start.{cbl_of}
use Rattle.lists.proofs.Whole.{attention_list_done}
use Rattle.lists.proofs.Tests.{cna_alone, keptb, kept_ok, kept_sub, sub_ok, clash_ok, calls_ok}

-- ---- the statement, with another number of turns for n commands

abbrev pub FirstHalf : (ℕ → ℕ) → Type 0
FirstHalf least =
    (bs : List ℕ) (es : List Event) (w : World) → Starts w → first_of bs ≡ (cbl_of w).0
    → Listed (step (call attention) w).device.units.base (step (call attention) w).memory bs
    → Premises DuringList least bs es (step (call attention) w) → Done bs es (step (call attention) w)

-- a list, with all that is asked but for the number of turns, whose unit is still Active
pub record Unfinished (least : ℕ → ℕ) (bs : List ℕ) (es : List Event) (w : World) : Type 0 where
  pub starts : Starts w
  pub first : first_of bs ≡ (cbl_of w).0
  pub listed : Listed (step (call attention) w).device.units.base (step (call attention) w).memory bs
  pub premises : Premises DuringList least bs es (step (call attention) w)
  pub active : is_active (cu_state (run step es (step (call attention) w)).device.units.cu) ≡ true

refuted : (least : ℕ → ℕ) (bs : List ℕ) (es : List Event) (w : World) → Unfinished least bs es w → FirstHalf least → ⊥
refuted least bs es w u half = true≢false (sym u.active ∙ (half bs es w u.starts u.first u.listed u.premises).stopped)

-- ---- the board: ISCP at 0, SCB at 8, base 0

-- a Transmit at 18h with a command word that is said, another with EL at 54h, both with the descriptor at 28h
abbrev blocks : ℕ → List Word
blocks word =
    0x1A is word ∷ 0x1C is 0x54 ∷ 0x1E is 0x28
    ∷ 0x2A is 0x28
    ∷ 0x56 is 0x8004 ∷ 0x5A is 0x28
    ∷ []

-- a frame descriptor at 30h, linked to itself; a buffer descriptor at 48h, linked to itself, with one byte at 52h
abbrev descriptors : List Word
descriptors = 0x34 is 0x30 ∷ 0x36 is 0x48 ∷ 0x4A is 0x48 ∷ 0x4C is 0x52 ∷ 0x50 is 1 ∷ []

abbrev pub words : ℕ → List Word
words word = 8188 is 0 ∷ 2 is 0x08 ∷ blocks word ++ descriptors

abbrev pub cold : ℕ → World
cold word = start (words word)

-- all acknowledged, START for both units, CBL and RFA offset
abbrev pub orders : List Word
orders = 0x0A is 0xF110 ∷ 0x0C is 0x18 ∷ 0x0E is 0x30 ∷ []

abbrev told : World → World
told w = step (host (put orders w.memory) w.holding w.outgoing) w

abbrev pub before : ℕ → World
before word = told (step (call attention) (cold word))

abbrev begun : ℕ → World
begun word = step (call attention) (before word)

starts : (word : ℕ) → Starts (before word)
unfolding keptb
starts word = record { initialised = refl; unreset = refl; start = refl; idle = refl }

-- a frame to everyone, with 64 bytes of data
abbrev pub frame : Event
frame = call (arrive (replicate 78 255) 0)

abbrev addresses : List ℕ
addresses =
    0x18 ∷ 0x19 ∷ 0x1A ∷ 0x1B ∷ 0x1C ∷ 0x1D ∷ 0x1E ∷ 0x1F ∷ 0x20 ∷ 0x21 ∷ 0x22 ∷ 0x23 ∷ 0x24 ∷ 0x25 ∷ 0x26 ∷ 0x27
    ∷ 0x28 ∷ 0x29 ∷ 0x2A ∷ 0x2B ∷ 0x2C ∷ 0x2D ∷ 0x2E
    ∷ []

-- ---- one command

abbrev alone : World
alone = begun 0x8004

abbrev pub one : ℕ → List Event
one k = frame ∷ replicate k (call (turn 0))

-- its 64 descriptors are one
one_kept : Undisturbed machine (bytes_of alone (0x18 ∷ [])) (one 131) alone
unfolding keptb
one_kept =
    kept_sub (bytes_of alone (0x18 ∷ [])) addresses (one 131) alone (sub_ok (bytes_of alone (0x18 ∷ [])) addresses tt)
    (kept_ok addresses (one 131) alone tt)

one_premises : (least : ℕ → ℕ) → least 1 ≤ 131 → Premises DuringList least (0x18 ∷ []) (one 131) alone
unfolding keptb
one_premises least l =
    record {
      size = lit≤ tt;
      apart = clash_ok (length alone.memory) alone.device.units.base (setup_of alone.device) alone.memory (0x18 ∷ []) tt;
      events = calls_ok (one 131) alone tt;
      intact = one_kept;
      turns = l;
    }

not_after_131 : is_active (cu_state (run step (one 131) alone).device.units.cu) ≡ true
unfolding keptb
not_after_131 = refl

after_132 : log machine (one 132) alone ≡ began 0x18 ∷ ended 0x18 0x8100 [] cna_alone ∷ []
unfolding keptb
after_132 = refl

pub one_unfinished : (least : ℕ → ℕ) → least 1 ≤ 131 → Unfinished least (0x18 ∷ []) (one 131) (before 0x8004)
unfolding keptb
one_unfinished least l =
    record { starts = starts 0x8004; first = refl; listed = refl; premises = one_premises least l; active = not_after_131 }

-- fewer than 132 turns for one command do not suffice
pub one_takes_132 : (least : ℕ → ℕ) → least 1 ≤ 131 → FirstHalf least → ⊥
one_takes_132 least l half = refuted least (0x18 ∷ []) (one 131) (before 0x8004) (one_unfinished least l) half

-- 131 turns a command do not suffice
pub not_131 : FirstHalf (λ n. 131 * n) → ⊥
not_131 half = one_takes_132 (λ n. 131 * n) (lit≤ tt) half

-- ---- two commands: the second frame arrives once the first is stored, at turn 131

abbrev pair : World
pair = begun 0x0004

abbrev pub both : List ℕ
both = 0x18 ∷ 0x54 ∷ []

abbrev pub two : ℕ → List Event
two k = frame ∷ (replicate 131 (call (turn 0)) ++ (frame ∷ replicate k (call (turn 0))))

abbrev addresses₂ : List ℕ
addresses₂ =
    0x54 ∷ 0x55 ∷ 0x56 ∷ 0x57 ∷ 0x58 ∷ 0x59 ∷ 0x5A ∷ 0x5B ∷ 0x5C ∷ 0x5D ∷ 0x5E ∷ 0x5F ∷ 0x60 ∷ 0x61 ∷ 0x62 ∷ 0x63
    ∷ addresses

two_kept : Undisturbed machine (bytes_of pair both) (two 132) pair
unfolding keptb
two_kept =
    kept_sub (bytes_of pair both) addresses₂ (two 132) pair (sub_ok (bytes_of pair both) addresses₂ tt)
    (kept_ok addresses₂ (two 132) pair tt)

not_after_263 : is_active (cu_state (run step (two 132) pair).device.units.cu) ≡ true
unfolding keptb
not_after_263 = refl

after_264 : log machine (two 133) pair ≡ began 0x18 ∷ ended 0x18 0x8100 [] no_events ∷ began 0x54 ∷ ended 0x54 0x8100 [] cna_alone ∷ []
unfolding keptb
after_264 = refl

two_premises : (least : ℕ → ℕ) → least 2 ≤ 263 → Premises DuringList least both (two 132) pair
unfolding keptb
two_premises least l =
    record {
      size = lit≤ tt;
      apart = clash_ok (length pair.memory) pair.device.units.base (setup_of pair.device) pair.memory both tt;
      events = calls_ok (two 132) pair tt;
      intact = two_kept;
      turns = l;
    }

pub two_unfinished : (least : ℕ → ℕ) → least 2 ≤ 263 → Unfinished least both (two 132) (before 0x0004)
unfolding keptb
two_unfinished least l =
    record { starts = starts 0x0004; first = refl; listed = (refl, refl, refl); premises = two_premises least l; active = not_after_263 }

-- fewer than 264 turns for two commands do not suffice
pub two_take_264 : (least : ℕ → ℕ) → least 2 ≤ 263 → FirstHalf least → ⊥
two_take_264 least l half = refuted least both (two 132) (before 0x0004) (two_unfinished least l) half

-- ---- 132 turns a command are enough, and not one can be spared

pub first_half : FirstHalf enough
first_half = attention_list_done
