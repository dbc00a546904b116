-- An attention is its parts: a reset, a command obeyed, an initialisation. Assumes nothing.
use mathlib.Core.Path.{◌≡◌, refl, sym, ap, ◌∙◌}
use mathlib.Core.Bool.{Bool, true, false, not}
use mathlib.Core.List.{List, [], ◌∷◌}
use Prim.Native.Nat.{ℕ, ◌/◌}
use lib.Dec.{eqb}
use Rattle.memory.specs.Memory.{word_at, apply}
use Rattle.memory.proofs.Laws.{apply_append}
use Rattle.scb.specs.Words.{any_of, resets}
use Rattle.scb.proofs.Status.{any_bits}
use Rattle.device.specs.State.{fresh_units, fresh}
use Rattle.device.specs.declared.Device.{Device}
use Rattle.actions.specs.Setup.{setup_of}
use Rattle.packed.specs.Packed.{marks_in, PackedIs}
use Rattle.packed.specs.SetUp.{SetIs}
use Rattle.packed.specs.declared.Packed.{Packed}
use Rattle.packed.proofs.Laws.{events_is}
use Rattle.control.specs.Obey.{of_scb}
use Rattle.attention.specs.Attention.{initialise, attend_by, attend, attention_by, attention}
use Rattle.attention.specs.Status.{status_to}
use Rattle.code_attention.specs.Attends.{command_to, codes, Obeys, Leaves, Attends}

module _ (d : Device) (m : List ℕ) where
  -- the codes, then status and command
  pub obeys_all : (command : ℕ) (m1 m2 : List ℕ) (k : Packed) → Obeys (codes d.units command m) m k m1
      → m2 ≡ apply (status_to (codes d.units command m).units ∷ command_to (codes d.units command m).units ∷ []) m1
      → Leaves (attend_by false d command m) m k m2
  unfolding attend_by codes
  obeys_all command m1 m2 k o e =
      let ws = (codes d.units command m).writes in
      let after = status_to (codes d.units command m).units ∷ command_to (codes d.units command m).units ∷ [] in
      record { packed = o.packed; memory = e ∙ ap (λ (z : List ℕ). apply after z) o.memory ∙ sym (apply_append ws after m) }

  pub attends_reset : (m1 set : List ℕ) (k : Packed) → resets (word_at m (of_scb d.units 2)) ≡ true → PackedIs fresh_units k
      → m1 ≡ apply (command_to d.units ∷ []) m → SetIs (setup_of fresh) set → Attends (attend d m) m (record { packed = k; edge = false }) m1 set
  unfolding attend attend_by
  attends_reset m1 set k e h w s = rw e (record { packed = h; edge = refl; memory = w; setup = s })

  pub attends_obeyed : (command : ℕ) (m1 set : List ℕ) (k : Packed) → command ≡ word_at m (of_scb d.units 2) → resets command ≡ false
      → Leaves (attend_by false d command m) m k m1 → SetIs (setup_of d) set → Attends (attend d m) m (record { packed = k; edge = not (eqb (marks_in k / 16) 0) }) m1 set
  unfolding attend attend_by
  attends_obeyed command m1 set k c e l s =
      let u = (attend_by false d command m).outcome.device.units in
      let edge : not (eqb (marks_in k / 16) 0) ≡ any_of u.events = rw (events_is u k l.packed) (sym (any_bits u.events)) in
      rw (← c, e) (record { packed = l.packed; edge = edge; memory = l.memory; setup = s })

  pub attention_later : d.units.initialised ≡ true → attention d m ≡ attend d m
  unfolding attention
  attention_later e = ap (λ (b : Bool). attention_by b d m) e

  attention_first : d.units.initialised ≡ false → attention d m ≡ initialise d m
  unfolding attention
  attention_first e = ap (λ (b : Bool). attention_by b d m) e

  pub attends_first : (m1 set : List ℕ) (k : Packed) → d.units.initialised ≡ false → Leaves (initialise d m) m k m1 → SetIs (setup_of d) set
      → Attends (attention d m) m (record { packed = k; edge = true }) m1 set
  unfolding initialise
  attends_first m1 set k e l s =
      let a : Attends (initialise d m) m (record { packed = k; edge = true }) m1 set =
      record { packed = l.packed; edge = refl; memory = l.memory; setup = s } in
      rw (attention_first e) a
