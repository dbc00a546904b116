-- What a channel attention with START, or with RESUME, leaves: the command unit is Active at the CBL offset, or where it was suspended, and all else
-- of its part is as it was, whatever is acknowledged and whatever the receive unit is told. Assumes nothing.
use mathlib.Core.Path.{◌≡◌, refl, sym, ap, ◌∙◌, subst}
use mathlib.Core.Bool.{Bool, true, false, true≢false, false≢true}
use mathlib.Core.List.{List}
use Prim.Native.Nat.{ℕ}
use lib.ListN.{length}
use Rattle.memory.specs.Memory.{word_at}
use Rattle.memory.specs.Address.{offset_at}
use Rattle.memory.specs.declared.Offset.{Offset}
use Rattle.memory.proofs.Laws.{length_apply}
use Rattle.scb.specs.Control.{code_of}
use Rattle.scb.specs.Words.{scb_command_at, cbl_at, cuc, resets}
use Rattle.device.specs.State.{cu_state, is_active}
use Rattle.device.specs.declared.Cu.{Cu}
use Rattle.device.specs.declared.Cu.TheVariants as cu
use Rattle.device.specs.declared.Device.{Device}
use Rattle.device.specs.declared.Units.{Units}
use Rattle.command.specs.Part.{Part, with_unit, part_of}
use Rattle.control.specs.Control.{cu_start}
use Rattle.control.specs.Obey.{of_scb, obey_cuc}
use Rattle.attention.specs.Attention.{Attended, attend_by, attend, attention_by}
use Rattle.attention.specs.Attention as attentions
use Rattle.chip.specs.Attention.{attention_of}
use Rattle.chip.specs.Call.{attention}
use Rattle.chip.specs.World.{World, writing, afterwards}
use Rattle.traces.specs.Event.{call, step}
use Rattle.lists.specs.Uses.{block, Listed, first_of}
use Rattle.lists.specs.Done.{Starts, Resumes, Started}

-- ---- START and RESUME are obeyed

start_goes : (unit : Cu) (first : Offset) → is_active (cu_state unit) ≡ false → cu_start first unit ≡ cu.Waiting first
start_goes cu.Idle first h = refl
start_goes (cu.Suspended o) first h = refl
start_goes (cu.Waiting o) first h = absurd (true≢false h)
start_goes (cu.Acting b a) first h = absurd (true≢false h)
start_goes (cu.Sending b w) first h = absurd (true≢false h)
start_goes (cu.Ending b n) first h = absurd (true≢false h)
start_goes (cu.Failing b) first h = absurd (true≢false h)

start_obeyed : (u : Units) (command : ℕ) (m : List ℕ) → cuc command ≡ 1 → is_active (cu_state u.cu) ≡ false
    → (obey_cuc u command m).unit ≡ cu.Waiting (offset_at m (of_scb u cbl_at))
unfolding obey_cuc code_of
start_obeyed u command m e h = rw e (start_goes u.cu (offset_at m (of_scb u cbl_at)) h)

resume_obeyed : (u : Units) (command : ℕ) (m : List ℕ) (o : Offset) → cuc command ≡ 2 → u.cu ≡ cu.Suspended o
    → (obey_cuc u command m).unit ≡ cu.Waiting o
unfolding obey_cuc code_of
resume_obeyed u command m o e h = rw (e, h)

-- ---- the attention

-- where the SCB of a world has its CBL offset
abbrev pub cbl_of : World → Offset
cbl_of w = offset_at w.memory (of_scb w.device.units cbl_at)

-- the unit is at the block o; base, settings, addresses and outgoing area are as they were, and so are the order of service and N
pub record Begins (o : Offset) (w v : World) : Type 0 where
  pub part : part_of v.device v.outgoing ≡ with_unit (part_of w.device w.outgoing) (cu.Waiting o)
  pub order : v.device.units.rulast ≡ w.device.units.rulast
  pub size : length v.memory ≡ length w.memory

abbrev leaves : World → Attended → World
leaves w a = afterwards (writing w a.writes a.outcome)

obey_begins : (o : Offset) (w : World) (command : ℕ) → (obey_cuc w.device.units command w.memory).unit ≡ cu.Waiting o
    → Begins o w (leaves w (attend_by false w.device command w.memory))
unfolding attend_by
obey_begins o w command e =
    record {
      part = ap (λ (u : Cu). with_unit (part_of w.device w.outgoing) u) e;
      order = refl;
      size = length_apply (attend_by false w.device command w.memory).writes w.memory;
    }

attention_on : (initialised : Bool) (d : Device) (m : List ℕ) → initialised ≡ true → attention_by initialised d m ≡ attend d m
attention_on true d m e = refl
attention_on false d m e = absurd (false≢true e)

-- the SCB's command word
abbrev command_of : World → ℕ
command_of w = word_at w.memory (of_scb w.device.units scb_command_at)

attended : (w : World) → w.device.units.initialised ≡ true → resets (command_of w) ≡ false
    → attentions.attention w.device w.memory ≡ attend_by false w.device (command_of w) w.memory
unfolding attentions.attention attend
attended w i r =
    attention_on w.device.units.initialised w.device w.memory i
    ∙ ap (λ (reset : Bool). attend_by reset w.device (command_of w) w.memory) r

-- initialised, RESET clear, and a CUC that is obeyed so
obeyed : (o : Offset) (w : World) → w.device.units.initialised ≡ true → resets (command_of w) ≡ false
    → (obey_cuc w.device.units (command_of w) w.memory).unit ≡ cu.Waiting o → Begins o w (step (call attention) w)
unfolding attention_of
obeyed o w i r e = subst (λ (a : Attended). Begins o w (leaves w a)) (sym (attended w i r)) (obey_begins o w (command_of w) e)

-- the list that begins at the CBL offset
pub begins : (bs : List ℕ) (w : World) → Starts w → first_of bs ≡ (cbl_of w).0 → Begins (block (first_of bs)) w (step (call attention) w)
begins bs w s e =
    obeyed (block (first_of bs)) w s.initialised s.unreset
    (start_obeyed w.device.units (command_of w) w.memory s.start s.idle ∙ ap (λ (c : ℕ). cu.Waiting (block c)) (sym e))

-- the list before which the unit was suspended
pub resumes : (first : ℕ) (w : World) → Resumes first w → Begins (block first) w (step (call attention) w)
resumes first w s =
    obeyed (block first) w s.initialised s.unreset (resume_obeyed w.device.units (command_of w) w.memory (block first) s.resume s.suspended)

-- either, as memory stands after that attention, is started
pub started : (bs : List ℕ) (w v : World) → Begins (block (first_of bs)) w v → Listed v.device.units.base v.memory bs → Started bs v
started bs w v b l = record { unit = ap (λ (p : Part). p.unit) b.part; listed = l }
