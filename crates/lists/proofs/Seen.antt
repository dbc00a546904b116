-- What the host sees of the command unit's services, over every trace: edge, status and frames are those that are noted. Assumes nothing.
use mathlib.Core.Path.{◌≡◌, refl, sym, ap, subst}
use mathlib.Core.Bool.{Bool, true, false, ◌||◌, false≢true}
use mathlib.Core.List.{List, [], ◌∷◌, ◌++◌, append_assoc, append-nil}
use Prim.Native.Nat.{ℕ}
use Rattle.std.specs.Prelude.{Option, Some, None}
use Rattle.memory.specs.Memory.{apply}
use Rattle.scb.specs.Words.{raise, any_of}
use Rattle.scb.specs.declared.Events.{Events}
use Rattle.device.specs.declared.Cu.{Cu}
use Rattle.device.specs.declared.Cu.TheVariants as cu
use Rattle.device.specs.declared.Device.{Device}
use Rattle.command.specs.Begin.{begin}
use Rattle.command.specs.Buffer.{buffer}
use Rattle.command.specs.Part.{Part, part_of}
use Rattle.command.specs.Service.{service_by, service}
use Rattle.chip.specs.declared.Unit.{Unit}
use Rattle.chip.specs.declared.Unit.TheVariants as unit
use Rattle.attention.specs.Attention.{attend_by, attend, initialise, attention_by}
use Rattle.attention.specs.Attention as attentions
use Rattle.chip.specs.Attention.{attention_of}
use Rattle.chip.specs.Arrival.{arrival_of}
use Rattle.chip.specs.Call.{reset, attention, arrive, turn, ran}
use Rattle.chip.specs.Turn.{served_of, is_command, raised_in, changes, status_by, concluded, command_units, command_turn, receive_turn, turn_by, turn_of}
use Rattle.chip.specs.World.{World, Ran, reset_of}
use Rattle.progress.specs.Machine.{at_service, log}
use Rattle.traces.specs.Event.{Event, call, host, step, report}
use Rattle.traces.specs.Told.{frame_of, frames_along}
use Rattle.lists.specs.Unit.{Note, began, ended, note_by, command_next, machine}
use Rattle.lists.specs.Seen.{raised_of, Seen, AllSeen, frames_of}

-- ---- what is noted is what the service raises

raised_noted : (u : Cu) (p : Part) (m : List ℕ) (r : ℕ) → (service_by u p m r).raised ≡ raised_of (note_by u p m r)
unfolding begin buffer
raised_noted cu.Idle p m r = refl
raised_noted (cu.Suspended o) p m r = refl
raised_noted (cu.Waiting o) p m r = refl
raised_noted (cu.Acting b a) p m r = refl
raised_noted (cu.Sending b w) p m r = refl
raised_noted (cu.Ending b n) p m r = refl
raised_noted (cu.Failing b) p m r = refl

-- ---- a turn that goes to the command unit

goes : (s : Option Unit) (w : World) (r : ℕ) → is_command s ≡ true → command_turn w r ≡ turn_by s w r
goes None w r h = absurd (false≢true h)
goes (Some unit.Command) w r h = refl
goes (Some unit.Receive) w r h = absurd (false≢true h)

command_turn_lem : (w : World) (r : ℕ) → command_next w.device.units ≡ true → command_turn w r ≡ ran (turn r) w
unfolding turn_of
command_turn_lem w r h = goes (served_of w.device.units) w r h

command_seen : (w : World) (r : ℕ) → Seen r w (command_turn w r)
unfolding command_turn concluded service
command_seen w r =
    let e = raised_noted w.device.units.cu (part_of w.device w.outgoing) w.memory r in
    let s = service_by w.device.units.cu (part_of w.device w.outgoing) w.memory r in
    let after = command_units w.device s in
    record {
      edge = ap any_of e;
      events = ap (λ (x : Events). raise w.device.units.events x) e;
      memory = ap (λ (x : Events). apply (s.writes ++ status_by (any_of x || changes w.device.units after) (raised_in after s.raised)) w.memory) e;
    }

pub seen : (w : World) (r : ℕ) → command_next w.device.units ≡ true → Seen r w (ran (turn r) w)
seen w r h = subst (λ (x : Ran). Seen r w x) (command_turn_lem w r h) (command_seen w r)

pub all_seen : (es : List Event) (w : World) → AllSeen es w
all_seen [] w = tt
all_seen (e ∷ es) w = (λ t h. seen w (report e) h, all_seen es (step e w))

-- ---- the frames

frames_append : (xs ys : List Note) → frames_of (xs ++ ys) ≡ frames_of xs ++ frames_of ys
frames_append [] ys = refl
frames_append (began c ∷ xs) ys = frames_append xs ys
frames_append (ended c status frames raised ∷ xs) ys = rw (frames_append xs ys) (sym (append_assoc frames (frames_of xs) (frames_of ys)))

-- a service sends the frame that it notes
frames_noted : (u : Cu) (p : Part) (m : List ℕ) (r : ℕ)
    → frame_of (service_by u p m r).length (service_by u p m r).part.outgoing ≡ frames_of (note_by u p m r)
unfolding begin buffer
frames_noted cu.Idle p m r = refl
frames_noted (cu.Suspended o) p m r = refl
frames_noted (cu.Waiting o) p m r = refl
frames_noted (cu.Acting b a) p m r = sym (append-nil _)
frames_noted (cu.Sending b w) p m r = refl
frames_noted (cu.Ending b n) p m r = sym (append-nil _)
frames_noted (cu.Failing b) p m r = sym (append-nil _)

-- only the command unit's turns send
abbrev noted_by : Option Unit → World → ℕ → List Note
noted_by s w r = at_service machine true (is_command s) (note_by w.device.units.cu (part_of w.device w.outgoing) w.memory r) []

turn_frames : (s : Option Unit) (w : World) (r : ℕ) → frame_of (turn_by s w r).outcome.answer.length (turn_by s w r).outgoing ≡ frames_of (noted_by s w r)
unfolding command_turn receive_turn concluded service
turn_frames None w r = refl
turn_frames (Some unit.Command) w r = frames_noted w.device.units.cu (part_of w.device w.outgoing) w.memory r
turn_frames (Some unit.Receive) w r = refl

attend_none : (resets : Bool) (d : Device) (command : ℕ) (m : List ℕ) → (attend_by resets d command m).outcome.answer.length ≡ 0
unfolding attend_by
attend_none true d command m = refl
attend_none false d command m = refl

attention_none : (initialised : Bool) (d : Device) (m : List ℕ) → (attention_by initialised d m).outcome.answer.length ≡ 0
unfolding attend initialise
attention_none true d m = attend_none _ d _ m
attention_none false d m = refl

-- the lengths that the calls of a trace answer, each of the outgoing area as its call leaves it, are the frames that are noted, and in their order
pub frames_along_lem : (es : List Event) (w : World) → frames_along es w ≡ frames_of (log machine es w)
unfolding reset_of attention_of attentions.attention arrival_of turn_of
frames_along_lem [] w = refl
frames_along_lem (call reset ∷ es) w = frames_along_lem es (step (call reset) w)
frames_along_lem (call attention ∷ es) w =
    rw (attention_none w.device.units.initialised w.device w.memory) (frames_along_lem es (step (call attention) w))
frames_along_lem (call (arrive f v) ∷ es) w = frames_along_lem es (step (call (arrive f v)) w)
frames_along_lem (call (turn r) ∷ es) w =
    let s = served_of w.device.units in
    rw (turn_frames s w r, frames_along_lem es (step (call (turn r)) w)) (sym (frames_append (noted_by s w r) (log machine es (step (call (turn r)) w))))
frames_along_lem (host m h out ∷ es) w = frames_along_lem es (step (host m h out) w)
