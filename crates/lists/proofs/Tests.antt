-- The premises on a trace as tests that compute, and traces put together: for worked lists. Assumes nothing.
use mathlib.Core.Path.{◌≡◌, refl, sym, subst}
use mathlib.Core.Logic.{◌≢◌}
use mathlib.Core.Bool.{Bool, true, false, not, ◌&&◌, ◌||◌, true≢false}
use mathlib.Core.List.{List, [], ◌∷◌, ◌++◌}
use Prim.Native.Nat.{ℕ, zero, suc, ◌%◌}
use lib.Dec.{T, eqb, eqb→eq, eqb_refl, T_not}
use lib.ListN.{length, replicate}
use Rattle.memory.specs.Memory.{byte_at, put_byte, bytes_at, put_bytes, value, digits, field_at, apply}
use Rattle.memory.specs.Address.{place, beyond}
use Rattle.memory.specs.declared.RealAddress.{RealAddress}
use Rattle.scb.specs.Control.{code_of}
use Rattle.hash.specs.Hash as hashing
use Rattle.scb.specs.Words.{bits_at, joined, acknowledged, any_of, event_bits, status_word}
use Rattle.scb.specs.declared.Events.{Events}
use Rattle.device.specs.Answers.{counts}
use Rattle.device.specs.Numbers.{action_of, verdict_of}
use Rattle.device.specs.State.{cu_works, ru_works}
use Rattle.filter.specs.Match.{agree, matches}
use Rattle.actions.specs.Actions.{settings_by, filtering, act, reported, is_sent, sent}
use Rattle.actions.specs.Setup.{Setup}
use Rattle.command.specs.Begin as command_begin
use Rattle.command.specs.Buffer as command_buffer
use Rattle.command.specs.End.{next_after, end}
use Rattle.command.specs.Service as command_service
use Rattle.receive.specs.Arrival.{length_of, judged, fate_of, arrival}
use Rattle.receive.specs.Begin as receive_begin
use Rattle.receive.specs.Buffer as receive_buffer
use Rattle.receive.specs.End.{frame_status, settles, close, lack}
use Rattle.receive.specs.Service as receive_service
use Rattle.control.specs.Obey.{obey_cuc, obey_ruc}
use Rattle.attention.specs.Status.{status_to}
use Rattle.attention.specs.Attention as attentions
use Rattle.chip.specs.World.{World, afterwards, reset_of}
use Rattle.chip.specs.Attention.{attention_of}
use Rattle.chip.specs.Arrival as arrivals
use Rattle.chip.specs.Turn.{concluded, command_turn, receive_turn, served_by, is_command, turn_by, turn_of}
use Rattle.chip.specs.Call.{turn}
use Rattle.traces.specs.Event.{Event, call, host, step, is_calm, DuringList}
use Rattle.progress.specs.Same.{In, here, there, range, Same}
use Rattle.progress.specs.Trace.{run, AllMay}
use Rattle.progress.specs.Machine.{Undisturbed, own}
use Rattle.progress.proofs.Same.{Sub, same_part, same_refl}
use Rattle.lists.specs.Uses.{address_length_of, header_bytes, header_length_of, marked, uses, setup_after, list_bytes, result_bytes, NoClash}
use Rattle.lists.specs.Unit.{machine, command_next}

-- ---- events

-- CX alone, CNA alone
abbrev pub cx_alone : Events
cx_alone = record { cx = true; fr = false; cna = false; rnr = false }

abbrev pub cna_alone : Events
cna_alone = record { cx = false; fr = false; cna = true; rnr = false }

-- ---- two tests

pub and_l : (a b : Bool) → T (a && b) → T a
and_l true b t = tt
and_l false b t = t

pub and_r : (a b : Bool) → T (a && b) → T b
and_r true b t = t
and_r false b t = absurd t

pub T-is : (b : Bool) → T b → b ≡ true
T-is true t = refl
T-is false t = absurd t

-- ---- the bytes at L change by the results of the command in work alone

abbrev bytesb : List ℕ → List ℕ → List ℕ → Bool
bytesb [] m q = true
bytesb (a ∷ L) m q = eqb (byte_at m a) (byte_at q a) && bytesb L m q

bytes_ok : (L m q : List ℕ) → T (bytesb L m q) → (a : ℕ) → In a L → byte_at m a ≡ byte_at q a
bytes_ok [] m q t a i = elim i [ ]
bytes_ok (b ∷ L) m q t a here = eqb→eq (byte_at m b) (byte_at q b) (and_l (eqb (byte_at m b) (byte_at q b)) (bytesb L m q) t)
bytes_ok (b ∷ L) m q t a (there i) = bytes_ok L m q (and_r (eqb (byte_at m b) (byte_at q b)) (bytesb L m q) t) a i

abbrev sameb : List ℕ → List ℕ → List ℕ → Bool
sameb L m q = eqb (length m) (length q) && bytesb L m q

same_ok : (L m q : List ℕ) → T (sameb L m q) → Same L m q
same_ok L m q t =
    record {
      size = eqb→eq (length m) (length q) (and_l (eqb (length m) (length q)) (bytesb L m q) t);
      bytes = bytes_ok L m q (and_r (eqb (length m) (length q)) (bytesb L m q) t);
    }

-- who unfolds this unfolds all definitions that a call runs through
unfoldable pub keptb : List ℕ → List Event → World → Bool
unfolding byte_at put_byte bytes_at put_bytes value digits field_at place beyond code_of bits_at joined acknowledged any_of event_bits status_word counts action_of verdict_of agree matches command_begin.begun_by command_begin.header_of command_begin.begin command_buffer.descriptor_at command_buffer.buffer hashing.ones hashing.shifted hashing.step hashing.bits_in hashing.register hashing.selected hashing.hash settings_by filtering act reported is_sent sent next_after end command_service.service length_of judged fate_of arrival receive_begin.begun_by receive_begin.begin receive_buffer.descriptor_at receive_buffer.buffer frame_status settles close lack receive_service.service status_to reset_of attentions.iscp_of attentions.initialise obey_cuc obey_ruc attentions.attend_by attentions.attend attentions.attention attention_of arrivals.arrival arrivals.arrival_of concluded command_turn receive_turn turn_of range address_length_of header_bytes header_length_of marked uses setup_after result_bytes
keptb L [] w = true
keptb L (e ∷ es) w = sameb L (step e w).memory (apply (own machine e w) w.memory) && keptb L es (step e w)

pub kept_ok : (L : List ℕ) (es : List Event) (w : World) → T (keptb L es w) → Undisturbed machine L es w
unfolding keptb
kept_ok L [] w t = tt
kept_ok L (e ∷ es) w t =
    let m = (step e w).memory in
    let q = apply (own machine e w) w.memory in (
      same_ok L m q (and_l (sameb L m q) (keptb L es (step e w)) t),
      kept_ok L es (step e w) (and_r (sameb L m q) (keptb L es (step e w)) t),
    )

-- ---- addresses, each once

abbrev is_in : ℕ → List ℕ → Bool
is_in a [] = false
is_in a (b ∷ L) = eqb a b || is_in a L

abbrev pub subb : List ℕ → List ℕ → Bool
subb [] L = true
subb (a ∷ F) L = is_in a L && subb F L

in_by : (e : Bool) (a b : ℕ) (L : List ℕ) → eqb a b ≡ e → (T (is_in a L) → In a L) → T (e || is_in a L) → In a (b ∷ L)
in_by true a b L h f t = subst (λ (x : ℕ). In a (x ∷ L)) (eqb→eq a b (subst T (sym h) tt)) here
in_by false a b L h f t = there (f t)

in_ok : (a : ℕ) (L : List ℕ) → T (is_in a L) → In a L
in_ok a [] t = absurd t
in_ok a (b ∷ L) t = in_by (eqb a b) a b L refl (in_ok a L) t

pub sub_ok : (F L : List ℕ) → T (subb F L) → Sub F L
sub_ok [] L t a i = elim i [ ]
sub_ok (b ∷ F) L t a here = in_ok b L (and_l (is_in b L) (subb F L) t)
sub_ok (b ∷ F) L t a (there i) = sub_ok F L (and_r (is_in b L) (subb F L) t) a i

pub kept_sub : (F L : List ℕ) (es : List Event) (w : World) → Sub F L → Undisturbed machine L es w → Undisturbed machine F es w
kept_sub F L [] w s k = tt
kept_sub F L (e ∷ es) w s k = (same_part s k.0, kept_sub F L es (step e w) s k.1)

-- ---- no result is a later command's byte

abbrev nearb : ℕ → ℕ → List ℕ → Bool
nearb n x [] = true
nearb n x (y ∷ ys) = not (eqb (x % n) (y % n)) && nearb n x ys

abbrev apartb : ℕ → List ℕ → List ℕ → Bool
apartb n [] ys = true
apartb n (x ∷ xs) ys = nearb n x ys && apartb n xs ys

abbrev pub clashb : ℕ → RealAddress → Setup → List ℕ → List ℕ → Bool
clashb n base s m [] = true
clashb n base s m (c ∷ cs) =
    let t = setup_after base s m c in apartb n (list_bytes base t m cs) (result_bytes base m c) && clashb n base t m cs

not_eq : (a b : ℕ) → T (not (eqb a b)) → a ≢ b
not_eq a b t e = T_not (eqb a b) t (subst (λ (x : ℕ). T (eqb a x)) e (eqb_refl a))

near_ok : (n x : ℕ) (ys : List ℕ) → T (nearb n x ys) → (y : ℕ) → In y ys → x % n ≢ y % n
near_ok n x [] t y i = elim i [ ]
near_ok n x (z ∷ ys) t y here = not_eq (x % n) (z % n) (and_l (not (eqb (x % n) (z % n))) (nearb n x ys) t)
near_ok n x (z ∷ ys) t y (there i) = near_ok n x ys (and_r (not (eqb (x % n) (z % n))) (nearb n x ys) t) y i

apart_ok : (n : ℕ) (xs ys : List ℕ) → T (apartb n xs ys) → (x : ℕ) → In x xs → (y : ℕ) → In y ys → x % n ≢ y % n
apart_ok n [] ys t x i = elim i [ ]
apart_ok n (z ∷ xs) ys t x here = near_ok n z ys (and_l (nearb n z ys) (apartb n xs ys) t)
apart_ok n (z ∷ xs) ys t x (there i) = apart_ok n xs ys (and_r (nearb n z ys) (apartb n xs ys) t) x i

pub clash_ok : (n : ℕ) (base : RealAddress) (s : Setup) (m bs : List ℕ) → T (clashb n base s m bs) → NoClash n base s m bs
clash_ok n base s m [] k = tt
clash_ok n base s m (c ∷ cs) k =
    let t : Setup = setup_after base s m c in
    let rest : List ℕ = list_bytes base t m cs in
    let own : List ℕ = result_bytes base m c in (
      (λ x y i j. apart_ok n rest own (and_l (apartb n rest own) (clashb n base t m cs) k) x i y j),
      clash_ok n base t m cs (and_r (apartb n rest own) (clashb n base t m cs) k),
    )

-- ---- calls that are neither attention nor reset

abbrev is_calm_call : Event → Bool
is_calm_call (call c) = is_calm (call c)
is_calm_call (host m h out) = false

abbrev pub callsb : List Event → Bool
callsb [] = true
callsb (e ∷ es) = is_calm_call e && callsb es

calm_call : (e : Event) (w : World) → T (is_calm_call e) → DuringList e w
calm_call (call c) w t = (T-is (is_calm (call c)) t, tt)
calm_call (host m h out) w t = absurd t

pub calls_ok : (es : List Event) (w : World) → T (callsb es) → AllMay DuringList step es w
calls_ok [] w t = tt
calls_ok (e ∷ es) w t = (calm_call e w (and_l (is_calm_call e) (callsb es) t), calls_ok es (step e w) (and_r (is_calm_call e) (callsb es) t))

-- ---- one trace after another

pub kept_append : (L : List ℕ) (es fs : List Event) (w : World) → Undisturbed machine L es w → Undisturbed machine L fs (run step es w)
    → Undisturbed machine L (es ++ fs) w
kept_append L [] fs w a b = b
kept_append L (e ∷ es) fs w a b = (a.0, kept_append L es fs (step e w) a.1 b)

-- ---- turns while no unit has work

idle_by : (c h l : Bool) (w : World) (r : ℕ) → c ≡ false → h ≡ false → afterwards (turn_by (served_by c h l) w r) ≡ w
idle_by true h l w r a b = absurd (true≢false a)
idle_by false true l w r a b = absurd (true≢false b)
idle_by false false l w r a b = refl

pub idle_turn_lem : (w : World) (r : ℕ) → cu_works w.device.units.cu ≡ false → ru_works w.device.units.ru ≡ false
    → step (call (turn r)) w ≡ w
unfolding turn_of
idle_turn_lem w r a b = idle_by (cu_works w.device.units.cu) (ru_works w.device.units.ru) w.device.units.rulast w r a b

not_next : (c h l : Bool) → c ≡ false → is_command (served_by c h l) ≡ false
not_next true h l e = absurd (true≢false e)
not_next false true l e = refl
not_next false false l e = refl

idle_next : (r : ℕ) (L : List ℕ) (es : List Event) (w : World) → command_next w.device.units ≡ false → Undisturbed machine L es w
    → Same L w.memory (apply (own machine (call (turn r)) w) w.memory) × Undisturbed machine L es w
idle_next r L es w c k = (rw c (same_refl L w.memory), k)

pub idle_kept : (n r : ℕ) (L : List ℕ) (w : World) → cu_works w.device.units.cu ≡ false → ru_works w.device.units.ru ≡ false
    → Undisturbed machine L (replicate n (call (turn r))) w
idle_kept zero r L w a b = tt
idle_kept (suc n) r L w a b =
    let es : List Event = replicate n (call (turn r)) in
    let c : command_next w.device.units ≡ false =
    not_next (cu_works w.device.units.cu) (ru_works w.device.units.ru) w.device.units.rulast a in
    subst (λ (v : World). Same L v.memory (apply (own machine (call (turn r)) w) w.memory) × Undisturbed machine L es v)
    (sym (idle_turn_lem w r a b)) (idle_next r L es w c (idle_kept n r L w a b))
