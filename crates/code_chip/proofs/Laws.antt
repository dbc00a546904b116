-- What a turn in numbers comes to: which unit has work, the end of a working turn, a service of each unit, and an arrival. Assumes nothing.
use mathlib.Core.Path.{◌≡◌, refl, sym, ap, ◌∙◌}
use mathlib.Core.Bool.{Bool, true, false, not, ◌||◌, true≢false, false≢true}
use mathlib.Core.List.{List, [], ◌∷◌}
use Prim.Native.Nat.{ℕ, zero, suc, ◌+◌, ◌/◌, ◌<◌, ◌≤◌}
use native.Mathlib.Omega.{arith}
use borrow.Author.Tests.{ne_eqb, le-leb, lt-leb}
use lib.Dec.{eqb, leb, ltb}
use lib.ListN.{length}
use Rattle.std.specs.Prelude.{Option, Some, None}
use Rattle.memory.specs.Memory.{apply}
use Rattle.memory.specs.declared.Offset.{Offset}
use Rattle.memory.specs.declared.RealAddress.{RealAddress}
use Rattle.memory.proofs.Laws.{apply_append}
use Rattle.scb.specs.Words.{event_bits, any_of}
use Rattle.scb.specs.declared.Events.{Events}
use Rattle.scb.proofs.Status.{any_bits}
use Rattle.device.specs.Answers.{answered, arrived, counts}
use Rattle.device.specs.Change.{with_settings}
use Rattle.device.specs.Header.{header}
use Rattle.device.specs.State.{cu_works, ru_works}
use Rattle.device.specs.declared.Cu.{Cu}
use Rattle.device.specs.declared.Cu.TheVariants as cu
use Rattle.device.specs.declared.Device.{Device}
use Rattle.device.specs.declared.Reason.TheVariants as reason
use Rattle.device.specs.declared.Ru.{Ru}
use Rattle.device.specs.declared.Ru.TheVariants as ru
use Rattle.device.specs.declared.Settings.{Settings}
use Rattle.device.specs.declared.Units.{Units}
use Rattle.actions.specs.Setup.{setup_of}
use Rattle.command.specs.Part as command
use Rattle.command.specs.Service as command_service
use Rattle.filter.specs.Match.{matches}
use Rattle.receive.specs.Arrival as receive_arrival
use Rattle.receive.specs.Part as receive
use Rattle.receive.specs.Service as receive_service
use Rattle.attention.specs.Status.{status_to}
use Rattle.chip.specs.World.{World, world_of}
use Rattle.chip.specs.Arrival.{arrival, arrival_of}
use Rattle.chip.specs.Turn.{command_units, receive_units, raised_in, status_by, concluded, command_turn, receive_turn, turn_by, turn_of, served_by, served_of, is_command}
use Rattle.chip.specs.declared.Unit.{Unit}
use Rattle.chip.specs.declared.Unit.TheVariants as unit
use Rattle.chip.proofs.Status.{command_memory, receive_memory}
use Rattle.chip.specs.Run.{tells, stops, stops_at}
use Rattle.phases.specs.Fields.{odd}
use Rattle.phases.specs.Phases.{cu_tag, ru_tag}
use Rattle.packed.specs.Packed.{packed_of, marks_in, cu_tag_in, ru_tag_in, PackedIs, cu_served}
use Rattle.packed.proofs.Laws.{cu_is_lem, ru_is_lem, rulast_is}
use Rattle.packed.specs.SetUp.{SetIs}
use Rattle.packed.specs.declared.Packed.{Packed}
use Rattle.code_command.specs.Serves as command_serves
use Rattle.code_command.specs.declared.Commanded.{Commanded}
use Rattle.code_arrival.specs.Arrives as arrives
use Rattle.code_arrival.specs.declared.Arrived.{Arrived}
use Rattle.code_receive.specs.Receives as receives
use Rattle.code_receive.specs.declared.Received.{Received}
use Rattle.code_chip.specs.Does.{DeviceIs, told_by, commands, Concludes, Does, Tells, Arrives}
use Rattle.code_chip.specs.declared.Turned.{Turned}

-- CU has work while Active, RU while a frame is held
pub active_tag : (c : Cu) → leb 2 (cu_tag c) ≡ cu_works c
active_tag cu.Idle = refl
active_tag (cu.Suspended o) = refl
active_tag (cu.Waiting o) = refl
active_tag (cu.Acting b a) = refl
active_tag (cu.Sending b w) = refl
active_tag (cu.Ending b n) = refl
active_tag (cu.Failing b) = refl

pub holding_tag : (u : Ru) → leb 4 (ru_tag u) ≡ ru_works u
holding_tag ru.Idle = refl
holding_tag ru.NoResources = refl
holding_tag (ru.Suspended o) = refl
holding_tag (ru.Ready o) = refl
holding_tag (ru.Held o f p) = refl
holding_tag (ru.Filling s w) = refl
holding_tag (ru.Closing s o full) = refl
holding_tag (ru.Lacking s) = refl

-- the numbers have no settings in them
pub packed_settings : (u : Units) (k : Packed) (s : Settings) → PackedIs u k → PackedIs (with_settings u s) k
unfolding packed_of
packed_settings u k s h =
    record {
      same = h.same;
      wide =
          record {
            scb_wide = h.wide.scb_wide;
            base_wide = h.wide.base_wide;
            cu_wide = h.wide.cu_wide;
            ru_wide = h.wide.ru_wide;
            holding_wide = h.wide.holding_wide;
          };
    }

-- numbers that are an address
pub same_real : (a b : RealAddress) → a.0 ≡ b.0 → a ≡ b
same_real a b e = ap (λ (x : ℕ). let r : RealAddress = record { 0 = x } in r) e

pub same_offset : (a b : Offset) → a.0 ≡ b.0 → a ≡ b
same_offset a b e = ap (λ (x : ℕ). let r : Offset = record { 0 = x } in r) e

-- ---- the end of a working turn

or_true : (x : Bool) → (x || true) ≡ true
or_true true = refl
or_true false = refl

or_false : (x : Bool) → (x || false) ≡ x
or_false true = refl
or_false false = refl

tells_nothing : (n : ℕ) (e : Bool) → (not (eqb n 0) || e) ≡ false → told_by n e ≡ 0
tells_nothing zero false p = refl
tells_nothing zero true p = absurd (true≢false p)
tells_nothing (suc n) e p = let q : eqb (suc n) 0 ≡ false = ne_eqb (suc n) 0 (λ z. omega (arith, z)) in absurd (true≢false (rw q at p))

-- a working turn that does not end a run has nothing to tell
quiet : (u : Units) (by : Events) (k : Packed) (n : ℕ) (before : List ℕ) (r : Turned) (m : List ℕ) → Concludes u by k n before r m → r.stops ≡ false → r.told ≡ 0
quiet u by k n before r m f e = f.told ∙ tells_nothing n (any_of by) (sym f.stops ∙ e)

module _ (u : Units) (by : Events) (k : Packed) (length raised : ℕ) (before m : List ℕ) (e : raised ≡ event_bits by) where
  pub concludes_raised : (raised ≡ 0 → ⊥) → m ≡ apply (status_to u ∷ []) before
      → Concludes u by k length before (record { packed = k; told = length + 65536; stops = true }) m
  concludes_raised n w =
      let a : any_of by ≡ true = any_bits by ∙ rw (← e, ne_eqb raised 0 n) in
      record { packed = refl; told = rw a; stops = rw (a, or_true (not (eqb length 0))); memory = rw a w }

  pub concludes_quiet : raised ≡ 0 → m ≡ before
      → Concludes u by k length before (record { packed = k; told = length; stops = not (eqb length 0) }) m
  concludes_quiet z w =
      let a : any_of by ≡ false = any_bits by ∙ rw (← e, z) in
      record { packed = refl; told = rw a (omega arith); stops = rw (a, or_false (not (eqb length 0))); memory = rw a w }

-- ---- a service of each unit

module _ (d : Device) (m h out : List ℕ) (report : ℕ) where
  abbrev served : command.Service
  served = command_service.service (command.part_of d out) m report

  -- the units that a service of the command unit leaves
  abbrev pub commanded_units : Units
  commanded_units = raised_in (command_units d served) served.raised

  pub commanded_is : (k : Packed) → PackedIs (cu_served d.units served.part.unit served.raised) k → PackedIs commanded_units k
  commanded_is k e = packed_settings (cu_served d.units served.part.unit served.raised) k served.part.setup.settings e

  pub command_tells : (k : Packed) (c : Commanded) (r : Turned) (m1 m2 out1 set1 : List ℕ) → command_serves.Serves served m c m1 out1 set1 → PackedIs commanded_units k
      → Concludes commanded_units served.raised k c.length m1 r m2 → Tells (command_turn (world_of d m h out) report) r m2 out1 set1
  unfolding command_turn concluded
  command_tells k c r m1 m2 out1 set1 s e f =
      record {
        device = record { units = rw f.packed e; setup = s.setup };
        told = f.told ∙ ap (λ (n : ℕ). told_by n (any_of served.raised)) s.length;
        stops = f.stops ∙ ap (λ (n : ℕ). tells (answered n (any_of served.raised))) s.length;
        nothing = λ q. quiet _ _ _ _ _ _ _ f q;
        memory =
            f.memory ∙ rw s.memory (sym (apply_append served.writes (status_by (any_of served.raised) commanded_units) m))
            ∙ sym (command_memory (world_of d m h out) report);
        outgoing = s.outgoing;
      }

module _ (d : Device) (m h out set : List ℕ) where
  abbrev received : receive.Service
  received = receive_service.service (receive.part_of d.units h) m

  abbrev pub received_units : Units
  received_units = raised_in (receive_units d received) received.raised

  pub receive_tells : (k : Packed) (c : Received) (r : Turned) (m1 m2 : List ℕ) → receives.Serves received m c m1 → PackedIs received_units k
      → SetIs (setup_of d) set → Concludes received_units received.raised k 0 m1 r m2 → Tells (receive_turn (world_of d m h out)) r m2 out set
  unfolding receive_turn concluded
  receive_tells k c r m1 m2 s e t f =
      record {
        device = record { units = rw f.packed e; setup = t };
        told = f.told;
        stops = f.stops;
        nothing = λ q. quiet _ _ _ _ _ _ _ f q;
        memory =
            f.memory ∙ rw s.memory (sym (apply_append received.writes (status_by (any_of received.raised) received_units) m))
            ∙ sym (receive_memory (world_of d m h out));
        outgoing = refl;
      }

-- ---- which unit is served

module _ (w : World) (report : ℕ) (r : Turned) (m out set : List ℕ) where
  by_command : (s : Option Unit) → is_command s ≡ true → Tells (command_turn w report) r m out set
      → Does (turn_by s w report) (stops s (turn_by s w report).outcome.answer) r m out set
  unfolding stops
  by_command None e t = absurd (false≢true e)
  by_command (Some unit.Command) e t = t
  by_command (Some unit.Receive) e t = absurd (false≢true e)

  by_receive : (a b c : Bool) → is_command (served_by a b c) ≡ false → b ≡ true → Tells (receive_turn w) r m out set
      → Does (turn_by (served_by a b c) w report) (stops (served_by a b c) (turn_by (served_by a b c) w report).outcome.answer) r m out set
  unfolding stops
  by_receive true true true e f t = absurd (true≢false e)
  by_receive true true false e f t = t
  by_receive true false c e f t = absurd (false≢true f)
  by_receive false true c e f t = t
  by_receive false false c e f t = absurd (false≢true f)

  by_neither : (a b c : Bool) → is_command (served_by a b c) ≡ false → b ≡ false → DeviceIs w.device r.packed set → r.told ≡ 0 → r.stops ≡ true
      → m ≡ w.memory → out ≡ w.outgoing
      → Does (turn_by (served_by a b c) w report) (stops (served_by a b c) (turn_by (served_by a b c) w report).outcome.answer) r m out set
  unfolding stops
  by_neither true true c e f d l s x y = absurd (true≢false f)
  by_neither true false c e f d l s x y = absurd (true≢false e)
  by_neither false true c e f d l s x y = absurd (true≢false f)
  by_neither false false c e f d l s x y = record { device = d; told = l; stops = s; nothing = λ q. l; memory = x; outgoing = y }

  abbrev active : Bool
  active = cu_works w.device.units.cu

  abbrev holds : Bool
  holds = ru_works w.device.units.ru

  pub turn_command : commands w.device.units ≡ true → Tells (command_turn w report) r m out set
      → Does (turn_of w report) (stops_at w report) r m out set
  unfolding turn_of commands
  turn_command e t = by_command (served_of w.device.units) e t

  pub turn_receive : commands w.device.units ≡ false → holds ≡ true → Tells (receive_turn w) r m out set
      → Does (turn_of w report) (stops_at w report) r m out set
  unfolding turn_of commands
  turn_receive e f t = by_receive active holds w.device.units.rulast e f t

  pub turn_neither : commands w.device.units ≡ false → holds ≡ false → DeviceIs w.device r.packed set → r.told ≡ 0
      → r.stops ≡ true → m ≡ w.memory → out ≡ w.outgoing → Does (turn_of w report) (stops_at w report) r m out set
  unfolding turn_of commands
  turn_neither e f d l s x y = by_neither active holds w.device.units.rulast e f d l s x y

idle_served : (b c : Bool) → false ≡ is_command (served_by false b c)
idle_served true c = refl
idle_served false c = refl

both_served : (c : Bool) → is_command (served_by true true c) ≡ c
both_served true = refl
both_served false = refl

-- what the code tests is that
module _ (u : Units) (k : Packed) (h : PackedIs u k) where
  active_is : leb 2 (cu_tag_in k) ≡ cu_works u.cu
  active_is = rw (cu_is_lem u k h).tag_is (active_tag u.cu)

  pub holds_is : leb 4 (ru_tag_in k) ≡ ru_works u.ru
  holds_is = rw (ru_is_lem u k h).tag_is (holding_tag u.ru)

  pub commands_idle : cu_tag_in k < 2 → false ≡ commands u
  unfolding commands
  commands_idle l = let a = sym active_is ∙ lt-leb 2 (cu_tag_in k) l in rw a (idle_served (ru_works u.ru) u.rulast)

  pub commands_alone : 2 ≤ cu_tag_in k → ru_tag_in k < 4 → true ≡ commands u
  unfolding commands
  commands_alone l n =
      let a = sym active_is ∙ le-leb 2 (cu_tag_in k) l in
      let b = sym holds_is ∙ lt-leb 4 (ru_tag_in k) n in
      rw (a, b)

  pub commands_next : 2 ≤ cu_tag_in k → 4 ≤ ru_tag_in k → odd (marks_in k / 2) ≡ commands u
  unfolding commands
  commands_next l n =
      let a = sym active_is ∙ le-leb 2 (cu_tag_in k) l in
      let b = sym holds_is ∙ le-leb 4 (ru_tag_in k) n in
      rw (a, b, both_served u.rulast) (rulast_is u k h)

-- ---- an arrival

module _ (d : Device) (f : List ℕ) (v : ℕ) (m h out set : List ℕ) where
  abbrev world : World
  world = world_of d m h out

  abbrev matched : Bool
  matched = matches d.units.settings d.own d.filter f

  -- shorter than the header, or no match: dropped
  abbrev headed : ℕ
  headed = header d.units.settings.form.length

  pub arrives_few : (k : Packed) → ltb (length f) headed ≡ true → DeviceIs d k set
      → Arrives (arrival_of world f v) (record { packed = k; reason = Some reason.TooFew }) set m h
  unfolding arrival_of arrival receive_arrival.arrival receive_arrival.fate_of counts
  arrives_few k a x = rw a (record { device = x; answer = refl; memory = refl; holding = refl })

  pub arrives_unmatched : (k : Packed) → ltb (length f) headed ≡ false → matched ≡ false → DeviceIs d k set
      → Arrives (arrival_of world f v) (record { packed = k; reason = Some reason.NoMatch }) set m h
  unfolding arrival_of arrival receive_arrival.arrival receive_arrival.fate_of counts
  arrives_unmatched k a b x = rw (a, b) (record { device = x; answer = refl; memory = refl; holding = refl })

  -- for us
  pub arrives_matched : (r : Arrived) (m1 h1 : List ℕ) → matched ≡ true → SetIs (setup_of d) set
      → arrives.Arrives (receive_arrival.arrival d.units true f v m h) d.units m r m1 h1 → Arrives (arrival_of world f v) r set m1 h1
  unfolding arrival_of arrival
  arrives_matched r m1 h1 b s a =
      rw b
      (record {
        device = record { units = a.units; setup = s };
        answer = ap arrived (sym a.reason);
        memory = a.memory;
        holding = a.holding;
      })
