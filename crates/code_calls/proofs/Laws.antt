-- What the inner functions come to: a call whatever is asked, and the record that numbers go back to. Assumes nothing.
use mathlib.Core.Path.{◌≡◌, refl, sym, ap, subst, ◌∙◌}
use mathlib.Core.Bool.{Bool, true, false}
use mathlib.Core.List.{List, ◌++◌}
use Prim.Native.Nat.{ℕ, zero, suc, ◌+◌, ◌*◌, ◌-◌}
use native.Mathlib.Omega.{arith}
use lib.ListN.{length, take, drop, replicate, take-append-drop}
use Rattle.std.specs.Prelude.{Option, Some, None}
use Rattle.std.proofs.lemmas.Option.{none-some}
use Rattle.memory.proofs.Bytes.{Bytes}
use Rattle.device.specs.Numbers.{refusal_or_0, reason_or_0}
use Rattle.device.specs.declared.Answer.{Answer}
use Rattle.device.specs.declared.Device.{Device}
use Rattle.device.specs.declared.Refusal.{Refusal}
use Rattle.device.specs.declared.Refusal.TheVariants as refusal
use Rattle.device.specs.declared.Units.{Units}
use Rattle.packed.specs.declared.Packed.{Packed}
use Rattle.actions.specs.Setup.{setup_of}
use Rattle.memory.specs.Memory.{digits}
use Rattle.packed.specs.Packed.{packed_of}
use Rattle.code_attention.proofs.States.{setup_length}
use Rattle.code_chip.specs.Does.{DeviceIs, told_of}
use Rattle.image.specs.Image.{front, unit_bytes, image_of, decode_of, device_from, device_at, stored_units}
use Rattle.image.proofs.Lent.{its_image, its_numbers, its_setup, first_part}
use Rattle.image.specs.Found as is
use Rattle.chip.specs.World.{World, Ran, world_of, afterwards}
use Rattle.chip.specs.Turn.{turn_of}
use Rattle.chip.specs.Run.{Run, stops_at, continued, run_of}
use Rattle.code_chip.proofs.Loop.{holding_kept}
use Rattle.chip.proofs.Answers.{Plain, run_plain}
use Rattle.calls.specs.Calls.{Areas, is_image, lengths_of, refusal_of, refused, unless_refused, answer_number}
use Rattle.calls.proofs.Rows.{LengthsRight, rows_right, by_length_lem}
use Rattle.calls.proofs.Laws.{no_image, accepted}
use Rattle.code_calls.specs.declared.Asked.{Asked}
use Rattle.code_calls.specs.Inner.{by_lengths, Finds, turns, asked_on, asked_call}

-- ---- a call, whatever is asked

abbrev by_lengths_of : Areas → List ℕ → Option Refusal
by_lengths_of a f = by_lengths (length a.memory) (length a.holding) (length a.outgoing) (length a.kept) (length f)

module _ (x : Asked) (a : Areas) (f : List ℕ) (line budget unit : ℕ) where
  -- refused for a length: the record was not looked at
  pub asked_early : (r : Refusal) → by_lengths_of a f ≡ Some r → asked_call x a f line budget unit ≡ refused r a
  unfolding asked_call refusal_of
  asked_early r e =
      let d : refusal_of a f ≡ Some r =
      by_length_lem (lengths_of a f) (is_image (decode_of a.kept)) (λ z. none-some r (sym z ∙ e)) ∙ e in
      ap (λ (y : Option Refusal). unless_refused y (asked_on x f line budget unit) a) d

  module _ (n : by_lengths_of a f ≡ None) where
    pub asked_right : LengthsRight (lengths_of a f)
    asked_right = (rows_right (lengths_of a f) true n).0

    pub asked_foreign : decode_of a.kept ≡ is.Foreign → asked_call x a f line budget unit ≡ refused refusal.Foreign a
    unfolding asked_call
    asked_foreign d = no_image a f asked_right (asked_on x f line budget unit) d

    pub asked_accepted : (u : Units) → decode_of a.kept ≡ is.Units u
        → asked_call x a f line budget unit ≡ asked_on x f line budget unit (world_of (device_at a.kept u) a.memory a.holding a.outgoing)
    unfolding asked_call
    asked_accepted u d = accepted a f asked_right (asked_on x f line budget unit) u d

-- ---- numbers that go to a record

put_whole : (k n : Packed) (set : List ℕ) → length set ≡ 16
    → stored_units ((unit_bytes k ++ replicate 200 0) ++ set) n ≡ unit_bytes n ++ (replicate 200 0 ++ set)
unfolding stored_units unit_bytes front digits
put_whole k n set l = rw l

told : (d : Device) (n : Packed) (set : List ℕ) → DeviceIs d n set → unit_bytes n ++ (replicate 200 0 ++ set) ≡ image_of d
unfolding image_of
told d n set e = rw (e.units.same, e.setup.bytes_are)

-- ---- a record whose setup, its last 16 bytes, is lent, and to which numbers go back

module _ (r : List ℕ) (k : Packed) (u : Units) (l : length r ≡ 256) (b : Bytes r) (f : Finds r k u) where
  before_setup : length r - 16 ≡ 240
  before_setup = omega arith

  -- the numbers and the setup are the device's
  pub lent_device : (set : List ℕ) → set ≡ drop (length r - 16) r → DeviceIs (device_at r u) k set
  unfolding device_at device_from
  lent_device set e =
      rw (e, before_setup) (record { units = its_numbers r u l b f.found k f.numbers; setup = its_setup r u l b f.found })

  put_there : (d : Device) (n : Packed) (set : List ℕ) → DeviceIs d n set → stored_units (take 240 r ++ set) n ≡ image_of d
  put_there d n set e =
      let s : take 240 r ≡ unit_bytes (packed_of (device_at r u).units) ++ replicate 200 0 =
      subst (λ (x : List ℕ). take 240 x ≡ unit_bytes (packed_of (device_at r u).units) ++ replicate 200 0) (sym (its_image r u l b f.found).same) (first_part (device_at r u)) in
      rw s (put_whole (packed_of (device_at r u).units) n set (setup_length (setup_of d) set e.setup) ∙ told d n set e)

  -- with other numbers and another setup, it is the image of the device that they are
  pub put_back : (d : Device) (n : Packed) (set : List ℕ) → DeviceIs d n set → stored_units (take (length r - 16) r ++ set) n ≡ image_of d
  put_back d n set e = rw before_setup (put_there d n set e)

  -- with other numbers alone
  pub put_numbers : (d : Device) (n : Packed) (set : List ℕ) → set ≡ drop (length r - 16) r → DeviceIs d n set → stored_units r n ≡ image_of d
  put_numbers d n set s e =
      let x : DeviceIs d n (drop 240 r) = rw (s, before_setup) at e in
      ap (λ (y : List ℕ). stored_units y n) (sym (take-append-drop 240 r)) ∙ put_there d n (drop 240 r) x

-- ---- a run

-- what the last turn told, with the turns above, is its answer
told_packed : (a : Answer) → Plain a → told_of a * 65536 ≡ answer_number a
unfolding answer_number
told_packed a p =
    let q = ap (λ (x : Answer). refusal_or_0 x.refusal) p in
    let y = ap (λ (x : Answer). reason_or_0 x.reason) p in
    omega (arith, q, y)

pub run_answer : (n : ℕ) (w : World) (report unit : ℕ) (told taken : ℕ) → told ≡ told_of (run_of n w report).answer → taken ≡ (run_of n w report).taken
    → told * 65536 + taken * unit ≡ (turns report n unit w).answer
run_answer n w report unit told taken e t = rw (e, t, told_packed (run_of n w report).answer (run_plain n w report))

-- it leaves the holding area alone
holding_by : (s : Bool) (r : Ran) (rest : Run) (h : List ℕ) → r.holding ≡ h → rest.world.holding ≡ h → (continued s r rest).world.holding ≡ h
holding_by true r rest h a b = a
holding_by false r rest h a b = b

run_keeps : (n : ℕ) (w : World) (report : ℕ) → (run_of n w report).world.holding ≡ w.holding
unfolding run_of
run_keeps zero w report = refl
run_keeps (suc n) w report =
    holding_by (stops_at w report) (turn_of w report) (run_of n (afterwards (turn_of w report)) report) w.holding (holding_kept w report)
    (run_keeps n (afterwards (turn_of w report)) report ∙ holding_kept w report)

pub run_holding : (n : ℕ) (w : World) (report : ℕ) → w.holding ≡ (run_of n w report).world.holding
run_holding n w report = sym (run_keeps n w report)
