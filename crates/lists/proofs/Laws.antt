-- The command unit has the laws of a unit that takes turns: a service reads its addresses alone, a turn that goes to it is a service, any other
-- turn leaves its part alone, and so does everything that may occur between turns. Assumes nothing.
use mathlib.Core.Path.{◌≡◌, refl, sym, ap, ◌∙◌}
use mathlib.Core.Bool.{Bool, true, false, not, true≢false, false≢true}
use mathlib.Core.List.{List, [], ◌∷◌, ◌++◌}
use Prim.Native.Nat.{ℕ, zero, suc, ◌+◌, ◌*◌, ◌≤◌, ◌<◌}
use native.Mathlib.Nat.{add-suc, add-zero, suc-add, suc-mul}
use native.Mathlib.Omega.{arith}
use lib.Dec.{eqb, ltb}
use borrow.Author.Tests.{ltb-true}
use Rattle.memory.specs.Memory.{field_at, word_at, real_at, word_to, apply}
use Rattle.memory.specs.Address.{place}
use Rattle.memory.specs.declared.Offset.{Offset}
use Rattle.memory.specs.declared.RealAddress.{RealAddress}
use Rattle.device.specs.Limits.{longest_address, type_length}
use Rattle.device.specs.Numbers.{transmit}
use Rattle.device.specs.State.{cu_state, is_active, cu_works, ru_works}
use Rattle.device.specs.declared.Action.{Action}
use Rattle.device.specs.declared.Action.TheVariants as action
use Rattle.device.specs.declared.Begun.{Begun}
use Rattle.device.specs.declared.Cu.{Cu}
use Rattle.device.specs.declared.Cu.TheVariants as cu
use Rattle.device.specs.declared.Settings.{Settings}
use Rattle.device.specs.declared.Walk.{Walk}
use Rattle.actions.specs.Actions.{Acted, act, sent, not_sent, clamped, byte_of, settings_by, groups, filtering, mc_setup, configure}
use Rattle.actions.specs.Block.{block_status_at, block_command_at, block_link_at, argument_at, destination_at, type_at}
use Rattle.actions.specs.Setup.{Setup}
use Rattle.command.specs.Begin.{cmd, begun_by, header_by, header_of, to_begun, begin}
use Rattle.command.specs.Buffer.{descriptor_at, fits, gathered, buffer}
use Rattle.command.specs.End.{end, next_after, status_to}
use Rattle.command.specs.Part.{Part, Service, part_of, quietly}
use Rattle.command.specs.Service.{service_by, service}
use Rattle.chip.specs.Call.{reset, attention, arrive, turn}
use Rattle.chip.specs.Turn.{served_by, is_command, concluded, command_turn, receive_turn, turn_by, turn_of}
use Rattle.chip.specs.Arrival.{arrival_of}
use Rattle.chip.specs.World.{World, afterwards}
use Rattle.traces.specs.Event.{Event, call, host, is_turn, DuringList}
use Rattle.progress.specs.Machine.{Laws, Served, Passed, Between}
use Rattle.progress.specs.Same.{In, here, there, range, Same}
use Rattle.progress.proofs.Same.{in_left, in_right, same_part, same_apply, same_bytes_lem, same_field}
use Rattle.lists.specs.Uses.{from, address_length_of, header_bytes_by, header_bytes, argument_bytes, descriptor_bytes}
use Rattle.lists.specs.Unit.{note_by, begin_reads, data_reads, end_reads, reads_by, command_next, machine}

-- ---- parts of a list of addresses

pub same_left : (A B : List ℕ) {m q : List ℕ} → Same (A ++ B) m q → Same A m q
same_left A B h = same_part (λ a i. in_left B i) h

pub same_right : (A B : List ℕ) {m q : List ℕ} → Same (A ++ B) m q → Same B m q
same_right A B h = same_part (λ a i. in_right A i) h

pub same_at : {m q : List ℕ} (k a : ℕ) → Same (range a k) m q → field_at k m a ≡ field_at k q a
same_at k a h = same_field k a (λ x i. i) h

pub in_range_lem : (a k n : ℕ) → k < n → In (a + k) (range a n)
unfolding range
in_range_lem a zero zero l = absurd (omega arith)
in_range_lem a (suc k) zero l = absurd (omega arith)
in_range_lem a zero (suc n) l = rw add-zero here
in_range_lem a (suc k) (suc n) l =
    let i : In (a + suc k) (range (suc a) n) = rw (add-suc, ← suc-add a) (in_range_lem (suc a) k n (omega arith)) in there i

-- ---- begin

-- the header that a Transmit's block has, with either location
header_local : (location : Bool) (l : ℕ) (base : RealAddress) (own : List ℕ) (o : Offset) (m q : List ℕ) → Same (header_bytes_by location base l o.0) m q
    → header_by location l base own o m ≡ header_by location l base own o q
header_local true l base own o m q h = refl
header_local false l base own o m q h =
    let A = from base o.0 destination_at l in
    let B = from base o.0 (type_at l) type_length in
    rw (
      same_bytes_lem (place base o destination_at) l (same_left A B h),
      same_bytes_lem (place base o (type_at l)) type_length (same_right A B h),
    )

to_begun_local : (t : Bool) (p : Part) (b : Begun) (word : ℕ) (m q : List ℕ) → Same (begin_reads t p b.block.0) m q
    → to_begun t p b word m ≡ to_begun t p b word q
unfolding header_of header_bytes address_length_of
to_begun_local true p b word m q h =
    let c = b.block.0 in
    let form = p.setup.settings.form in
    let A = from p.base c argument_at 2 in
    let B = header_bytes p.base p.setup c in
    let first : word_at m (place p.base b.block argument_at) ≡ word_at q (place p.base b.block argument_at) =
    same_at 2 (place p.base b.block argument_at) (same_left A B h) in
    let header : header_by form.location form.length p.base p.setup.own b.block m
    ≡ header_by form.location form.length p.base p.setup.own b.block q =
    header_local form.location form.length p.base p.setup.own b.block m q (same_right A B h) in
    rw (first, header)
to_begun_local false p b word m q h = refl

begin_local : (p : Part) (o : Offset) (m q : List ℕ) (r : ℕ) → Same (reads_by (cu.Waiting o) p q) m q → begin p o m ≡ begin p o q
unfolding begin begun_by
begin_local p o m q r h =
    let a = place p.base o block_command_at in
    let A = from p.base o.0 block_command_at 2 in
    let word : word_at m a ≡ word_at q a = same_at 2 a (same_left A (begin_reads (eqb (cmd (word_at q a)) transmit) p o.0) h) in
    rw word
    (ap (λ (part : Part). quietly part (word_to (place p.base o block_status_at) 0x4000 ∷ []))
    (to_begun_local (eqb (cmd (word_at q a)) transmit) p (begun_by o (word_at q a)) (word_at q a) m q
    (same_right A (begin_reads (eqb (cmd (word_at q a)) transmit) p o.0) h)))

-- ---- actions

place_beyond : (base : RealAddress) (o : Offset) (j k : ℕ) → place base o (j + k) ≡ place base o j + k
unfolding place
place_beyond base o j k = omega arith

-- a byte that Configure takes
byte_local : (base : RealAddress) (o : Offset) (m q : List ℕ) (n k : ℕ) → k < n → Same (range (place base o argument_at) n) m q
    → byte_of base o m k ≡ byte_of base o q k
byte_local base o m q n k l h =
    h.bytes (place base o (argument_at + k)) (rw (place_beyond base o argument_at k) (in_range_lem (place base o argument_at) k n l))

settings_local : (above-8 above-10 : Bool) (base : RealAddress) (o : Offset) (m q : List ℕ) (n : ℕ) (s : Settings)
    → ltb 8 n ≡ above-8 → ltb 10 n ≡ above-10 → 4 ≤ n → Same (range (place base o argument_at) n) m q
    → settings_by n (byte_of base o m) s ≡ settings_by n (byte_of base o q) s
unfolding settings_by
settings_local true true base o m q n s e₈ e₁₀ l h =
    let b₈ : byte_of base o m 8 ≡ byte_of base o q 8 = byte_local base o m q n 8 (ltb-true 8 n e₈) h in
    let b₁₀ : byte_of base o m 10 ≡ byte_of base o q 10 = byte_local base o m q n 10 (ltb-true 10 n e₁₀) h in
    rw (e₈, e₁₀, byte_local base o m q n 2 (omega arith) h, byte_local base o m q n 3 (omega arith) h, b₈, b₁₀)
settings_local true false base o m q n s e₈ e₁₀ l h =
    rw (e₈, e₁₀, byte_local base o m q n 2 (omega arith) h, byte_local base o m q n 3 (omega arith) h, byte_local base o m q n 8 (ltb-true 8 n e₈) h)
settings_local false true base o m q n s e₈ e₁₀ l h =
    rw (e₈, e₁₀, byte_local base o m q n 2 (omega arith) h, byte_local base o m q n 3 (omega arith) h, byte_local base o m q n 10 (ltb-true 10 n e₁₀) h)
settings_local false false base o m q n s e₈ e₁₀ l h =
    rw (e₈, e₁₀, byte_local base o m q n 2 (omega arith) h, byte_local base o m q n 3 (omega arith) h)

clamped_least : (x : ℕ) → 4 ≤ clamped x
clamped_least x = omega arith

configure_local : (base : RealAddress) (s : Setup) (o : Offset) (m q : List ℕ) → Same (argument_bytes action.Configure base s q o.0) m q
    → configure base s o m ≡ configure base s o q
configure_local base s o m q h =
    let n = clamped (byte_of base o q 0) in
    let l : 4 ≤ n = clamped_least (byte_of base o q 0) in
    let e₀ : byte_of base o m 0 ≡ byte_of base o q 0 = byte_local base o m q n 0 (omega (arith, l)) h in
    let e₃ : byte_of base o m 3 ≡ byte_of base o q 3 = byte_local base o m q n 3 (omega (arith, l)) h in
    let es : settings_by n (byte_of base o m) s.settings ≡ settings_by n (byte_of base o q) s.settings =
    settings_local (ltb 8 n) (ltb 10 n) base o m q n s.settings refl refl l h in
    rw (e₀, e₃, es)

range_append : (a j k : ℕ) → range a (j + k) ≡ range a j ++ range (a + j) k
unfolding range
range_append a zero k = let z : 0 + k ≡ k = omega arith in let w : a + 0 ≡ a = omega arith in rw (z, w)
range_append a (suc j) k =
    let z : suc j + k ≡ suc (j + k) = omega arith in
    let w : a + suc j ≡ suc a + j = omega arith in
    rw (z, w) (ap (λ (l : List ℕ). a ∷ l) (range_append (suc a) j k))

-- the filter of n addresses of l bytes is that of another memory which has their bytes
filtering_local : (l : ℕ) (m q : List ℕ) (a n : ℕ) → Same (range a (n * l)) m q → filtering l m a n ≡ filtering l q a n
unfolding filtering
filtering_local l m q a zero h = refl
filtering_local l m q a (suc n) h =
    let k = n * l in
    let e : suc n * l ≡ k + l = suc-mul n l in
    let p : Same (range a k ++ range (a + k) l) m q = rw (e, range_append a k l) at h in
    rw (
      filtering_local l m q a n (same_left (range a k) (range (a + k) l) p),
      same_bytes_lem (a + k) l (same_right (range a k) (range (a + k) l) p),
    )

mc_local : (base : RealAddress) (s : Setup) (o : Offset) (m q : List ℕ) → Same (argument_bytes action.McSetup base s q o.0) m q
    → mc_setup base s o m ≡ mc_setup base s o q
unfolding address_length_of
mc_local base s o m q h =
    let l = s.settings.form.length in
    let n = groups l base o q in
    let A = from base o.0 argument_at 2 in
    let B = from base o.0 destination_at (n * l) in
    let word : word_at m (place base o argument_at) ≡ word_at q (place base o argument_at) = same_at 2 (place base o argument_at) (same_left A B h) in
    rw (word, filtering_local l m q (place base o destination_at) n (same_right A B h))

pub act_local : (a : Action) (base : RealAddress) (s : Setup) (o : Offset) (m q : List ℕ) → Same (argument_bytes a base s q o.0) m q
    → act a base s o m ≡ act a base s o q
unfolding act
act_local action.Nop base s o m q h = refl
act_local action.IaSetup base s o m q h = rw (same_bytes_lem (place base o argument_at) longest_address h)
act_local action.Configure base s o m q h = configure_local base s o m q h
act_local action.McSetup base s o m q h = mc_local base s o m q h
act_local action.Tdr base s o m q h = refl
act_local action.Dump base s o m q h = refl
act_local action.Diagnose base s o m q h = refl

-- ---- end: the link is read after the action's writes and the status

end_local : (p : Part) (b : Begun) (a : Acted) (m q : List ℕ) → Same (end_reads p b.block.0) m q → end p b a m ≡ end p b a q
unfolding end next_after
end_local p b a m q h =
    let L = end_reads p b.block.0 in
    let at = place p.base b.block block_link_at in
    let results = a.writes ++ (status_to p.base b a.status ∷ []) in
    let link : word_at (apply results m) at ≡ word_at (apply results q) at = same_at 2 at (same_apply L results m q h) in
    rw link

-- ---- buffer

gathered_local : (t : Bool) (base : RealAddress) (out : List ℕ) (w : Walk) (m q : List ℕ)
    → Same (data_reads t (descriptor_at base w.next q).buffer.0 (descriptor_at base w.next q).count) m q
    → gathered t out (descriptor_at base w.next q) w m ≡ gathered t out (descriptor_at base w.next q) w q
gathered_local true base out w m q h =
    let d = descriptor_at base w.next q in rw (same_bytes_lem d.buffer.0 d.count h)
gathered_local false base out w m q h = refl

pub descriptor_local : (base : RealAddress) (o : Offset) (m q : List ℕ) → Same (descriptor_bytes base o) m q
    → descriptor_at base o m ≡ descriptor_at base o q
unfolding descriptor_at
descriptor_local base o m q h =
    let A = range (place base o 0) 2 in
    let B = range (place base o 2) 2 in
    let C = range (place base o 4) 3 in
    let e₀ : word_at m (place base o 0) ≡ word_at q (place base o 0) = same_at 2 (place base o 0) (same_left A B (same_left (A ++ B) C h)) in
    let e₂ : word_at m (place base o 2) ≡ word_at q (place base o 2) = same_at 2 (place base o 2) (same_right A B (same_left (A ++ B) C h)) in
    let e₄ : real_at m (place base o 4) ≡ real_at q (place base o 4) = same_at 3 (place base o 4) (same_right (A ++ B) C h) in
    rw (e₀, e₂, e₄)

buffer_local : (p : Part) (b : Begun) (w : Walk) (m q : List ℕ) → Same (reads_by (cu.Sending b w) p q) m q → buffer p b w m ≡ buffer p b w q
unfolding buffer
buffer_local p b w m q h =
    let d = descriptor_at p.base w.next q in
    let A = descriptor_bytes p.base w.next in
    let B = data_reads (fits d w) d.buffer.0 d.count in
    let e : descriptor_at p.base w.next m ≡ d = descriptor_local p.base w.next m q (same_left A B h) in
    rw (e, gathered_local (fits d w) p.base p.outgoing w m q (same_right A B h))

-- ---- a service

service_local : (u : Cu) (p : Part) (m q : List ℕ) (r : ℕ) → Same (reads_by u p q) m q → service_by u p m r ≡ service_by u p q r
service_local cu.Idle p m q r h = refl
service_local (cu.Suspended o) p m q r h = refl
service_local (cu.Waiting o) p m q r h = begin_local p o m q r h
service_local (cu.Acting b a) p m q r h =
    let A = argument_bytes a p.base p.setup q b.block.0 in
    let B = end_reads p b.block.0 in
    rw (act_local a p.base p.setup b.block m q (same_left A B h))
    (end_local p b (act a p.base p.setup b.block q) m q (same_right A B h))
service_local (cu.Sending b w) p m q r h = buffer_local p b w m q h
service_local (cu.Ending b n) p m q r h = end_local p b (sent p.setup n r) m q h
service_local (cu.Failing b) p m q r h = end_local p b (not_sent p.setup) m q h

note_local : (u : Cu) (p : Part) (m q : List ℕ) (r : ℕ) → Same (reads_by u p q) m q → note_by u p m r ≡ note_by u p q r
note_local cu.Idle p m q r h = refl
note_local (cu.Suspended o) p m q r h = refl
note_local (cu.Waiting o) p m q r h = refl
note_local (cu.Acting b a) p m q r h =
    let A = argument_bytes a p.base p.setup q b.block.0 in
    let B = end_reads p b.block.0 in
    rw (act_local a p.base p.setup b.block m q (same_left A B h))
    (rw (end_local p b (act a p.base p.setup b.block q) m q (same_right A B h)))
note_local (cu.Sending b w) p m q r h = refl
note_local (cu.Ending b n) p m q r h = rw (end_local p b (sent p.setup n r) m q h)
note_local (cu.Failing b) p m q r h = rw (end_local p b (not_sent p.setup) m q h)

-- ---- a turn

-- a begin keeps the setup, and no service changes the base
pub begun_setup : (t : Bool) (p : Part) (b : Begun) (word : ℕ) (m : List ℕ) → (to_begun t p b word m).setup ≡ p.setup
begun_setup true p b word m = refl
begun_setup false p b word m = refl

pub begun_base : (t : Bool) (p : Part) (b : Begun) (word : ℕ) (m : List ℕ) → (to_begun t p b word m).base ≡ p.base
begun_base true p b word m = refl
begun_base false p b word m = refl

pub service_base : (u : Cu) (p : Part) (m : List ℕ) (r : ℕ) → (service_by u p m r).part.base ≡ p.base
unfolding begin buffer end
service_base cu.Idle p m r = refl
service_base (cu.Suspended o) p m r = refl
service_base (cu.Waiting o) p m r =
    let word = word_at m (place p.base o block_command_at) in begun_base (eqb (cmd word) transmit) p (begun_by o word) word m
service_base (cu.Acting b a) p m r = refl
service_base (cu.Sending b w) p m r = refl
service_base (cu.Ending b n) p m r = refl
service_base (cu.Failing b) p m r = refl

-- a part put back into the device and taken out again
rebased : (p : Part) (base : RealAddress) → p.base ≡ base
    → record { base = base; unit = p.unit; setup = p.setup; outgoing = p.outgoing } ≡ p
rebased p base e = ap (λ (b : RealAddress). record { base = b; unit = p.unit; setup = p.setup; outgoing = p.outgoing }) (sym e)

abbrev view_of : World → Part
view_of w = part_of w.device w.outgoing

-- the command unit is served
record Commanded (w : World) (r : ℕ) (v : World) : Type 0 where
  part : view_of v ≡ (service (view_of w) w.memory r).part
  turned : not v.device.units.rulast ≡ true

commanded : (w : World) (r : ℕ) → Commanded w r (afterwards (command_turn w r))
unfolding command_turn concluded service
commanded w r =
    record {
      part = rebased (service_by w.device.units.cu (view_of w) w.memory r).part w.device.units.base
          (service_base w.device.units.cu (view_of w) w.memory r);
      turned = refl;
    }

-- the receive unit is served, or neither
record Received (w v : World) : Type 0 where
  part : view_of v ≡ view_of w
  turned : not v.device.units.rulast ≡ false

received : (w : World) → Received w (afterwards (receive_turn w))
unfolding receive_turn concluded
received w = record { part = refl; turned = refl }

serve_by : (c h l : Bool) (w : World) (r : ℕ) → cu_works w.device.units.cu ≡ c → is_command (served_by c h l) ≡ true
    → (is_active (cu_state w.device.units.cu) ≡ true) × Commanded w r (afterwards (turn_by (served_by c h l) w r))
serve_by false false l w r a g = absurd (false≢true g)
serve_by false true l w r a g = absurd (false≢true g)
serve_by true false l w r a g = (a, commanded w r)
serve_by true true true w r a g = (a, commanded w r)
serve_by true true false w r a g = absurd (false≢true g)

serve_turn : (w : World) (r : ℕ) → command_next w.device.units ≡ true → Served machine (call (turn r)) w
unfolding turn_of
serve_turn w r g =
    let u = w.device.units in
    let s = serve_by (cu_works u.cu) (ru_works u.ru) u.rulast w r refl g in
    record { part = s.1.part; turned = s.1.turned; busy = s.0 }

serve : (e : Event) (w : World) → is_turn e ≡ true → command_next w.device.units ≡ true → Served machine e w
serve (call reset) w t g = absurd (false≢true t)
serve (call attention) w t g = absurd (false≢true t)
serve (call (arrive f v)) w t g = absurd (false≢true t)
serve (call (turn r)) w t g = serve_turn w r g
serve (host m h out) w t g = absurd (false≢true t)

record Waits (w v : World) : Type 0 where
  part : view_of v ≡ view_of w
  waits : is_active (cu_state w.device.units.cu) ≡ true
      → (not w.device.units.rulast ≡ true) × (not v.device.units.rulast ≡ false)

pass_by : (c h l : Bool) (w : World) (r : ℕ) → cu_works w.device.units.cu ≡ c → w.device.units.rulast ≡ l
    → is_command (served_by c h l) ≡ false → Waits w (afterwards (turn_by (served_by c h l) w r))
pass_by false false l w r a e g = record { part = refl; waits = λ b. absurd (true≢false (sym b ∙ a)) }
pass_by false true l w r a e g = record { part = (received w).part; waits = λ b. absurd (true≢false (sym b ∙ a)) }
pass_by true false l w r a e g = absurd (true≢false g)
pass_by true true true w r a e g = absurd (true≢false g)
pass_by true true false w r a e g = record { part = (received w).part; waits = λ b. (ap not e, (received w).turned) }

pass_turn : (w : World) (r : ℕ) → command_next w.device.units ≡ false → Passed machine (call (turn r)) w
unfolding turn_of
pass_turn w r g =
    let u = w.device.units in
    let s = pass_by (cu_works u.cu) (ru_works u.ru) u.rulast w r refl refl g in
    record { part = s.part; waits = s.waits }

pass : (e : Event) (w : World) → is_turn e ≡ true → command_next w.device.units ≡ false → Passed machine e w
pass (call reset) w t g = absurd (false≢true t)
pass (call attention) w t g = absurd (false≢true t)
pass (call (arrive f v)) w t g = absurd (false≢true t)
pass (call (turn r)) w t g = pass_turn w r g
pass (host m h out) w t g = absurd (false≢true t)

-- what is asked of the events that may occur and are no turns: they leave the command unit's part and the order of service alone
pub laws : (May : Event → World → Type 0) → ((e : Event) (w : World) → May e w → is_turn e ≡ false → Between machine e w) → Laws machine May
unfolding service
laws May between =
    record {
      local = λ p m q r h.
          let s : service_by p.unit p m r ≡ service_by p.unit p q r = service_local p.unit p m q r h in
          record {
            part = ap (λ (x : Service). x.part) s;
            writes = ap (λ (x : Service). x.writes) s;
            notes = note_local p.unit p m q r h;
          };
      serve = serve;
      pass = pass;
      between = between;
    }

-- ---- while a list is run: no attention, no reset, and the host keeps the outgoing area

arrival_between : (w : World) (f : List ℕ) (v : ℕ) → Between machine (call (arrive f v)) w
unfolding arrival_of
arrival_between w f v = record { part = refl; order = refl }

list_between : (e : Event) (w : World) → DuringList e w → is_turn e ≡ false → Between machine e w
list_between (call reset) w y t = absurd (false≢true y.0)
list_between (call attention) w y t = absurd (false≢true y.0)
list_between (call (arrive f v)) w y t = arrival_between w f v
list_between (call (turn r)) w y t = absurd (true≢false t)
list_between (host m h out) w y t = record { part = rw y.1; order = refl }

pub list_laws : Laws machine DuringList
list_laws = laws DuringList list_between
