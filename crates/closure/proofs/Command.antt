-- A service of the command unit leaves a unit in range, a setup in range, bytes in the outgoing area, and writes bytes. Assumes nothing.
use mathlib.Core.Path.{◌≡◌, refl}
use mathlib.Core.Bool.{Bool, true, false, not, cond, ◌&&◌, ◌||◌}
use mathlib.Core.List.{List, [], ◌∷◌, ◌++◌}
use Prim.Native.Nat.{ℕ, zero, suc, ◌+◌, ◌^◌, ◌≤◌, ◌<◌}
use native.Mathlib.Omega.{arith}
use borrow.Author.Tests.{leb-true, leb-false}
use lib.Dec.{eqb, leb, ltb}
use lib.ListN.{length, get_or, set, take, replicate}
use lib.Seq.{sets}
use Rattle.memory.specs.Address.{place, offset_at, is_none}
use Rattle.memory.specs.Memory.{word_at, bytes_at, apply}
use Rattle.memory.specs.declared.Offset.{Offset}
use Rattle.memory.specs.declared.RealAddress.{RealAddress}
use Rattle.memory.proofs.Bytes.{Bytes, AllBytes, all_append, apply_bytes, bytes_cons, bytes_tail, set_bytes, take_bytes_lem, read_bytes, byte_bound, field_bound, digits_bytes}
use Rattle.memory.proofs.Laws.{length-bytes_at}
use Rattle.scb.specs.Words.{bit}
use Rattle.device.specs.Header.{unbuffered}
use Rattle.device.specs.Limits.{longest_address, type_length, filter_bits}
use Rattle.device.specs.Numbers.{transmit, action_of}
use Rattle.device.specs.declared.Action.{Action}
use Rattle.device.specs.declared.Action.TheVariants as action
use Rattle.device.specs.declared.Begun.{Begun}
use Rattle.device.specs.declared.Cu.{Cu}
use Rattle.device.specs.declared.Cu.TheVariants as cu
use Rattle.device.specs.declared.Form.{Form}
use Rattle.device.specs.declared.Settings.{Settings}
use Rattle.device.specs.declared.Walk.{Walk}
use Rattle.actions.specs.Block.{block_command_at, block_link_at, argument_at, destination_at, type_at}
use Rattle.actions.specs.Setup.{Setup}
use Rattle.actions.specs.Actions.{Acted, plainly, setting, clamped, byte_of, length_in, settings_by, acceptable, groups, filtering, act, is_sent, sent}
use Rattle.actions.proofs.Laws.{filtering_wide}
use Rattle.command.specs.Part.{Part, Service}
use Rattle.command.specs.Begin.{cmd, begun_by, to_first, header_by, header_of, to_begun, begin}
use Rattle.command.specs.Buffer.{descriptor_at, past, after_buffer, fits, is_last, gathered, buffer}
use Rattle.command.specs.End.{after_end, status_to, next_after, end}
use Rattle.command.specs.Service.{service_by}
use Rattle.phases.specs.Forms.{FormWide}
use Rattle.phases.proofs.Units.{both}
use Rattle.closure.proofs.Walks.{WalkGood}
use Rattle.closure.proofs.Units.{CuGood, unbuffered_most, cu_idle, cu_suspended, cu_waiting, cu_acting, cu_failing, cu_ending, cu_sending, at_waiting, ending_size, at_sending, sending_walk}

-- ---- runs of bytes

pub append_bytes : (xs ys : List ℕ) → Bytes xs → Bytes ys → Bytes (xs ++ ys)
append_bytes [] ys p q = q
append_bytes (x ∷ xs) ys p q = bytes_cons x (xs ++ ys) (p.each 0) (append_bytes xs ys (bytes_tail x xs p) q)

pub sets_bytes : (d : List ℕ) (at : ℕ) (bs : List ℕ) → Bytes d → Bytes bs → Bytes (sets d at bs)
sets_bytes d at [] h p = h
sets_bytes d at (b ∷ bs) h p = sets_bytes (set d at b) (suc at) bs (set_bytes d at b h (p.each 0)) (bytes_tail b bs p)

replicate_each : (n v i : ℕ) → v < 256 → get_or (replicate n v) i 0 < 256
replicate_each zero v i h = omega arith
replicate_each (suc n) v zero h = h
replicate_each (suc n) v (suc i) h = replicate_each n v i h

pub replicate_bytes : (n v : ℕ) → v < 256 → Bytes (replicate n v)
replicate_bytes n v h = record { each = λ i. replicate_each n v i h }

-- ---- settings and addresses

pub record SetupGood (s : Setup) : Type 0 where
  pub minimum : s.settings.minimum < 256
  pub form : FormWide s.settings.form
  pub own : length s.own ≡ 6
  pub own_bytes_lem : Bytes s.own
  pub filter : s.filter < 2 ^ filter_bits

-- ---- the actions

pub record ActedGood (a : Acted) : Type 0 where
  pub setup : SetupGood a.setup
  pub writes : AllBytes a.writes
  pub length : a.length ≤ 2048

plain_good : (s : Setup) (status n : ℕ) → SetupGood s → n ≤ 2048 → ActedGood (plainly s status n)
plain_good s status n h l = record { setup = h; writes = tt; length = l }

-- what is accepted sets up what is good
set_good : (accepted : Bool) (s new : Setup) → SetupGood s → (accepted ≡ true → SetupGood new) → ActedGood (setting accepted s new)
set_good true s new h k = plain_good new _ 0 (k refl) (omega arith)
set_good false s new h k = plain_good s _ 0 h (omega arith)

cond_below : (t : Bool) (x y n : ℕ) → x < n → y < n → cond t x y < n
cond_below true x y n p q = p
cond_below false x y n p q = q

minimum_below : (count : ℕ) (byte : ℕ → ℕ) (s : Settings) → byte 10 < 256 → s.minimum < 256 → (settings_by count byte s).minimum < 256
unfolding settings_by
minimum_below count byte s p q = cond_below (ltb 10 count) (byte 10) s.minimum 256 p q

-- an accepted length is at most six
accepted_form : (count : ℕ) (byte : ℕ → ℕ) (s : Settings) → acceptable (byte 3) ≡ true → FormWide (settings_by count byte s).form
unfolding settings_by
accepted_form count byte s e =
    let b = byte 3 in
    let x = both (leb (length_in b) longest_address && not (bit b 6)) (not (bit b 7)) e in
    leb-true _ _ (both (leb (length_in b) longest_address) (not (bit b 6)) x.0).0

act_good : (x : Action) (base : RealAddress) (s : Setup) (block : Offset) (m : List ℕ) → SetupGood s → Bytes m → ActedGood (act x base s block m)
unfolding act
act_good action.Nop base s block m h b = plain_good s _ 0 h (omega arith)
act_good action.IaSetup base s block m h b =
    let own = bytes_at m (place base block argument_at) longest_address in
    set_good true s (record { settings = s.settings; own = own; filter = s.filter }) h
    (λ _. record {
      minimum = h.minimum;
      form = h.form;
      own = length-bytes_at m (place base block argument_at) longest_address;
      own_bytes_lem = read_bytes m (place base block argument_at) longest_address b;
      filter = h.filter;
    })
act_good action.Configure base s block m h b =
    let byte = byte_of base block m in
    set_good (acceptable (byte 3)) s
    (record { settings = settings_by (clamped (byte 0)) byte s.settings; own = s.own; filter = s.filter }) h
    (λ e. record {
      minimum = minimum_below (clamped (byte 0)) byte s.settings (byte_bound m (place base block (argument_at + 10)) b) h.minimum;
      form = accepted_form (clamped (byte 0)) byte s.settings e;
      own = h.own;
      own_bytes_lem = h.own_bytes_lem;
      filter = h.filter;
    })
act_good action.McSetup base s block m h b =
    let l = s.settings.form.length in
    let n = groups l base block m in
    set_good true s (record { settings = s.settings; own = s.own; filter = filtering l m (place base block destination_at) n }) h
    (λ _. record {
      minimum = h.minimum;
      form = h.form;
      own = h.own;
      own_bytes_lem = h.own_bytes_lem;
      filter = filtering_wide l m (place base block destination_at) n;
    })
act_good action.Tdr base s block m h b = record { setup = h; writes = (digits_bytes 2 0x8000, tt); length = omega arith }
act_good action.Dump base s block m h b = plain_good s _ 0 h (omega arith)
act_good action.Diagnose base s block m h b = plain_good s _ 0 h (omega arith)

cond_most : (t : Bool) (n k : ℕ) → n ≤ k → cond t n 0 ≤ k
cond_most true n k p = p
cond_most false n k p = omega arith

sent_good : (s : Setup) (filled report : ℕ) → SetupGood s → filled ≤ 2048 → ActedGood (sent s filled report)
unfolding sent
sent_good s filled report h l = plain_good s _ _ h (cond_most (is_sent report) filled 2048 l)

-- ---- what a service leaves

pub record PartGood (p : Part) : Type 0 where
  pub unit : CuGood p.setup.settings.form p.unit
  pub setup : SetupGood p.setup
  pub outgoing : Bytes p.outgoing

pub record ServiceGood (s : Service) : Type 0 where
  pub part : PartGood s.part
  pub writes : AllBytes s.writes
  pub length : s.length ≤ 2048

-- ---- begin

first_good : (none : Bool) (f : Form) (b : Begun) (first : Offset) → FormWide f → b.block.0 < 65536 → first.0 < 65536 → is_none first ≡ none
    → CuGood f (to_first none (unbuffered f) b first)
first_good true f b first w h k e = cu_ending b (unbuffered f) h (omega arith) (omega (arith, unbuffered_most f w))
first_good false f b first w h k e =
    cu_sending b (record { next = first; used = 0; filled = unbuffered f }) h
    (record { next = k; used = omega arith; some = e; enough = omega arith; most = omega (arith, unbuffered_most f w) })

header_bytes_by_lem : (location : Bool) (l : ℕ) (base : RealAddress) (own : List ℕ) (block : Offset) (m : List ℕ) → Bytes own → Bytes m
    → Bytes (header_by location l base own block m)
header_bytes_by_lem true l base own block m h b = replicate_bytes 0 0 (omega arith)
header_bytes_by_lem false l base own block m h b =
    append_bytes (bytes_at m (place base block destination_at) l ++ take l own) _
    (append_bytes _ (take l own) (read_bytes m (place base block destination_at) l b) (take_bytes_lem l own h))
    (read_bytes m (place base block (type_at l)) type_length b)

header_bytes_lem : (base : RealAddress) (f : Form) (own : List ℕ) (block : Offset) (m : List ℕ) → Bytes own → Bytes m → Bytes (header_of base f own block m)
unfolding header_of
header_bytes_lem base f own block m h b = header_bytes_by_lem f.location f.length base own block m h b

begun_good : (transmits : Bool) (p : Part) (b : Begun) (word : ℕ) (m : List ℕ) → b.block.0 < 65536 → SetupGood p.setup
    → Bytes p.outgoing → Bytes m
    → PartGood (to_begun transmits p b word m)
begun_good true p b word m h s o mb =
    let first = offset_at m (place p.base b.block argument_at) in
    record {
      unit = first_good (is_none first) p.setup.settings.form b first s.form h (field_bound m (place p.base b.block argument_at) 2 mb) refl;
      setup = s;
      outgoing = sets_bytes p.outgoing 0 _ o (header_bytes_lem p.base p.setup.settings.form p.setup.own b.block m s.own_bytes_lem mb);
    }
begun_good false p b word m h s o mb = record { unit = cu_acting b (action_of (cmd word)) h; setup = s; outgoing = o }

begun_block : (block : Offset) (word : ℕ) → block.0 < 65536 → (begun_by block word).block.0 < 65536
unfolding begun_by
begun_block block word h = h

begin_good : (p : Part) (block : Offset) (m : List ℕ) → block.0 < 65536 → SetupGood p.setup → Bytes p.outgoing → Bytes m
    → ServiceGood (begin p block m)
unfolding begin
begin_good p block m h s o mb =
    let word = word_at m (place p.base block block_command_at) in
    record {
      part = begun_good (eqb (cmd word) transmit) p (begun_by block word) word m (begun_block block word h) s o mb;
      writes = (digits_bytes 2 0x4000, tt);
      length = omega arith;
    }

-- ---- buffer

after_good : {f : Form} (fits eof none last : Bool) (b : Begun) (w : Walk) → b.block.0 < 65536 → w.next.0 < 65536 → unbuffered f ≤ w.filled
    → leb w.filled 2048 ≡ fits → is_none w.next ≡ none → leb 64 w.used ≡ last → CuGood f (after_buffer fits eof none last b w)
after_good false eof none last b w h n l f e u = cu_failing b h
after_good true true none last b w h n l f e u = cu_ending b w.filled h l (leb-true _ _ f)
after_good true false true last b w h n l f e u = cu_failing b h
after_good true false false true b w h n l f e u = cu_failing b h
after_good true false false false b w h n l f e u =
    let k : w.used < 64 = leb-false _ _ u in
    cu_sending b w h (record { next = n; used = omega arith; some = e; enough = l; most = leb-true _ _ f })

gathered_bytes : (fits : Bool) (out : List ℕ) (base : RealAddress) (o : Offset) (w : Walk) (m : List ℕ) → Bytes out → Bytes m
    → Bytes (gathered fits out (descriptor_at base o m) w m)
gathered_bytes true out base o w m h mb =
    let d = descriptor_at base o m in
    sets_bytes out w.filled (bytes_at m d.buffer.0 d.count) h (read_bytes m d.buffer.0 d.count mb)
gathered_bytes false out base o w m h mb = h

next_below : (base : RealAddress) (o : Offset) (m : List ℕ) → Bytes m → (descriptor_at base o m).next.0 < 65536
unfolding descriptor_at
next_below base o m h = field_bound m (place base o 2) 2 h

buffer_good : (p : Part) (b : Begun) (w : Walk) (m : List ℕ) → b.block.0 < 65536 → WalkGood (unbuffered p.setup.settings.form) w → SetupGood p.setup → Bytes p.outgoing → Bytes m
    → ServiceGood (buffer p b w m)
unfolding buffer
buffer_good p b w m h k s o mb =
    let d = descriptor_at p.base w.next m in
    let l : unbuffered p.setup.settings.form ≤ w.filled + d.count = omega (arith, k.enough) in
    record {
      part =
          record {
            unit =
                after_good (fits d w) d.eof (is_none d.next) (is_last w.used) b (past d w) h
                (next_below p.base w.next m mb) l refl refl refl;
            setup = s;
            outgoing = gathered_bytes (fits d w) p.outgoing p.base w.next w m o mb;
          };
      writes = tt;
      length = omega arith;
    }

-- ---- end

ended_good : {f : Form} (el suspends : Bool) (link : Offset) → link.0 < 65536 → CuGood f (after_end el suspends link)
ended_good true suspends link h = cu_idle
ended_good false true link h = cu_suspended link h
ended_good false false link h = cu_waiting link h

next_good : {f : Form} (base : RealAddress) (b : Begun) (m : List ℕ) → Bytes m → CuGood f (next_after base b m)
unfolding next_after
next_good base b m h = ended_good b.el (b.suspend || b.pausing) _ (field_bound m (place base b.block block_link_at) 2 h)

end_good : (p : Part) (b : Begun) (a : Acted) (m : List ℕ) → ActedGood a → Bytes p.outgoing → Bytes m → ServiceGood (end p b a m)
unfolding end
end_good p b a m h o mb =
    let results = a.writes ++ (status_to p.base b a.status ∷ []) in
    let v = all_append a.writes (status_to p.base b a.status ∷ []) h.writes (digits_bytes 2 a.status, tt) in
    record {
      part =
          record {
            unit = next_good p.base b (apply results m) (apply_bytes results m v mb);
            setup = h.setup;
            outgoing = o;
          };
      writes = v;
      length = h.length;
    }

-- ---- one service

pub command_good : (u : Cu) (p : Part) (m : List ℕ) (report : ℕ) → CuGood p.setup.settings.form u → PartGood p → Bytes m → ServiceGood (service_by u p m report)
command_good cu.Idle p m report u h b = record { part = h; writes = tt; length = omega arith }
command_good (cu.Suspended o) p m report u h b = record { part = h; writes = tt; length = omega arith }
command_good (cu.Waiting o) p m report u h b = begin_good p o m (at_waiting o u) h.setup h.outgoing b
command_good (cu.Acting x a) p m report u h b =
    end_good p x _ m (act_good a p.base p.setup x.block m h.setup b) h.outgoing b
command_good (cu.Sending x w) p m report u h b = buffer_good p x w m (at_sending x w u) (sending_walk x w u) h.setup h.outgoing b
command_good (cu.Ending x n) p m report u h b = end_good p x _ m (sent_good p.setup n report h.setup (ending_size x n u).1) h.outgoing b
command_good (cu.Failing x) p m report u h b = end_good p x _ m (plain_good p.setup 0x8100 0 h.setup (omega arith)) h.outgoing b
