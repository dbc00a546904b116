-- An end turn of a held frame, with its writes in full. Assumes nothing.
use mathlib.Core.Path.{◌≡◌, refl, sym, ap, ap₂, ◌∙◌, subst}
use mathlib.Core.Bool.{Bool, true, false, ◌||◌}
use mathlib.Core.List.{List, [], ◌∷◌, ◌++◌, append-nil, append_assoc}
use Prim.Native.Nat.{ℕ}
use Rattle.memory.specs.Memory.{Write, count_to, apply}
use Rattle.memory.specs.declared.Offset.{Offset}
use Rattle.scb.specs.Words.{any_of, bit, bits_at}
use Rattle.device.specs.Answers.{answered, counter_of, counts, is_stored}
use Rattle.device.specs.State.{held_in, is_good}
use Rattle.device.specs.declared.Device.{Device}
use Rattle.device.specs.declared.Fate.{Fate}
use Rattle.device.specs.declared.Fate.TheVariants as fate
use Rattle.device.specs.declared.Frame.{Frame}
use Rattle.device.specs.declared.Ru.{Ru}
use Rattle.device.specs.declared.Ru.TheVariants as ru
use Rattle.device.specs.declared.Storing.{Storing}
use Rattle.device.specs.declared.Verdict.{Verdict}
use Rattle.device.specs.declared.Verdict.TheVariants as verdict
use Rattle.receive.specs.Part as receive
use Rattle.receive.specs.End.{fate_by, fate_of, frame_status, descriptor_by, settles, raised_by, end_at, before, proceeds, close, lack}
use Rattle.attention.specs.Status.{status_to}
use Rattle.chip.specs.Turn.{written, concluded, receive_units}
use Rattle.chip.specs.World.{World, Ran, writing}
use Rattle.frames.specs.Arrival.{in_scb}
use Rattle.frames.specs.Held.{mark_to, bare_to, described, link_now, onward_by, onward, status_after, Stored, Counted, unit_by, unit_after, AtEnd}

-- ---- a turn with a service of the receive unit

abbrev pub part : World → receive.Part
part w = receive.part_of w.device.units w.holding

unfoldable pub turned : World → receive.Service → Ran
turned w s =
    writing w (written w.device.units s.writes s.raised (receive_units w.device s))
    (concluded w.device (receive_units w.device s) s.raised 0 s.fates)

-- ---- the status word

bit_15 : (lacking short : Bool) (v : Verdict) (f : Frame) → f.verdict ≡ v → f.short ≡ short → bit (frame_status lacking f) 15 ≡ true
unfolding frame_status bits_at
bit_15 true true verdict.Good f a b = rw (a, b)
bit_15 true true verdict.Crc f a b = rw (a, b)
bit_15 true true verdict.Misaligned f a b = rw (a, b)
bit_15 true false verdict.Good f a b = rw (a, b)
bit_15 true false verdict.Crc f a b = rw (a, b)
bit_15 true false verdict.Misaligned f a b = rw (a, b)
bit_15 false true verdict.Good f a b = rw (a, b)
bit_15 false true verdict.Crc f a b = rw (a, b)
bit_15 false true verdict.Misaligned f a b = rw (a, b)
bit_15 false false verdict.Good f a b = rw (a, b)
bit_15 false false verdict.Crc f a b = rw (a, b)
bit_15 false false verdict.Misaligned f a b = rw (a, b)

bit_9 : (lacking short : Bool) (v : Verdict) (f : Frame) → f.verdict ≡ v → f.short ≡ short → bit (frame_status lacking f) 9 ≡ lacking
unfolding frame_status bits_at
bit_9 true true verdict.Good f a b = rw (a, b)
bit_9 true true verdict.Crc f a b = rw (a, b)
bit_9 true true verdict.Misaligned f a b = rw (a, b)
bit_9 true false verdict.Good f a b = rw (a, b)
bit_9 true false verdict.Crc f a b = rw (a, b)
bit_9 true false verdict.Misaligned f a b = rw (a, b)
bit_9 false true verdict.Good f a b = rw (a, b)
bit_9 false true verdict.Crc f a b = rw (a, b)
bit_9 false true verdict.Misaligned f a b = rw (a, b)
bit_9 false false verdict.Good f a b = rw (a, b)
bit_9 false false verdict.Crc f a b = rw (a, b)
bit_9 false false verdict.Misaligned f a b = rw (a, b)

-- it has C
pub complete : (lacking : Bool) (f : Frame) → bit (frame_status lacking f) 15 ≡ true
complete lacking f = bit_15 lacking f.short f.verdict f refl refl

-- it has bit 9 exactly if out of buffers
pub lacks : (lacking : Bool) (f : Frame) → bit (frame_status lacking f) 9 ≡ lacking
lacks lacking f = bit_9 lacking f.short f.verdict f refl refl

-- ---- all is stored

described_alone : (lacking : Bool) (w : World) (s : Storing) → described lacking w s ++ [] ≡ described lacking w s
described_alone lacking w s = append-nil (described lacking w s)

-- what an end of this fate is
end_by : Fate → (lacking : Bool) → receive.Part → Storing → List ℕ → List Write
end_by x lacking p s m =
    let d = descriptor_by (is_stored x) lacking p s in d ++ counts (counter_of x) p.base p.scb (apply d m)

stored_writes : (lacking : Bool) (w : World) (s : Storing) → end_by fate.Stored lacking (part w) s w.memory ≡ described lacking w s
unfolding end_by counts
stored_writes lacking w s = described_alone lacking w s

close_is : (w : World) (s : Storing) (free : Offset) (full : Bool)
    → proceeds (s.el || full) (part w) s free fate.Stored (described false w s) w.memory ≡ close (part w) s free full w.memory
unfolding close settles end_by
close_is w s free full =
    ap (λ (ws : List Write). proceeds (s.el || full) (part w) s free fate.Stored ws w.memory) (sym (stored_writes false w s))

before_is : (pauses : Bool) (link : Offset) → before pauses link ≡ unit_by false pauses link
before_is true link = refl
before_is false link = refl

-- the unit holds nothing any more
none_by : (exhausted pauses : Bool) (link : Offset) → held_in (unit_by exhausted pauses link) ≡ []
none_by true pauses link = refl
none_by false true link = refl
none_by false false link = refl

pub none_after : (w : World) (s : Storing) (full : Bool) → held_in (unit_after w s full) ≡ []
none_after w s full = none_by (s.el || full) (s.suspend || s.pausing) (link_now w s)

pub none_left : (stored : Bool) (next : Ru) (w : World) (r : Ran) → held_in next ≡ [] → AtEnd stored next w r → held_in r.outcome.device.units.ru ≡ []
none_left stored next w r h k = ap (λ (d : Device). held_in d.units.ru) k.device ∙ h

-- what is said of a closing frame, of any turn
pub record Closed (w : World) (s : Storing) (free : Offset) (full : Bool) (r : Ran) : Type 0 where
  pub fates : r.outcome.fates ≡ fate.Stored ∷ []
  pub stored : Stored false s (bare_to w s ++ (onward w s free full ++ status_after w r)) w r
  pub end : AtEnd true (unit_after w s full) w r

closed_by : (x : Bool) (w : World) (s : Storing) (free : Offset)
    → Stored false s
    (bare_to w s
    ++ (onward_by x w s free ++ status_after w (turned w (proceeds x (part w) s free fate.Stored (described false w s) w.memory))))
    w (turned w (proceeds x (part w) s free fate.Stored (described false w s) w.memory))
unfolding turned concluded any_of status_to
closed_by true w s free = record { memory = refl; complete = complete false s.frame; lacks = lacks false s.frame }
closed_by false w s free =
    record {
      memory =
          ap (λ (ws : List Write). apply ws w.memory)
          (append_assoc (described false w s) (onward_by false w s free)
          (status_after w (turned w (proceeds false (part w) s free fate.Stored (described false w s) w.memory))));
      complete = complete false s.frame;
      lacks = lacks false s.frame;
    }

end_at_lem : (x : Fate) (next : Ru) (w : World) (ws : List Write) → any_of (raised_by x next) ≡ true
    → AtEnd (is_stored x) next w (turned w (end_at x next ws))
unfolding turned concluded
end_at_lem x next w ws e = record { device = refl; answer = ap (answered 0) e; holding = refl; outgoing = refl }

stored_raises : (next : Ru) → any_of (raised_by fate.Stored next) ≡ true
unfolding any_of
stored_raises next = refl

closed_end : (x : Bool) (w : World) (s : Storing) (free : Offset)
    → AtEnd true (unit_by x (s.suspend || s.pausing) (link_now w s)) w
    (turned w (proceeds x (part w) s free fate.Stored (described false w s) w.memory))
closed_end true w s free = end_at_lem fate.Stored ru.NoResources w _ (stored_raises ru.NoResources)
closed_end false w s free =
    let next = before (s.suspend || s.pausing) (link_now w s) in
    subst (λ (u : Ru). AtEnd true u w (turned w (proceeds false (part w) s free fate.Stored (described false w s) w.memory)))
    (before_is (s.suspend || s.pausing) (link_now w s))
    (end_at_lem fate.Stored next w _ (stored_raises next))

stored_fate : (x : Bool) (w : World) (s : Storing) (free : Offset) (ws : List Write)
    → (turned w (proceeds x (part w) s free fate.Stored ws w.memory)).outcome.fates ≡ fate.Stored ∷ []
unfolding turned concluded
stored_fate true w s free ws = refl
stored_fate false w s free ws = refl

pub closed : (w : World) (s : Storing) (free : Offset) (full : Bool) → Closed w s free full (turned w (close (part w) s free full w.memory))
closed w s free full =
    subst (λ (v : receive.Service). Closed w s free full (turned w v)) (close_is w s free full)
    (record {
      fates = stored_fate (s.el || full) w s free (described false w s);
      stored = closed_by (s.el || full) w s free;
      end = closed_end (s.el || full) w s free;
    })

-- ---- out of buffers

lack_by : Fate → receive.Part → Storing → List ℕ → receive.Service
lack_by x p s m = end_at x ru.NoResources (end_by x true p s m)

lack_is : (x : Fate) (w : World) (s : Storing) → fate_of true s.frame ≡ x → lack_by x (part w) s w.memory ≡ lack (part w) s w.memory
unfolding lack_by lack settles end_by
lack_is x w s e = ap (λ (y : Fate). lack_by y (part w) s w.memory) (sym e)

-- a good one, kept
pub record Both (w : World) (s : Storing) (r : Ran) : Type 0 where
  pub fates : r.outcome.fates ≡ fate.StoredCounted ∷ []
  pub stored : Stored true s (bare_to w s ++ (count_to (apply (described true w s) w.memory) (in_scb w 12) ∷ status_after w r)) w r
  pub counted : Counted (described true w s) w r
  pub end : AtEnd true ru.NoResources w r

both_by : (w : World) (s : Storing) → Both w s (turned w (lack_by fate.StoredCounted (part w) s w.memory))
unfolding turned lack_by end_by counts concluded any_of status_to
both_by w s =
    let l =
    append_assoc (described true w s) (count_to (apply (described true w s) w.memory) (in_scb w 12) ∷ [])
    (status_after w (turned w (lack_by fate.StoredCounted (part w) s w.memory)))
    in
    record {
      fates = refl;
      stored =
          record {
            memory = ap (λ (ws : List Write). apply ws w.memory) l;
            complete = complete true s.frame;
            lacks = lacks true s.frame;
          };
      counted = record { memory = ap (λ (ws : List Write). apply ws w.memory) l };
      end = record { device = refl; answer = refl; holding = refl; outgoing = refl };
    }

pub both : (w : World) (s : Storing) → s.frame.savebad ≡ true → is_good s.frame ≡ true → Both w s (turned w (lack (part w) s w.memory))
both w s b g = subst (λ (v : receive.Service). Both w s (turned w v)) (lack_is fate.StoredCounted w s (ap₂ (fate_by true) b g)) (both_by w s)

-- a good one, not kept
pub record OnlyCounted (w : World) (s : Storing) (r : Ran) : Type 0 where
  pub fates : r.outcome.fates ≡ fate.Counted ∷ []
  pub counted : Counted (mark_to w s 0x0000 ∷ []) w r
  pub end : AtEnd false ru.NoResources w r

counted_by : (w : World) (s : Storing) → OnlyCounted w s (turned w (lack_by fate.Counted (part w) s w.memory))
unfolding turned lack_by end_by counts concluded any_of status_to
counted_by w s =
    record { fates = refl; counted = record { memory = refl }; end = record { device = refl; answer = refl; holding = refl; outgoing = refl } }

pub only_counted : (w : World) (s : Storing) → s.frame.savebad ≡ false → is_good s.frame ≡ true
    → OnlyCounted w s (turned w (lack (part w) s w.memory))
only_counted w s b g =
    subst (λ (v : receive.Service). OnlyCounted w s (turned w v)) (lack_is fate.Counted w s (ap₂ (fate_by true) b g)) (counted_by w s)

-- a bad one, which is held only to be saved
pub record Kept (w : World) (s : Storing) (r : Ran) : Type 0 where
  pub fates : r.outcome.fates ≡ fate.Stored ∷ []
  pub stored : Stored true s (bare_to w s ++ status_after w r) w r
  pub end : AtEnd true ru.NoResources w r

kept_by : (w : World) (s : Storing) → Kept w s (turned w (end_at fate.Stored ru.NoResources (described true w s)))
unfolding turned concluded any_of status_to
kept_by w s =
    record {
      fates = refl;
      stored = record { memory = refl; complete = complete true s.frame; lacks = lacks true s.frame };
      end = record { device = refl; answer = refl; holding = refl; outgoing = refl };
    }

kept_is : (w : World) (s : Storing) → end_at fate.Stored ru.NoResources (described true w s) ≡ lack_by fate.Stored (part w) s w.memory
unfolding lack_by
kept_is w s = ap (end_at fate.Stored ru.NoResources) (sym (stored_writes true w s))

pub kept : (w : World) (s : Storing) → s.frame.savebad ≡ true → is_good s.frame ≡ false → Kept w s (turned w (lack (part w) s w.memory))
kept w s b g =
    subst (λ (v : receive.Service). Kept w s (turned w v)) (kept_is w s ∙ lack_is fate.Stored w s (ap₂ (fate_by true) b g)) (kept_by w s)
