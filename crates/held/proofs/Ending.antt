-- The turn that gives a held frame its fate is the one that ends its storing, and leaves what is said of such a turn; every call before it leaves the frame
-- held, and does with it what is said of such a call. Assumes nothing.
use mathlib.Core.Path.{◌≡◌, refl, sym, ap, ap₂, ◌∙◌}
use mathlib.Core.Bool.{Bool, true, false, ◌&&◌, ◌||◌, true≢false, false≢true}
use mathlib.Core.List.{List, [], ◌∷◌, nil≢cons, cons≢nil}
use Prim.Native.Nat.{ℕ}
use Rattle.memory.specs.declared.Offset.{Offset}
use Rattle.device.specs.State.{is_good}
use Rattle.device.specs.declared.Fate.{Fate}
use Rattle.device.specs.declared.Frame.{Frame}
use Rattle.device.specs.declared.Ru.{Ru}
use Rattle.device.specs.declared.Ru.TheVariants as ru
use Rattle.device.specs.declared.Storing.{Storing}
use Rattle.receive.specs.Part.{Part, part_of}
use Rattle.receive.specs.Begin.{begin}
use Rattle.receive.specs.Buffer.{buffer}
use Rattle.receive.specs.End.{fate_of, settles, proceeds, close, lack}
use Rattle.receive.specs.Service.{service_by, service}
use Rattle.chip.specs.Call.{Call, reset, attention, arrive, turn}
use Rattle.chip.specs.Turn.{concluded, receive_turn, turn_of}
use Rattle.chip.specs.World.{World}
use Rattle.progress.specs.Trace.{AllMay}
use Rattle.traces.specs.Event.{Event, call, host, step, is_calm, WhileHeld}
use Rattle.frames.specs.Held.{loses, end_is_next, ends, Meanwhile}
use Rattle.frames.specs.Data.{AllMeanwhile}
use Rattle.frames.proofs.Held.{HeldFate, stays, closing, lacking, lost, turn_fate, calm_fate, good_of, bad_of}
use Rattle.held.specs.Held.{frames_in, is_to_hold, fates_at, HeldAlong, Ending}
use Rattle.held.proofs.Turn.{is_receiving, holding, turn_received, passing}

-- a service that gives a fate is an end
end_next : (u : Ru) (p : Part) (m : List ℕ) (φ : Fate) → (service_by u p m).fates ≡ φ ∷ [] → end_is_next u ≡ true
unfolding begin buffer
end_next ru.Idle p m φ g = absurd (nil≢cons g)
end_next ru.NoResources p m φ g = absurd (nil≢cons g)
end_next (ru.Suspended fd) p m φ g = absurd (nil≢cons g)
end_next (ru.Ready fd) p m φ g = absurd (nil≢cons g)
end_next (ru.Held fd f q) p m φ g = absurd (nil≢cons g)
end_next (ru.Filling s w) p m φ g = absurd (nil≢cons g)
end_next (ru.Closing s free full) p m φ g = refl
end_next (ru.Lacking s) p m φ g = refl

received_end : (w : World) (φ : Fate) → (receive_turn w).outcome.fates ≡ φ ∷ [] → end_is_next w.device.units.ru ≡ true
unfolding receive_turn concluded service
received_end w φ g = end_next w.device.units.ru (part_of w.device.units w.holding) w.memory φ g

end_by_lem : (v : Bool) (w : World) (report : ℕ) (f : Frame) (φ : Fate) → is_receiving w.device.units ≡ v → frames_in w ≡ f ∷ []
    → (turn_of w report).outcome.fates ≡ φ ∷ [] → ends (turn report) w ≡ true
end_by_lem true w report f φ v e g =
    ap₂ (λ (x y : Bool). x && y) v (received_end w φ (rw (turn_received w report v) at g))
end_by_lem false w report f φ v e g = absurd (nil≢cons (sym (passing w report (holding w.device.units.ru f e) v).fates ∙ g))

-- a bad frame that is to be held is to be saved
saved : (f : Frame) → is_to_hold f ≡ true → is_good f ≡ false → f.savebad ≡ true
saved f t b = ap (λ (x : Bool). x || f.savebad) (sym b) ∙ t

pub ending : (w : World) (report : ℕ) (f : Frame) (φ : Fate) → frames_in w ≡ f ∷ [] → is_to_hold f ≡ true → (turn_of w report).outcome.fates ≡ φ ∷ []
    → Ending f report w
ending w report f φ e t g =
    record {
      at_end_lem = end_by_lem (is_receiving w.device.units) w report f φ refl e g;
      good = λ b. good_of (turn report) w f b (turn_fate w f report e);
      bad = λ b. bad_of (turn report) w f b (saved f t b) (turn_fate w f report e);
    }

-- ---- and a call that gives it none leaves it held

-- a service that gives no fate is none
no_end : (u : Ru) (p : Part) (m : List ℕ) → (service_by u p m).fates ≡ [] → end_is_next u ≡ false
unfolding close lack
no_end ru.Idle p m g = refl
no_end ru.NoResources p m g = refl
no_end (ru.Suspended fd) p m g = refl
no_end (ru.Ready fd) p m g = refl
no_end (ru.Held fd f q) p m g = refl
no_end (ru.Filling s w) p m g = refl
no_end (ru.Closing s free full) p m g = absurd (proceeds_ends (s.el || full) p s free m g)
  where
    proceeds_ends : (x : Bool) (p : Part) (s : Storing) (free : Offset) (m : List ℕ)
        → (proceeds x p s free (fate_of false s.frame) (settles false p s m) m).fates ≡ [] → ⊥
    proceeds_ends true p s free m g = cons≢nil g
    proceeds_ends false p s free m g = cons≢nil g
no_end (ru.Lacking s) p m g = absurd (cons≢nil g)

received_on : (w : World) → (receive_turn w).outcome.fates ≡ [] → end_is_next w.device.units.ru ≡ false
unfolding receive_turn concluded service
received_on w g = no_end w.device.units.ru (part_of w.device.units w.holding) w.memory g

goes_on : (v : Bool) (w : World) (report : ℕ) → is_receiving w.device.units ≡ v → (turn_of w report).outcome.fates ≡ [] → ends (turn report) w ≡ false
goes_on true w report v g = ap₂ (λ (x y : Bool). x && y) v (received_on w (rw (turn_received w report v) at g))
goes_on false w report v g = ap (λ (x : Bool). x && end_is_next w.device.units.ru) v

stays_by : (c : Call) (w : World) (f : Frame) → loses c w ≡ false → ends c w ≡ false → HeldFate f c w → Meanwhile f c w
stays_by c w f l n (stays a b h m) = m
stays_by c w f l n (closing s free full e u q k) = absurd (true≢false (sym e ∙ n))
stays_by c w f l n (lacking s e u q k) = absurd (true≢false (sym e ∙ n))
stays_by c w f l n (lost e k) = absurd (true≢false (sym e ∙ l))

pub meanwhile : (c : Call) (w : World) (f : Frame) → is_calm (call c) ≡ true → frames_in w ≡ f ∷ [] → fates_at (call c) w ≡ [] → Meanwhile f c w
meanwhile reset w f i e g = absurd (false≢true i)
meanwhile attention w f i e g = absurd (false≢true i)
meanwhile (arrive bs v) w f i e g = stays_by (arrive bs v) w f refl refl (calm_fate (arrive bs v) w f i e)
meanwhile (turn report) w f i e g =
    stays_by (turn report) w f refl (goes_on (is_receiving w.device.units) w report refl g) (calm_fate (turn report) w f i e)

-- all along a trace
pub all_meanwhile : (f : Frame) (es : List Event) (w : World) → AllMay WhileHeld step es w → HeldAlong f es w → AllMeanwhile f es w
all_meanwhile f [] w y h = tt
all_meanwhile f (call c ∷ es) w y h = (meanwhile c w f y.0 h.0 h.1, all_meanwhile f es (step (call c) w) y.1 h.2)
all_meanwhile f (host m x out ∷ es) w y h = all_meanwhile f es (step (host m x out) w) y.1 h.2
