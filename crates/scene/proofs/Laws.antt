-- What the proofs of the scene share: a text that is printed, areas that are written, one thing after another, the verbs as the code parts them.
-- Assumes nothing.
use mathlib.Core.Path.{◌≡◌, refl, sym, ap, ◌∙◌}
use mathlib.Core.List.{List}
use mathlib.Core.Logic.{◌⊎◌, inl, inr}
use Prim.Native.Nat.{ℕ, zero, suc, ◌+◌, ◌%◌}
use native.Mathlib.Omega.{arith}
use Rattle.board.specs.declared.Areas.{Areas as Lent}
use Rattle.board.specs.declared.Asked.{Asked}
use Rattle.board.specs.declared.Board.{Board}
use Rattle.board.specs.Board.{Call, turn, call_of, left_as, Leaves}
use Rattle.wording.specs.declared.Area.{Area}
use Rattle.wording.specs.declared.Area.TheVariants as area
use Rattle.wording.specs.declared.Line.{Line}
use Rattle.wording.specs.declared.Verb.{Verb}
use Rattle.wording.specs.declared.Verb.TheVariants as verb
use Rattle.std.proofs.Common.{Option, Some, None}
use Rattle.texts.specs.declared.Page.{Page}
use Rattle.texts.specs.declared.Item.{Item}
use Rattle.texts.specs.declared.Item.TheVariants as item
use Rattle.texts.specs.Items.{stretch}
use Rattle.texts.specs.Page.{Prints}
use Rattle.texts.specs.Texts.{answer_text}
use Rattle.scene.specs.declared.Scene.{Scene as Held}
use Rattle.scene.specs.Scene.{Scene, play_of, scene_of, scene_in, Plays, printed, tell_by, called, turns_of, turn_count, areas_of, Writes, with_areas, wrote, shown, looked, obeyed, asked_by, calls_of, named, stretch_by, hosted, done_by}

-- ---- what is left of the scene

-- a text that is printed
pub prints : (text : List ℕ) (c : Held) (q : Page) → Prints text c.page q
    → Plays (printed text) c (record { board = c.board; areas = c.areas; page = q })
prints text c q p = (
  ((refl, refl, refl), p.0),
  (λ i. scene_of (play_of c.board (p.1.next i)) c.areas.memory.now c.areas.holding.now c.areas.outgoing.now (p.1.bytes i)),
)

-- a call that was made, and whose answer was printed
pub call_told : (x : Call) (c : Held) (b : Board) (a : ℕ) (q : Lent) (g : Page) → Leaves x c.board c.areas b a q
    → Prints (answer_text a) c.page g → Plays (called x) c (record { board = b; areas = q; page = g })
unfolding called
call_told x c b a q g l t =
    let told : scene_of (play_of b g.at) q.memory.now q.holding.now q.outgoing.now g.out.now
    ≡ tell_by c.page.at c.page.out.now (left_as (record { board = b; answer = a }) q.memory.now q.holding.now q.outgoing.now) =
    λ i. scene_of (play_of b (t.1.next i)) q.memory.now q.holding.now q.outgoing.now (t.1.bytes i) in
    ((l.0, t.0), told ∙ ap (tell_by c.page.at c.page.out.now) l.1)

-- areas that are written
pub writes : (l : Line) (own : List ℕ) (c : Held) (q : Lent) → Writes l.area l.first own c.areas q
    → Plays (wrote l own) c (record { board = c.board; areas = q; page = c.page })
writes l own c q w = ((w.0, refl), ap (with_areas (scene_in c)) w.1)

-- a stretch of the area that is named
pub stretch_named : (u : Item) (a : Area) (m h og : List ℕ) (place count : ℕ)
    → stretch u (named a (areas_of m h og)) place count ≡ stretch_by u a m h og place count
unfolding shown looked
stretch_named item.Byte area.Memory m h og place count = refl
stretch_named item.Byte area.Holding m h og place count = refl
stretch_named item.Byte area.Outgoing m h og place count = refl
stretch_named item.Word area.Memory m h og place count = refl
stretch_named item.Word area.Holding m h og place count = refl
stretch_named item.Word area.Outgoing m h og place count = refl

-- ---- one thing after another

pub still : (c : Held) → Plays (λ s. s) c c
still c = (((refl, refl, refl), refl), refl)

pub in_turn : (f g : Scene → Scene) (c d e : Held) → Plays f c d → Plays g d e → Plays (λ s. g (f s)) c e
in_turn f g c d e p q =
    (((q.0.0.0 ∙ p.0.0.0, q.0.0.1 ∙ p.0.0.1, q.0.0.2 ∙ p.0.0.2), q.0.1 ∙ p.0.1), q.1 ∙ ap g p.1)

-- the same in other words
pub plays_is : (f g : Scene → Scene) (c d : Held) → f (scene_in c) ≡ g (scene_in c) → Plays f c d → Plays g c d
plays_is f g c d e p = (p.0, p.1 ∙ e)

-- calls, one by one
pub no_calls : (x : Call) (c : Held) → Plays (calls_of 0 x) c c
unfolding calls_of
no_calls x c = still c

suc_calls : (i : ℕ) (x : Call) (s : Scene) → called x (calls_of i x s) ≡ calls_of (suc i) x s
unfolding calls_of
suc_calls i x s = refl

pub more_calls : (i : ℕ) (x : Call) (c d e : Held) → Plays (calls_of i x) c d → Plays (called x) d e → Plays (calls_of (i + 1) x) c e
more_calls i x c d e p q =
    let n : suc i ≡ i + 1 = omega arith in
    plays_is (λ s. called x (calls_of i x s)) (calls_of (i + 1) x) c e (suc_calls i x (scene_in c) ∙ ap (λ k. calls_of k x (scene_in c)) n)
    (in_turn (calls_of i x) (called x) c d e p q)

-- ---- the verbs, parted as the code parts them

-- turns are calls
turns_made : (n report : ℕ) (s : Scene) → calls_of n (turn report) s ≡ turns_of n report s
unfolding calls_of turns_of
turns_made zero report s = refl
turns_made (suc n) report s = ap (called (turn report)) (turns_made n report s)

all_done : (v : Verb) (l : Line) (own : List ℕ) (s : Scene) → done_by (asked_by v l) v l own s ≡ obeyed (Some v) l own s
unfolding call_of calls_of hosted obeyed
all_done verb.Size l own s = refl
all_done verb.Reset l own s = refl
all_done verb.Attention l own s = refl
all_done verb.Arrival l own s = refl
all_done verb.Turn l own s = turns_made (turn_count l) (l.second % 65536) s
all_done verb.Run l own s = refl
all_done verb.Bytes l own s = refl
all_done verb.Words l own s = refl
all_done verb.Show l own s = refl
all_done verb.Look l own s = refl
all_done verb.Interrupt l own s = refl
all_done verb.Record l own s = refl
all_done verb.Say l own s = refl

-- the host does nothing for a line that makes a call
pub calls_alone : (v : Verb) (l : Line) (own : List ℕ) (s : Scene)
    → (v ≡ verb.Reset) ⊎ ((v ≡ verb.Attention) ⊎ ((v ≡ verb.Arrival) ⊎ ((v ≡ verb.Turn) ⊎ (v ≡ verb.Run)))) → s ≡ hosted v l own s
unfolding hosted
calls_alone v l own s (inl e) = rw e refl
calls_alone v l own s (inr (inl e)) = rw e refl
calls_alone v l own s (inr (inr (inl e))) = rw e refl
calls_alone v l own s (inr (inr (inr (inl e)))) = rw e refl
calls_alone v l own s (inr (inr (inr (inr e)))) = rw e refl

-- what was done by the call that a line asks for, or by the host, is what the line does
pub obeys : (o : Option Verb) (v : Verb) (l : Line) (own : List ℕ) (a : Option Asked) (c d : Held) → o ≡ Some v → a ≡ asked_by v l
    → Plays (done_by a v l own) c d
    → Plays (obeyed o l own) c d
obeys o v l own a c d w e p =
    plays_is (done_by a v l own) (obeyed o l own) c d
    (ap (λ (x : Option Asked). done_by x v l own (scene_in c)) e ∙ all_done v l own (scene_in c) ∙ ap (λ (x : Option Verb). obeyed x l own (scene_in c)) (sym w))
    p

-- a line with no verb
pub obeys_none : (o : Option Verb) (l : Line) (own : List ℕ) (c : Held) → o ≡ None → Plays (obeyed o l own) c c
unfolding obeyed
obeys_none o l own c w = rw w (still c)
