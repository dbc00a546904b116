-- One line always fits: what a right line prints has at most as many characters as 65,535 answers can have, `line_fits`. No contract cites this
-- file. Assumes nothing.
use mathlib.Core.Path.{◌≡◌}
use mathlib.Core.Bool.{Bool, true, false, cond}
use mathlib.Core.List.{List, [], ◌∷◌}
use Prim.Native.Nat.{ℕ, zero, suc, ◌+◌, ◌-◌, ◌*◌, ◌/◌, ◌%◌, ◌≤◌, min}
use native.Mathlib.Nat.{suc-mul}
use Rattle.std.specs.Prelude.{Option, Some, None, IfSome}
use native.Mathlib.Omega.{arith}
use borrow.Author.Tests.{leb-true}
use lib.Dec.{eqb}
use lib.ListN.{length, length-append}
use Rattle.device.specs.Limits.{record_size}
use Rattle.board.specs.Board.{Call, reset, attention, arrive, turn, run, on_board}
use Rattle.board.specs.declared.Board.{Board}
use Rattle.wording.specs.Names.{size_of}
use Rattle.wording.specs.Lines.{has_room, fits}
use Rattle.wording.specs.declared.Area.{Area}
use Rattle.wording.specs.declared.Area.TheVariants as area
use Rattle.wording.specs.declared.Line.{Line}
use Rattle.wording.specs.declared.Verb.{Verb}
use Rattle.wording.specs.declared.Verb.TheVariants as verb
use Rattle.texts.specs.Texts.{longest_answer, each, show_line, look_line, show_text, look_text, interrupt_text}
use Rattle.texts.proofs.Lengths.{length_answer, length_show_line, length_look_line}
use Rattle.scene.specs.Scene.{Scene, turns_of, turn_count, shown, looked, record_text, say_text, many}
use Rattle.printing.specs.Line.{call_text, turns_text, longest_line, line_text}

-- ---- calls

call_fits : (c : Call) (s : Scene) → length (call_text c s) ≤ longest_answer
unfolding call_text
call_fits c s = length_answer (on_board c s.play.board s.memory s.holding s.outgoing).said.answer

turns_fit : (n report : ℕ) (s : Scene) → length (turns_text n report s) ≤ longest_answer * n
unfolding turns_text
turns_fit zero report s = omega arith
turns_fit (suc n) report s =
    let a : length (turns_text n report s) ≤ longest_answer * n = turns_fit n report s in
    let b : length (call_text (turn report) (turns_of n report s)) ≤ longest_answer = call_fits (turn report) (turns_of n report s) in
    rw (length-append (turns_text n report s) (call_text (turn report) (turns_of n report s))) (omega arith)

count_by : (x : Bool) (n : ℕ) → cond x 1 (n % 65536) ≤ 65535
count_by true n = omega arith
count_by false n = omega arith

-- ---- stretches

each_most : (f : ℕ → List ℕ) (w n : ℕ) → ((i : ℕ) → length (f i) ≤ w) → length (each f n) ≤ n * w
unfolding each
each_most f w zero h = omega arith
each_most f w (suc n) h =
    let a : length (each f n) ≤ n * w = each_most f w n h in
    let b : length (f n) ≤ w = h n in
    let e : suc n * w ≡ n * w + w = suc-mul n w in
    rw (length-append (each f n) (f n), e) (omega arith)

show_fits : (area : List ℕ) (place n : ℕ) → n ≤ 65536 → length (show_text area place n) ≤ 221184
unfolding show_text
show_fits area place n h =
    let a : length (each (λ k. show_line area (place + 16 * k) (min 16 (n - 16 * k))) ((n + 15) / 16)) ≤ (n + 15) / 16 * 54 =
    each_most (λ k. show_line area (place + 16 * k) (min 16 (n - 16 * k))) 54 ((n + 15) / 16)
    (λ k. rw (length_show_line area (place + 16 * k) (min 16 (n - 16 * k))) (omega arith)) in
    omega arith

look_fits : (area : List ℕ) (place n : ℕ) → n ≤ 65536 → length (look_text area place n) ≤ 376832
unfolding look_text
look_fits area place n h =
    let a : length (each (λ k. look_line area (place + 16 * k) (min 8 (n - 8 * k))) ((n + 7) / 8)) ≤ (n + 7) / 8 * 46 =
    each_most (λ k. look_line area (place + 16 * k) (min 8 (n - 8 * k))) 46 ((n + 7) / 8)
    (λ k. rw (length_look_line area (place + 16 * k) (min 8 (n - 8 * k))) (omega arith)) in
    omega arith

shown_fits : (a : Area) (m h og : List ℕ) (place n : ℕ) → n ≤ 65536 → length (shown a m h og place n) ≤ longest_line
unfolding shown
shown_fits area.Memory m h og place n p = omega (arith, show_fits m place n p)
shown_fits area.Holding m h og place n p = omega (arith, show_fits h place n p)
shown_fits area.Outgoing m h og place n p = omega (arith, show_fits og place n p)

looked_fits : (a : Area) (m h og : List ℕ) (place n : ℕ) → n ≤ 65536 → length (looked a m h og place n) ≤ longest_line
unfolding looked
looked_fits area.Memory m h og place n p = omega (arith, look_fits m place n p)
looked_fits area.Holding m h og place n p = omega (arith, look_fits h place n p)
looked_fits area.Outgoing m h og place n p = omega (arith, look_fits og place n p)

record_fits : (b : Board) → length (record_text b) ≤ longest_line
unfolding record_text
record_fits b = omega (arith, show_fits b.kept.bytes 0 record_size (omega arith))

interrupt_fits : (high : Bool) → length (interrupt_text high) ≤ longest_line
unfolding interrupt_text
interrupt_fits true = omega arith
interrupt_fits false = omega arith

-- ---- a line

most_size : (a : Area) → size_of a ≤ 65536
most_size area.Memory = omega arith
most_size area.Holding = omega arith
most_size area.Outgoing = omega arith

-- what is shown lies in its area
room : (a : Area) (place n : ℕ) → has_room (size_of a) place n ≡ true → n ≤ 65536
room a place n e =
    let p : place + n ≤ size_of a = leb-true _ _ e in
    let q : size_of a ≤ 65536 = most_size a in
    omega arith

pub line_fits : (v : Option Verb) (l : Line) (own : List ℕ) (s : Scene) → length own ≤ 65536 → IfSome v (λ w. fits w l (size_of l.area) ≡ true)
    → length (line_text v l own s) ≤ longest_line
unfolding line_text say_text
line_fits None l own s n f = omega arith
line_fits (Some verb.Size) l own s n f = omega arith
line_fits (Some verb.Reset) l own s n f = omega (arith, call_fits reset s)
line_fits (Some verb.Attention) l own s n f = omega (arith, call_fits attention s)
line_fits (Some verb.Arrival) l own s n f = omega (arith, call_fits (arrive own (l.first % many)) s)
line_fits (Some verb.Turn) l own s n f =
    let k : turn_count l ≤ 65535 = count_by (eqb l.taken 0) l.first in
    let a : length (turns_text (turn_count l) (l.second % 65536) s) ≤ longest_answer * turn_count l = turns_fit (turn_count l) (l.second % 65536) s in
    omega arith
line_fits (Some verb.Run) l own s n f = omega (arith, call_fits (run (l.second % 65536) (turn_count l)) s)
line_fits (Some verb.Bytes) l own s n f = omega arith
line_fits (Some verb.Words) l own s n f = omega arith
line_fits (Some verb.Show) l own s n f =
    let k : l.second ≤ 65536 = room l.area l.first l.second f in
    let q : l.second % many ≤ 65536 = omega arith in
    shown_fits l.area _ _ _ _ _ q
line_fits (Some verb.Look) l own s n f =
    let k : min l.second many * 2 ≤ 65536 = room l.area l.first (min l.second many * 2) f in
    let q : l.second % many ≤ 65536 = omega arith in
    looked_fits l.area _ _ _ _ _ q
line_fits (Some verb.Interrupt) l own s n f = interrupt_fits _
line_fits (Some verb.Record) l own s n f = record_fits s.play.board
line_fits (Some verb.Say) l own s n f = rw (length-append own (10 ∷ [])) (omega arith)
