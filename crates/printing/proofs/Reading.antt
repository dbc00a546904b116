-- A reader's numbers stay small, and so does what it brings: `read_narrow`, `end_narrow`; and a line that is right shows what lies in its
-- area: `end_fits`. No contract cites this file. Assumes nothing.
use mathlib.Core.Path.{◌≡◌, refl, sym, ap, ◌∙◌}
use mathlib.Core.Bool.{Bool, true, false, cond, false≢true}
use mathlib.Core.List.{List}
use Prim.Native.Nat.{ℕ, ◌+◌, ◌/◌, ◌%◌, ◌<◌, ◌≤◌}
use native.Mathlib.Omega.{arith}
use lib.Dec.{eqb, ltb}
use lib.ListN.{length, set, replicate, length-set}
use lib.Seq.{sets, length-sets}
use Rattle.std.specs.Prelude.{Option, Some, None, IfSome, is_none, Ok, Err}
use Rattle.wording.specs.Chars.{blank, hash, digit}
use Rattle.wording.specs.Names.{verb_of, area_of, size_of}
use Rattle.wording.specs.Spelling.{many, number_of, joined, store_digit, store, more_word}
use Rattle.wording.specs.Lines.{least, wanted, fault_at, fits, judged_by}
use Rattle.wording.specs.Take.{with_first, with_second, with_number, take_verb, take_number, take_area, take_place, Taken, Took, take_bytes, put_value, take_value, take_word}
use Rattle.wording.specs.declared.Fault.{Fault}
use Rattle.wording.specs.declared.Line.{Line}
use Rattle.wording.specs.declared.Area.{Area}
use Rattle.wording.specs.declared.Piece.{Piece}
use Rattle.wording.specs.declared.Piece.TheVariants as piece
use Rattle.wording.specs.declared.Verb.{Verb}
use Rattle.wording.specs.declared.Want.{Want}
use Rattle.wording.specs.declared.Want.TheVariants as want
use Rattle.wording.specs.declared.Word.{Word}
use Rattle.wording.specs.declared.Wrong.{Wrong}
use Rattle.wording.specs.declared.Wrong.TheVariants as wrong
use Rattle.lines.specs.declared.Part.{Part}
use Rattle.lines.specs.declared.Part.TheVariants as part
use Rattle.lines.specs.declared.Reader.{Reader}
use Rattle.lines.specs.Reader as lines
use Rattle.printing.specs.Sane.{Starts, Narrow}

-- ---- what is brought is at most so long

abbrev Brought : List ℕ → Type 0
Brought by = length by ≤ 65536

brought_if : (x : Bool) (a b : List ℕ) → Brought a → Brought b → Brought (cond x a b)
brought_if true a b p q = p
brought_if false a b p q = q

set_brought : (by : List ℕ) (i v : ℕ) → Brought by → Brought (set by i v)
set_brought by i v b = rw (length-set by i v) b

sets_brought : (by : List ℕ) (i n v : ℕ) → Brought by → Brought (sets by i (replicate n v))
sets_brought by i n v b = rw (length-sets by i (replicate n v)) b

store_by : (p : Piece) (at d : ℕ) (by : List ℕ) → Brought by → Brought (store_digit p at d by)
store_by (piece.High stored) at d by b = b
store_by (piece.Low stored high) at d by b = set_brought by (at + stored) (joined high d) b
store_by (piece.TimesHigh times) at d by b = b
store_by (piece.TimesLow times high) at d by b = b
store_by (piece.Times times byte) at d by b = b

store_brought : (p : Option Piece) (at c : ℕ) (by : List ℕ) → Brought by → Brought (store p at c by)
unfolding store
store_brought None at c by b = b
store_brought (Some p) at c by b = brought_if (ltb (digit c) 16) _ _ (store_by p _ _ by b) b

-- ---- a word that is taken

abbrev Small : Taken → Type 0
Small (Ok l) = l.placed < 2147483648
Small (Err f) = f.column < 2147483648

small_if : (x : Bool) (a b : Taken) → Small a → Small b → Small (cond x a b)
small_if true a b p q = p
small_if false a b p q = q

placed_if : (x : Bool) (a b : Line) → a.placed < 2147483648 → b.placed < 2147483648 → (cond x a b).placed < 2147483648
placed_if true a b p q = p
placed_if false a b p q = q

verb_small : (v : Option Verb) (l : Line) (k : ℕ) → l.placed < 2147483648 → k < 2147483648 → Small (take_verb v l k)
unfolding take_verb
verb_small None l k p q = q
verb_small (Some v) l k p q = p

number_small : (n : Option ℕ) (l : Line) (k bound : ℕ) (w : Wrong) → l.placed < 2147483648 → k < 2147483648 → Small (take_number n l k bound w)
unfolding take_number with_number
number_small None l k bound w p q = q
number_small (Some n) l k bound w p q =
    small_if (ltb n bound) _ _ (placed_if (eqb l.taken 0) (with_first l n) (with_second l n) p p) q

area_small : (a : Option Area) (l : Line) (k : ℕ) → l.placed < 2147483648 → k < 2147483648 → Small (take_area a l k)
unfolding take_area
area_small None l k p q = q
area_small (Some a) l k p q = p

place_small : (n : Option ℕ) (l : Line) (k size : ℕ) → l.placed < 2147483648 → k < 2147483648 → Small (take_place n l k size)
unfolding take_place
place_small None l k size p q = q
place_small (Some n) l k size p q = small_if (ltb n size) _ _ q q

record Fine (t : Took) : Type 0 where
  small : Small t.taken
  brought : Brought t.bytes

fine_if : (x : Bool) (a b : Took) → Fine a → Fine b → Fine (cond x a b)
fine_if true a b p q = p
fine_if false a b p q = q

bytes_fine : (p : Option Piece) (l : Line) (k : ℕ) (by : List ℕ) → l.placed < 2147483648 → k < 2147483648 → Brought by → Fine (take_bytes p l k by)
unfolding take_bytes
bytes_fine (Some (piece.High stored)) l k by m q b = record { small = m; brought = b }
bytes_fine (Some (piece.Low stored high)) l k by m q b = record { small = q; brought = b }
bytes_fine (Some (piece.TimesHigh times)) l k by m q b = record { small = q; brought = b }
bytes_fine (Some (piece.TimesLow times high)) l k by m q b = record { small = q; brought = b }
bytes_fine (Some (piece.Times times byte)) l k by m q b = record { small = m; brought = sets_brought by l.filled times byte b }
bytes_fine None l k by m q b = record { small = q; brought = b }

value_brought : (i n : ℕ) (by : List ℕ) → Brought by → Brought (put_value i n by)
unfolding put_value
value_brought i n by b = set_brought (set by i (n % 256)) (i + 1) (n / 256 % 256) (set_brought by i (n % 256) b)

value_fine : (n : Option ℕ) (l : Line) (k : ℕ) (by : List ℕ) → l.placed < 2147483648 → k < 2147483648 → Brought by → Fine (take_value n l k by)
unfolding take_value
value_fine None l k by m q b = record { small = q; brought = b }
value_fine (Some n) l k by m q b =
    fine_if (ltb n 65536) _ _ (record { small = m; brought = value_brought l.filled n by b }) (record { small = q; brought = b })

word_fine : (w : Want) (l : Line) (d : Word) (by : List ℕ) → l.placed < 2147483648 → d.start < 2147483648 → Brought by
    → Fine (take_word w l d by)
unfolding take_word
word_fine want.First l d by m q b = record { small = verb_small (verb_of d.letters) l d.start m q; brought = b }
word_fine want.Size l d by m q b = record { small = number_small (number_of d.digits) l d.start 65537 wrong.Size m q; brought = b }
word_fine want.Short l d by m q b = record { small = number_small (number_of d.digits) l d.start 65536 wrong.Short m q; brought = b }
word_fine want.Number l d by m q b = record { small = number_small (number_of d.digits) l d.start many wrong.Number m q; brought = b }
word_fine want.Area l d by m q b = record { small = area_small (area_of d.letters) l d.start m q; brought = b }
word_fine want.Place l d by m q b = record { small = place_small (number_of d.digits) l d.start (size_of l.area) m q; brought = b }
word_fine want.Bytes l d by m q b = bytes_fine d.piece l d.start by m q b
word_fine want.Value l d by m q b = value_fine (number_of d.digits) l d.start by m q b
word_fine want.Text l d by m q b = record { small = q; brought = b }
word_fine want.End l d by m q b = record { small = q; brought = b }

-- ---- a reader

pub start_narrow : (by : List ℕ) → length by ≤ 65536 → Narrow (lines.left lines.start by)
unfolding lines.start
start_narrow by m =
    record {
      column = omega arith;
      behind = omega arith;
      start = tt;
      placed = omega arith;
      fault = tt;
      most = m;
    }

narrow_if : (x : Bool) (a b : lines.Read) → Narrow a → Narrow b → Narrow (cond x a b)
narrow_if true a b p q = p
narrow_if false a b p q = q

past_narrow : (p : Part) (e : lines.Read) → Starts p → Narrow e → Narrow (lines.left (lines.past e.reader p) e.bytes)
unfolding lines.past
past_narrow p e b n =
    record {
      column = omega arith;
      behind = n.behind;
      start = b;
      placed = n.placed;
      fault = n.fault;
      most = n.most;
    }

module _ (r : Reader) (by : List ℕ) (n : Narrow (lines.left r by)) where
  taken_narrow : (t : Taken) (by' : List ℕ) → Small t → Brought by' → Narrow (lines.left (lines.with_taken r t) by')
  unfolding lines.with_taken
  taken_narrow (Ok l) by' p b =
      record {
        column = n.column;
        behind = n.column;
        start = n.start;
        placed = p;
        fault = tt;
        most = b;
      }
  taken_narrow (Err f) by' p b =
      record {
        column = n.column;
        behind = n.column;
        start = n.start;
        placed = n.placed;
        fault = p;
        most = b;
      }

  word_narrow : (w : Word) → w.start < 2147483648 → Narrow (lines.end_word r w by)
  unfolding lines.end_word
  word_narrow w s =
      let f = word_fine (wanted r.line.verb r.line.taken) r.line w by n.placed s n.most in
      taken_narrow _ _ f.small f.brought

  text_narrow : (c : ℕ) → Narrow (lines.more_text r c by)
  unfolding lines.more_text lines.with_line lines.past
  text_narrow c =
      record {
        column = omega arith;
        behind = n.behind;
        start = tt;
        placed = n.placed;
        fault = n.fault;
        most = set_brought by r.line.filled c n.most;
      }

  begin_narrow : (c : ℕ) → Narrow (lines.left (lines.begin_word r c) by)
  unfolding lines.begin_word lines.past more_word
  begin_narrow c =
      record {
        column = omega arith;
        behind = n.behind;
        start = n.column;
        placed = n.placed;
        fault = n.fault;
        most = n.most;
      }

  end_wanted : Narrow (lines.left (lines.with_fault r (Some (fault_at wrong.End r.column))) by)
  unfolding lines.with_fault
  end_wanted =
      record {
        column = n.column;
        behind = n.behind;
        start = n.start;
        placed = n.placed;
        fault = n.column;
        most = n.most;
      }

  first_narrow : (w : Want) (c : ℕ) → Narrow (lines.first_of w r c by)
  unfolding lines.first_of
  first_narrow want.First c = begin_narrow c
  first_narrow want.Size c = begin_narrow c
  first_narrow want.Short c = begin_narrow c
  first_narrow want.Number c = begin_narrow c
  first_narrow want.Area c = begin_narrow c
  first_narrow want.Place c = begin_narrow c
  first_narrow want.Bytes c = begin_narrow c
  first_narrow want.Value c = begin_narrow c
  first_narrow want.Text c = text_narrow c
  first_narrow want.End c = end_wanted

  between_narrow : (c : ℕ) → Narrow (lines.between r c by)
  unfolding lines.between
  between_narrow c =
      narrow_if (blank c) _ _ (past_narrow part.Between (lines.left r by) tt n)
      (narrow_if (eqb c hash) _ _ (past_narrow part.Comment (lines.left r by) tt n) (first_narrow (wanted r.line.verb r.line.taken) c))

  further_narrow : (w : Word) (c : ℕ) → w.start < 2147483648 → Narrow (lines.further_of r w c by)
  unfolding lines.further_of lines.past more_word
  further_narrow w c s =
      record {
        column = omega arith;
        behind = n.behind;
        start = s;
        placed = n.placed;
        fault = n.fault;
        most = store_brought w.piece r.line.filled c by n.most;
      }

  past_word_narrow : (w : Word) (p : Part) → w.start < 2147483648 → Starts p → Narrow (lines.past_word r w p by)
  unfolding lines.past_word
  past_word_narrow w p s b = past_narrow p (lines.end_word r w by) b (word_narrow w s)

  in_word_narrow : (w : Word) (c : ℕ) → w.start < 2147483648 → Narrow (lines.in_word r w c by)
  unfolding lines.in_word
  in_word_narrow w c s =
      narrow_if (blank c) _ _ (past_word_narrow w part.Between s tt)
      (narrow_if (eqb c hash) _ _ (past_word_narrow w part.Comment s tt) (further_narrow w c s))

  in_text_narrow : (c : ℕ) → Narrow (lines.in_text r c by)
  unfolding lines.in_text
  in_text_narrow c = narrow_if (eqb c hash) _ _ (past_narrow part.Comment (lines.left r by) tt n) (text_narrow c)

  read_in_lem : (p : Part) (c : ℕ) → Starts p → Narrow (lines.read_in p r c by)
  unfolding lines.read_in
  read_in_lem part.Between c b = between_narrow c
  read_in_lem (part.Word w) c b = in_word_narrow w c b
  read_in_lem part.Text c b = in_text_narrow c
  read_in_lem part.Comment c b = past_narrow part.Comment (lines.left r by) tt n

  pub read_narrow : (c : ℕ) → Narrow (lines.read r c by)
  unfolding lines.read
  read_narrow c = narrow_if (lines.is_right r) _ _ (read_in_lem r.part c n.start) n

  last_narrow : (p : Part) → Starts p → Narrow (lines.last_word p r by)
  unfolding lines.last_word
  last_narrow part.Between b = n
  last_narrow (part.Word w) b = word_narrow w b
  last_narrow part.Text b = n
  last_narrow part.Comment b = n

-- ---- a line's end

abbrev Near : Option Fault → Type 0
Near o = IfSome o (λ f. f.column < 2147483648)

near_if : (x : Bool) (a b : Option Fault) → Near a → Near b → Near (cond x a b)
near_if true a b p q = p
near_if false a b p q = q

judged_small : (v : Option Verb) (l : Line) (k : ℕ) → l.placed < 2147483648 → k < 2147483648 → Near (judged_by v l k)
unfolding judged_by
judged_small None l k p q = tt
judged_small (Some v) l k p q = near_if (ltb l.taken (least v)) _ _ q (near_if (fits v l (size_of l.area)) _ _ tt p)

reader_if : (x : Bool) (a b : Reader) (by : List ℕ) → Narrow (lines.left a by) → Narrow (lines.left b by) → Narrow (lines.left (cond x a b) by)
reader_if true a b by p q = p
reader_if false a b by p q = q

judge_narrow : (e : lines.Read) → Narrow e → Narrow (lines.left (lines.judge e.reader) e.bytes)
unfolding lines.judge lines.with_fault
judge_narrow e n =
    reader_if (lines.is_right e.reader) _ _ e.bytes
    (record {
      column = n.column;
      behind = n.behind;
      start = n.start;
      placed = n.placed;
      fault = judged_small e.reader.line.verb e.reader.line e.reader.behind n.placed n.behind;
      most = n.most;
    })
    n

pub end_narrow : (r : Reader) (by : List ℕ) → Narrow (lines.left r by) → Narrow (lines.end r by)
unfolding lines.end
end_narrow r by n = narrow_if (lines.is_right r) _ _ (judge_narrow (lines.last_word r.part r by) (last_narrow r by n r.part n.start)) n

-- ---- a line that is right

abbrev pub Fits : Line → Type 0
Fits l = IfSome l.verb (λ v. fits v l (size_of l.area) ≡ true)

nothing_wrong : (x y : Bool) (f g : Fault) → cond x (Some f) (cond y None (Some g)) ≡ None → y ≡ true
nothing_wrong true y f g h = cc
nothing_wrong false true f g h = refl
nothing_wrong false false f g h = cc

judged_fits : (v : Option Verb) (l : Line) (k : ℕ) → judged_by v l k ≡ None → IfSome v (λ w. fits w l (size_of l.area) ≡ true)
unfolding judged_by
judged_fits None l k h = tt
judged_fits (Some v) l k h = nothing_wrong (ltb l.taken (least v)) (fits v l (size_of l.area)) _ _ h

judge_by : (x : Bool) (r : Reader) → lines.is_right r ≡ x → (cond x (lines.with_fault r (judged_by r.line.verb r.line r.behind)) r).fault ≡ None
    → Fits (cond x (lines.with_fault r (judged_by r.line.verb r.line r.behind)) r).line
unfolding lines.is_right lines.with_fault
judge_by true r e h = judged_fits r.line.verb r.line r.behind h
judge_by false r e h = absurd (false≢true (sym e ∙ ap is_none h))

judge_fits : (r : Reader) → (lines.judge r).fault ≡ None → Fits (lines.judge r).line
unfolding lines.judge
judge_fits r h = judge_by (lines.is_right r) r refl h

end_by_lem : (x : Bool) (r : Reader) (e : lines.Read) (by : List ℕ) → lines.is_right r ≡ x
    → (cond x (lines.judge_all e) (lines.left r by)).reader.fault ≡ None
    → Fits (cond x (lines.judge_all e) (lines.left r by)).reader.line
unfolding lines.is_right
end_by_lem true r e by p h = judge_fits e.reader h
end_by_lem false r e by p h = absurd (false≢true (sym p ∙ ap is_none h))

pub end_fits : (r : Reader) (by : List ℕ) → (lines.end r by).reader.fault ≡ None → Fits (lines.end r by).reader.line
unfolding lines.end
end_fits r by h = end_by_lem (lines.is_right r) r (lines.last_word r.part r by) by refl h
