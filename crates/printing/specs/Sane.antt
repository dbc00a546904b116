-- What every character and every line keep: a reader whose numbers are small. Assumes nothing.
use Rattle.std.specs.Prelude.{◌<◌, ◌≤◌, ◌^◌, length, IfSome, ⊤}
use Rattle.lines.specs.declared.Part.{Part}
use Rattle.lines.specs.declared.Part.TheVariants as part
use Rattle.lines.specs.Reader as lines
use Rattle.session.specs.Run.{State}

-- a word that is being read begins in a column below 2 to the 31
abbrev pub Starts : Part → Type 0
Starts part.Between = ⊤
Starts (part.Word w) = w.start < 2147483648
Starts part.Text = ⊤
Starts part.Comment = ⊤

-- columns are below 2 to the 31; what is brought is at most 65,536 bytes
pub record Narrow (e : lines.Read) : Type 0 where
  pub column : e.reader.column < 2147483648
  pub behind : e.reader.behind < 2147483648
  pub start : Starts e.reader.part
  pub placed : e.reader.line.placed < 2147483648
  pub fault : IfSome e.reader.fault (λ f. f.column < 2147483648)
  pub most : length e.bytes ≤ 65536

-- a state that a run can be in
pub record Sane (st : State) : Type 0 where
  pub reading : Narrow (lines.left st.session.reader st.bytes)
  pub line : st.session.line < 2 ^ 64
