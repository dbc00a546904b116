-- What is said of a bad line (docs/replay.md, "Bad input"): "One line on the error stream says where and what was expected". Assumes nothing.
use Rattle.std.specs.Prelude.{List, ◌++◌, ℕ}
use Rattle.texts.specs.Codes.{codes}
use Rattle.texts.specs.Texts.{decimal}
use Rattle.wording.specs.declared.Fault.{Fault}
use Rattle.wording.specs.declared.Wrong.{Wrong}
use Rattle.wording.specs.declared.Wrong.TheVariants as wrong

unfoldable pub expected_text : Wrong → List ℕ
expected_text wrong.First = codes "a line's first word"
expected_text wrong.Number = codes "a number"
expected_text wrong.Size = codes "a number up to 65536"
expected_text wrong.Short = codes "a number up to 65535"
expected_text wrong.Area = codes "an area"
expected_text wrong.Place = codes "a place in the area"
expected_text wrong.Bytes = codes "bytes"
expected_text wrong.Room = codes "room in the area"
expected_text wrong.End = codes "the end of the line"

unfoldable pub fault_text : ℕ → Fault → List ℕ
fault_text line f =
    codes "line " ++ decimal line ++ codes ", column " ++ decimal f.column ++ codes ": expected " ++ expected_text f.wrong ++ codes "\n"
