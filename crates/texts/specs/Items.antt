-- A line of memory, and a stretch, by what their parts are: bytes or words. Assumes nothing.
use Rattle.std.specs.Prelude.{List, ℕ}
use Rattle.texts.specs.declared.Item.{Item}
use Rattle.texts.specs.declared.Item.TheVariants.{Byte, Word}
use Rattle.texts.specs.Texts.{byte_text, word_text, show_line, look_line, show_text, look_text}

-- how many a line has, at most
abbrev pub per_line : Item → ℕ
per_line Byte = 16
per_line Word = 8

abbrev pub item_text : Item → List ℕ → ℕ → ℕ → List ℕ
item_text Byte = byte_text
item_text Word = word_text

abbrev pub line : Item → List ℕ → ℕ → ℕ → List ℕ
line Byte = show_line
line Word = look_line

abbrev pub stretch : Item → List ℕ → ℕ → ℕ → List ℕ
stretch Byte = show_text
stretch Word = look_text
