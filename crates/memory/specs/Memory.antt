-- Shared memory as a list of bytes. One function changes it, `put_bytes`; everything that the chip writes is a list of `Write`s. Assumes nothing.
use Rattle.std.specs.Prelude.{ℕ, zero, suc, ◌+◌, ◌*◌, ◌/◌, ◌%◌, List, [], ◌∷◌, length, slice_index, slice_set}

-- ---- bytes. 01, "Two kinds of number in one column": any address is taken modulo N, byte by byte

-- the byte at address a
unfoldable pub byte_at : List ℕ → ℕ → ℕ
byte_at m a = slice_index m (a % length m)

-- m with the byte v at address a
unfoldable pub put_byte : List ℕ → ℕ → ℕ → List ℕ
put_byte m a v = slice_set m (a % length m) v

-- the n bytes from address a on
unfoldable pub bytes_at : List ℕ → ℕ → ℕ → List ℕ
bytes_at m a zero = []
bytes_at m a (suc n) = byte_at m a ∷ bytes_at m (suc a) n

-- m with the bytes bs from address a on
unfoldable pub put_bytes : List ℕ → ℕ → List ℕ → List ℕ
put_bytes m a [] = m
put_bytes m a (b ∷ bs) = put_bytes (put_byte m a b) (suc a) bs

-- ---- numbers. 01: words are low byte first; a real address has 24 bits: a word, then the low byte of the next word

-- the number that bytes spell, low byte first, and the k bytes that spell a number
unfoldable pub value : List ℕ → ℕ
value [] = 0
value (b ∷ bs) = b + 256 * value bs

unfoldable pub digits : ℕ → ℕ → List ℕ
digits zero v = []
digits (suc k) v = v % 256 ∷ digits k (v / 256)

-- the number in the k bytes from address a on
unfoldable pub field_at : ℕ → List ℕ → ℕ → ℕ
field_at k m a = value (bytes_at m a k)

-- a word has two bytes, a real address three
abbrev pub word_at : List ℕ → ℕ → ℕ
word_at m a = field_at 2 m a

abbrev pub real_at : List ℕ → ℕ → ℕ
real_at m a = field_at 3 m a

-- ---- writes

-- bytes that go to an address
pub record Write : Type 0 where
  pub to : ℕ
  pub bytes : List ℕ

-- what writes, the first first, make of a memory
abbrev pub apply : List Write → List ℕ → List ℕ
apply [] m = m
apply (w ∷ ws) m = apply ws (put_bytes m w.to w.bytes)

abbrev pub bytes_to : ℕ → List ℕ → Write
bytes_to a bs = record { to = a; bytes = bs }

-- the word w goes to address a
abbrev pub word_to : ℕ → ℕ → Write
word_to a w = bytes_to a (digits 2 w)

-- the word that stands at a in m, one up. 01, "Arrival and storing": counters are read, increased modulo 65,536, written back
abbrev pub count_to : List ℕ → ℕ → Write
count_to m a = word_to a ((word_at m a + 1) % 65536)
