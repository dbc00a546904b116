-- The limits of document 01 on what is ordered: docs/builder.md, "Limits". Assumes nothing.
use Rattle.std.specs.Prelude.{Bool, true, false, cond, ◌&&◌, List, [], ◌∷◌, ℕ, zero, suc, ◌+◌, ◌%◌, eqb, leb, ltb, length}
use Rattle.device.specs.Header.{unbuffered}
use Rattle.device.specs.Limits.{longest_address, type_length, longest, most_buffers}
use Rattle.device.specs.State.{fresh_form}
use Rattle.device.specs.declared.Form.{Form}
use Rattle.actions.specs.Actions.{acceptable}
use Rattle.order.specs.Order.{What, Command, Order, nop, ia_setup, configure, mc_setup, transmit, tdr, diagnose, form_byte, form_after}

-- a count and a size have 14 bits
abbrev pub most_counted : ℕ
most_counted = 16383

-- a Configure has 3 to 11 bytes behind its count
abbrev pub fewest_settings : ℕ
fewest_settings = 3

abbrev pub most_settings : ℕ
most_settings = 11

-- every number is a byte
abbrev pub are_bytes : List ℕ → Bool
are_bytes [] = true
are_bytes (b ∷ bs) = ltb b 256 && are_bytes bs

-- what a Transmit's block has of the header: with location 0 destination and type, with location 1 neither
abbrev pub in_block_by : (location : Bool) → ℕ → ℕ
in_block_by true l = 0
in_block_by false l = l + type_length

abbrev pub in_block : Form → ℕ
in_block form = in_block_by form.location form.length

-- so many bytes are whole addresses of l bytes; at length 0 there are none
abbrev pub whole : ℕ → ℕ → Bool
whole zero count = eqb count 0
whole (suc l) count = eqb (count % suc l) 0

-- the bytes of pieces together
abbrev pub total : List (List ℕ) → ℕ
total [] = 0
total (p ∷ ps) = length p + total ps

-- each piece has bytes, at most 16,383
abbrev pub pieces_within : List (List ℕ) → Bool
pieces_within [] = true
pieces_within (p ∷ ps) = leb (length p) most_counted && are_bytes p && pieces_within ps

-- a command, by the address length and location in force at it
abbrev pub within : Form → What → Bool
within form nop = true
within form (ia_setup bytes) = eqb (length bytes) longest_address && are_bytes bytes
within form (configure bytes) =
    leb fewest_settings (length bytes) && leb (length bytes) most_settings && acceptable (form_byte bytes) && are_bytes bytes
within form (mc_setup bytes) = leb (length bytes) most_counted && whole form.length (length bytes) && are_bytes bytes
within form (transmit header pieces) =
    eqb (length header) (in_block form) && are_bytes header && leb (length pieces) most_buffers
    && leb (unbuffered form + total pieces) longest && pieces_within pieces
within form tdr = true
within form diagnose = true

abbrev pub all_within : Form → List Command → Bool
all_within form [] = true
all_within form (c ∷ cs) = within form c.what && all_within (form_after form c.what) cs

-- buffers of at most 16,383 bytes; of no buffers the size is 0
abbrev pub size_within : (buffers size : ℕ) → Bool
size_within zero size = eqb size 0
size_within (suc n) size = leb size most_counted

unfoldable pub order_within : Order → Bool
order_within o = size_within o.buffers o.size && all_within fresh_form o.commands
