-- The order that a memory was built from: docs/builder.md, "Reading it back". The lists are walked as the chip walks them; then every byte of every piece
-- must be as that order builds it. Assumes nothing.
use Rattle.std.specs.Prelude.{Bool, true, false, cond, ◌&&◌, List, [], ◌∷◌, ℕ, zero, suc, ◌+◌, ◌-◌, eqb, length}
use Rattle.memory.specs.Memory.{byte_at, word_at, real_at, bytes_at}
use Rattle.memory.specs.Address.{none}
use Rattle.scb.specs.Words.{bits_at, bit, cbl_at, rfa_at}
use Rattle.device.specs.Limits.{longest_address, most_buffers}
use Rattle.device.specs.Numbers.{action_of}
use Rattle.device.specs.Numbers as numbers
use Rattle.device.specs.State.{fresh_form}
use Rattle.device.specs.declared.Action.{Action}
use Rattle.device.specs.declared.Action.TheVariants as action
use Rattle.device.specs.declared.Form.{Form}
use Rattle.actions.specs.Block.{block_command_at, block_link_at, argument_at, destination_at}
use Rattle.command.specs.Begin.{cmd}
use Rattle.receive.specs.Part.{control_at, fd_link_at, first_at}
use Rattle.order.specs.Order.{What, Command, Order, nop, ia_setup, configure, mc_setup, transmit, tdr, diagnose, form_after}
use Rattle.order.specs.Limits.{in_block}
use Rattle.builder.specs.Pieces.{scb_at}
use Rattle.builder.specs.Built.{built, refusal}

-- ---- Transmit: the pieces of its chain from a descriptor on, at most so many

abbrev pub pieces_in : ℕ → List ℕ → ℕ → List (List ℕ)
pieces_in zero m o = []
pieces_in (suc k) m o =
    let word = word_at m o in
    bytes_at m (real_at m (o + 4)) (bits_at word 0 14) ∷ cond (bit word 15) [] (pieces_in k m (word_at m (o + 2)))

abbrev pub data_in : List ℕ → (first : ℕ) → List (List ℕ)
data_in m first = cond (eqb first none.0) [] (pieces_in most_buffers m first)

-- ---- commands

-- what is ordered by the block at c, by its command; no order has a Dump, and what stands for it here builds another block
abbrev pub action_in : Action → List ℕ → ℕ → What
action_in action.Nop m c = nop
action_in action.IaSetup m c = ia_setup (bytes_at m (c + argument_at) longest_address)
action_in action.Configure m c = configure (bytes_at m (c + argument_at + 1) (byte_at m (c + argument_at) - 1))
action_in action.McSetup m c = mc_setup (bytes_at m (c + destination_at) (bits_at (word_at m (c + argument_at)) 0 14))
action_in action.Tdr m c = tdr
action_in action.Dump m c = nop
action_in action.Diagnose m c = diagnose

abbrev pub what_in : (transmits : Bool) → ℕ → Form → List ℕ → ℕ → What
what_in true number form m c = transmit (bytes_at m (c + destination_at) (in_block form)) (data_in m (word_at m (c + argument_at)))
what_in false number form m c = action_in (action_of number) m c

-- the list from the block at c on, at most so many
abbrev pub commands_in : ℕ → Form → List ℕ → ℕ → List Command
commands_in zero form m c = []
commands_in (suc k) form m c =
    let word = word_at m (c + block_command_at) in
    let what = what_in (eqb (cmd word) numbers.transmit) (cmd word) form m c in
    record { interrupt = bit word 13; what = what }
    ∷ cond (bit word 15) [] (commands_in k (form_after form what) m (word_at m (c + block_link_at)))

-- ---- the receive area: how many frame descriptors, and buffer descriptors, from one on up to EL, at most so many

abbrev pub frames_in : ℕ → List ℕ → ℕ → ℕ
frames_in zero m o = 0
frames_in (suc k) m o = suc (cond (bit (word_at m (o + control_at)) 15) 0 (frames_in k m (word_at m (o + fd_link_at))))

abbrev pub buffer_descriptors_in : ℕ → List ℕ → ℕ → ℕ
buffer_descriptors_in zero m o = 0
buffer_descriptors_in (suc k) m o = suc (cond (bit (word_at m (o + 8)) 15) 0 (buffer_descriptors_in k m (word_at m (o + 2))))

abbrev pub buffers_in : List ℕ → (first : ℕ) → ℕ
buffers_in m first = cond (eqb first none.0) 0 (buffer_descriptors_in (length m) m first)

abbrev pub size_in : List ℕ → (first : ℕ) → ℕ
size_in m first = cond (eqb first none.0) 0 (bits_at (word_at m (first + 8)) 0 14)

-- ---- the order, from the SCB at its place on; no list has more links than memory has bytes

unfoldable pub order_in : List ℕ → Order
order_in m =
    let first = word_at m (scb_at + rfa_at) in
    let handed = word_at m (first + first_at) in
    record {
      frames = frames_in (length m) m first;
      buffers = buffers_in m handed;
      size = size_in m handed;
      commands = commands_in (length m) fresh_form m (word_at m (scb_at + cbl_at));
    }

-- ---- every byte is as that order builds it

abbrev pub same_bytes : List ℕ → List ℕ → Bool
same_bytes [] [] = true
same_bytes [] (y ∷ ys) = false
same_bytes (x ∷ xs) [] = false
same_bytes (x ∷ xs) (y ∷ ys) = eqb x y && same_bytes xs ys

unfoldable pub is_built : List ℕ → Bool
is_built m = eqb (refusal (length m) (order_in m)) 0 && same_bytes (built m (order_in m)) m
