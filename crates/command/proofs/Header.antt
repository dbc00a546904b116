-- What a Transmit places in the outgoing area at its begin, part by part and over every address length: 02, Wish 4. Assumes nothing.
use mathlib.Core.Path.{◌≡◌, refl, sym, ◌∙◌}
use mathlib.Core.Bool.{Bool, true, false}
use mathlib.Core.List.{List, [], ◌++◌, append_assoc}
use Prim.Native.Nat.{ℕ, ◌+◌, ◌≤◌}
use native.Mathlib.Omega.{arith}
use lib.ListN.{length, take, drop, length-append}
use lib.Seq.{length-take-le, take_at, drop_at, drop-drop}
use Rattle.memory.specs.Address.{place}
use Rattle.memory.specs.Memory.{bytes_at}
use Rattle.memory.specs.declared.Offset.{Offset}
use Rattle.memory.specs.declared.RealAddress.{RealAddress}
use Rattle.memory.proofs.Laws.{length-bytes_at}
use Rattle.device.specs.Header.{source_in, type_in, unbuffered_by, unbuffered}
use Rattle.device.specs.Limits.{type_length}
use Rattle.device.specs.declared.Begun.{Begun}
use Rattle.device.specs.declared.Form.{Form}
use Rattle.actions.specs.Block.{destination_at, type_at}
use Rattle.command.specs.Begin.{header_by, header_of, to_begun}
use Rattle.command.specs.Part.{Part}

module _ (base : RealAddress) (own : List ℕ) (block : Offset) (m : List ℕ) where
  -- so many bytes as do not go through buffers
  length_by : (location : Bool) (l : ℕ) → l ≤ length own → length (header_by location l base own block m) ≡ unbuffered_by location l
  length_by true l h = refl
  length_by false l h =
      simp length-append (omega (
        arith,
        length-bytes_at m (place base block destination_at) l,
        length-take-le l own h,
        length-bytes_at m (place base block (type_at l)) type_length,
      ))

  pub placed_length : (f : Form) → f.length ≤ length own → length (header_of base f own block m) ≡ unbuffered f
  unfolding header_of
  placed_length f h = length_by f.location f.length h

  -- with location 1 nothing
  pub nothing_placed_lem : (f : Form) → f.location ≡ true → header_of base f own block m ≡ []
  unfolding header_of
  nothing_placed_lem f e = rw e

  -- with location 0 each part lies where the rule has it
  module _ (f : Form) (e : f.location ≡ false) where
    abbrev l : ℕ
    l = f.length

    abbrev placed : List ℕ
    placed = header_of base f own block m

    abbrev destination : List ℕ
    destination = bytes_at m (place base block 8) l

    abbrev type : List ℕ
    type = bytes_at m (place base block (8 + l)) type_length

    in_order : placed ≡ destination ++ (take l own ++ type)
    unfolding header_of
    in_order = rw e (append_assoc destination (take l own) type)

    -- the block's destination
    pub destination_placed : take l placed ≡ destination
    destination_placed = rw in_order (take_at destination (take l own ++ type) l (length-bytes_at m (place base block destination_at) l))

    behind_destination : drop (source_in l) placed ≡ take l own ++ type
    behind_destination = rw in_order (drop_at destination (take l own ++ type) l (length-bytes_at m (place base block destination_at) l))

    -- the own address's first bytes, up to the length
    pub source_placed : l ≤ length own → take l (drop (source_in l) placed) ≡ take l own
    source_placed h = rw behind_destination (take_at (take l own) type l (length-take-le l own h))

    -- the block's type
    pub type_placed : l ≤ length own → drop (type_in l) placed ≡ type
    type_placed h = sym (drop-drop l l placed) ∙ rw behind_destination (drop_at (take l own) type l (length-take-le l own h))

-- with location 1 the begin of a Transmit leaves the outgoing area as it was
pub outgoing_stays : (p : Part) (b : Begun) (word : ℕ) (m : List ℕ) → p.setup.settings.form.location ≡ true
    → (to_begun true p b word m).outgoing ≡ p.outgoing
outgoing_stays p b word m e = rw (nothing_placed_lem p.base p.setup.own b.block m p.setup.settings.form e)
