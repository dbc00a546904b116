-- The table of refusals as rows: 01, "Calls, lent areas, refusals", as 02, Wish 3, mends it. A row is a case of `Refusal`, which has its number.
-- Assumes nothing.
use Rattle.std.specs.Prelude.{Bool, cond, List, [], ◌∷◌, ℕ, eqb, leb, Option, Some, None}
use Rattle.memory.specs.Size.{size_allowed}
use Rattle.device.specs.Limits.{holding_size, outgoing_size, record_size, longest}
use Rattle.device.specs.declared.Refusal.{Refusal}
use Rattle.device.specs.declared.Refusal.TheVariants as refusal

-- the lengths of what is lent, and of an arriving frame: 0 where none arrives
pub record Lengths : Type 0 where
  pub memory : ℕ
  pub holding : ℕ
  pub outgoing : ℕ
  pub kept : ℕ
  pub frame : ℕ

-- what each row asks, of the lengths and of whether the record is the image of a state within docs/' ranges
abbrev pub is_right : Lengths → (image : Bool) → Refusal → Bool
is_right l image refusal.Memory = size_allowed l.memory
is_right l image refusal.Record = eqb l.kept record_size
is_right l image refusal.Holding = eqb l.holding holding_size
is_right l image refusal.Outgoing = eqb l.outgoing outgoing_size
is_right l image refusal.Overlong = leb l.frame longest
is_right l image refusal.Foreign = image

-- ---- the rows of each call, in the order in which they are given

-- "every other call takes all four". 02, Wish 3: "21 device record, 22 holding area, 23 outgoing area, lowest first, between 1 and 3 in the order"
abbrev pub rows : List Refusal
rows = refusal.Memory ∷ refusal.Record ∷ refusal.Holding ∷ refusal.Outgoing ∷ refusal.Overlong ∷ refusal.Foreign ∷ []

-- "Reset takes the record alone, ignores its content"
abbrev pub reset_rows : List Refusal
reset_rows = refusal.Record ∷ []

-- "The lowest number that applies is given", as mended: that of the first row, in this order, that is not right
abbrev pub first_wrong : (right : Refusal → Bool) → List Refusal → Option Refusal
first_wrong right [] = None
first_wrong right (r ∷ rs) = cond (right r) (first_wrong right rs) (Some r)
