-- The four calls as one: 01, "Calls, lent areas, refusals". Assumes nothing.
use Rattle.std.specs.Prelude.{List, ℕ}
use Rattle.chip.specs.World.{World, Ran, reset_of}
use Rattle.chip.specs.Attention.{attention_of}
use Rattle.chip.specs.Arrival.{arrival_of}
use Rattle.chip.specs.Turn.{turn_of}

-- an arrival has a frame and its verdict, a turn its line report
pub data Call : Type 0 where
  reset : Call
  attention : Call
  arrive : List ℕ → ℕ → Call
  turn : ℕ → Call

-- what a call leaves of a world
abbrev pub ran : Call → World → Ran
ran reset w = record { outcome = reset_of; memory = w.memory; holding = w.holding; outgoing = w.outgoing }
ran attention w = attention_of w
ran (arrive f v) w = arrival_of w f v
ran (turn report) w = turn_of w report
