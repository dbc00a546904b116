-- The calls as the replay program makes them: docs/replay.md; 01, "Calls, lent areas, refusals". Assumes nothing.
use Rattle.std.specs.Prelude.{◌≡◌, Bool, not, List, ◌++◌, ℕ, eqb, get_or, take, drop, replicate}
use Rattle.device.specs.Limits.{record_size}
use Rattle.calls.specs.Calls as exported
use Rattle.board.specs.declared.Record.{Record}
use Rattle.board.specs.declared.Areas.{Areas}
use Rattle.board.specs.Front.{areas_with, Stays}
use Rattle.board.specs.declared.Board.{Board}
use Rattle.board.specs.declared.Asked.{Asked}
use Rattle.board.specs.declared.Asked.TheVariants as asked

-- ---- the board

-- "At the start N is 65,536, memory and both areas are zeros, and so is the record"
abbrev pub start : Board
start = record { kept = record { bytes = replicate record_size 0 }; size = 65536 }

-- "memory has N bytes from now on"
abbrev pub resized : Board → ℕ → Board
resized b n = record { kept = b.kept; size = n }

-- docs/record.md: "The interrupt line is high while byte 5 is not 0"
abbrev pub is_high : Board → Bool
is_high b = not (eqb (get_or b.kept.bytes 5 0) 0)

-- ---- the calls that a list can make

-- an arrival has a frame and its verdict, a turn its line report, a run of turns its report and its budget
pub data Call : Type 0 where
  reset : Call
  attention : Call
  arrive : List ℕ → ℕ → Call
  turn : ℕ → Call
  run : (report budget : ℕ) → Call

-- the call that is asked for; f: the frame
unfoldable pub call_of : Asked → List ℕ → Call
call_of asked.Reset f = reset
call_of asked.Attention f = attention
call_of (asked.Arrival verdict) f = arrive f verdict
call_of (asked.Turn report) f = turn report
call_of (asked.Run report budget) f = run report budget

-- ---- what a call leaves

-- a board after a call, and the call's answer as one number
pub record Said : Type 0 where
  pub board : Board
  pub answer : ℕ

abbrev pub said_of : Board → Record → ℕ → Said
said_of b d a = record { board = record { kept = d; size = b.size }; answer = a }

-- the board, the answer and the three areas
pub record Left : Type 0 where
  pub said : Said
  pub memory : List ℕ
  pub holding : List ℕ
  pub outgoing : List ℕ

abbrev pub left_as : Said → List ℕ → List ℕ → List ℕ → Left
left_as s m h out = record { said = s; memory = m; holding = h; outgoing = out }

-- the areas that C would lend: memory has "65,536 bytes, of which the first N are lent"
abbrev pub lent : Board → List ℕ → List ℕ → List ℕ → exported.Areas
lent b m h out = areas_with b.kept (take b.size m) h out

-- the others stay
abbrev pub left_by : Board → List ℕ → exported.Called → Left
left_by b m r =
    left_as (said_of b (record { bytes = r.areas.kept }) r.answer) (r.areas.memory ++ drop b.size m) r.areas.holding r.areas.outgoing

-- each call is the exported one: reset takes the record alone
unfoldable pub exported_of : Call → exported.Areas → exported.Called
exported_of reset a = exported.renewed_in a (exported.reset_call a.kept)
exported_of attention a = exported.attention_call a
exported_of (arrive f v) a = exported.arrival_call a f v
exported_of (turn report) a = exported.turn_call a report
exported_of (run report budget) a = exported.run_call a report budget

-- on what is lent of the board
unfoldable pub on_board : Call → Board → List ℕ → List ℕ → List ℕ → Left
on_board c b m h out = left_by b m (exported_of c (lent b m h out))

-- what the code that makes a call leaves: b and p are the board and the areas before it, b' and q after it, a is the answer
abbrev pub Leaves : Call → Board → Areas → Board → ℕ → Areas → Type 0
Leaves c b p b' a q =
    Stays p q
    × (left_as (record { board = b'; answer = a }) q.memory.now q.holding.now q.outgoing.now
    ≡ on_board c b p.memory.now p.holding.now p.outgoing.now)
