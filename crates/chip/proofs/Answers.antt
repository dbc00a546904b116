-- An attention, a turn and a run answer a length and an edge: they are not refused, and give no reason. Assumes nothing.
use mathlib.Core.Path.{◌≡◌, refl}
use mathlib.Core.Bool.{Bool, true, false}
use mathlib.Core.List.{List}
use Prim.Native.Nat.{ℕ, zero, suc}
use Rattle.scb.specs.Words.{resets}
use Rattle.memory.specs.Memory.{word_at}
use Rattle.control.specs.Obey.{of_scb}
use Rattle.device.specs.Answers.{answered}
use Rattle.device.specs.State.{cu_works, ru_works}
use Rattle.device.specs.declared.Answer.{Answer}
use Rattle.device.specs.declared.Device.{Device}
use Rattle.attention.specs.Attention.{initialise, attend_by, attend, attention_by, attention}
use Rattle.chip.specs.World.{World, Ran, afterwards}
use Rattle.chip.specs.Turn.{concluded, command_turn, receive_turn, served_by, turn_by, turn_of}
use Rattle.chip.specs.Run.{Run, stops_at, continued, run_of}

-- an answer that is made of its length and its edge
abbrev pub Plain : Answer → Type 0
Plain a = a ≡ answered a.length a.edge

attend_plain : (r : Bool) (d : Device) (command : ℕ) (m : List ℕ) → (attend_by r d command m).outcome.answer ≡ answered 0 (attend_by r d command m).outcome.answer.edge
unfolding attend_by
attend_plain true d command m = refl
attend_plain false d command m = refl

attention_by_lem : (i : Bool) (d : Device) (m : List ℕ) → (attention_by i d m).outcome.answer ≡ answered 0 (attention_by i d m).outcome.answer.edge
unfolding initialise attend
attention_by_lem true d m = attend_plain (resets (word_at m (of_scb d.units 2))) d (word_at m (of_scb d.units 2)) m
attention_by_lem false d m = refl

pub attention_plain : (d : Device) (m : List ℕ) → (attention d m).outcome.answer ≡ answered 0 (attention d m).outcome.answer.edge
unfolding attention
attention_plain d m = attention_by_lem d.units.initialised d m

turn_by_lem : (a b c : Bool) (w : World) (report : ℕ) → Plain (turn_by (served_by a b c) w report).outcome.answer
unfolding command_turn receive_turn concluded
turn_by_lem true true true w report = refl
turn_by_lem true true false w report = refl
turn_by_lem true false c w report = refl
turn_by_lem false true c w report = refl
turn_by_lem false false c w report = refl

pub turn_plain : (w : World) (report : ℕ) → Plain (turn_of w report).outcome.answer
unfolding turn_of
turn_plain w report = turn_by_lem (cu_works w.device.units.cu) (ru_works w.device.units.ru) w.device.units.rulast w report

goes_plain : (s : Bool) (r : Ran) (rest : Run) → Plain r.outcome.answer → Plain rest.answer → Plain (continued s r rest).answer
goes_plain true r rest a b = a
goes_plain false r rest a b = b

pub run_plain : (n : ℕ) (w : World) (report : ℕ) → Plain (run_of n w report).answer
unfolding run_of
run_plain zero w report = refl
run_plain (suc n) w report =
    goes_plain (stops_at w report) (turn_of w report) (run_of n (afterwards (turn_of w report)) report) (turn_plain w report) (run_plain n (afterwards (turn_of w report)) report)
