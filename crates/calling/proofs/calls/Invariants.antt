-- The invariant of `calling::calls`: the first i calls are made. Assumes nothing.
use Rattle.board.specs.Board.{call_of}
use Rattle.scene.specs.Scene.{Plays, calls_of}
use Rattle.calling.proofs.calls.Given as goal

abbrev pub invariant-loop-i : goal.invariant-loop-i
invariant-loop-i l = Plays (calls_of l.i (call_of l.asked l.own)) l.initial.scene l.scene
