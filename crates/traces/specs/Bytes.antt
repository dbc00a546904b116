-- The four calls on the areas that are lent and the parts of an answer, as the room calls has them: passed on to the rooms above. Assumes nothing.
pub use Rattle.calls.specs.Answer.{number, sent_length, edge, reason, turns_taken, without_turns}
pub use Rattle.calls.specs.Calls.{called, is_refused}
