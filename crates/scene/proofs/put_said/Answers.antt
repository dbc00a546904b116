-- `scene::put_said` meets its contract. Assumes nothing.
use Rattle.texts.proofs.Laws.{prints_cat}
use Rattle.scene.specs.Scene.{say_text}
use Rattle.scene.proofs.put_said.Goals as goal

pub returns : goal.returns
unfolding say_text
returns c = prints_cat c.put_text.ensures c.put_byte.ensures
