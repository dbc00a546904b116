-- `scene::Scene::show` meets its contract: of bytes or words, of the area that is named. Assumes nothing.
use Rattle.scene.proofs.Laws.{prints, stretch_named}
use Rattle.texts.proofs.Laws.{prints_is}
use Rattle.scene.proofs.Scene.show.Goals as goal

pub returns : goal.returns
returns c =
    prints _ c.args.self.now c.put_stretch.new.self
    (prints_is (stretch_named c.args.item c.args.line.area _ _ _ _ _) (rw c.named-area.ensures at c.put_stretch.ensures))
