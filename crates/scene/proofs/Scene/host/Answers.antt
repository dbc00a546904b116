-- `scene::Scene::host` meets its contract, verb by verb. Assumes nothing.
use Rattle.std.proofs.Common.{refl}
use mathlib.Core.Logic.{⊎_elim}
use Rattle.scene.specs.Scene.{hosted}
use Rattle.scene.proofs.Laws.{prints, writes, calls_alone}
use Rattle.scene.proofs.Scene.host.Goals as goal

pub returns-in-Size : goal.returns-in-Size
unfolding hosted
returns-in-Size c = rw c.in-Size.is (((refl, refl, refl), refl), refl)

pub returns-in-Bytes : goal.returns-in-Bytes
unfolding hosted
returns-in-Bytes c =
    let written = writes c.args.line c.args.own.now c.args.self.now c.write.new.areas c.write.ensures in
    ⊎_elim (λ e. rw e written) (λ e. rw e written) c.in-Bytes.is

pub returns-in-Show : goal.returns-in-Show
unfolding hosted
returns-in-Show c = rw c.in-Show.is c.show.ensures

pub returns-in-Look : goal.returns-in-Look
unfolding hosted
returns-in-Look c = rw c.in-Look.is c.show-in-Look.ensures

pub returns-in-Interrupt : goal.returns-in-Interrupt
unfolding hosted
returns-in-Interrupt c =
    rw c.in-Interrupt.is (prints _ c.args.self.now c.put_interrupt.new.self (rw c.interrupt.ensures at c.put_interrupt.ensures))

pub returns-in-Record : goal.returns-in-Record
unfolding hosted
returns-in-Record c = rw c.in-Record.is (prints _ c.args.self.now c.put_record.new.page c.put_record.ensures)

pub returns-in-Say : goal.returns-in-Say
unfolding hosted
returns-in-Say c = rw c.in-Say.is (prints _ c.args.self.now c.put_said.new.page c.put_said.ensures)

pub returns-in-Reset : goal.returns-in-Reset
returns-in-Reset c = (((refl, refl, refl), refl), calls_alone c.args.verb c.args.line c.args.own.now _ c.in-Reset.is)
