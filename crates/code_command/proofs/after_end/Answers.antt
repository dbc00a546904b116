-- `code_command::after_end` meets its contract. Assumes nothing.
use Rattle.std.proofs.Common.{refl, sym, arith}
use Rattle.device.specs.declared.Cu.TheVariants as cu
use Rattle.phases.specs.Phases.{begun_of, word_of}
use Rattle.packed.proofs.Words.{idle_is, suspended_is, waiting_is}
use Rattle.code_command.proofs.Laws.{raised_is}
use Rattle.code_command.proofs.after_end.Goals as goal

pub returns-then-el : goal.returns-then-el
returns-then-el c =
    let v = begun_of (word_of c.args.b) in
    rw (← c.el.ensures, c.if-el.true, c.served.ensures)
    (record { unit = idle_is; raised = raised_is v _ (sym c.interrupt-cx.ensures.0) cu.Idle 2 refl; sent = refl })

pub returns-then-suspend-pausing : goal.returns-then-suspend-pausing
returns-then-suspend-pausing c =
    let v = begun_of (word_of c.args.b) in
    let o = c.args.link in
    rw (← c.el.ensures, ← c.suspend.ensures, ← c.pausing.ensures, c.if-el.false, c.if-suspend-pausing.true, c.served-then-suspend-pausing.ensures)
    (record { unit = suspended_is _ o c.plain.ensures; raised = raised_is v _ (sym c.interrupt-cx.ensures.0) (cu.Suspended o) 2 refl; sent = refl })

pub returns : goal.returns
returns c =
    let v = begun_of (word_of c.args.b) in
    let o = c.args.link in
    rw (← c.el.ensures, ← c.suspend.ensures, ← c.pausing.ensures, c.if-el.false, c.if-suspend-pausing.false, c.served-2.ensures)
    (record { unit = waiting_is _ o c.plain-2.ensures; raised = omega (arith, raised_is v _ (sym c.interrupt-cx.ensures.0) (cu.Waiting o) 0 refl); sent = refl })
