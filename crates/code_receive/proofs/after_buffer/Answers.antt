-- `code_receive::after_buffer` meets its contract. Assumes nothing.
use Rattle.std.proofs.Common.{◌≡◌, ◌+◌, ◌<◌, true, false, refl, leb, le-leb, arith}
use borrow.Author.Tests.{lt-leb}
use Rattle.phases.specs.Fields.{size_in, next_in}
use Rattle.phases.specs.Phases.{word_of}
use Rattle.phases.proofs.Units.{form_wide}
use Rattle.code_receive.specs.Receives.{storing_in}
use Rattle.packed.proofs.Words.{closing, lacking, filling}
use Rattle.code_receive.proofs.Laws.{lacking_by, filling_by, buffers_left}
use Rattle.code_receive.proofs.after_buffer.Goals as goal

pub returns-then-size_of-filled : goal.returns-then-size_of-filled
unfolding word_of
returns-then-size_of-filled c =
    let n = c.args.n in
    let d : leb (size_in n) c.args.filled ≡ true = rw (← c.size_of.ensures) (le-leb _ _ c.if-size_of-filled.true) in
    rw c.quiet.ensures
    (record {
      raised = refl;
      unit = λ h. rw d (closing _ (storing_in n) (form_wide _) c.args.next c.args.el (c.with_next-word.ensures (storing_in n) c.args.el (c.filled_up.ensures.1 (storing_in n) (next_in n) h)));
    })

pub returns-then-el-is_none : goal.returns-then-el-is_none
unfolding word_of
returns-then-el-is_none c =
    let n = c.args.n in
    let d : leb (size_in n) c.args.filled ≡ false = rw (← c.size_of.ensures) (lt-leb _ _ c.if-size_of-filled.false) in
    rw c.quiet-then-el-is_none.ensures
    (record {
      raised = refl;
      unit = λ h.
          rw (d, lacking_by _ _ _ _ _ (rw c.is_none.ensures at c.if-el-is_none.true))
          (lacking _ (storing_in n) (form_wide _) (c.filled_up-then-el-is_none.ensures.1 (storing_in n) (next_in n) h));
    })

pub returns : goal.returns
unfolding word_of
returns c =
    let n = c.args.n in
    let d : leb (size_in n) c.args.filled ≡ false = rw (← c.size_of.ensures) (lt-leb _ _ c.if-size_of-filled.false) in
    let u : c.args.used + 1 < 64 = buffers_left c.args.el c.is_none.result c.args.used c.if-el-is_none.false in
    rw c.quiet-2.ensures
    (record {
      raised = refl;
      unit = λ h.
          rw (d, filling_by _ _ _ _ _ (rw c.is_none.ensures at c.if-el-is_none.false))
          (filling _ (storing_in n) (form_wide _) (record { next = c.args.next; used = c.args.used + 1; filled = c.args.filled }) _ c.rest_of.ensures c.requires.1 (omega arith)
          (c.with_next-word-2.ensures (storing_in n) false (c.filled_up-2.ensures.1 (storing_in n) (next_in n) h)));
    })
