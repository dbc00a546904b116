-- `code_command::buffer` meets its contract. What would not fit is not copied. Assumes nothing.
use Rattle.std.proofs.Common.{◌≡◌, ◌+◌, ◌%◌, ◌<◌, ◌^◌, refl, true, false, arith}
use lib.Dec.{leb}
use borrow.Author.Tests.{le-leb, lt-leb}
use Rattle.phases.specs.Phases.{begun_of, word_of}
use Rattle.command.specs.Buffer.{descriptor_at, buffer}
use Rattle.packed.proofs.Words.{failing_is}
use Rattle.code_command.proofs.Laws.{count_is, eof_is}
use Rattle.code_command.proofs.buffer.Goals as goal

pub returns-then-filled-count-gt-LONGEST : goal.returns-then-filled-count-gt-LONGEST
unfolding buffer descriptor_at word_of
returns-then-filled-count-gt-LONGEST c u s =
    let w = c.word_at-word.result in
    let k = c.size_of-filled.result in
    let v = begun_of (word_of c.args.n) in
    let e : leb (k + w % 2 ^ 14) 2048 ≡ false = lt-leb (k + w % 2 ^ 14) 2048 (omega (arith, c.if-filled-count-gt-LONGEST.true)) in
    rw (← c.next_of-o.ensures, ← c.size_of-filled.ensures, ← c.place.ensures, ← c.word_at-word.ensures, count_is w, e, c.quiet.ensures)
    (record { quiet = record { unit = failing_is _ v c.begun_of-b.ensures.1; raised = refl; length = refl }; outgoing = refl })

pub returns : goal.returns
unfolding buffer descriptor_at word_of
returns c u s =
    let w = c.word_at-word.result in
    let k = c.size_of-filled.result in
    let v = begun_of (word_of c.args.n) in
    let l : w < 2 ^ 16 = omega (arith, c.word_at-word.type_inv) in
    let e : leb (k + w % 2 ^ 14) 2048 ≡ true = le-leb (k + w % 2 ^ 14) 2048 (omega (arith, c.if-filled-count-gt-LONGEST.false)) in
    rw (
      ← c.next_of-o.ensures,
      ← c.size_of-filled.ensures,
      ← c.kind_of.ensures,
      ← c.place.ensures,
      ← c.place-2.ensures,
      ← c.place-3.ensures,
      ← c.word_at-word.ensures,
      count_is w,
      e,
      ← eof_is w l,
    )
    (record {
      quiet = rw c.offset_at-next.ensures at (c.after_buffer.ensures v c.begun_of-b.ensures.1);
      outgoing = rw c.real_at-buffer.ensures at c.copy_out.ensures;
    })
