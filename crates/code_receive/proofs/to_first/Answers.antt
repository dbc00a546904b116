-- `code_receive::to_first` meets its contract. Assumes nothing.
use Rattle.std.proofs.Common.{◌≡◌, false, refl, arith}
use Rattle.device.specs.Header.{unbuffered}
use Rattle.phases.specs.Phases.{word_of}
use Rattle.code_arrival.specs.Arrives.{frame_in}
use Rattle.code_receive.specs.Receives.{offset_of, begun_in}
use Rattle.packed.proofs.Words.{closing, lacking, filling}
use Rattle.code_receive.proofs.Laws.{begun_by_lem, begun_frame, begun_wide}
use Rattle.code_receive.proofs.to_first.Goals as goal

pub returns-then-is_bare : goal.returns-then-is_bare
returns-then-is_bare c =
    let n = c.args.n in
    let v = begun_in n c.args.control in
    let wide = begun_wide (offset_of n) n (word_of n).first c.args.control in
    rw c.quiet.ensures
    (record {
      raised = refl;
      unit = λ h.
          rw (← c.is_bare.ensures, c.if-is_bare.true)
          (closing _ v wide c.args.first false
          (c.with_next.ensures v false (begun_by_lem (offset_of n) (frame_in n) (word_of n).first c.args.control _ (c.begun-s.ensures.1 (offset_of n) (frame_in n) (word_of n).first h))));
    })

pub returns-then-is_none : goal.returns-then-is_none
returns-then-is_none c =
    let n = c.args.n in
    let v = begun_in n c.args.control in
    let wide = begun_wide (offset_of n) n (word_of n).first c.args.control in
    rw c.quiet-then-is_none.ensures
    (record {
      raised = refl;
      unit = λ h.
          rw (← c.is_bare.ensures, c.if-is_bare.false, ← c.is_none.ensures, c.if-is_none.true)
          (lacking _ v wide (begun_by_lem (offset_of n) (frame_in n) (word_of n).first c.args.control _ (c.begun-s.ensures.1 (offset_of n) (frame_in n) (word_of n).first h)));
    })

pub returns : goal.returns
returns c =
    let n = c.args.n in
    let v = begun_in n c.args.control in
    let wide = begun_wide (offset_of n) n (word_of n).first c.args.control in
    let e : c.unbuffered.result ≡ unbuffered v.frame.form =
    rw (begun_frame (offset_of n) (frame_in n) (word_of n).first c.args.control) c.unbuffered.ensures.0 in
    let rest = rw e at c.rest_of-rest.ensures in
    rw c.quiet-2.ensures
    (record {
      raised = refl;
      unit = λ h.
          rw (← c.is_bare.ensures, c.if-is_bare.false, ← c.is_none.ensures, c.if-is_none.false)
          (filling _ v wide (record { next = c.args.first; used = 0; filled = unbuffered v.frame.form }) _ rest (rw (← e) (omega (arith, c.unbuffered.ensures.1))) (omega arith)
          (c.with_next-2.ensures v false (begun_by_lem (offset_of n) (frame_in n) (word_of n).first c.args.control _ (c.begun-s.ensures.1 (offset_of n) (frame_in n) (word_of n).first h))));
    })
