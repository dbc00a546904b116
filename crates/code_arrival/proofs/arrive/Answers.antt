-- `code_arrival::arrive` meets its contract. Assumes nothing.
use Rattle.std.proofs.Common.{◌≡◌, true, false, sym, ◌∙◌}
use borrow.Author.Tests.{le-ltb}
use Rattle.device.specs.Answers.{is_held}
use Rattle.device.specs.Header.{header}
use Rattle.receive.specs.Arrival.{judged, fate_in, fate_of, arrival, holding}
use Rattle.phases.specs.Phases.{ru_tag}
use Rattle.packed.proofs.Laws.{ru_is_lem, base_is, scb_is}
use Rattle.code_arrival.proofs.Laws.{offset_same, real_same}
use Rattle.code_arrival.proofs.Units.{judged_below, judged_form, frame_back, held_unit}
use Rattle.code_arrival.proofs.arrive.Goals as goal

pub returns-then-is_held : goal.returns-then-is_held
unfolding arrival fate_of
returns-then-is_held c u s h hs e g =
    let k = c.args.k in
    let j = judged u.settings c.args.frame.now c.args.verdict in
    let n = rw e at (c.judge-f.ensures.1 s hs) in
    let wide = judged_form _ _ _ (rw e at hs.form_wide) in
    let b = frame_back _ j n (judged_below _ _ _) wide in
    let r = ru_is_lem u k h in
    let t : c.ru_tag-tag.result ≡ ru_tag u.ru = c.ru_tag-tag.ensures ∙ r.tag_is in
    let q : is_held (fate_in u.ru j) ≡ true = sym (rw b at (c.is_held.ensures u.ru t)) ∙ c.if-is_held.true in
    let p = rw b at (c.counter_for.ensures u.ru t) in
    rw (le-ltb _ (header u.settings.form.length) (rw e at g))
    (record {
      units = rw q (c.with_ru.ensures u (holding u.ru j) h (held_unit u.ru _ _ _ j r wide q _ (λ o w. c.held.ensures o j n (judged_below _ _ _) w)));
      memory = rw (← real_same _ u.base (c.base.ensures ∙ base_is u k h), ← offset_same _ u.scb (c.scb.ensures ∙ scb_is u k h), ← p) c.count.ensures;
      reason = rw b at (c.reason_for-reason.ensures u.ru t);
      holding = rw q c.put_run.ensures;
    })

pub returns : goal.returns
unfolding arrival fate_of
returns c u s h hs e g =
    let k = c.args.k in
    let j = judged u.settings c.args.frame.now c.args.verdict in
    let n = rw e at (c.judge-f.ensures.1 s hs) in
    let wide = judged_form _ _ _ (rw e at hs.form_wide) in
    let b = frame_back _ j n (judged_below _ _ _) wide in
    let r = ru_is_lem u k h in
    let t : c.ru_tag-tag.result ≡ ru_tag u.ru = c.ru_tag-tag.ensures ∙ r.tag_is in
    let q : is_held (fate_in u.ru j) ≡ false = sym (rw b at (c.is_held.ensures u.ru t)) ∙ c.if-is_held.false in
    let p = rw b at (c.counter_for.ensures u.ru t) in
    rw (le-ltb _ (header u.settings.form.length) (rw e at g))
    (record {
      units = rw q h;
      reason = rw b at (c.reason_for-reason.ensures u.ru t);
      memory = rw (← real_same _ u.base (c.base.ensures ∙ base_is u k h), ← offset_same _ u.scb (c.scb.ensures ∙ scb_is u k h), ← p) c.count.ensures;
      holding = rw q;
    })
