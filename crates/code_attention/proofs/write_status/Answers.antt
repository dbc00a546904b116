-- `code_attention::write_status` meets its contract: each field is the unit's or the events' number. Assumes nothing.
use Rattle.std.proofs.Common.{◌∙◌}
use Rattle.memory.specs.Address.{place}
use Rattle.scb.specs.Words.{status_word}
use Rattle.packed.proofs.Laws.{base_is, scb_is, events_is, cu_is_lem, ru_is_lem}
use Rattle.attention.specs.Status.{status_to}
use Rattle.code_attention.proofs.write_status.Goals as goal

pub returns : goal.returns
unfolding place status_word status_to
returns c u h =
    let k = c.args.k in
    c.put_word.ensures ∙
    rw (
      c.place.ensures,
      c.status_word-status.ensures,
      c.base.ensures ∙ base_is u k h,
      c.scb.ensures ∙ scb_is u k h,
      c.events.ensures ∙ events_is u k h,
      c.cu_number-cus.ensures.1 u.cu (c.cu_tag.ensures ∙ (cu_is_lem u k h).tag_is),
      c.ru_number-rus.ensures.1 u.ru (c.ru_tag.ensures ∙ (ru_is_lem u k h).tag_is),
    )
