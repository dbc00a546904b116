-- `code_arrival::judge` meets its contract. Assumes nothing.
use Rattle.std.proofs.Common.{◌∙◌}
use Rattle.device.proofs.Laws.{verdict_back}
use Rattle.receive.specs.Arrival.{judged}
use Rattle.code_arrival.proofs.judge.Goals as goal

pub returns : goal.returns
unfolding judged
returns c = (
  c.frame.ensures.0,
  λ s h.
      c.frame.ensures.1 s.settings.form (c.form.ensures.1 s h)
      ∙ rw (c.length_of-length.ensures.0, c.minimum.ensures.1 s h, c.saves_bad.ensures s h, c.verdict_number.ensures.0, verdict_back _),
)
