-- `code_command::begin_transmit` meets its contract. Assumes nothing.
use Rattle.std.proofs.Common.{◌≡◌, ◌∙◌}
use Rattle.memory.specs.Address.{place}
use Rattle.phases.specs.Forms.{form_of}
use Rattle.phases.proofs.Units.{form_back}
use Rattle.code_command.proofs.begin_transmit.Goals as goal

pub returns : goal.returns
returns c v u s hb e h =
    let f : c.place.result.0 ≡ place c.args.base v.block 6 = c.place.ensures ∙ rw e in
    let same : form_of c.form-f.result ≡ s.settings.form = rw (c.form-f.ensures.1 s h) (form_back s.settings.form h.form_wide) in
    record {
      quiet = rw (c.is_none.ensures, c.offset_at-first.ensures, f, c.unbuffered.ensures.0, same) at (c.to_first.ensures v hb);
      outgoing = rw (e, ← same) (c.place_header.ensures s h);
    }
