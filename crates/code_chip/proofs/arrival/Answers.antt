-- `code_chip::arrival` meets its contract: too short, for us, or not. Assumes nothing.
use Rattle.std.proofs.Common.{◌≡◌, length, refl, sym, ◌∙◌, arith}
use borrow.Author.Tests.{leb-true, leb-false, lt-ltb, le-ltb}
use lib.Seq.{take_all}
use Rattle.device.specs.Header as rule
use Rattle.actions.specs.Setup.{setup_of}
use Rattle.phases.specs.Forms.{form_of}
use Rattle.phases.proofs.Units.{form_back}
use Rattle.code_filter.proofs.Destination.{of_destination}
use Rattle.code_chip.proofs.Laws.{arrives_few, arrives_unmatched, arrives_matched}
use Rattle.code_chip.proofs.arrival.Goals as goal

pub returns-then-not-has_header : goal.returns-then-not-has_header
returns-then-not-has_header c d out e =
    let f : form_of c.form-f.result ≡ d.units.settings.form = rw (c.form-f.ensures.1 (setup_of d) e.setup) (form_back d.units.settings.form e.setup.form_wide) in
    let n = length c.args.frame.now in
    let l = rule.header d.units.settings.form.length in
    arrives_few d _ c.args.verdict _ _ out _ c.args.k
    (lt-ltb n l (leb-false l n (rw (c.has_header.ensures, f) at c.if-not-has_header.true))) e

pub returns-then-matches : goal.returns-then-matches
returns-then-matches c d out e =
    let f : form_of c.form-f.result ≡ d.units.settings.form = rw (c.form-f.ensures.1 (setup_of d) e.setup) (form_back d.units.settings.form e.setup.form_wide) in
    let l = rw f at c.length.ensures.0 in
    let room = leb-true (rule.header d.units.settings.form.length) (length c.args.frame.now) (rw (c.has_header.ensures, f) at c.if-not-has_header.false) in
    arrives_matched d _ c.args.verdict _ _ out _ _ _ _ (sym (of_destination _ _ _ c.args.frame.now _ _ (omega (arith, room, l)) l (λ n. c.matches.ensures (setup_of d) _ e.setup n (sym (take_all _ _ (omega arith))))) ∙ c.if-matches.true) e.setup
    (c.arrive.ensures d.units (setup_of d) e.units e.setup refl room)

pub returns : goal.returns
returns c d out e =
    let f : form_of c.form-f.result ≡ d.units.settings.form = rw (c.form-f.ensures.1 (setup_of d) e.setup) (form_back d.units.settings.form e.setup.form_wide) in
    let l = rw f at c.length.ensures.0 in
    let n = length c.args.frame.now in
    let h = rule.header d.units.settings.form.length in
    let room = leb-true h n (rw (c.has_header.ensures, f) at c.if-not-has_header.false) in
    arrives_unmatched d _ c.args.verdict _ _ out _ c.args.k (le-ltb n h room)
    (sym (of_destination _ _ _ c.args.frame.now _ _ (omega (arith, room, l)) l (λ n. c.matches.ensures (setup_of d) _ e.setup n (sym (take_all _ _ (omega arith))))) ∙ c.if-matches.false) e
