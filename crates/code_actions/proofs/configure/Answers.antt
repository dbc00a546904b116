-- `code_actions::configure` meets its contract. Assumes nothing.
use Rattle.std.proofs.Common.{◌≡◌, ◌<◌, ◌∙◌, refl, sym, true, rules}
use Rattle.actions.specs.Actions.{byte_of, clamped, settings_by, acceptable}
use Rattle.packed.proofs.SetUps.{byte_is, minimum_stays, settings_set}
use Rattle.code_actions.proofs.Laws.{settings_wide}
use Rattle.code_actions.proofs.configure.Goals as goal

pub returns-then-is_acceptable : goal.returns-then-is_acceptable
returns-then-is_acceptable c s h =
    let b = c.args.setup.now in
    let byte = byte_of c.args.base c.args.block c.args.memory.now in
    let v = c.settings_by.result in
    let w = c.minimum_by.result in
    let f = rw c.byte_of-addressing.ensures at c.form_in-form.ensures.1 in
    let p = rw (c.clamp-count.ensures, c.byte_of.ensures) at (c.settings_by.ensures s.settings f (byte_is s b h)) in
    let q = rw (c.clamp-count.ensures, c.byte_of.ensures) at (c.minimum_by.ensures s.settings (minimum_stays s b h v)) in
    let l : w < 256 = search rules in
    let e : acceptable (byte 3) ≡ true = rw (← c.byte_of-addressing.ensures) (sym c.is_acceptable.ensures ∙ c.if-is_acceptable.true) in
    rw (e, c.plainly.ensures)
    (record {
      told = record { status = refl; length = refl };
      setup = settings_set s b h v w (settings_by (clamped (byte 0)) byte s.settings) p q l (settings_wide (clamped (byte 0)) byte s.settings e);
    })
