-- `code_calls::call` meets its contract: each refusal in its order, then what is asked. Assumes nothing.
use Rattle.std.proofs.Common.{refl, sym, ap, ◌∙◌}
use Rattle.std.specs.Result.{result_err}
use Rattle.image.specs.Image.{decode_of}
use Rattle.image.proofs.Lent.{found_units, found_foreign}
use Rattle.calls.specs.Calls.{areas_of}
use Rattle.code_calls.specs.Inner.{Finds}
use Rattle.code_calls.proofs.Laws.{asked_early, asked_foreign, asked_accepted}
use Rattle.code_calls.proofs.Asks.{as_said}
use Rattle.code_calls.proofs.call.Goals as goal

pub returns-in-Err : goal.returns-in-Err
returns-in-Err c =
    let a = areas_of c.args.memory.now c.args.holding.now c.args.outgoing.now c.args.kept.now in
    as_said (asked_early c.args.asked a c.args.frame.now c.args.line c.args.budget c.args.unit _ (sym c.right_lengths-lengths.ensures ∙ ap result_err c.in-Err.is))
    (record { answer = c.refuse.ensures; memory = refl; holding = refl; outgoing = refl; kept = refl })

pub returns-in_default-decode : goal.returns-in_default-decode
returns-in_default-decode c =
    let a = areas_of c.args.memory.now c.args.holding.now c.args.outgoing.now c.args.kept.now in
    let n = sym c.right_lengths-lengths.ensures ∙ ap result_err c.in_default.is in
    let d = found_foreign (decode_of a.kept) (sym c.decode.ensures ∙ c.in_default-decode.is) in
    as_said (asked_foreign c.args.asked a c.args.frame.now c.args.line c.args.budget c.args.unit n d)
    (record { answer = c.refuse-in_default-decode.ensures; memory = refl; holding = refl; outgoing = refl; kept = refl })

pub returns-in-Attention : goal.returns-in-Attention
returns-in-Attention c =
    let a = areas_of c.args.memory.now c.args.holding.now c.args.outgoing.now c.args.kept.now in
    let n = sym c.right_lengths-lengths.ensures ∙ ap result_err c.in_default.is in
    let f = found_units (decode_of a.kept) _ (sym c.in-Some.ensures) in
    let e : Finds a.kept c.in-Some.k f.units = record { found = f.found; numbers = f.numbers } in
    as_said (asked_accepted c.args.asked a c.args.frame.now c.args.line c.args.budget c.args.unit n f.units f.found) (rw c.in-Attention.is (c.attention_on.ensures _ _ f.units e))

pub returns-in-Arrival : goal.returns-in-Arrival
returns-in-Arrival c =
    let a = areas_of c.args.memory.now c.args.holding.now c.args.outgoing.now c.args.kept.now in
    let n = sym c.right_lengths-lengths.ensures ∙ ap result_err c.in_default.is in
    let f = found_units (decode_of a.kept) _ (sym c.in-Some.ensures) in
    let e : Finds a.kept c.in-Some.k f.units = record { found = f.found; numbers = f.numbers } in
    as_said (asked_accepted c.args.asked a c.args.frame.now c.args.line c.args.budget c.args.unit n f.units f.found) (rw c.in-Arrival.is (c.arrival_on.ensures _ f.units e))

pub returns-in-Turns : goal.returns-in-Turns
returns-in-Turns c =
    let a = areas_of c.args.memory.now c.args.holding.now c.args.outgoing.now c.args.kept.now in
    let n = sym c.right_lengths-lengths.ensures ∙ ap result_err c.in_default.is in
    let f = found_units (decode_of a.kept) _ (sym c.in-Some.ensures) in
    let e : Finds a.kept c.in-Some.k f.units = record { found = f.found; numbers = f.numbers } in
    as_said (asked_accepted c.args.asked a c.args.frame.now c.args.line c.args.budget c.args.unit n f.units f.found) (rw c.in-Turns.is (c.turns_on.ensures f.units e))
