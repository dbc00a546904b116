-- `image::is_image` meets its contract: each answer is that of the definition's tests. Assumes nothing.
use Rattle.std.proofs.Common.{◌≡◌, true, false, ◌&&◌, ◌<◌, ◌^◌, List, ℕ, sym, ap, ◌∙◌, arith}
use Rattle.numerals.specs.Places.{field}
use Rattle.phases.specs.Forms.{form_shaped}
use Rattle.packed.specs.Record.{letters_at, status_at}
use Rattle.packed.specs.declared.Packed.{Packed}
use Rattle.image.specs.Image.{packed_at, spare_zero}
use Rattle.image.specs.Numbers.{form_is, words_are}
use Rattle.image.proofs.Tests.{image_words, image_spare, image_working, image_fresh}
use Rattle.image.proofs.is_image.Goals as goal

-- the status that is read has eight bytes
status_wide : (r : List ℕ) (k : Packed) → k ≡ packed_at r → k.status < 2 ^ 64 → field r status_at 8 < 2 ^ 64
unfolding packed_at
status_wide r k p h = rw (← ap (λ (x : Packed). x.status) p) h

pub returns-then-initialised : goal.returns-then-initialised
returns-then-initialised c =
    let r = c.args.r.now in
    let p = c.packed_at-k.ensures in
    let w = status_wide r c.packed_at-k.result p (omega (arith, c.packed_at-k.type_inv)) in
    let a : words_are (field r letters_at 8) (form_is r) (packed_at r) ≡ true =
    sym (rw (c.front_at.ensures, c.form_at-f.ensures, p) at c.words_are.ensures) ∙ c.if-words_are.true in
    let b : (spare_zero r && form_shaped (form_is r)) ≡ true =
    rw (← c.spare_zero.ensures, ← c.form_at-f.ensures, ← c.is_form.ensures) c.if-spare_zero-is_form.true in
    image_working r w a b (sym (rw p at c.initialised.ensures) ∙ c.if-initialised.true)

pub returns-then-spare_zero-is_form : goal.returns-then-spare_zero-is_form
returns-then-spare_zero-is_form c =
    let r = c.args.r.now in
    let p = c.packed_at-k.ensures in
    let w = status_wide r c.packed_at-k.result p (omega (arith, c.packed_at-k.type_inv)) in
    let a : words_are (field r letters_at 8) (form_is r) (packed_at r) ≡ true =
    sym (rw (c.front_at.ensures, c.form_at-f.ensures, p) at c.words_are.ensures) ∙ c.if-words_are.true in
    let b : (spare_zero r && form_shaped (form_is r)) ≡ true =
    rw (← c.spare_zero.ensures, ← c.form_at-f.ensures, ← c.is_form.ensures) c.if-spare_zero-is_form.true in
    c.is_fresh.ensures ∙ image_fresh r w a b (sym (rw p at c.initialised.ensures) ∙ c.if-initialised.false)

pub returns-else-spare_zero-is_form : goal.returns-else-spare_zero-is_form
returns-else-spare_zero-is_form c =
    let r = c.args.r.now in
    let p = c.packed_at-k.ensures in
    let w = status_wide r c.packed_at-k.result p (omega (arith, c.packed_at-k.type_inv)) in
    let a : words_are (field r letters_at 8) (form_is r) (packed_at r) ≡ true =
    sym (rw (c.front_at.ensures, c.form_at-f.ensures, p) at c.words_are.ensures) ∙ c.if-words_are.true in
    let b : (spare_zero r && form_shaped (form_is r)) ≡ false =
    rw (← c.spare_zero.ensures, ← c.form_at-f.ensures, ← c.is_form.ensures) c.if-spare_zero-is_form.false in
    image_spare r w a b

pub returns-else-words_are : goal.returns-else-words_are
returns-else-words_are c =
    let r = c.args.r.now in
    let p = c.packed_at-k.ensures in
    let w = status_wide r c.packed_at-k.result p (omega (arith, c.packed_at-k.type_inv)) in
    let a : words_are (field r letters_at 8) (form_is r) (packed_at r) ≡ false =
    sym (rw (c.front_at.ensures, c.form_at-f.ensures, p) at c.words_are.ensures) ∙ c.if-words_are.false in
    image_words r w a
