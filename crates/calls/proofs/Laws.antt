-- What a call comes to: refused, by the table; or what it does to the world that the record says. Assumes nothing.
use mathlib.Core.Path.{◌≡◌, refl, sym, ◌∙◌}
use mathlib.Core.Bool.{true, false, true≢false}
use mathlib.Core.List.{List}
use Prim.Native.Nat.{ℕ}
use borrow.Author.Tests.{ne_eqb}
use Rattle.std.specs.Prelude.{Option, Some, None}
use Rattle.device.specs.Numbers.{refusal_number}
use Rattle.device.specs.declared.Refusal.{Refusal}
use Rattle.device.specs.declared.Refusal.TheVariants as refusal
use Rattle.device.specs.declared.Units.{Units}
use Rattle.image.specs.Image.{decode_of, device_at}
use Rattle.image.specs.Found as is
use Rattle.chip.specs.World.{World, world_of}
use Rattle.calls.specs.Calls.{Areas, Called, is_image, lengths_of, refusal_of, refused_answer, refused, unless_refused, is_refused}
use Rattle.calls.proofs.Answer.{told_number}
use Rattle.calls.proofs.Rows.{LengthsRight, numbered, rows_right, by_image}

-- a refusal is told in the answer
pub says_refused : (r : Refusal) (a : Areas) → is_refused (refused r a) ≡ true
says_refused r a = rw (told_number (refused_answer r), ne_eqb (refusal_number r) 0 (numbered r))

-- where none is given lengths and record are right
pub unrefused : (a : Areas) (f : List ℕ) → refusal_of a f ≡ None → LengthsRight (lengths_of a f) × (is_image (decode_of a.kept) ≡ true)
unfolding refusal_of
unrefused a f z = rows_right (lengths_of a f) (is_image (decode_of a.kept)) z

accepted_by : (r : Option Refusal) (does : World → Called) (a : Areas) → is_refused (unless_refused r does a) ≡ false → r ≡ None
accepted_by None does a n = refl
accepted_by (Some r) does a n = absurd (true≢false (sym (says_refused r a) ∙ n))

-- so are they if the answer does not say that one is
pub lengths_of_accepted : (a : Areas) (f : List ℕ) (does : World → Called) → is_refused (unless_refused (refusal_of a f) does a) ≡ false
    → LengthsRight (lengths_of a f)
lengths_of_accepted a f does n = (unrefused a f (accepted_by (refusal_of a f) does a n)).0

-- ---- the lengths are right

module _ (a : Areas) (f : List ℕ) (h : LengthsRight (lengths_of a f)) (does : World → Called) where
  -- 4: the record is no image
  pub no_image : decode_of a.kept ≡ is.Foreign → unless_refused (refusal_of a f) does a ≡ refused refusal.Foreign a
  unfolding refusal_of
  no_image d =
      let e = by_image (lengths_of a f) (is_image (decode_of a.kept)) h in
      rw (e, d)

  -- not refused
  pub accepted : (u : Units) → decode_of a.kept ≡ is.Units u
      → unless_refused (refusal_of a f) does a ≡ does (world_of (device_at a.kept u) a.memory a.holding a.outgoing)
  unfolding refusal_of
  accepted u d =
      let e = by_image (lengths_of a f) (is_image (decode_of a.kept)) h in
      let given : refusal_of a f ≡ None = rw (e, d) in
      rw (given, d)
