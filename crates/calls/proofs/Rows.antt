-- The first row that is not right gives the number, over any list of rows; and what it comes to for a call that takes all four areas. Assumes nothing.
use mathlib.Core.Path.{◌≡◌, refl, sym, ap, ◌∙◌}
use mathlib.Core.Bool.{Bool, true, false, cond}
use mathlib.Core.List.{List, [], ◌∷◌, ◌++◌}
use Prim.Native.Nat.{◌≤◌}
use native.Mathlib.Omega.{arith}
use borrow.Author.Tests.{eqb-true, eq-eqb, leb-true, le-leb}
use Rattle.std.specs.Prelude.{Some, None}
use Rattle.std.proofs.lemmas.Option.{none-some}
use Rattle.memory.specs.Size.{size_allowed}
use Rattle.device.specs.Limits.{holding_size, outgoing_size, record_size, longest}
use Rattle.device.specs.Numbers.{refusal_number}
use Rattle.device.specs.declared.Refusal.{Refusal}
use Rattle.device.specs.declared.Refusal.TheVariants as refusal
use Rattle.calls.specs.Refusals.{Lengths, is_right, rows, first_wrong}

-- ---- any rows

-- no refusal has the number 0
pub numbered : (r : Refusal) → refusal_number r ≡ 0 → ⊥
numbered refusal.Memory e = omega (arith, e)
numbered refusal.Record e = omega (arith, e)
numbered refusal.Holding e = omega (arith, e)
numbered refusal.Outgoing e = omega (arith, e)
numbered refusal.Overlong e = omega (arith, e)
numbered refusal.Foreign e = omega (arith, e)

abbrev pub Each : (Refusal → Type 0) → List Refusal → Type 0
Each P [] = Unit {0}
Each P (r ∷ rs) = P r × Each P rs

module _ (right : Refusal → Bool) where
  right_by : (x : Bool) (r : Refusal) (rs : List Refusal) → right r ≡ x → cond x (first_wrong right rs) (Some r) ≡ None
      → (right r ≡ true) × (first_wrong right rs ≡ None)
  right_by true r rs e z = (e, z)
  right_by false r rs e z = absurd (none-some r (sym z))

  -- where none is given every row is right
  pub all_right_lem : (rs : List Refusal) → first_wrong right rs ≡ None → Each (λ r. right r ≡ true) rs
  all_right_lem [] z = tt
  all_right_lem (r ∷ rs) z = let x = right_by (right r) r rs refl z in (x.0, all_right_lem rs x.1)

  -- where a row before the last is wrong the last is not looked at
  module _ (other : Refusal → Bool) (last : Refusal) (e : right last ≡ true) where
    early_by : (x : Bool) (r : Refusal) (rs : List Refusal) → right r ≡ x → right r ≡ other r
        → ((first_wrong right (rs ++ (last ∷ [])) ≡ None → ⊥) → first_wrong other (rs ++ (last ∷ [])) ≡ first_wrong right (rs ++ (last ∷ [])))
        → (cond x (first_wrong right (rs ++ (last ∷ []))) (Some r) ≡ None → ⊥)
        → cond (other r) (first_wrong other (rs ++ (last ∷ []))) (Some r) ≡ cond x (first_wrong right (rs ++ (last ∷ []))) (Some r)
    early_by true r rs a b more n = rw (sym b ∙ a) (more n)
    early_by false r rs a b more n = rw (sym b ∙ a)

    pub early : (rs : List Refusal) → Each (λ r. right r ≡ other r) rs → (first_wrong right (rs ++ (last ∷ [])) ≡ None → ⊥)
        → first_wrong other (rs ++ (last ∷ [])) ≡ first_wrong right (rs ++ (last ∷ []))
    early [] same n = absurd (n (ap (λ (x : Bool). cond x None (Some last)) e))
    early (r ∷ rs) same n = early_by (right r) r rs refl same.0 (early rs same.1) n

-- ---- the rows of a call that takes all four

-- no length refuses
pub record LengthsRight (l : Lengths) : Type 0 where
  pub memory : size_allowed l.memory ≡ true
  pub holding : l.holding ≡ holding_size
  pub outgoing : l.outgoing ≡ outgoing_size
  pub kept : l.kept ≡ record_size
  pub frame : l.frame ≤ longest

module _ (l : Lengths) (image : Bool) where
  pub rows_right : first_wrong (is_right l image) rows ≡ None → LengthsRight l × (image ≡ true)
  rows_right z =
      let x = all_right_lem (is_right l image) rows z in (
        record {
          memory = x.0;
          kept = eqb-true _ _ x.1.0;
          holding = eqb-true _ _ x.1.1.0;
          outgoing = eqb-true _ _ x.1.1.1.0;
          frame = leb-true _ _ x.1.1.1.1.0;
        },
        x.1.1.1.1.1.0,
      )

  -- a refusal that is given for a length is given whatever the record
  pub by_length_lem : (first_wrong (is_right l true) rows ≡ None → ⊥) → first_wrong (is_right l image) rows ≡ first_wrong (is_right l true) rows
  by_length_lem n =
      early (is_right l true) (is_right l image) refusal.Foreign refl
      (refusal.Memory ∷ refusal.Record ∷ refusal.Holding ∷ refusal.Outgoing ∷ refusal.Overlong ∷ []) (refl, (refl, (refl, (refl, (refl, tt))))) n

  -- and where none is, the record decides
  pub by_image : LengthsRight l → first_wrong (is_right l image) rows ≡ cond image None (Some refusal.Foreign)
  by_image h =
      rw (
        h.memory,
        eq-eqb l.kept record_size h.kept,
        eq-eqb l.holding holding_size h.holding,
        eq-eqb l.outgoing outgoing_size h.outgoing,
        le-leb l.frame longest h.frame,
      )
