-- What the walks of the front share: what a call leaves, with its record and its answer; a record in a local, lent and taken back. Assumes
-- nothing.
use mathlib.Core.Path.{refl}
use mathlib.Core.List.{[], ◌∷◌, List}
use Prim.Native.Nat.{ℕ, ◌<◌, ◌^◌}
use seplogic.Ra.Ura.{Ura}
use base.Fraction.{full_share}
use mir.Val.{Val}
use base.Logic.{ent, sep}
use base.Fml.{fat, fsep}
use types.Logic.{Logic, sem}
use types.Kit.{‵, ◌$◌, ◌∵◌, !, qed, move, use1, fsplit, fjoin, fpick, fpack, done}
use denote.Laws.{Is, shows}
use denote.Memory.{part_at, part_of, cell_at}
use denote.Steps.{owned}
use denote.Struct.Steps.{spelt}
use denote.Struct.Laws as LL
use Rattle.board.specs.declared.Record.{Record}
use Rattle.board.specs.declared.Returned.{Returned}
use Rattle.board.specs.contracts.Record as D
use Rattle.board.proofs.Record.TheLaws as D'
use Rattle.board.specs.contracts.Returned as O
use Rattle.board.proofs.Returned.TheLaws as O'

-- ---- machine values

abbrev pub dval : Record → Val
dval = LL.val D.the_type D'.the_laws

abbrev pub dvals : Record → List Val
dvals = LL.vals D.the_type D'.the_laws

-- ---- what a call leaves: what whoever holds it knows of its parts

pub kept_is : (r : Returned) (w : Val) → Is O.the_row r (w ∷ []) → Is D.the_row r.kept (dvals r.kept)
kept_is r w is = (LL.owed O.the_type O'.the_laws r _ is).0

pub answer_is : (r : Returned) (w : Val) → Is O.the_row r (w ∷ []) → r.answer < 2 ^ 64
answer_is r w is = (LL.owed O.the_type O'.the_laws r _ is).1.0.1

-- and what a lender makes

abbrev pub made : ℕ → Record → Returned
made r k = record { kept = k; answer = r }

pub made_is : (r : ℕ) (k : Record) → r < 2 ^ 64 → Is D.the_row k (dvals k) → Is O.the_row (made r k) (LL.vals O.the_type O'.the_laws (made r k))
made_is r k fine is = LL.owes O.the_type O'.the_laws (made r k) (is, ((refl, fine), tt))

-- ---- a record in a local, as what is lent, and back

module _ {M : Type 1} {𝓤 : Ura M} (𝓛 : Logic 𝓤) (k : Record) (l : ℕ) where
  open 𝓛 use {H}

  pub lies_in : Is D.the_row k (dvals k) → ent 𝓤 (H.at full_share D'.mir l 0 (dval k)) (sem 𝓛 (part_at D.the_row full_share k l 0))
  unfolding part_of
  lies_in is =
      qed 𝓛 (‵ (fat full_share D'.mir l 0 (dval k)) ∷ []) ∵ use1 𝓛 (‵ (cell_at full_share (D.the_row).mir (dvals k) l 0)) (𝓛.laws.at_raw full_share D'.mir l 0 (dval k)) $
      owned ! D.the_row (Is D.the_row) (LL.makes D.the_type D'.the_plain 𝓛) k _ is $ move ! (1 ∷ 0 ∷ []) $ fjoin ! $
      fpack ! (List Val) (λ us. fsep (cell_at full_share (D.the_row).mir us l 0) ((D.the_row).own_val k us)) (dvals k) $ done !

  pub lies_out : ent 𝓤 (sem 𝓛 (part_at D.the_row full_share k l 0)) (sep 𝓤 (sem 𝓛 ((D.the_row).own_val k (dvals k))) (H.at full_share D'.mir l 0 (dval k)))
  unfolding part_of
  lies_out =
      qed 𝓛 (‵ (part_at D.the_row full_share k l 0) ∷ []) ∵ fpick ! (λ vs. fsplit ! $
      spelt ! D.the_row (Is D.the_row) (shows 𝓛 D.the_row) dvals (LL.tells D.the_type D'.the_laws) full_share k vs l 0 $
      use1 𝓛 (‵ (fat full_share D'.mir l 0 (dval k))) (𝓛.laws.raw_at full_share D'.mir l 0 (dval k)) $ move ! (1 ∷ 0 ∷ []) $ done !)
