-- Every call that is not refused meets what the laws of this crate ask for. Assumes nothing.
use mathlib.Core.Path.{◌≡◌, refl, ◌∙◌, subst}
use mathlib.Core.Bool.{Bool, true, false, false≢true}
use mathlib.Core.List.{List}
use Prim.Native.Nat.{ℕ}
use native.Mathlib.Omega.{arith}
use lib.ListN.{length}
use Rattle.std.specs.Prelude.{None}
use Rattle.device.specs.declared.Units.{Units}
use Rattle.image.specs.Image.{decode_of, decode_full, shaped, range_from, units_at, device_from, device_at}
use Rattle.image.specs.Ranges.{in_range}
use Rattle.image.specs.Found.{Found}
use Rattle.image.specs.Found as is
use Rattle.image.proofs.Steps.{full_taken, full_out, full_other, decode_full_lem, device_full}
use Rattle.chip.specs.World.{world_of}
use Rattle.calls.specs.Calls.{Areas, is_image, lengths_of, refusal_of, on_bytes}
use Rattle.calls.proofs.Rows.{LengthsRight}
use Rattle.calls.proofs.Laws as calls
use Rattle.frames.specs.Accepted.{Runs}

-- ---- what is decoded is in range

in_range_by : (x y : Bool) (r : List ℕ) (u : Units) → shaped r ≡ x → range_from r (units_at r) ≡ y → decode_full r ≡ is.Units u
    → in_range (device_from r u) ≡ true
unfolding range_from
in_range_by true true r u a b d =
    let e : units_at r ≡ u = cc (full_taken r a b) in
    subst (λ (k : Units). in_range (device_from r k) ≡ true) e b
in_range_by true false r u a b d = let z : ◌≡◌ {A = ℕ} 0 1 = cc (full_out r a b) in absurd (omega arith)
in_range_by false y r u a b d = let z : ◌≡◌ {A = ℕ} 0 1 = cc (full_other r a) in absurd (omega arith)

decoded_range : (r : List ℕ) (u : Units) → length r ≡ 256 → decode_of r ≡ is.Units u → in_range (device_at r u) ≡ true
decoded_range r u l d =
    subst (λ k. in_range k ≡ true) (device_full r u l) (in_range_by (shaped r) (range_from r (units_at r)) r u refl refl (decode_full_lem r l ∙ d))

-- ---- no number is given

runs_by : (d : Found) (a : Areas) (f : List ℕ) → decode_of a.kept ≡ d
    → LengthsRight (lengths_of a f) → is_image d ≡ true → Runs a f
runs_by is.Foreign a f e n i = absurd (false≢true i)
runs_by (is.Units u) a f e n i =
    record {
      world = world_of (device_at a.kept u) a.memory a.holding a.outgoing;
      memory = refl;
      holding = refl;
      outgoing = refl;
      range = decoded_range a.kept u n.kept e;
      lent =
          record {
            size = n.memory;
            area = n.holding;
            frame = n.frame;
          };
      runs = λ run. calls.accepted a f n (λ w. on_bytes (run w)) u e;
    }

-- the areas and the frame of a call; f is empty for the calls without one
pub accepted : (a : Areas) (f : List ℕ) → refusal_of a f ≡ None → Runs a f
accepted a f h = let x = calls.unrefused a f h in runs_by (decode_of a.kept) a f refl x.0 x.1
