-- A record of value zero where the numbers of its orbit are zero changes no number, whatever else the volume holds: a pair that is left out of its line is not written.
use mathlib.Core.Path.{◌≡◌, refl, sym, ◌∙◌, ap, subst}
use mathlib.Core.Bool.{Bool, true, false, ◌||◌, cond}
use mathlib.Core.List.{List, [], ◌∷◌}
use Prim.Native.Nat.{ℕ, ◌+◌, ◌*◌, ◌-◌, ◌≤◌, min}
use native.Mathlib.Omega.{arith}
use lib.Dec.{eqb, eqb→eq}
use lib.ListN.{get_or, set}
use lib.Seq.{set-get_or}
use borrow.Author.Tests.{le-leb}
use Rattle.algebra.specs.ring.Ring.{gauss, residues}
use Rattle.algebra.specs.orbits.Orbit.{Mem, first, later}
use Rattle.algebra.specs.lines.Kinds.{Kind.alternating, Kind.symmetric, Kind.antisymmetric}
use Rattle.algebra.specs.cells.Cell.{J, Sym, Group, P1, P2₁, Pm, Pa, P2₁2₁2₁, full, image_of, span, stored_t, implied_value}
use Rattle.algebra.specs.cells.CellPack.{even}
use Rattle.algebra.specs.cells.CellPlaces.{Stored}
use Rattle.algebra.proofs.ring.Bool.{split, every_at}
use Rattle.algebra.proofs.ring.Laws.{mul_zero}
use Rattle.algebra.proofs.cells.CellGroup.{implied_zero}
use Rattle.algebra.proofs.cells.CellTests.{stored_iff}
use Rattle.numbers.specs.declared.Pair.{Pair}
use Rattle.numbers.specs.Value.{field, conj, i, pair_of}
use Rattle.numbers.proofs.Primes.{prime_pos}
use Rattle.numbers.proofs.Residues.{val_res}
use Rattle.numbers.proofs.Values.{pair_path, field_ring, field_star}
use Rattle.slices.specs.Pairs.{put}
use Rattle.cell.specs.Volume.{line_kind, rotated, times_i, pair_place, pair_numbers, line_numbers, numbers_read}
use Rattle.cell.specs.Consistency.{write_alternating, write_line, write, written_pair, write_images, record_on, orbit_free}
use Rattle.cell.proofs.Tests.{true_iff}
use Rattle.cell.proofs.StoredFactors.{own_pair}
use Rattle.cell.proofs.OrbitNumbers.{Free, orbit_free_iff}

abbrev zeros : Pair
zeros = record { re = 0; im = 0 }

-- a number that is zero, and a pair, set to zero
set_zero : (v : List ℕ) (q : ℕ) → get_or v q 0 ≡ 0 → set v q 0 ≡ v
set_zero v q e = ap (set v q) (sym e) ∙ set-get_or v q 0

module _ (v : List ℕ) where
  free_at : (places : List ℕ) (q : ℕ) → Free v places → Mem q places → get_or v q 0 ≡ 0
  free_at places q t m = eqb→eq _ _ (every_at places _ q t m)

  put_zero : (p : ℕ) → Free v (2 * p ∷ (2 * p + 1) ∷ []) → put v p zeros ≡ v
  unfolding put
  put_zero p t =
      let places = 2 * p ∷ (2 * p + 1) ∷ [] in
      ap (λ u. set u (2 * p + 1) 0) (set_zero v (2 * p) (free_at places (2 * p) t first)) ∙ set_zero v (2 * p + 1) (free_at places (2 * p + 1) t (later first))

  module _ (g : Group) (a : J) (h k l : ℕ) (low : l ≤ a.2) where
    -- the pair of a line that is stored by half
    own_zero : Free v (pair_numbers g a (min l (2 * a.2 - l)) h k) → put v (pair_place g a l h k) zeros ≡ v
    own_zero t = put_zero (pair_place g a l h k) (subst (λ w. Free v (pair_numbers g a w h k)) (own_pair a.2 l low) t)

    part : (b : Bool) → ◌≡◌ {A = ℕ} (cond b 0 0) 0
    part true = refl
    part false = refl

    alternating_zero : Free v (line_numbers g a alternating h k l) → write_alternating g a v h k l zeros ≡ v
    unfolding write_alternating
    alternating_zero =
        split (eqb l 0) (λ b. Free v (cond b (2 * pair_place g a 0 h k ∷ []) (cond (eqb l a.2) ((2 * pair_place g a 0 h k + 1) ∷ []) (pair_numbers g a (min l (2 * a.2 - l)) h k))) → cond b (set v (2 * pair_place g a 0 h k) 0) (cond (eqb l a.2) (set v (2 * pair_place g a 0 h k + 1) (cond (even l) 0 0)) (put v (pair_place g a l h k) zeros)) ≡ v)
        (λ s t. set_zero v _ (free_at _ _ t first))
        (λ s. split (eqb l a.2) (λ b. Free v (cond b ((2 * pair_place g a 0 h k + 1) ∷ []) (pair_numbers g a (min l (2 * a.2 - l)) h k)) → cond b (set v (2 * pair_place g a 0 h k + 1) (cond (even l) 0 0)) (put v (pair_place g a l h k) zeros) ≡ v)
        (λ u t. ap (set v (2 * pair_place g a 0 h k + 1)) (part (even l)) ∙ set_zero v _ (free_at _ _ t first))
        (λ u t. own_zero t))

    mirror_zero : (b : Bool) → Free v (line_numbers g a (cond b symmetric antisymmetric) h k l) → write_line g a (cond b symmetric antisymmetric) v (h, k, l) zeros ≡ v
    mirror_zero true = λ t. own_zero t
    mirror_zero false = split (eqb l 0 || eqb l a.2) (λ b. Free v (cond b [] (pair_numbers g a (min l (2 * a.2 - l)) h k)) → cond b v (put v (pair_place g a l h k) zeros) ≡ v) (λ s t. refl) (λ s t. own_zero t)

  write_zero : (g : Group) (a i : J) → Stored g a i → Free v (numbers_read g a i) → write g a v i zeros ≡ v
  unfolding write span numbers_read
  write_zero g a i s t = by g s (own_column _ _ _ (le-leb _ _ s.0) t)
    where
      own_column : (b : Bool) (x y : List ℕ) → b ≡ true → Free v (cond b x y) → Free v x
      own_column b x y e t = subst (λ b. Free v (cond b x y)) e t

      by : (g : Group) → Stored g a i → Free v (line_numbers g a (line_kind g i.0) i.0 i.1 i.2) → write_line g a (line_kind g i.0) v i zeros ≡ v
      by P1 s t = put_zero _ t
      by P2₁ s t = alternating_zero P2₁ a i.0 i.1 i.2 (omega (arith, s.1)) t
      by Pm s t = own_zero Pm a i.0 i.1 i.2 (omega (arith, s.1)) t
      by Pa s t = mirror_zero Pa a i.0 i.1 i.2 (omega (arith, s.1)) (even i.0) t
      by P2₁2₁2₁ s t = alternating_zero P2₁2₁2₁ a i.0 i.1 i.2 (omega (arith, s.1)) t

module _ (g : Group) (a : J) (m : ℕ) where
  -- zero implies zero, times i or not
  written_zero : (s : Sym) (j : J) → written_pair g a m (image_of a s j) (implied_value (field m) (conj m) s j (field m).zer) ≡ zeros
  unfolding pair_of gauss residues
  written_zero s j = ap (written_pair g a m (image_of a s j)) (implied_zero (field_ring m) (field_star m) a s j) ∙ ap pair_of (rotated_zero (rotated g (image_of a s j).0)) ∙ pair_path (val_res m (prime_pos m)) (val_res m (prime_pos m))
    where
      rotated_zero : (b : Bool) → times_i m b (field m).zer ≡ (field m).zer
      rotated_zero true = mul_zero (field_ring m) (i m)
      rotated_zero false = refl

  images_zero : (v : List ℕ) (j : J) (l : List Sym) → ((s : Sym) → Mem s l → Free v (numbers_read g a (image_of a s j))) → write_images g a m l j (field m).zer v ≡ v
  unfolding write_images
  images_zero v j [] f = refl
  images_zero v j (s ∷ l) f =
      ap (write_images g a m l j (field m).zer) (split (stored_t g a (image_of a s j)) (λ b. cond b (write g a v (image_of a s j) (written_pair g a m (image_of a s j) (implied_value (field m) (conj m) s j (field m).zer))) v ≡ v)
      (λ t. ap (write g a v (image_of a s j)) (written_zero s j) ∙ write_zero v g a (image_of a s j) ((stored_iff g a (image_of a s j)).0 t) (f s first))
      (λ t. refl))
      ∙ images_zero v j l (λ t i. f t (later i))

  pub zero_record : (v : List ℕ) (j : J) → orbit_free g a v j ≡ true → record_on g a m j (field m).zer v ≡ v
  unfolding orbit_free
  zero_record v j e = images_zero v j (full g) ((orbit_free_iff g a v (full g) j).0 ((true_iff _).0 e))
