-- Refusal 14 of factors: the test passes exactly if some whole cell that obeys group and Friedel has these packed factors, and that cell is the one that is read.
use mathlib.Core.Path.{◌≡◌, sym, ◌∙◌, ap, subst}
use mathlib.Core.Logic.{◌↔◌}
use mathlib.Core.Bool.{Bool, true}
use mathlib.Core.List.{List}
use Prim.Native.Nat.{ℕ, ◌*◌, ◌<◌}
use native.Mathlib.Omega.{arith}
use lib.Dec.{T, ltb, eqb, eqb→eq}
use lib.ListN.{length, get_or}
use Rattle.algebra.specs.ring.Ring.{gauss, residues}
use Rattle.algebra.specs.cells.Cell.{J, Inside, Group, image_of, implied_value, Cell, factor_acts}
use Rattle.algebra.specs.cells.Cell as Cell
use Rattle.algebra.specs.cells.CellSteps.{Lawful}
use Rattle.algebra.specs.cells.CellPack.{PackedIn}
use Rattle.algebra.specs.cells.StoredTests.{consistent_factors_t}
use Rattle.algebra.proofs.ring.Bool.{and_l, and_r, and_i, imply_iff}
use Rattle.algebra.proofs.cells.CellSym.{image_inside}
use Rattle.algebra.proofs.cells.CellTests.{Positive, every_place_at, every_place_by, factors_test}
use Rattle.algebra.proofs.cells.CellPack.{pack_iff}
use Rattle.numbers.specs.declared.Pair.{Pair}
use Rattle.numbers.specs.Value.{prime, Value, field, conj, ring, half, value_of, pair_of}
use Rattle.numbers.specs.Bounds.{Small}
use Rattle.numbers.proofs.Residues.{res_ring, val_res}
use Rattle.numbers.proofs.Primes.{prime_pos}
use Rattle.numbers.proofs.Values.{pair_path, pair_value, field_ring, field_star}
use Rattle.numbers.proofs.Parts.{half_residue}
use Rattle.slices.specs.Pairs.{at, Below}
use Rattle.slices.proofs.Bounds.{small_at}
use Rattle.cell.specs.Volume.{line_kind, first_pair, pair_place, rows, columns, volume_length, factors_in, pack_factors}
use Rattle.cell.specs.Consistency.{same_value, pair_is_zero, zero_ends, consistent_factors}
use Rattle.cell.specs.Exactly.{FactorsConsistent}
use Rattle.cell.proofs.Tests.{true_iff, eq→eqb}
use Rattle.cell.proofs.VolumeLayout.{is_volume}
use Rattle.cell.proofs.LineKinds.{ends_left_out}
use Rattle.cell.proofs.Reading.{same_iff, pairs_in, line_at, EmptyEnds, stored_unpacked, empty_ends_lem, packed_is, packed_holds, read_packed, length_factors, below_factors}

-- ---- a pair of small numbers stands for zero exactly if both are zero

pub zero_pair_lem : (m : ℕ) {v : Pair} → Small (prime m) v → (value_of m v ≡ (field m).zer) ↔ ((v.re ≡ 0) × (v.im ≡ 0))
unfolding value_of gauss residues
zero_pair_lem m s = (
  λ e. (sym (val_res m s.re) ∙ ap (λ z. z.0.val) e ∙ val_res m (prime_pos m), sym (val_res m s.im) ∙ ap (λ z. z.1.val) e ∙ val_res m (prime_pos m)),
  λ e. ap (value_of m) (pair_path e.0 e.1),
)

module _ (a : J) (m : ℕ) (v : List ℕ) (small : Below (prime m) v) where
  zero_pair_test : (g : Group) (w h k : ℕ) → T (pair_is_zero g a m v w h k) ↔ (pairs_in g a m v w h k ≡ (field m).zer)
  unfolding pair_is_zero at
  zero_pair_test g w h k = let z = zero_pair_lem m (small_at (prime m) v (pair_place g a w h k) small) in (
    λ t. z.1 (eqb→eq _ _ (and_l (eqb (get_or v (2 * pair_place g a w h k) 0) 0) _ t), eqb→eq _ _ (and_r (eqb (get_or v (2 * pair_place g a w h k) 0) 0) _ t)),
    λ e. and_i (eqb (get_or v (2 * pair_place g a w h k) 0) 0) _ (eq→eqb (z.0 e).0) (eq→eqb (z.0 e).1),
  )

  ends_iff : (g : Group) (h k : ℕ) → T (zero_ends g a m v h k) ↔ EmptyEnds g a m v h k
  ends_iff g h k = let left_out = ends_left_out (line_kind g h) in (
    λ t e. let z = (imply_iff (ltb 0 (first_pair (line_kind g h))) _).0 t (left_out.1 e) in ((zero_pair_test g 0 h k).0 (and_l (pair_is_zero g a m v 0 h k) _ z), (zero_pair_test g a.2 h k).0 (and_r (pair_is_zero g a m v 0 h k) _ z)),
    λ f. (imply_iff (ltb 0 (first_pair (line_kind g h))) _).1 (λ t. let e = f (left_out.0 t) in and_i (pair_is_zero g a m v 0 h k) _ ((zero_pair_test g 0 h k).1 e.0) ((zero_pair_test g a.2 h k).1 e.1)),
  )

module _ (g : Group) (a : J) (long : Positive a) (m : ℕ) where
  -- a list of residues that stands for the packed factors of a cell of the group is their list
  pub packed_list : (F : Cell (Value m)) → Lawful (field m) (conj m) a g F → (v : List ℕ) → length v ≡ volume_length g a → Below (prime m) v → PackedIn (ring m) g a F (pairs_in g a m v) → pack_factors g a m F ≡ v
  unfolding pack_factors
  packed_list F o v len small b = sym (is_volume g a _ v len (λ w h k lw lh lk.
      sym (pair_value m (small_at (prime m) v (pair_place g a w h k) small)) ∙ ap pair_of (sym (packed_is g a long m F o w h k lw lh lk ∙ b w h k lw lh (omega arith)))))

  -- cells that are equal inside
  pub lawful_cong : (F E : Cell (Value m)) → ((j : J) → Inside a j → Cell.at E j ≡ Cell.at F j) → Lawful (field m) (conj m) a g F → Lawful (field m) (conj m) a g E
  lawful_cong F E e o s ms j n = e (image_of a s j) (image_inside a s j n) ∙ o s ms j n ∙ ap (implied_value (field m) (conj m) s j) (sym (e j n))

  pub pack_cong : (F E : Cell (Value m)) → ((j : J) → Inside a j → Cell.at E j ≡ Cell.at F j) → Lawful (field m) (conj m) a g F → pack_factors g a m E ≡ pack_factors g a m F
  pack_cong F E e o = let o' = lawful_cong F E e o in
      packed_list E o' (pack_factors g a m F) (length_factors g a m F) (below_factors g a m F)
      ((pack_iff (res_ring m) (half m) (half_residue m) a long g E _ o').1 (λ j n s. e j n ∙ (pack_iff (res_ring m) (half m) (half_residue m) a long g F _ o).0 (packed_holds g a long m F o) j n s))

  -- the packed factors of a cell of the group pass ..
  packed_passes : (F : Cell (Value m)) → Lawful (field m) (conj m) a g F → T (consistent_factors g a m (pack_factors g a m F))
  unfolding consistent_factors consistent_factors_t factor_acts
  packed_passes F o =
      and_i (consistent_factors_t (field m) (conj m) same_value g a (line_at g a m (pack_factors g a m F))) _
      ((factors_test (field_ring m) (field_star m) same_value (same_iff m) g a long (line_at g a m (pack_factors g a m F))).1 (
        Cell.at F,
        o,
        λ j n s. (pack_iff (res_ring m) (half m) (half_residue m) a long g F _ o).0 (packed_holds g a long m F o) j n s ∙ sym (stored_unpacked g a long m (pack_factors g a m F) (empty_ends_lem g a long.2 m F) j n s),
      ))
      (every_place_by _ _ _ _ (λ j h k l. (ends_iff a m (pack_factors g a m F) (below_factors g a m F) g j.0 j.1).1 (empty_ends_lem g a long.2 m F j.0 j.1 h k)))

  module _ (v : List ℕ) (len : length v ≡ volume_length g a) (small : Below (prime m) v) where
    -- .. and what passes is the packed factors of such a cell
    passing_packed : T (consistent_factors g a m v) → FactorsConsistent g a m v
    unfolding consistent_factors consistent_factors_t factor_acts
    passing_packed t =
        let f = (factors_test (field_ring m) (field_star m) same_value (same_iff m) g a long (line_at g a m v)).0 (and_l values_agree _ t) in
        let F : Cell (Value m) = λ h k l. f.0 (h, k, l) in
        (F, f.1, packed_list F f.1 v len small ((pack_iff (res_ring m) (half m) (half_residue m) a long g F _ f.1).1 (λ j n s. f.2 j n s ∙ stored_unpacked g a long m v ends j n s)))
      where
        values_agree : Bool
        values_agree = consistent_factors_t (field m) (conj m) same_value g a (line_at g a m v)

        ends : (h k : ℕ) → h < rows g a → k < columns g a → EmptyEnds g a m v h k
        ends h k lh lk = (ends_iff a m v small g h k).0 (every_place_at (rows g a) (columns g a) 1 (λ j. zero_ends g a m v j.0 j.1) (h, k, 0) (and_r values_agree _ t) lh lk (omega arith))

    pub factors_consistent : (consistent_factors g a m v ≡ true) ↔ FactorsConsistent g a m v
    factors_consistent = (
      λ e. passing_packed ((true_iff _).0 e),
      λ f. (true_iff _).1 (subst (λ u. T (consistent_factors g a m u)) f.2 (packed_passes f.0 f.1)),
    )

    -- that cell is the one that is read
    pub consistent_read : consistent_factors g a m v ≡ true → Lawful (field m) (conj m) a g (factors_in g a m v) × (pack_factors g a m (factors_in g a m v) ≡ v)
    consistent_read e =
        let f = passing_packed ((true_iff _).0 e) in
        let same : (j : J) → Inside a j → Cell.at (factors_in g a m v) j ≡ Cell.at f.0 j = λ j n. subst (λ u. Cell.at (factors_in g a m u) j ≡ Cell.at f.0 j) f.2 (read_packed g a long m f.0 f.1 j n) in
        (lawful_cong f.0 _ same f.1, pack_cong f.0 _ same f.1 ∙ f.2)
