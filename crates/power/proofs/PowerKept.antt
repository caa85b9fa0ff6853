-- Power is kept: the sum of the squares of a map is N1 N2 N3 times the sum of F × conj F, for the map of a volume's factors and for the factors of a volume's map.
use mathlib.Core.Path.{◌≡◌, refl, sym, ◌∙◌, ap, ap₂}
use mathlib.Core.Bool.{true}
use mathlib.Core.List.{List, [], ◌∷◌}
use Prim.Native.Nat.{ℕ, zero, suc, ◌*◌, ◌%◌}
use lib.ListN.{length}
use Rattle.algebra.specs.ring.Ring.{Ops, residue, gauss}
use Rattle.algebra.specs.fourier.Axis.{cast, AxisLaws}
use Rattle.algebra.specs.ring.RingLaws.{CRing}
use Rattle.algebra.specs.cells.Cell.{J, Inside, Group, friedel, Cell}
use Rattle.algebra.specs.cells.Cell as Cell
use Rattle.algebra.specs.cells.CellSteps.{Lawful, total}
use Rattle.algebra.proofs.ring.ResidueRing.{residue_mul, residue_val}
use Rattle.algebra.proofs.ring.Solver.{ring, quote}
use Rattle.algebra.proofs.fourier.Sums.{sum_cong}
use Rattle.algebra.proofs.cells.CellGroup.{friedel_mem}
use Rattle.algebra.proofs.cells.CellMap.{map_factors}
use Rattle.algebra.proofs.cells.CellPower.{power}
use Rattle.algebra.proofs.cells.CellTests.{Positive}
use Rattle.numbers.specs.Value.{prime, Value, field, conj, i}
use Rattle.numbers.specs.Value as Value
use Rattle.numbers.proofs.Residues.{res_ring, residue_cast}
use Rattle.numbers.proofs.Values.{field_ring, field_star}
use Rattle.slices.specs.Pairs.{Below}
use Rattle.cell.specs.Volume.{volume_length, factors_in, pack_factors, map_in, pack_map, axis, map_of, factors_of}
use Rattle.cell.specs.Consistency.{consistent_factors, consistent_map}
use Rattle.cell.proofs.Consistency.{consistent_read}
use Rattle.cell.proofs.Reading.{read_packed}
use Rattle.cell.proofs.Points.{read_point_lem, opened_factors}
use Rattle.power.specs.Power.{over_cell, cell_points, map_power, factor_power}

-- the real part of a numeral's product
cast_times : {R : Type 0} {𝓞 : Ops R} (𝓡 : CRing 𝓞) (n : ℕ) (y : R × R) → ((gauss 𝓞).mul (cast (gauss 𝓞) n) y).0 ≡ 𝓞.mul (cast 𝓞 n) y.0
unfolding gauss cast
cast_times 𝓡 zero y = ring 𝓡 (y.0 ∷ y.1 ∷ []) (search quote depth 40 fits 9999) refl
cast_times {𝓞 = 𝓞} 𝓡 (suc n) y =
    apart (cast (gauss 𝓞) n).0 (cast (gauss 𝓞) n).1 y.0 y.1
    ∙ ap (𝓞.add y.0) (cast_times 𝓡 n y)
    ∙ together (cast 𝓞 n) y.0
  where
    together : (c y : _) → 𝓞.add y (𝓞.mul c y) ≡ 𝓞.mul (𝓞.add 𝓞.one c) y
    together c y = ring 𝓡 (c ∷ y ∷ []) (search quote depth 40 fits 9999) refl

    apart : (c d y z : _) → 𝓞.add (𝓞.mul (𝓞.add 𝓞.one c) y) (𝓞.neg (𝓞.mul (𝓞.add 𝓞.zer d) z)) ≡ 𝓞.add y (𝓞.add (𝓞.mul c y) (𝓞.neg (𝓞.mul d z)))
    apart c d y z = ring 𝓡 (c ∷ d ∷ y ∷ z ∷ []) (search quote depth 40 fits 9999) refl

-- sums over cells that are equal inside
pub cell_cong : (m : ℕ) (a : J) (F E : Cell (Value m)) → ((j : J) → Inside a j → Cell.at F j ≡ Cell.at E j) → over_cell m a F ≡ over_cell m a E
cell_cong m a F E e = sum_cong (field_ring m) (2 * a.0) _ _ (λ h lh. sum_cong (field_ring m) (2 * a.1) _ _ (λ k lk. sum_cong (field_ring m) (2 * a.2) _ _ (λ l ll. e (h, k, l) (lh, lk, ll))))

module _ (g : Group) (a : J) (m : ℕ) {h : Value m} {tx ty tz : ℕ → Value m}
    (𝓧 : AxisLaws (field m) (conj m) (i m) h (axis m a.0) tx) (𝓨 : AxisLaws (field m) (conj m) (i m) h (axis m a.1) ty) (𝓩 : AxisLaws (field m) (conj m) (i m) h (axis m a.2) tz) where
  long : Positive a
  long = (𝓧.positive, 𝓨.positive, 𝓩.positive)

  -- a cell F that obeys the group, and cells that are its map and itself inside
  pub kept : (F M E : Cell (Value m)) → Lawful (field m) (conj m) a g F → ((j : J) → Inside a j → Cell.at M j ≡ Cell.at (map_of m a F) j) → ((j : J) → Inside a j → Cell.at E j ≡ Cell.at F j)
      → (over_cell m a (λ x y z. (field m).mul (M x y z) (M x y z))).0.val ≡ (cell_points a * (over_cell m a (λ h k l. (field m).mul (E h k l) (conj m (E h k l)))).0.val) % prime m
  unfolding total residue
  kept F M E lawful em ee =
      ap (λ s. s.0.val)
      (cell_cong m a _ _ (λ j n. ap₂ (field m).mul (em j n) (em j n))
      ∙ power (field_ring m) (field_star m) 𝓧 𝓨 𝓩 F (lawful friedel (friedel_mem g)))
      ∙ ap (λ s. s.val)
      (cast_times (res_ring m) (cell_points a) _
      ∙ ap₂ (Value.ring m).mul (residue_cast (prime m) (cell_points a)) (ap (λ s. s.0) (cell_cong m a _ _ (λ j n. sym (ap (λ x. (field m).mul x (conj m x)) (ee j n)))) ∙ sym (residue_val (prime m) _))
      ∙ sym (residue_mul (prime m) (cell_points a) _))

  module _ (v : List ℕ) (len : length v ≡ volume_length g a) (small : Below (prime m) v) where
    -- a volume that passes as factors, and its map
    pub synthesis_kept : consistent_factors g a m v ≡ true → map_power g a m (pack_map g a m (map_of m a (factors_in g a m v))) ≡ (cell_points a * factor_power g a m v) % prime m
    unfolding map_power factor_power
    synthesis_kept c = let r = consistent_read g a long m v len small c in
        kept (factors_in g a m v) (map_in g a m (pack_map g a m (map_of m a (factors_in g a m v)))) (factors_in g a m v) r.0 (read_point_lem g a m 𝓧 𝓨 𝓩 (factors_in g a m v) r.0) (λ j n. refl)

    -- a volume that passes as a map, and its factors
    pub analysis_kept : consistent_map g a v ≡ true → map_power g a m v ≡ (cell_points a * factor_power g a m (pack_factors g a m (factors_of m a (map_in g a m v)))) % prime m
    unfolding map_power factor_power
    analysis_kept c = let o = opened_factors g a m 𝓧 𝓨 𝓩 v len small c in
        kept (factors_of m a (map_in g a m v)) (map_in g a m v) (factors_in g a m (pack_factors g a m (factors_of m a (map_in g a m v)))) o
        (λ x n. sym (map_factors (field_ring m) 𝓧 𝓨 𝓩 (map_in g a m v) x.0 x.1 x.2 n.0 n.1 n.2))
        (read_packed g a long m (factors_of m a (map_in g a m v)) o)
