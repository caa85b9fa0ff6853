-- The map of a cell F that obeys group and Friedel: it is real and obeys the group, its numbers in a volume are read back as it at every point,
-- and analysis of what is read restores F. And a volume opened as a map: the factors of what is read obey group and Friedel, and their map has these numbers.
use mathlib.Core.Path.{◌≡◌, refl, sym, ◌∙◌, ap}
use mathlib.Core.Bool.{true}
use mathlib.Core.List.{List}
use Prim.Native.Nat.{ℕ}
use lib.ListN.{length}
use Rattle.algebra.specs.ring.Ring.{residues}
use Rattle.algebra.specs.fourier.Axis.{AxisLaws}
use Rattle.algebra.specs.cells.Cell.{J, Inside, Group, friedel, point_image, implied_density, flip, shifted, star, Cell}
use Rattle.algebra.specs.cells.Cell as Cell
use Rattle.algebra.specs.cells.CellSteps.{Lawful}
use Rattle.algebra.proofs.lines.Parts.{real_gauss}
use Rattle.algebra.proofs.cells.CellGroup.{friedel_mem}
use Rattle.algebra.proofs.cells.CellMap.{factors_cong, factors_map, map_factors}
use Rattle.algebra.proofs.cells.CellLawful.{ops_full, map_lawful, opened_lawful}
use Rattle.algebra.proofs.cells.CellTests.{Positive}
use Rattle.numbers.specs.Value.{prime, Value, field, conj, i, half}
use Rattle.numbers.proofs.Residues.{res_ring}
use Rattle.numbers.proofs.Values.{value_path, field_ring, field_star, conj_real}
use Rattle.numbers.proofs.Parts.{half_residue}
use Rattle.slices.specs.Pairs.{Below}
use Rattle.cell.specs.Volume.{volume_length, pack_factors, pack_map, map_in, axis, map_of, factors_of}
use Rattle.cell.specs.Consistency.{consistent_map}
use Rattle.cell.specs.Exactly.{RealMap, ObeysGroup}
use Rattle.cell.proofs.Consistency.{pack_cong}
use Rattle.cell.proofs.Maps.{read_map, map_cong, consistent_map_read}

module _ (g : Group) (a : J) (m : ℕ) {h : Value m} {tx ty tz : ℕ → Value m}
    (𝓧 : AxisLaws (field m) (conj m) (i m) h (axis m a.0) tx) (𝓨 : AxisLaws (field m) (conj m) (i m) h (axis m a.1) ty) (𝓩 : AxisLaws (field m) (conj m) (i m) h (axis m a.2) tz) where
  long : Positive a
  long = (𝓧.positive, 𝓨.positive, 𝓩.positive)

  module _ (F : Cell (Value m)) (lawful : Lawful (field m) (conj m) a g F) where
    pub map_obeys : ObeysGroup g a m (map_of m a F)
    map_obeys s ms = map_lawful (field_ring m) (field_star m) 𝓧 𝓨 𝓩 g F lawful s (ops_full g s ms)

    pub map_real : RealMap g a m (map_of m a F)
    unfolding point_image implied_density flip shifted star residues
    map_real x n = value_path refl (real_gauss (res_ring m) (half m) (half_residue m) (Cell.at (map_of m a F) x) (sym (map_lawful (field_ring m) (field_star m) 𝓧 𝓨 𝓩 g F lawful friedel (friedel_mem g) x n)))

    -- a point is read off the volume as the triple sum there
    pub read_point_lem : (x : J) → Inside a x → Cell.at (map_in g a m (pack_map g a m (map_of m a F))) x ≡ Cell.at (map_of m a F) x
    read_point_lem = read_map g a m (map_of m a F) map_real map_obeys

    -- analysis of the map in the volume restores the factors, and so the packed factors
    pub analysis_restores : (j : J) → Inside a j → Cell.at (factors_of m a (map_in g a m (pack_map g a m (map_of m a F)))) j ≡ Cell.at F j
    analysis_restores j n =
        factors_cong (field_ring m) (conj m) (axis m a.0) (axis m a.1) (axis m a.2) _ _ read_point_lem j.0 j.1 j.2
        ∙ factors_map (field_ring m) 𝓧 𝓨 𝓩 F j.0 j.1 j.2 n.0 n.1 n.2

    pub analysis_packed : pack_factors g a m (factors_of m a (map_in g a m (pack_map g a m (map_of m a F)))) ≡ pack_factors g a m F
    analysis_packed = pack_cong g a long m F _ analysis_restores lawful

  -- a volume that passes as a map
  module _ (v : List ℕ) (len : length v ≡ volume_length g a) (small : Below (prime m) v) (passes : consistent_map g a v ≡ true) where
    pub opened_factors : Lawful (field m) (conj m) a g (factors_of m a (map_in g a m v))
    opened_factors = let r = consistent_map_read g a long m v len small passes in
        opened_lawful (field_ring m) (field_star m) 𝓧 𝓨 𝓩 g (map_in g a m v) r.1 (λ x n. r.0 x n ∙ sym (conj_real m _) ∙ ap (conj m) (sym (r.0 x n)))

    pub opened_map : pack_map g a m (map_of m a (factors_of m a (map_in g a m v))) ≡ v
    opened_map = let r = consistent_map_read g a long m v len small passes in
        map_cong g a long m _ _ (λ x n. map_factors (field_ring m) 𝓧 𝓨 𝓩 (map_in g a m v) x.0 x.1 x.2 n.0 n.1 n.2) ∙ r.2
