-- What holds of the reference model from an accepted start on: its job is one that an opening or a later call could have made, and its F obeys group and Friedel.
-- From this: the sizes of its cell; that its volume is long enough, of residues, and passes every test of a volume; and what is read off it.
use mathlib.Core.Path.{◌≡◌, refl, sym, ap, ◌∙◌}
use mathlib.Core.Bool.{true, false, ◌&&◌, cond}
use mathlib.Core.List.{List}
use Prim.Native.Nat.{ℕ, ◌/◌}
use native.Mathlib.Omega.{arith}
use lib.Dec.{ltb, eqb}
use lib.ListN.{length, get_or}
use borrow.Author.Tests.{ltb-true, lt-ltb}
use Rattle.algebra.specs.ring.Ring.{gauss, residues}
use Rattle.algebra.specs.cells.Cell.{J, Inside, at}
use Rattle.algebra.specs.cells.CellSteps.{Lawful}
use Rattle.algebra.proofs.ring.Bool.{same_test, split}
use Rattle.algebra.proofs.cells.CellMap as CellMap
use Rattle.algebra.proofs.cells.CellTests.{Positive}
use Rattle.numbers.specs.Value.{prime, IsModulus, Value, field, conj, i, real, value}
use Rattle.numbers.specs.Value as Value
use Rattle.numbers.proofs.Primes.{prime_pos}
use Rattle.numbers.proofs.Residues.{val_res}
use Rattle.numbers.proofs.Values.{field_ring}
use Rattle.slices.specs.Pairs.{Below}
use Rattle.lengths.specs.Lengths.{octal}
use Rattle.lengths.specs.Admitted.{AdmittedLength}
use Rattle.line.proofs.kinds.Axes.{axis_laws}
use Rattle.cell.specs.Volume.{volume_length, factors_in, pack_factors, pack_map, density_place, map_in, axis, map_of, factors_of}
use Rattle.cell.specs.Consistency.{same_value, orbit_free, record_on, record_in, agrees_with_itself, consistent_factors, consistent_map}
use Rattle.cell.specs.Exactly.{RealMap, ObeysGroup}
use Rattle.volume_transform.specs.Axes.{JobSizes}
use Rattle.cell.proofs.Tests.{true_iff}
use Rattle.cell.proofs.Reading.{same_iff, length_factors, below_factors, read_packed}
use Rattle.cell.proofs.Consistency.{factors_consistent}
use Rattle.cell.proofs.VolumeLayout.{length_map, below_map}
use Rattle.cell.proofs.Maps.{map_consistent, map_cong}
use Rattle.cell.proofs.Points.{map_obeys, map_real, read_point_lem, analysis_packed}
use Rattle.cell.proofs.Records.{record_lawful, record_packed}
use Rattle.cell.proofs.OrbitNumbers.{orbit_free_lem}
use Rattle.power.specs.Power.{map_power, factor_power}
use Rattle.power.proofs.PowerKept.{cell_cong}
use Rattle.header.specs.Cells.{header_cell}
use Rattle.job.specs.Job.{map_held, valid_job, within}
use Rattle.header.proofs.Headers.{all_three}
use Rattle.job.proofs.Jobs.{valid_modulus, valid_job_sizes}
use Rattle.model.specs.Model.{Model, group, half, factor_of, density_of, map_power_of, factor_power_of, factor_volume, map_volume, model_volume, model_job}

pub record LawfulModel {μ : ℕ} (m : Model μ) : Type 0 where
  pub valid : valid_job (model_job m) ≡ true
  pub lawful : Lawful (field μ) (conj μ) (half m) (group m) m.F

-- ---- the volume, whatever F is

module _ {μ : ℕ} (m : Model μ) where
  -- which of the two stands in it
  pub holds_map : eqb m.state map_held ≡ true → model_volume m ≡ map_volume m
  unfolding model_volume
  holds_map e = rw e

  pub holds_factors : eqb m.state map_held ≡ false → model_volume m ≡ factor_volume m
  unfolding model_volume
  holds_factors e = rw e

  by_volume : (P : List ℕ → Type 0) → P (map_volume m) → P (factor_volume m) → P (model_volume m)
  unfolding model_volume
  by_volume P f g = split (eqb m.state map_held) (λ b. P (cond b (map_volume m) (factor_volume m))) (λ t. f) (λ t. g)

  pub model_length : length (model_volume m) ≡ volume_length (group m) (half m)
  model_length = by_volume (λ v. length v ≡ volume_length (group m) (half m)) (length_map (group m) (half m) μ _) (length_factors (group m) (half m) μ _)

  pub model_below : Below (prime μ) (model_volume m)
  model_below = by_volume (Below (prime μ)) (below_map (group m) (half m) μ _) (below_factors (group m) (half m) μ _)

-- ---- what a valid job and a lawful F give

module _ {μ : ℕ} (m : Model μ) (sound : LawfulModel m) where
  modulus : IsModulus μ
  modulus = valid_modulus (model_job m) sound.valid

  sizes : JobSizes (header_cell m.header) (octal m.header.list1) (octal m.header.list2) (octal m.header.list3)
  sizes = valid_job_sizes (model_job m) sound.valid

  pub halves_positive : Positive (half m)
  halves_positive = (sizes.first.positive, sizes.second.positive, sizes.third.positive)

  -- below the lengths is inside the cell
  pub within_inside : (x : J) → within m.header.lengths x ≡ true → Inside (half m) x
  within_inside x e =
      let n = m.header.lengths in
      let t = all_three (ltb x.0 n.0) (ltb x.1 n.1) (ltb x.2 n.2) e in
      (rw sizes.first.whole (ltb-true _ _ t.0), rw sizes.second.whole (ltb-true _ _ t.1), rw sizes.third.whole (ltb-true _ _ t.2))

  pub inside_within : (x : J) → Inside (half m) x → within m.header.lengths x ≡ true
  inside_within x n =
      let u = lt-ltb x.0 m.header.lengths.0 (omega (arith, sizes.first.whole, n.0)) in
      let v = lt-ltb x.1 m.header.lengths.1 (omega (arith, sizes.second.whole, n.1)) in
      let w = lt-ltb x.2 m.header.lengths.2 (omega (arith, sizes.third.whole, n.2)) in
      λ i. u i && (v i && w i)

  -- ---- factors

  pub factors_pass : consistent_factors (group m) (half m) μ (factor_volume m) ≡ true
  factors_pass = (factors_consistent (group m) (half m) halves_positive μ (factor_volume m) (length_factors (group m) (half m) μ m.F) (below_factors (group m) (half m) μ m.F)).1 (m.F, sound.lawful, refl)

  pub factor_read : (j : J) → Inside (half m) j → at (factors_in (group m) (half m) μ (factor_volume m)) j ≡ factor_of m j
  factor_read = read_packed (group m) (half m) halves_positive μ m.F sound.lawful

  -- 24: the numbers of an orbit are zero exactly if F is zero at its index
  pub orbit_zero : (j : J) → Inside (half m) j → orbit_free (group m) (half m) (factor_volume m) j ≡ same_value (factor_of m j) (value μ 0 0)
  unfolding gauss residues
  orbit_zero j n =
      let free = orbit_free_lem (group m) (half m) halves_positive μ m.F sound.lawful j n in
      let same = same_iff μ (factor_of m j) (value μ 0 0) in
      same_test _ _ (λ t. same.1 (free.0 ((true_iff _).1 t))) (λ t. (true_iff _).0 (free.1 (same.0 t)))

  -- a record on the packed factors
  module _ (j : J) (x : Value μ) (inside : Inside (half m) j) (agrees : agrees_with_itself (group m) (half m) μ j x ≡ true) where
    pub lawful_recorded : Lawful (field μ) (conj μ) (half m) (group m) (record_in (group m) (half m) μ j x m.F)
    lawful_recorded = record_lawful (group m) (half m) halves_positive μ m.F sound.lawful j inside x agrees

    pub recorded_packed : record_on (group m) (half m) μ j x (factor_volume m) ≡ pack_factors (group m) (half m) μ (record_in (group m) (half m) μ j x m.F)
    recorded_packed = record_packed (group m) (half m) halves_positive μ m.F sound.lawful j inside x agrees

  -- ---- the map

  pub map_is_real : RealMap (group m) (half m) μ (map_of μ (half m) m.F)
  map_is_real = map_real (group m) (half m) μ (axis_laws μ modulus sizes.first) (axis_laws μ modulus sizes.second) (axis_laws μ modulus sizes.third) m.F sound.lawful

  -- every image of a point has its value
  pub map_obeys_group : ObeysGroup (group m) (half m) μ (map_of μ (half m) m.F)
  map_obeys_group = map_obeys (group m) (half m) μ (axis_laws μ modulus sizes.first) (axis_laws μ modulus sizes.second) (axis_laws μ modulus sizes.third) m.F sound.lawful

  pub map_passes : consistent_map (group m) (half m) (map_volume m) ≡ true
  map_passes = (map_consistent (group m) (half m) halves_positive μ (map_volume m) (length_map (group m) (half m) μ _) (below_map (group m) (half m) μ _)).1 (map_of μ (half m) m.F, map_is_real, map_obeys_group, refl)

  -- a point's number is the real part of the triple sum there, whose imaginary part is zero
  pub density_read : (x : J) → Inside (half m) x → get_or (map_volume m) (density_place (group m) (half m) x) 0 ≡ (density_of m x).0.val
  unfolding map_in
  density_read x n =
      sym (val_res μ ((below_map (group m) (half m) μ (map_of μ (half m) m.F)).each _))
      ∙ ap (λ y. y.0.val) (read_point_lem (group m) (half m) μ (axis_laws μ modulus sizes.first) (axis_laws μ modulus sizes.second) (axis_laws μ modulus sizes.third) m.F sound.lawful x n)

  -- the powers of what stands in the volume
  pub map_power_read : map_power (group m) (half m) μ (map_volume m) ≡ map_power_of m
  unfolding map_power
  map_power_read = ap (λ y. y.0.val) (cell_cong μ (half m) _ _ (λ x n. ap (λ y. (field μ).mul y y) (read_point_lem (group m) (half m) μ (axis_laws μ modulus sizes.first) (axis_laws μ modulus sizes.second) (axis_laws μ modulus sizes.third) m.F sound.lawful x n)))

  pub factor_power_read : factor_power (group m) (half m) μ (factor_volume m) ≡ factor_power_of m
  unfolding factor_power
  factor_power_read = ap (λ y. y.0.val) (cell_cong μ (half m) _ _ (λ j n. ap (λ y. (field μ).mul y (conj μ y)) (factor_read j n)))

  pub density_real : (x : J) → Inside (half m) x → (density_of m x).1.val ≡ 0
  density_real x n = ap (λ y. y.1.val) (map_is_real x n) ∙ val_res μ (prime_pos μ)

  -- synthesis of the packed factors gives the map, analysis of the map the packed factors
  pub synthesis_gives : pack_map (group m) (half m) μ (map_of μ (half m) (factors_in (group m) (half m) μ (factor_volume m))) ≡ map_volume m
  synthesis_gives = map_cong (group m) (half m) halves_positive μ _ _ (λ x n. CellMap.map_cong (field_ring μ) (axis μ (half m).0) (axis μ (half m).1) (axis μ (half m).2) _ _ factor_read x.0 x.1 x.2)

  pub analysis_gives : pack_factors (group m) (half m) μ (factors_of μ (half m) (map_in (group m) (half m) μ (map_volume m))) ≡ factor_volume m
  analysis_gives = analysis_packed (group m) (half m) μ (axis_laws μ modulus sizes.first) (axis_laws μ modulus sizes.second) (axis_laws μ modulus sizes.third) m.F sound.lawful
