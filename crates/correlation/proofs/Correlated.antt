-- The correlation modulo a prime is the map over N1 N2 N3 times the conjugate of one map's factors times the other's.
use mathlib.Core.Path.{◌≡◌, sym, ◌∙◌, ap, ap₂}
use mathlib.Core.List.{List}
use Prim.Native.Nat.{ℕ, ◌+◌, ◌*◌, ◌/◌, ◌%◌}
use lib.IntN.{ℤ, ◌*ℤ◌}
use Rattle.algebra.specs.ring.Ring.{Ops, sum}
use Rattle.algebra.specs.cells.Cell.{J, P1, Cell}
use Rattle.algebra.specs.cells.Cell as Cell
use Rattle.algebra.specs.cells.CellSteps.{total, Lawful}
use Rattle.algebra.proofs.fourier.Sums.{sum_cong}
use Rattle.algebra.proofs.cells.CellOps.{obeys_map, friedel_real}
use Rattle.algebra.proofs.cells.CellLawful.{lawful_iff}
use Rattle.numbers.specs.Value.{prime, IsModulus, Value, field, conj, value}
use Rattle.numbers.proofs.Values.{field_ring, field_star, conj_real}
use Rattle.signed.specs.Integers.{residue_z}
use Rattle.signed.specs.IntegerRing.{numeral}
use Rattle.signed.proofs.Numerals.{to_mul, to_sum}
use Rattle.lengths.specs.Admitted.{AdmittedLength}
use Rattle.line.proofs.kinds.Axes.{axis_laws}
use Rattle.cell.specs.Volume.{axis, pack_map, pack_factors, map_of, factors_of}
use Rattle.cell.proofs.Maps.{map_cong, obeys_one}
use Rattle.volume_transform.specs.Axes.{line_count, line_of_turn, job_turn}
use Rattle.volume_transform.specs.Turns.{turns}
use Rattle.volume_transform.proofs.sums.Whole.{synthesised_cell}
use Rattle.combined.specs.CombinedMap.{count_of}
use Rattle.correlation.specs.Correlation.{shifted_by, total_of, correlation_at}
use Rattle.correlation.specs.Steps.{residue_cell, count_cell, correlation_cell}
use Rattle.algebra.proofs.cells.CellCorrelation.{correlation_map}
use Rattle.correlation.proofs.Numerals.{cast_real, numeral_value}
use Rattle.correlation.proofs.Volumes.{product_cell}

-- a sum over the cell, as values
numeral_total : (m : ℕ) (h : J) (f : J → ℤ) → numeral (field m) (total_of h f) ≡ sum (field m) (2 * h.0) (λ x. sum (field m) (2 * h.1) (λ y. sum (field m) (2 * h.2) (λ z. numeral (field m) (f (x, y, z)))))
unfolding total_of
numeral_total m h f =
    let 𝓡 = field_ring m in
    to_sum 𝓡 (2 * h.0) _ ∙ sum_cong 𝓡 (2 * h.0) _ _ (λ x lx. to_sum 𝓡 (2 * h.1) _ ∙ sum_cong 𝓡 (2 * h.1) _ _ (λ y ly. to_sum 𝓡 (2 * h.2) _))

module _ (m : ℕ) (is : IsModulus m) {n1 n2 n3 : ℕ} (s1 : AdmittedLength n1) (s2 : AdmittedLength n2) (s3 : AdmittedLength n3) (u v : List ℤ) where
  abbrev h : J
  h = (n1 / 2, n2 / 2, n3 / 2)

  abbrev points : ℕ
  points = 2 * h.0 * (2 * h.1) * (2 * h.2)

  abbrev A : Cell (Value m)
  A = residue_cell m (count_cell h u)

  abbrev B : Cell (Value m)
  B = residue_cell m (count_cell h v)

  -- the product of both maps' factors, times N1 N2 N3
  abbrev pub G : Cell (Value m)
  G = product_cell h m points (factors_of m h A) (factors_of m h B)

  residue_total : (s : J) → value m (residue_z (prime m) (correlation_at h u v s)) 0 ≡ total (field m) (axis m h.0) (axis m h.1) (axis m h.2) (λ x y z. (field m).mul (A x y z) (B ((x + s.0) % (2 * h.0)) ((y + s.1) % (2 * h.1)) ((z + s.2) % (2 * h.2))))
  unfolding correlation_at total
  residue_total s =
      let 𝓡 = field_ring m in
      sym (numeral_value m (correlation_at h u v s)) ∙ numeral_total m h (λ w. count_of P1 h u w *ℤ count_of P1 h v (shifted_by h w s))
      ∙ sum_cong 𝓡 (2 * h.0) _ _ (λ x lx. sum_cong 𝓡 (2 * h.1) _ _ (λ y ly. sum_cong 𝓡 (2 * h.2) _ _ (λ z lz.
      to_mul 𝓡 (count_of P1 h v (shifted_by h (x, y, z) s)) (count_of P1 h u (x, y, z))
      ∙ ap₂ (field m).mul (numeral_value m (count_of P1 h u (x, y, z))) (numeral_value m (count_of P1 h v (shifted_by h (x, y, z) s))))))

  -- at every shift
  residue_map : (s : J) → Cell.at (residue_cell m (correlation_cell h u v)) s ≡ Cell.at (map_of m h G) s
  residue_map s =
      residue_total s
      ∙ correlation_map (field_ring m) (field_star m) (axis_laws m is s1) (axis_laws m is s2) (axis_laws m is s3) s.0 s.1 s.2 A B (λ x y z lx ly lz. conj_real m _)
      ∙ ap (λ (d : Value m). map_of m h (λ x y z. (field m).mul d ((field m).mul (conj m (factors_of m h A x y z)) (factors_of m h B x y z))) s.0 s.1 s.2) (cast_real m points)

  -- so the map is real, and the product is a cell of factors in P1
  pub product_lawful : Lawful (field m) (conj m) h P1 G
  product_lawful = (lawful_iff (field_ring m) (field_star m) h P1 G).1 (
    λ s e. (obeys_map (field_ring m) (field_star m) (axis_laws m is s1) (axis_laws m is s2) (axis_laws m is s3) s G).1 (obeys_one h m (map_of m h G) s e),
    (friedel_real (field_ring m) (field_star m) (axis_laws m is s1) (axis_laws m is s2) (axis_laws m is s3) G).1 (λ x n. sym (residue_map x) ∙ sym (conj_real m _) ∙ ap (conj m) (residue_map x)),
  )

  -- the synthesis of the product
  pub correlated_map : turns (λ n w. job_turn P1 h m 0 (line_of_turn P1 h 0 n) w) 0 (line_count P1 h) (pack_factors P1 h m G) ≡ pack_map P1 h m (residue_cell m (correlation_cell h u v))
  correlated_map = synthesised_cell P1 m is s1 s2 s3 G product_lawful ∙ map_cong P1 h (s1.positive, s2.positive, s3.positive) m (map_of m h G) (residue_cell m (correlation_cell h u v)) (λ x n. sym (residue_map x))
