-- A section of two maps with the same numbers in its plane.
use mathlib.Core.Path.{◌≡◌, refl, ap, ap₂}
use mathlib.Core.Bool.{Bool, true, false, not, cond}
use mathlib.Core.List.{List, [], ◌∷◌, ◌++◌}
use Prim.Native.Nat.{ℕ, ◌+◌, ◌*◌, ◌<◌}
use lib.Dec.{leb, ltb}
use lib.ListN.{length, replicate}
use lib.IntN.{ℤ, nat_abs}
use borrow.Author.Tests.{ltb-true}
use Rattle.algebra.specs.cells.Cell.{J}
use Rattle.algebra.proofs.fourier.Sums.{sum_cong}
use Rattle.algebra.proofs.cells.Passing.{below_cong}
use Rattle.signed.proofs.IntegerRing.{integer_ring}
use Rattle.refusals.specs.Refusals.{◌⇒◌, first, accepted}
use Rattle.combined.specs.CombinedMap.{limit, combined_map_tests}
use Rattle.output.specs.Output.{decimal, signed_decimal, blank, line_feed, filled, not_filled}
use Rattle.output.proofs.Each.{each_cong}
use Rattle.section.specs.Section.{section_at, total, points, aligned, value_field, section_line, row_lines, closing_text, section_text, plane_within, section_step}
use Rattle.section.specs.PointsRead.{SamePlane, ReadsPlaneAlone}

module _ (group : ℕ) (n : J) (z : ℕ) (v w : List ℤ) (same : SamePlane group n z v w) where
  same_total : total group n v z ≡ total group n w z
  same_total = sum_cong integer_ring n.0 _ _ (λ x lx. sum_cong integer_ring n.1 _ _ (λ y ly. same x y lx ly))

  same_field : (x y : ℕ) → x < n.0 → value_field group n v z x y ≡ value_field group n w z x y
  same_field x y lx = go (ltb y n.1) refl
    where
      go : (b : Bool) → ltb y n.1 ≡ b → cond b (aligned 13 (signed_decimal (section_at group n v z x y))) (replicate 13 blank) ≡ cond b (aligned 13 (signed_decimal (section_at group n w z x y))) (replicate 13 blank)
      go true e = ap (λ k. aligned 13 (signed_decimal k)) (same x y lx (ltb-true y n.1 e))
      go false e = refl

  same_line : (x i : ℕ) → x < n.0 → section_line group n v z x i ≡ section_line group n w z x i
  unfolding section_line
  same_line x i lx = ap (λ t. aligned 4 (decimal x) ++ (t ++ line_feed ∷ [])) (each_cong 5 _ _ (λ t lt. same_field x (5 * i + t) lx))

  same_text : section_text group n v z ≡ section_text group n w z
  unfolding section_text
  same_text = ap₂ ◌++◌ (each_cong n.0 _ _ (λ x lx. each_cong (row_lines n) _ _ (λ i li. same_line x i lx))) (ap (λ t. closing_text t (points n)) same_total)

  same_within : plane_within group n v z ≡ plane_within group n w z
  unfolding plane_within
  same_within = below_cong n.0 _ _ (λ x lx. below_cong n.1 _ _ (λ y ly. ap (λ k. leb (nat_abs k) limit) (same x y lx ly)))

pub reads_plane_alone : ReadsPlaneAlone
unfolding section_step
reads_plane_alone group n v w z output long same =
    λ i. accepted
    (first (combined_map_tests group n (long i) ++ (leb n.2 z ⇒ 10 ∷ not (same_within group n z v w same i) ⇒ 28 ∷ ltb (length output) (length (same_text group n z v w same i)) ⇒ 18 ∷ [])))
    (filled (same_text group n z v w same i) output)
    (not_filled output)
