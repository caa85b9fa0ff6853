-- The order of the refusals, and what 28 says.
use mathlib.Core.Path.{◌≡◌, refl, sym, subst}
use mathlib.Core.Logic.{◌↔◌}
use mathlib.Core.Bool.{true, not}
use mathlib.Core.List.{List, [], ◌∷◌, ◌++◌}
use Prim.Native.Nat.{ℕ, suc}
use lib.Dec.{T, leb, ltb, leb→le, le→leb}
use lib.ListN.{length}
use lib.IntN.{ℤ, nat_abs}
use Rattle.algebra.specs.cells.Cell.{J}
use Rattle.algebra.proofs.ring.Bool.{below_at, below_by}
use Rattle.refusals.specs.Refusals.{Test, ◌⇒◌, first}
use Rattle.refusals.proofs.Orders.{avoided, refused_unless, negated}
use Rattle.cell.proofs.Tests.{true_iff}
use Rattle.combined.specs.CombinedMap.{limit, combined_map_tests}
use Rattle.output.specs.Output.{Filled.not_written, FillOutcome}
use Rattle.output.proofs.Answered.{fill_says}
use Rattle.section.specs.Section.{section_at, section_text, row_within, plane_within, section_tests, section_step}
use Rattle.section.specs.Orders.{NarrowPlane, SectionRefusals}

module _ (group : ℕ) (n : J) (v : List ℤ) (z : ℕ) where
  plane_narrow : (plane_within group n v z ≡ true) ↔ NarrowPlane group n v z
  unfolding plane_within
  plane_narrow = (
    λ e x y lx ly. leb→le _ limit (below_at n.1 (λ y. leb (nat_abs (section_at group n v z x y)) limit) y (below_at n.0 (λ x. row_within group n v z x) x ((true_iff _).0 e) lx) ly),
    λ f. (true_iff _).1 (below_by n.0 (λ x. row_within group n v z x) (λ x lx. below_by n.1 (λ y. leb (nat_abs (section_at group n v z x y)) limit) (λ y ly. le→leb _ limit (f x y lx ly)))),
  )

  module _ (output : List ℕ) where
    told : (k : ℕ) → (first (section_tests group n v z (length output)) ≡ suc k) ↔ ((section_step group n v z output).answer ≡ not_written (suc k))
    unfolding section_step
    told = fill_says (λ (o : FillOutcome). o.answer) _ _ (length (section_text group n v z)) refl (λ n. refl) (first (section_tests group n v z (length output)))

abbrev before_magnitude : (group : ℕ) (n : J) (v : List ℤ) (z : ℕ) → List Test
before_magnitude group n v z = combined_map_tests group n (length v) ++ (leb n.2 z ⇒ 10 ∷ [])

pub section_refusals : SectionRefusals
section_refusals = record {
  ordered = λ group n v z room. refl;
  magnitude = λ group n v z output none.
      refused_unless (before_magnitude group n v z) (ltb (length output) (length (section_text group n v z)) ⇒ 18 ∷ []) (not (plane_within group n v z)) 27 tt
      (section_step group n v z output).answer not_written (told group n v z output) tt (avoided not_written _ (before_magnitude group n v z) none) _
      (λ e. negated (plane_within group n v z) (plane_narrow group n v z));
}
