-- The file of two maps with the same numbers at all points.
use mathlib.Core.Path.{◌≡◌, refl, sym, ◌∙◌, ap, ap₂}
use mathlib.Core.Bool.{not}
use mathlib.Core.List.{List, [], ◌∷◌, ◌++◌}
use Prim.Native.Nat.{ℕ, zero, suc, ◌<◌}
use native.Mathlib.Omega.{arith}
use lib.Dec.{leb, ltb}
use lib.ListN.{length}
use lib.IntN.{ℤ, nat_abs}
use borrow.Author.Tests.{leb-false, not-false}
use Rattle.algebra.specs.cells.Cell.{every_place}
use Rattle.algebra.proofs.cells.Passing.{below_cong}
use Rattle.refusals.specs.Refusals.{◌⇒◌, first, accepted}
use Rattle.refusals.proofs.Tests.{passed}
use Rattle.cell.specs.declared.operations.UnitCell.{UnitCell}
use Rattle.cell.specs.Operations.{cell_lengths, Sizes}
use Rattle.header.proofs.Headers.{sizes_of}
use Rattle.output.specs.Output.{filled, not_filled}
use Rattle.output.proofs.Each.{each_cong}
use Rattle.mrc.specs.Floats.{exact_limit}
use Rattle.mrc.specs.Header.{header_of}
use Rattle.mrc.specs.Ranges.{lesser, greater, among, density, of_cell}
use Rattle.mrc.specs.Mrc.{header_bytes, density_bytes, cell_bytes, mrc_bytes, file_length, all_exact, shape_tests, mrc_tests, mrc_step}
use Rattle.mrc.specs.PointsRead.{SameCell, ReadsPointsAlone}
use Rattle.mrc.specs.declared.parameters.CellParameters.{CellParameters}
use Rattle.mrc.proofs.Bytes.{length_file}

among_cong : (pick : ℤ → ℤ → ℤ) (n : ℕ) (f g : ℕ → ℤ) → f 0 ≡ g 0 → ((k : ℕ) → k < n → f k ≡ g k) → among pick n f ≡ among pick n g
unfolding among
among_cong pick zero f g o e = o
among_cong pick (suc n) f g o e = ap₂ pick (among_cong pick n f g o (λ k l. e k (omega arith))) (e n (omega arith))

module _ (cell : UnitCell) (v w : List ℤ) (same : SameCell cell v w) where
  same_exact : all_exact cell v ≡ all_exact cell w
  unfolding all_exact every_place
  same_exact = below_cong cell.n1 _ _ (λ x lx. below_cong cell.n2 _ _ (λ y ly. below_cong cell.n3 _ _ (λ z lz. ap (λ k. leb (nat_abs k) exact_limit) (same x y z lx ly lz))))

  same_cells : cell_bytes cell v ≡ cell_bytes cell w
  same_cells = each_cong cell.n3 _ _ (λ z lz. each_cong cell.n2 _ _ (λ y ly. each_cong cell.n1 _ _ (λ x lx. ap density_bytes (same x y z lx ly lz))))

  same_end : (pick : ℤ → ℤ → ℤ) → Sizes cell → of_cell cell v pick ≡ of_cell cell w pick
  unfolding of_cell
  same_end pick s = among_cong pick cell.n3 _ _ (plane 0 (omega (arith, s.third.low))) plane
    where
      row : (y z : ℕ) → y < cell.n2 → z < cell.n3 → among pick cell.n1 (λ x. density cell v (x, y, z)) ≡ among pick cell.n1 (λ x. density cell w (x, y, z))
      row y z ly lz = among_cong pick cell.n1 _ _ (same 0 y z (omega (arith, s.first.low)) ly lz) (λ x lx. same x y z lx ly lz)

      plane : (z : ℕ) → z < cell.n3 → among pick cell.n2 (λ y. among pick cell.n1 (λ x. density cell v (x, y, z))) ≡ among pick cell.n2 (λ y. among pick cell.n1 (λ x. density cell w (x, y, z)))
      plane z lz = among_cong pick cell.n2 _ _ (row 0 z (omega (arith, s.second.low)) lz) (λ y ly. row y z ly lz)

  same_bytes : (parameters : CellParameters) → Sizes cell → mrc_bytes cell v parameters ≡ mrc_bytes cell w parameters
  unfolding mrc_bytes
  same_bytes parameters s = λ i. header_bytes (header_of (cell_lengths cell) parameters (same_end lesser s i) (same_end greater s i)) ++ same_cells i

  module _ (parameters : CellParameters) (output : List ℕ) (long : length v ≡ length w) where
    same_length : length (mrc_bytes cell v parameters) ≡ length (mrc_bytes cell w parameters)
    same_length = length_file cell v parameters ∙ sym (length_file cell w parameters)

    same_number : first (mrc_tests cell v parameters (length output)) ≡ first (mrc_tests cell w parameters (length output))
    same_number = λ i. first (shape_tests cell (long i) parameters ++ (not (same_exact i) ⇒ 30 ∷ ltb (length output) (same_length i) ⇒ 18 ∷ []))

    same_file : (k : ℕ) → first (mrc_tests cell v parameters (length output)) ≡ k → accepted k (filled (mrc_bytes cell v parameters) output) (not_filled output) ≡ accepted k (filled (mrc_bytes cell w parameters) output) (not_filled output)
    same_file zero e =
        let t = passed (mrc_tests cell v parameters (length output)) tt (sym e) in
        ap (λ b. filled b output) (same_bytes parameters (sizes_of {cell = cell} (leb-false 5 cell.group t.0) (not-false _ t.1.0)))
    same_file (suc k) e = refl

pub reads_points_alone : ReadsPointsAlone
unfolding mrc_step
reads_points_alone cell v w parameters output long same =
    same_file cell v w same parameters output long (first (mrc_tests cell v parameters (length output))) refl
    ∙ ap (λ k. accepted k (filled (mrc_bytes cell w parameters) output) (not_filled output)) (same_number cell v w same parameters output long)
