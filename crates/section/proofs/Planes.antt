-- A plane of a combined map: its points lie in the map, and its numbers and their sums are in range.
use mathlib.Core.Path.{◌≡◌, refl}
use mathlib.Core.List.{List}
use Prim.Native.Nat.{ℕ, ◌*◌, ◌<◌, ◌≤◌}
use native.Mathlib.Omega.{arith}
use lib.Dec.{leb}
use lib.ListN.{length, replicate}
use lib.IntN.{ℤ, nat_abs}
use borrow.Author.Tests.{leb-true, lt-ltb, le-ltb}
use Rattle.algebra.specs.cells.Cell.{J}
use Rattle.output.specs.Output.{signed_decimal, blank}
use Rattle.cell.specs.declared.operations.UnitCell.{UnitCell}
use Rattle.cell.specs.declared.operations.Point.{Point}
use Rattle.cell.specs.Operations.{cell_group, cell_lengths, cell_halves, Sizes, PointWithin}
use Rattle.cell.specs.Volume.{volume_length}
use Rattle.algebra.proofs.cells.Passing.{passed_at}
use Rattle.combined.specs.CombinedMap.{limit}
use Rattle.section.specs.Section.{section_at, row_total, total, row_within, plane_within, aligned, value_field}
use Rattle.section.specs.Sound.{Plane, Sound}
use Rattle.section.proofs.Totals.{abs_sum}

module _ {cell : UnitCell} {v : List ℤ} {z : ℕ} where
  -- what the number of a point is asked for with
  pub asked : Plane cell v z → {p : Point} → p.x < cell.n1 → p.y < cell.n2 → p.z ≡ z → Sizes cell × PointWithin cell p × (length v ≡ volume_length (cell_group cell) (cell_halves cell))
  asked h lx ly e = (h.sizes, record { x = lx; y = ly; z = omega (arith, e, h.inside) }, h.long)

  module _ (h : Sound cell v z) where
    pub within : (x y : ℕ) → x < cell.n1 → y < cell.n2 → nat_abs (section_at cell.group (cell_lengths cell) v z x y) ≤ limit
    unfolding plane_within
    within x y lx ly =
        leb-true _ _ (passed_at (λ y. leb (nat_abs (section_at cell.group (cell_lengths cell) v z x y)) limit) cell.n2 y (passed_at (λ x. row_within cell.group (cell_lengths cell) v z x) cell.n1 x h.within lx) ly)

    -- 2,880 times the limit, and 2,880 times that
    pub row_small : (x : ℕ) → x < cell.n1 → nat_abs (row_total cell.group (cell_lengths cell) v z x) ≤ 37622838528000
    row_small x lx = omega (arith, abs_sum (λ y. section_at cell.group (cell_lengths cell) v z x y) limit cell.n2 (λ y ly. within x y lx ly), h.plane.sizes.second.high)

    pub row_range : cell.n2 * limit < 9223372036854775808
    row_range = omega (arith, h.plane.sizes.second.high)

    pub plane_range : cell.n1 * 37622838528000 < 9223372036854775808
    plane_range = omega (arith, h.plane.sizes.first.high)

    pub plane_small : nat_abs (total cell.group (cell_lengths cell) v z) < 9223372036854775808
    plane_small = omega (arith, abs_sum (λ x. row_total cell.group (cell_lengths cell) v z x) 37622838528000 cell.n1 row_small, plane_range)

-- ---- the field of a value, and of none

module _ (group : ℕ) (n : J) (v : List ℤ) (z x y : ℕ) where
  pub field_inside : y < n.1 → aligned 13 (signed_decimal (section_at group n v z x y)) ≡ value_field group n v z x y
  field_inside l = rw (lt-ltb y n.1 l) refl

  pub field_beyond : n.1 ≤ y → replicate 13 blank ≡ value_field group n v z x y
  field_beyond l = rw (le-ltb y n.1 l) refl
