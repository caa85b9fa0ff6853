-- The power of a map and of its factors: two sums over the whole cell, unfolded from the volume. They tell a whole
-- entry by one number.
use Rattle.std.specs.Prelude.{◌*◌}
use Rattle.algebra.specs.Prelude.{ℕ, List}
use Rattle.algebra.specs.ring.Ring.{Ops, Res, sum}
use Rattle.algebra.specs.cells.Cell.{J, Group, Cell}
use Rattle.numbers.specs.Value.{Value, field, conj}
use Rattle.cell.specs.Volume.{map_in, factors_in}

-- the sum over all indices, or all points, of the whole cell
abbrev pub over_cell : (m : ℕ) (a : J) → Cell (Value m) → Value m
over_cell m a F =
    sum (field m) (2 * a.0) (λ h. sum (field m) (2 * a.1) (λ k. sum (field m) (2 * a.2) (λ l. F h k l)))

-- N1 N2 N3: how many points the cell has
abbrev pub cell_points : J → ℕ
cell_points a = 2 * a.0 * (2 * a.1) * (2 * a.2)

module _ (g : Group) (a : J) (m : ℕ) where
  -- The sum over all points of the square of the map, and the sum over all h, k, l of F(h, k, l) × conj F(h, k, l),
  -- each a residue as a number below the prime: a map is real, and so is each F × conj F.
  unfoldable pub map_power : List ℕ → ℕ
  map_power v = (over_cell m a (λ x y z. (field m).mul (map_in g a m v x y z) (map_in g a m v x y z))).0.val

  unfoldable pub factor_power : List ℕ → ℕ
  factor_power v =
      (over_cell m a (λ h k l. (field m).mul (factors_in g a m v h k l) (conj m (factors_in g a m v h k l)))).0.val
