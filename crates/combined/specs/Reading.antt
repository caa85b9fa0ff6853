-- The number of a point of a combined map, as a call reads it.
use Rattle.std.specs.Prelude.{◌≡◌, ◌&&◌, ◌∷◌, ◌++◌}
use Rattle.algebra.specs.Prelude.{Bool, not, ltb, ℕ, List, [], length}
use Rattle.algebra.specs.cells.Cell.{J, Cell}
use Rattle.algebra.specs.cells.Cell as Cell
use Rattle.signed.specs.Integers.{ℤ}
use Rattle.refusals.specs.Refusals.{Test, ◌⇒◌, first, accepted}
use Rattle.refusals.specs.Orders.{numbers_of}
use Rattle.cell.specs.Volume.{group_of}
use Rattle.header.specs.Header.{half_lengths}
use Rattle.combined.specs.CombinedMap.{count_of, pack_signed, Symmetric, combined_map_tests}

-- a point has each number below its axis length
abbrev pub within : (lengths x : J) → Bool
within n x = ltb x.0 n.0 && (ltb x.1 n.1 && ltb x.2 n.2)

-- 8, 3, 9, 6 of the map, which counts by its length alone; then 10 of the point
abbrev pub count_tests : (group : ℕ) (lengths : J) (length : ℕ) (x : J) → List Test
count_tests group n length x = combined_map_tests group n length ++ not (within n x) ⇒ 10 ∷ []

-- a whole number, or a refusal's number
pub data Counted : Type 0 where
  counted : ℤ → Counted
  not_counted : (number : ℕ) → Counted

unfoldable pub count_step : (group : ℕ) (lengths : J) (map : List ℤ) (x : J) → Counted
count_step group n v x =
    accepted (first (count_tests group n (length v) x))
    (counted (count_of (group_of group) (half_lengths n) v x)) not_counted

-- Of the combined map of a symmetric cell the call reads the cell's number at every point, stored or not, where it is
-- not refused; and its refusals stand in the order of a section's.
pub record CountsRead : Type 0 where
  pub read :
      (group : ℕ) (n : J) (M : Cell ℤ) (x : J) →
      Symmetric (group_of group) (half_lengths n) M →
      0 ≡ first (count_tests group n (length (pack_signed (group_of group) (half_lengths n) M)) x) →
      count_step group n (pack_signed (group_of group) (half_lengths n) M) x ≡ counted (Cell.at M x)
  pub order : (group : ℕ) (n : J) (length : ℕ) (x : J) →
      numbers_of (count_tests group n length x) ≡ 8 ∷ 3 ∷ 9 ∷ 6 ∷ 10 ∷ []
