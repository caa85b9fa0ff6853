-- A combined map, which is the paper's joined map: a cell of signed whole numbers in the layout of a map. For each
-- stored plane z and each x, both rising, it has the N2 numbers by y, then two zeros, which no call reads.
use Rattle.std.specs.Prelude.{◌≡◌, ◌↔◌, ◌+◌, ◌*◌, ◌/◌, ◌%◌, ◌<◌, ◌∷◌}
use Rattle.algebra.specs.Prelude.{not, cond, eqb, leb, ltb, ℕ, List, []}
use Rattle.algebra.specs.Prelude.{length, get_or}
use Rattle.algebra.specs.orbits.Orbit.{Mem}
use Rattle.algebra.specs.cells.Cell.{J, Inside, Sym, Group, Cell, ops, point_image}
use Rattle.algebra.specs.cells.Cell as Cell
use Rattle.signed.specs.Integers.{ℤ, pos}
use Rattle.refusals.specs.Refusals.{Test, ◌⇒◌}
use Rattle.cell.specs.Volume.{group_of, layers, rows, columns, volume_length, map_place, density_place}
use Rattle.header.specs.Header.{half_lengths, volume_limit, all_admitted}
pub use Rattle.combined.specs.Chinese.{limit, tabulate}

-- the number of a point of the cell: on a plane that is not stored, that of its image under the group's first operation
-- but the identity
abbrev pub count_of : Group → J → List ℤ → J → ℤ
count_of g a v x = get_or v (density_place g a x) (pos 0)

-- two maps that have the same number at every point of the cell, whatever stands behind their rows
abbrev pub SamePoints : Group → J → (v w : List ℤ) → Type 0
SamePoints g a v w = (x : J) → Inside a x → count_of g a v x ≡ count_of g a w x

-- the number of a cell at a place of the layout: row z N1 + x has N2 + 2 places
abbrev pub number_at : Group → J → Cell ℤ → (place : ℕ) → ℤ
number_at g a M n =
    let row = n / (2 * columns g a) in
    let y = n % (2 * columns g a) in
    cond (ltb y (2 * a.1)) (M (row % rows g a) y (row / rows g a)) (pos 0)

unfoldable pub pack_signed : Group → J → Cell ℤ → List ℤ
pack_signed g a M = tabulate (volume_length g a) (number_at g a M)

-- the last two numbers of each row are zero
abbrev pub EndsInZeros : Group → J → List ℤ → Type 0
EndsInZeros g a v = (x z : ℕ) → x < rows g a → z < layers g a →
    (get_or v (map_place g a (x, 2 * a.1, z)) (pos 0) ≡ pos 0)
    × (get_or v (map_place g a (x, 2 * a.1 + 1, z)) (pos 0) ≡ pos 0)

-- v has the cell's numbers at the points of the stored planes, and zeros at the two places that end each row
pub record Packs (g : Group) (a : J) (M : Cell ℤ) (v : List ℤ) : Type 0 where
  pub stored : (x y z : ℕ) → x < rows g a → y < 2 * a.1 → z < layers g a →
      count_of g a v (x, y, z) ≡ M x y z
  pub ends : EndsInZeros g a v

-- this is what pack_signed does, and nothing else of the volume's length does
abbrev pub PackedExactly : Type 0
PackedExactly = (g : Group) (a : J) (M : Cell ℤ) (v : List ℤ) →
    (v ≡ pack_signed g a M) ↔ ((length v ≡ volume_length g a) × Packs g a M v)

-- a cell of whole numbers that every operation of the group leaves as it is
abbrev pub Symmetric : Group → J → Cell ℤ → Type 0
Symmetric g a M =
    (s : Sym) → Mem s (ops g) →
    (x : J) → Inside a x →
    Cell.at M (point_image a s x) ≡ Cell.at M x

-- What is refused of a combined map of a group and three lengths: 8, 3, 9, and 6 where it is not exactly as long as
-- they ask for. No factor lists: nothing is transformed.
abbrev pub combined_map_tests : (group : ℕ) (lengths : J) (length : ℕ) → List Test
combined_map_tests group n length =
    leb 5 group ⇒ 8 ∷
    not (all_admitted n) ⇒ 3 ∷
    ltb volume_limit (volume_length (group_of group) (half_lengths n)) ⇒ 9 ∷
    not (eqb length (volume_length (group_of group) (half_lengths n))) ⇒ 6 ∷
    []
