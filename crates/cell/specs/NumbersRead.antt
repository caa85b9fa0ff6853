-- The numbers that a factor is read from. Refusal 7 of a reading asks that they be residues, refusal 24 of a record
-- that those of each image be zero.
use Rattle.std.specs.Prelude.{◌≡◌, ◌<◌, ◌≤◌}
use Rattle.algebra.specs.Prelude.{ℕ, List, get_or}
use Rattle.algebra.specs.cells.Cell.{J, Inside, Group, at}
use Rattle.algebra.specs.orbits.Orbit.{Mem}
use Rattle.numbers.specs.Value.{prime}
use Rattle.slices.specs.Pairs.{Below}
use Rattle.cell.specs.Volume.{volume_length, factors_in, numbers_read}

-- two volumes have the same numbers at these places
abbrev pub SameAt : List ℕ → List ℕ → List ℕ → Type 0
SameAt places v w = (q : ℕ) → Mem q places → get_or v q 0 ≡ get_or w q 0

-- `numbers_read` is exactly the places of the volume that the factor at j depends on, for any axes and any index of the
-- cell: volumes that are the same there have the same factor at j, whatever else they hold, and two volumes of residues
-- that differ at one of these places have not.
pub record NumbersReadExactly : Type 0 where
  pub inside : (g : Group) (a : J) → (1 ≤ a.0) × (1 ≤ a.1) × (1 ≤ a.2) → (j : J) → Inside a j
      → (q : ℕ) → Mem q (numbers_read g a j) → q < volume_length g a
  pub enough : (g : Group) (a : J) →
      (1 ≤ a.0) × (1 ≤ a.1) × (1 ≤ a.2) →
      (j : J) →
      Inside a j →
      (m : ℕ) (v w : List ℕ)
      → SameAt (numbers_read g a j) v w → at (factors_in g a m v) j ≡ at (factors_in g a m w) j
  pub needed : (g : Group) (a : J) →
      (1 ≤ a.0) × (1 ≤ a.1) × (1 ≤ a.2) →
      (j : J) →
      Inside a j →
      (m : ℕ) (v w : List ℕ)
      → Below (prime m) v →
      Below (prime m) w →
      at (factors_in g a m v) j ≡ at (factors_in g a m w) j →
      SameAt (numbers_read g a j) v w
