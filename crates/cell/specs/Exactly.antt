-- What refusal 14 decides, in the paper's words.
use Rattle.std.specs.Prelude.{◌≡◌, ◌↔◌, ◌≤◌}
use Rattle.algebra.specs.Prelude.{true, ℕ, List, length}
use Rattle.algebra.specs.cells.Cell.{J, Inside, Sym, Group, Cell, ops, MapObeys}
use Rattle.algebra.specs.cells.Cell as Cell
use Rattle.algebra.specs.cells.CellSteps.{Lawful}
use Rattle.algebra.specs.orbits.Orbit.{Mem}
use Rattle.numbers.specs.Value.{prime, Value, field, conj, real}
use Rattle.slices.specs.Pairs.{Below}
use Rattle.cell.specs.Volume.{volume_length, pack_factors, pack_map}
use Rattle.cell.specs.Consistency.{consistent_factors, consistent_map}

module _ (g : Group) (a : J) (m : ℕ) where
  -- Some whole cell that obeys group and Friedel has these packed factors.
  abbrev pub FactorsConsistent : List ℕ → Type 0
  FactorsConsistent v = (F : Cell (Value m)) × Lawful (field m) (conj m) a g F × (pack_factors g a m F ≡ v)

  -- Some cell of real values that obeys the group has this map with its zeros.
  abbrev pub RealMap : Cell (Value m) → Type 0
  RealMap M = (x : J) → Inside a x → Cell.at M x ≡ real m (Cell.at M x).0

  abbrev pub ObeysGroup : Cell (Value m) → Type 0
  ObeysGroup M = (s : Sym) → Mem s (ops g) → MapObeys (conj m) a s M

  abbrev pub MapConsistent : List ℕ → Type 0
  MapConsistent v = (M : Cell (Value m)) × RealMap M × ObeysGroup M × (pack_map g a m M ≡ v)

-- Refusal 14, which stands behind the refusals of a volume's length and of numbers that are no residues, is exactly
-- this for any axes.
pub record ConsistentExactly : Type 0 where
  pub factors : (g : Group) (a : J) →
      (1 ≤ a.0) × (1 ≤ a.1) × (1 ≤ a.2) →
      (m : ℕ) (v : List ℕ) →
      length v ≡ volume_length g a →
      Below (prime m) v →
      (consistent_factors g a m v ≡ true) ↔ FactorsConsistent g a m v
  pub maps : (g : Group) (a : J) →
      (1 ≤ a.0) × (1 ≤ a.1) × (1 ≤ a.2) →
      (m : ℕ) (v : List ℕ) →
      length v ≡ volume_length g a →
      Below (prime m) v →
      (consistent_map g a v ≡ true) ↔ MapConsistent g a m v
