-- The marks by which the records of a file are judged: numbers of a volume, each at the place of an orbit.
use Rattle.std.specs.Prelude.{◌≡◌}
use Rattle.algebra.specs.Prelude.{ℕ, List, length, replicate, get_or}
use Rattle.algebra.specs.cells.Cell.{J, Inside, Group}
use Rattle.algebra.specs.orbits.Orbit.{Mem}
use Rattle.cell.specs.declared.operations.UnitCell.{UnitCell}
use Rattle.cell.specs.OrbitPlace.{orbit_place}
use Rattle.cell.specs.TestSteps.{IsVolume}

-- the numbers of v that are not zero stand exactly at the places of the orbits of these indices
pub record Marked (g : Group) (a : J) (v : List ℕ) (before : List J) : Type 0 where
  pub inside : (i : J) → Mem i before → Inside a i
  pub hit : (i : J) → Mem i before → get_or v (orbit_place g a i) 0 ≡ 0 → ⊥
  pub only : (q : ℕ) → (get_or v q 0 ≡ 0 → ⊥) → (i : J) × Mem i before × (orbit_place g a i ≡ q)

-- a volume of zeros, as long as its cell asks for
pub record IsEmpty (c : UnitCell) (v : List ℕ) : Type 0 where
  pub volume : IsVolume c v
  pub zeros : v ≡ replicate (length v) 0
