-- What the numbers of a call stand for: the axes, an index or a point, an operation; and what holds of them once a call
-- is checked.
use Rattle.std.specs.Prelude.{◌≡◌, ℕ, ◌/◌, ◌%◌, ◌<◌, ◌≤◌}
use Rattle.algebra.specs.cells.Cell.{J, Sym, sym, Group}
use Rattle.cell.specs.Volume.{group_of}
use Rattle.cell.specs.declared.operations.UnitCell.{UnitCell}
use Rattle.cell.specs.declared.operations.Index.{Index}
use Rattle.cell.specs.declared.operations.Point.{Point}
use Rattle.cell.specs.declared.operations.Operation.{Operation}

-- the axes by their halves
abbrev pub halves_of : (n1 n2 n3 : ℕ) → J
halves_of n1 n2 n3 = (n1 / 2, n2 / 2, n3 / 2)

-- a cell's symmetry group, its lengths, and their halves
abbrev pub cell_group : UnitCell → Group
cell_group c = group_of c.group

abbrev pub cell_lengths : UnitCell → J
cell_lengths c = (c.n1, c.n2, c.n3)

abbrev pub cell_halves : UnitCell → J
cell_halves c = halves_of c.n1 c.n2 c.n3

abbrev pub triple_of : Index → J
triple_of j = (j.h, j.k, j.l)

abbrev pub point_of : Point → J
point_of p = (p.x, p.y, p.z)

abbrev pub sym_of : Operation → Sym
sym_of o =
    sym o.conjugate o.minus_h o.minus_k o.minus_l o.odd_h o.odd_k o.odd_l

-- an even length from 2 to 2,880
pub record Length (n : ℕ) : Type 0 where
  pub even : n % 2 ≡ 0
  pub low : 2 ≤ n
  pub high : n ≤ 2880

-- a group of the paper's numbers and three lengths
pub record Sizes (c : UnitCell) : Type 0 where
  pub known : c.group < 5
  pub first : Length c.n1
  pub second : Length c.n2
  pub third : Length c.n3

-- an index, and a point, below the lengths
pub record Within (c : UnitCell) (j : Index) : Type 0 where
  pub h : j.h < c.n1
  pub k : j.k < c.n2
  pub l : j.l < c.n3

pub record PointWithin (c : UnitCell) (p : Point) : Type 0 where
  pub x : p.x < c.n1
  pub y : p.y < c.n2
  pub z : p.z < c.n3
