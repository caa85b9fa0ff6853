-- What is stored of factors and maps, as conditions, and the operation that a factor is read by.
use Rattle.std.specs.Prelude.{true, false, cond, ◌≤◌, ◌<◌, leb, ltb}
use Rattle.algebra.specs.cells.Cell.{J, Sym, Sym.sym, one, friedel, ◌·◌, image_of, Group, P1, P2₁, Pm, Pa}
use Rattle.algebra.specs.cells.Cell.{P2₁2₁2₁, span, planes}

-- the operation along l alone
abbrev pub line_sym : Group → Sym
line_sym P1 = one
line_sym P2₁ = sym true false false true false false true
line_sym Pm = sym false false false true false false false
line_sym Pa = sym false false false true true false false
line_sym P2₁2₁2₁ = sym true false false true true false true

-- a factor, and a point, that is stored
abbrev pub Stored : Group → J → J → Type 0
Stored g a j = (j.1 ≤ a.1) × (j.2 < span g a.2)

abbrev pub StoredPoint : Group → J → J → Type 0
StoredPoint g a x = x.2 < planes g a.2

-- the operation to read a factor by: k above B through Friedel, then l beyond the range by the line's rule
unfoldable pub line_operation : Group → J → J → Sym
line_operation g a j = cond (ltb j.2 (span g a.2)) one (line_sym g)

unfoldable pub factor_operation : Group → J → J → Sym
factor_operation g a j =
    cond (leb j.1 a.1) (line_operation g a j) (line_operation g a (image_of a friedel j) · friedel)
