-- The operations before `number` give no place before j; the first is the identity.
use Rattle.algebra.specs.cells.Cell.{one, full, image_of}
use Rattle.algebra.proofs.cells.Passing.{PassingMembers}
use Rattle.cell.specs.Operations.{cell_group, cell_halves, triple_of}
use Rattle.factor_file.specs.File.{no_later}
use Rattle.factor_file.proofs.orbits.none_before.Given as goal

abbrev pub invariant-loop-number : goal.invariant-loop-number
invariant-loop-number l =
    PassingMembers (full (cell_group l.cell)) one (λ s. no_later (triple_of l.j) (image_of (cell_halves l.cell) s (triple_of l.j))) l.number
