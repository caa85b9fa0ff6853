-- Two zeros, or the second number of the first pair and zeros.
use native.Mathlib.Omega.{arith}
use mathlib.Core.Path.{sym, ap}
use lib.ListN.{length-set}
use Rattle.volume_transform.specs.Lines.{closed}
use Rattle.volume_transform.proofs.row.RowLaws.{otherwise_closed}
use Rattle.volume_transform.proofs.row.close_row.Goals as goal

pub bounds-row-size-then-direction-eq0 : goal.bounds-row-size-then-direction-eq0
bounds-row-size-then-direction-eq0 c = simp length-set (omega (arith, c.requires.1, c.requires.0))

pub bounds-row-size-else-direction-eq0-2 : goal.bounds-row-size-else-direction-eq0-2
bounds-row-size-else-direction-eq0-2 c = simp length-set (omega (arith, c.requires.1, c.requires.0))

pub bounds-row-1-else-direction-eq0 : goal.bounds-row-1-else-direction-eq0
bounds-row-1-else-direction-eq0 c = simp length-set (omega (arith, c.requires.1, c.requires.0))

pub returns-then-direction-eq0 : goal.returns-then-direction-eq0
returns-then-direction-eq0 c = ap (λ d. closed d c.args.size c.args.row.now) (sym c.if-direction-eq0.true)

pub returns-else-direction-eq0 : goal.returns-else-direction-eq0
returns-else-direction-eq0 c =
    otherwise_closed c.args.direction c.args.size c.args.row.now c.if-direction-eq0.false
