-- The real part of the last pair moves to the first.
use mathlib.Core.Path.{sym, ap}
use Rattle.volume_transform.specs.Lines.{opened}
use Rattle.volume_transform.proofs.row.RowLaws.{not_opened}
use Rattle.volume_transform.proofs.row.open_row.Goals as goal

pub returns-then-direction-eq0 : goal.returns-then-direction-eq0
returns-then-direction-eq0 c =
    ap (λ d. opened d c.args.size c.args.row.now) (sym c.if-direction-eq0.true)

pub returns-else-direction-eq0 : goal.returns-else-direction-eq0
returns-else-direction-eq0 c = not_opened c.args.direction c.args.size c.args.row.now c.if-direction-eq0.false
