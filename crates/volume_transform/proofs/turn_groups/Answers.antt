-- The tables of the batches and room for one.
use native.Mathlib.Omega.{arith}
use mathlib.Core.Path.{sym, subst}
use Rattle.numbers.specs.Value.{IsModulus}
use Rattle.roots.specs.Table.{RootTable}
use Rattle.volume_transform.proofs.turn_groups.Goals as goal

pub shift_tables-requires : goal.shift_tables-requires
shift_tables-requires c =
    let e = c.requires.planned.2 in
    (subst IsModulus (sym e) c.requires.planned.0.modulus, subst (λ m. RootTable m c.args.re.now c.args.im.now) (sym e) c.requires.planned.1.powers, omega arith, omega arith)

pub turn_volume-requires-clause-most_nonzero : goal.turn_volume-requires-clause-most_nonzero
turn_volume-requires-clause-most_nonzero c = (omega arith, omega arith, λ more. record { tables = c.shift_tables.ensures; room = omega arith })

pub turn_volume-requires-clause-lent : goal.turn_volume-requires-clause-lent
turn_volume-requires-clause-lent c = record { scratch_fits = c.requires.fitting.1; fold_fits = omega arith; work_fits = omega arith }
