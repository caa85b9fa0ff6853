-- The tables are those of the direction.
use native.Mathlib.Omega.{arith}
use mathlib.Core.Path.{refl}
use Rattle.line.proofs.table.Directions.{tables_of_lem}
use Rattle.volume_transform.proofs.transform_volume.Goals as goal

pub turn_volume-requires-clause-planned : goal.turn_volume-requires-clause-planned
turn_volume-requires-clause-planned c =
    (c.requires.planned, tables_of_lem c.requires.planned.modulus c.real_parts-re.ensures c.args.plan.direction c.imaginary_parts-im.ensures c.half_tangents-tan.ensures, refl)

pub turn_volume-requires-clause-most_nonzero : goal.turn_volume-requires-clause-most_nonzero
turn_volume-requires-clause-most_nonzero c = (omega arith, omega arith, λ more. absurd (omega (arith, more)))

pub turn_volume-requires-clause-lent : goal.turn_volume-requires-clause-lent
turn_volume-requires-clause-lent c = record { scratch_fits = c.requires.fitting.1; fold_fits = omega arith; work_fits = omega arith }

pub turn_groups-requires-clause-planned : goal.turn_groups-requires-clause-planned
turn_groups-requires-clause-planned c =
    (c.requires.planned, tables_of_lem c.requires.planned.modulus c.real_parts-re.ensures c.args.plan.direction c.imaginary_parts-im.ensures c.half_tangents-tan.ensures, refl)
