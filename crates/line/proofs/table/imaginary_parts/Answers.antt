-- The table of the root as it is, or negated in place.
use native.Mathlib.Omega.{arith}
use Rattle.roots.proofs.RootPowers.{imaginary_below}
use Rattle.line.proofs.table.Directions.{as_it_is, negated_table}
use Rattle.line.proofs.table.imaginary_parts.Goals as goal

pub returns-then-direction-eq0 : goal.returns-then-direction-eq0
returns-then-direction-eq0 c = as_it_is (omega arith) c.imaginary_parts-im.ensures c.if-direction-eq0.true

pub negate-requires : goal.negate-requires
negate-requires c = (c.requires, imaginary_below c.args.m c.imaginary_parts-im.ensures (omega arith))

pub returns : goal.returns
returns c =
    negated_table (omega arith) c.imaginary_parts-im.ensures c.args.direction c.if-direction-eq0.false c.negate.ensures
