-- What `scale` leaves by the residue 1/n, or the line as it came where n is 1.
use Rattle.std.proofs.Common.{arith}
use Rattle.plain.proofs.scale.Dividing.{divided_by_part, divided_by_one}
use Rattle.plain.proofs.scale.divide.Goals as goal

pub returns-then-n-gt1 : goal.returns-then-n-gt1
returns-then-n-gt1 c = divided_by_part _ _ c.args.line.now c.reciprocal.ensures.0 c.scale.ensures

pub returns-else-n-gt1 : goal.returns-else-n-gt1
returns-else-n-gt1 c = divided_by_one _ _ c.args.line.now (omega (arith, c.requires.modulus)) c.requires.line_len c.requires.below
