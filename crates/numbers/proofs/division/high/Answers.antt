-- The four products of the halves, added with what is carried.
use Rattle.numbers.proofs.Quotients.{high_part}
use Rattle.numbers.proofs.division.high.Goals as goal

pub returns : goal.returns
returns c =
    rw (c.of_halves.ensures.0, c.of_halves-2.ensures.0, c.of_halves-3.ensures.0, c.of_halves-4.ensures.0) (high_part c.args.x c.args.y)
