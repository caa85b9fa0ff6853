-- Two values of the whole line.
use Rattle.numbers.proofs.Values.{small_by}
use Rattle.folds.proofs.alternating.before.Sums.{short_by}
use Rattle.folds.proofs.alternating.before.short_at.Goals as goal

pub times_i-requires : goal.times_i-requires
times_i-requires c = (c.requires.modulus.0, small_by c.args.m _ c.value_at-odd.ensures)

pub sum-requires : goal.sum-requires
sum-requires c =
    (c.requires.modulus.0, small_by c.args.m _ c.value_at-even.ensures, small_by c.args.m _ c.times_i.ensures)

pub returns : goal.returns
returns c =
    short_by c.args.m _ c.args.t c.value_at-even.ensures c.value_at-odd.ensures c.times_i.ensures c.sum.ensures
