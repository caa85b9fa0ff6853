-- In place: the pair that a turn reads is still the one that came in.
use Rattle.numbers.specs.Value.{field, real, pair_of}
use Rattle.numbers.specs.Bounds.{res}
use Rattle.slices.specs.Pairs.{values_of}
use Rattle.slices.specs.Filling.{FillingPairs}
use Rattle.plain.proofs.scale.scale.Given as goal

abbrev pub invariant-loop-j : goal.invariant-loop-j
invariant-loop-j l = FillingPairs (λ k. k) (λ t. pair_of ((field l.m).mul (real l.m (res l.m l.c)) (values_of l.m l.fn.line t))) l.n l.j l.fn.line l.line
