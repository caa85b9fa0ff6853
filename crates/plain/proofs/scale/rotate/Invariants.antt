-- In place: the pair that a turn reads is still the one that came in.
use Rattle.numbers.specs.Value.{field, pair_of}
use Rattle.slices.specs.Pairs.{values_of}
use Rattle.slices.specs.Filling.{FillingPairs}
use Rattle.plain.specs.Plain.{rotation}
use Rattle.plain.proofs.scale.rotate.Given as goal

abbrev pub invariant-loop-j : goal.invariant-loop-j
invariant-loop-j l = FillingPairs (λ k. k) (λ t. pair_of ((field l.m).mul (rotation l.m l.over) (values_of l.m l.fn.line t))) l.n l.j l.fn.line l.line
