-- The numbers before j are those that the input's bytes name.
use Rattle.test_io.proofs.Taking.{NamedSoFar}
use Rattle.test_io.proofs.read_named.Given as goal

abbrev pub invariant-loop-j : goal.invariant-loop-j
invariant-loop-j g l = NamedSoFar (g.R.Read.remaining l.initial.from) (g.R.Read.remaining l.from) l.table l.v l.j
