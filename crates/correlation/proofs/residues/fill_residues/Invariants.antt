-- The pairs before j are filled, and the column is that of pair j.
use Rattle.std.proofs.Common.{◌≡◌, suc, ◌%◌}
use Rattle.numbers.specs.Value.{prime}
use Rattle.slices.specs.Filling.{FillingPairs}
use Rattle.correlation.specs.Steps.{residue_pair}
use Rattle.correlation.proofs.residues.fill_residues.Given as goal

abbrev pub invariant-loop-j : goal.invariant-loop-j
invariant-loop-j l = FillingPairs (λ k. k) (residue_pair (prime l.m) l.b l.v) l.n l.j l.fn.d l.d × (l.column ≡ l.j % suc l.b)
