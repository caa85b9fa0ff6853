use Rattle.std.proofs.Common.{ℕ, ◌*◌, ◌<◌, arith}
use Rattle.algebra.specs.cells.Cell.{neg_i}
use Rattle.algebra.proofs.cells.CellAxis.{neg_pos}
use Rattle.algebra.proofs.cells.Passing.{passed_at}
use Rattle.volume.proofs.consistent.factor_test.layer_agrees.Goals as goal

neg_before : (a h : ℕ) → a < h → h < 2 * a → neg_i a h < h
neg_before a h l u = omega (arith, neg_pos a h (omega arith) u)

pub row_agrees-requires-clause-h_value : goal.row_agrees-requires-clause-h_value
row_agrees-requires-clause-h_value c = λ beyond. passed_at _ _ _ c.loop-h.invariant (neg_before _ _ beyond (omega (arith, c.args.r.now.whole.sizes.first.even, c.loop-h-test.true)))
