-- The pairs of all layers, twice; the products of lengths fit.
use native.Mathlib.Omega.{arith}
use Rattle.header.proofs.Headers.{volume_is, rows_few, numbers_few}
use Rattle.header.proofs.bytes.volume_length.Goals as goal

pub overflow_mul-result : goal.overflow_mul-result
overflow_mul-result c = omega (arith, rows_few c.args.cell c.layer_count-layers.ensures c.requires)

pub overflow_mul-result-2 : goal.overflow_mul-result-2
overflow_mul-result-2 c = omega (arith, numbers_few c.args.cell c.layer_count-layers.ensures c.requires)

pub overflow_mul-result-3 : goal.overflow_mul-result-3
overflow_mul-result-3 c = omega (arith, numbers_few c.args.cell c.layer_count-layers.ensures c.requires)

pub returns : goal.returns
returns c = volume_is c.args.cell c.layer_count-layers.ensures
