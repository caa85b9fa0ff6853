use Rattle.std.proofs.Common.{arith}
use Rattle.std.proofs.Math.Seq.{length-take-le}
use Rattle.fold_formulas.proofs.Frames.{half_divides}
use Rattle.folded_batches.proofs.AlternatingSynthesis.{unpacked_low, short_up, transformed_most, odd_most, synthesis_by}
use Rattle.folded_batches.proofs.alternating.synthesis.Goals as goal

pub odd_sums-requires-clause-modulus : goal.odd_sums-requires-clause-modulus
odd_sums-requires-clause-modulus c = (c.requires.frame.0.modulus, omega arith, unpacked_low c.requires.a_bound.3 c.unpack.ensures c.requires.a_bound.1)

pub short_line-requires-clause-modulus : goal.short_line-requires-clause-modulus
short_line-requires-clause-modulus c = (c.requires.frame.0.modulus, omega arith, unpacked_low c.requires.a_bound.3 c.unpack.ensures c.requires.a_bound.1)

pub transform-requires-clause-factored : goal.transform-requires-clause-factored
transform-requires-clause-factored c = (c.requires.frame.3, half_divides c.requires.frame.0)

pub transform-requires-clause-line_len : goal.transform-requires-clause-line_len
transform-requires-clause-line_len c = (omega arith, length-take-le _ _ (omega (arith, c.unpack.ensures.long)), short_up c.args.m c.args.a (unpacked_low c.requires.a_bound.3 c.unpack.ensures c.requires.a_bound.1) c.short_line.ensures (omega arith))

pub finish-requires-clause-fold_len : goal.finish-requires-clause-fold_len
finish-requires-clause-fold_len c = (c.transform.ensures.long, transformed_most c.requires.frame.0.modulus c.transform.ensures (short_up c.args.m c.args.a (unpacked_low c.requires.a_bound.3 c.unpack.ensures c.requires.a_bound.1) c.short_line.ensures (omega arith)), odd_most c.requires.frame.0.modulus c.odd_sums.ensures c.requires.a_bound.0)

pub returns : goal.returns
returns c = synthesis_by c.requires.frame.0 c.unpack.ensures c.odd_sums.ensures c.short_line.ensures c.transform.ensures c.finish.ensures
