use Rattle.std.proofs.Common.{arith, refl}
use Rattle.std.proofs.Math.Seq.{length-take-le}
use Rattle.numbers.proofs.Primes.{prime_most}
use Rattle.batches.proofs.DrivingLanes.{up_as}
use Rattle.fold_formulas.proofs.Frames.{half_divides}
use Rattle.folded_batches.proofs.AlternatingAnalysis.{angled_up, taken_up, twice_most, transformed_up, analysis_by}
use Rattle.folded_batches.proofs.alternating.analysis.Goals as goal

pub turn_places-requires-clause-fold_len : goal.turn_places-requires-clause-fold_len
turn_places-requires-clause-fold_len c = (omega arith, up_as c.requires.a_bound.3 (omega (arith, prime_most c.requires.frame.0.modulus)))

pub take_first-requires : goal.take_first-requires
take_first-requires c = let up = angled_up c.args.m c.args.a c.args.rotated c.args.tan.now c.args.fold.now c.turn_places.ensures (omega arith) in (c.requires.frame.0.modulus, omega (arith, c.requires.frame.0.positive), up, refl)

pub transform-requires-clause-factored : goal.transform-requires-clause-factored
transform-requires-clause-factored c = (c.requires.frame.3, half_divides c.requires.frame.0)

pub transform-requires-clause-line_len : goal.transform-requires-clause-line_len
transform-requires-clause-line_len c = let up = angled_up c.args.m c.args.a c.args.rotated c.args.tan.now c.args.fold.now c.turn_places.ensures (omega arith) in (omega arith, length-take-le _ _ (omega arith), taken_up c.args.m c.args.a (omega arith) up c.take_first.ensures)

pub whole_line-requires-clause-modulus : goal.whole_line-requires-clause-modulus
whole_line-requires-clause-modulus c = let up = angled_up c.args.m c.args.a c.args.rotated c.args.tan.now c.args.fold.now c.turn_places.ensures (omega arith) in (c.requires.frame.0.modulus, c.requires.frame.0.positive, omega arith, transformed_up c.transform.ensures (taken_up c.args.m c.args.a (omega arith) up c.take_first.ensures), twice_most c.args.m c.requires.frame.0.modulus up c.take_first.ensures)

pub returns : goal.returns
returns c = analysis_by c.args.tan.now c.requires.frame.0 c.args.rotated c.args.fold.now (omega arith) c.turn_places.ensures c.take_first.ensures c.transform.ensures c.whole_line.ensures (omega arith) c.pack.ensures
