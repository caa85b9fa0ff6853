use Rattle.std.proofs.Common.{arith, ◌*◌}
use Rattle.std.proofs.Math.Seq.{length-take-le}
use Rattle.numbers.specs.Bounds.{res}
use Rattle.numbers.proofs.Residues.{below_by}
use Rattle.batches.proofs.LastReduction.{shift_holds}
use Rattle.folded_batches.proofs.AlternatingGroups.{gathered_front, gathered_packed, reducible, synthesis_group}
use Rattle.folded_batches.proofs.alternating.synthesis_lines.Goals as goal

pub synthesis-requires-clause-a_bound : goal.synthesis-requires-clause-a_bound
synthesis-requires-clause-a_bound c = (c.requires.a_bound.0, omega arith, c.requires.a_bound.2, gathered_packed (gathered_front c.gather.ensures (omega (arith, length-take-le (32 * c.args.a) c.args.line.now (omega arith))) _) c.requires.lanes_in_bounds.1)

pub scatter-requires-clause-modulus : goal.scatter-requires-clause-modulus
scatter-requires-clause-modulus c = (c.requires.frame.0.modulus, below_by c.args.m (res c.args.m 4294967296) c.shift-c.ensures, c.requires.a_bound.3, c.requires.a_bound.4, c.synthesis.ensures.long, reducible c.requires.frame.0.modulus c.synthesis.ensures.low)

pub returns : goal.returns
returns c = synthesis_group (gathered_front c.gather.ensures (omega (arith, length-take-le (32 * c.args.a) c.args.line.now (omega arith))) _) c.requires.lanes_in_bounds.1 c.requires.a_bound.3 c.requires.a_bound.4 c.requires.lanes_in_bounds.0 c.synthesis.ensures c.scatter.ensures (shift_holds c.args.m c.shift-c.ensures)
