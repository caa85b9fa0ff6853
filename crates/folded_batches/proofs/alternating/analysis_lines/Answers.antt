use Rattle.std.proofs.Common.{arith, ◌*◌}
use Rattle.batches.proofs.VolumeLanes.{gathered_low}
use Rattle.folded_batches.proofs.AlternatingGroups.{share_holds, analysis_group}
use Rattle.folded_batches.proofs.alternating.analysis_lines.Goals as goal

pub analysis-requires-clause-a_bound : goal.analysis-requires-clause-a_bound
analysis-requires-clause-a_bound c = (c.requires.a_bound.0, c.requires.a_bound.1, omega arith, gathered_low c.gather.ensures c.args.m c.requires.lanes_in_bounds.1 (omega arith))

pub returns : goal.returns
returns c = analysis_group c.gather.ensures c.requires.lanes_in_bounds.1 c.requires.a_bound.3 c.requires.a_bound.4 c.requires.lanes_in_bounds.0 c.analysis.ensures c.scatter.ensures (share_holds c.args.m (2 * c.args.a) c.shift.ensures c.share.ensures.0 c.mul-c.ensures)
