-- Gathered, transformed, each place with its mate, and scattered (`HermitianRows`).
use Rattle.std.proofs.Common.{arith}
use Rattle.folded_batches.proofs.HermitianRows.{rows_low, mates_low, rows_start_low, mates_fit, transformed_fit, analysis_law}
use Rattle.folded_batches.proofs.hermitian.analysis.Goals as goal

pub transform-requires-clause-line_len : goal.transform-requires-clause-line_len
transform-requires-clause-line_len c =
    let p = c.requires in
    (c.gather.ensures.long, p.line_len.0, rows_start_low p.frame.0.modulus (rows_low c.args.m p.lanes_bound.2 c.gather.ensures))

pub mate_places-requires-clause-from_len : goal.mate_places-requires-clause-from_len
mate_places-requires-clause-from_len c =
    let f = c.requires.frame.0 in
    (c.transform.ensures.long, omega arith, transformed_fit f.modulus c.transform.ensures (rows_start_low f.modulus (rows_low c.args.m c.requires.lanes_bound.2 c.gather.ensures)))

pub scatter-requires-clause-modulus : goal.scatter-requires-clause-modulus
scatter-requires-clause-modulus c =
    let f = c.requires.frame.0 in
    (f.modulus, c.last_factor-c.ensures.0, c.mate_places.ensures.long, mates_fit f.modulus (mates_low c.mate_places.ensures))

pub returns : goal.returns
returns c =
    let p = c.requires.lanes_bound in
    analysis_law c.requires.frame.0 c.args.lanes p.0 c.args.rows.now p.1 c.gather.ensures c.transform.ensures c.mate_places.ensures c.scatter.ensures c.last_factor-c.ensures.1
