-- Gathered, each place with its mate, transformed and scattered (`HermitianRows`).
use Rattle.numbers.specs.Bounds.{res}
use Rattle.numbers.proofs.Residues.{below_by}
use Rattle.batches.proofs.LastReduction.{shift_holds}
use Rattle.batches.proofs.GroupLaw.{transformed_low}
use Rattle.folded_batches.proofs.HermitianRows.{rows_low, mates_low, rows_fit, mates_start_low, synthesis_law}
use Rattle.folded_batches.proofs.hermitian.synthesis.Goals as goal

pub mate_places-requires-clause-from_len : goal.mate_places-requires-clause-from_len
mate_places-requires-clause-from_len c =
    let p = c.requires in
    (c.gather.ensures.long, p.line_len.1, rows_fit p.frame.0.modulus (rows_low c.args.m p.lanes_bound.2 c.gather.ensures))

pub transform-requires-clause-line_len : goal.transform-requires-clause-line_len
transform-requires-clause-line_len c =
    let h = c.mate_places.ensures in
    (h.long, c.gather.ensures.long, mates_start_low c.requires.frame.0.modulus (mates_low h))

pub scatter-requires-clause-modulus : goal.scatter-requires-clause-modulus
scatter-requires-clause-modulus c =
    let f = c.requires.frame.0 in
    (f.modulus, below_by c.args.m (res c.args.m 4294967296) c.shift-c.ensures, c.transform.ensures.long, transformed_low f.modulus c.transform.ensures (mates_start_low f.modulus (mates_low c.mate_places.ensures)))

pub returns : goal.returns
returns c =
    let p = c.requires.lanes_bound in
    synthesis_law c.requires.frame.0 c.args.lanes p.0 c.args.rows.now p.1 c.gather.ensures c.mate_places.ensures c.transform.ensures c.scatter.ensures (shift_holds c.args.m c.shift-c.ensures)
