-- The coefficients, and the lanes with them.
use Rattle.fold_formulas.specs.FoldFormulas.{line_root}
use Rattle.folded_batches.proofs.Mates.{end_place_lem, mates_place, line_power}
use Rattle.folded_batches.proofs.hermitian.mates.mate_place.Goals as goal

pub returns-then-t-eq0 : goal.returns-then-t-eq0
returns-then-t-eq0 c =
    end_place_lem c.args.m c.args.direction c.args.b _ c.if-t-eq0.true c.end_mix-k.ensures c.mixed_alone.ensures

pub returns-else-t-eq0 : goal.returns-else-t-eq0
returns-else-t-eq0 c =
    let a = c.args in
    mates_place a.m a.direction a.b (line_root a.m a.b a.re.now a.im.now) c.if-t-eq0.false (line_power a.m a.b a.re.now a.im.now a.t c.requires.step_value.0) c.mates_mix-k.ensures c.mixed.ensures
