-- The four passes (`batch_turned`).
use Rattle.std.proofs.Common.{◌∙◌, ◌*◌, arith, length-take-le}
use Rattle.roots.specs.Table.{table_root}
use Rattle.folds.specs.FoldedLines.{whole_line}
use Rattle.folded_batches.proofs.MirrorGroups.{lent_back, short_low, turned_low, batch_turned}
use Rattle.folded_batches.proofs.mirror.turn_batch.Goals as goal

pub transform-requires-clause-line_len : goal.transform-requires-clause-line_len
transform-requires-clause-line_len c =
    let p = c.requires.first_bound in
    let long = c.short_lines.auto.fold ∙ p.2 in
    (long, length-take-le (32 * c.args.a) c.args.line.now (omega arith), short_low long p.4 c.short_lines.ensures)

pub finish-requires-clause-up_to : goal.finish-requires-clause-up_to
finish-requires-clause-up_to c =
    let a = c.args in
    let p = c.requires.first_bound in (
      c.odd_sums-odds.ensures.low,
      turned_low {W = table_root a.m a.re.now a.im.now} (short_low (c.short_lines.auto.fold ∙ p.2) p.4 c.short_lines.ensures) c.transform.ensures,
      c.transform.ensures.long,
      lent_back a.a a.line.now c.transform.new.work p.1 (c.transform.auto.work ∙ length-take-le (32 * a.a) a.line.now (omega arith)),
    )

pub returns : goal.returns
returns c =
    let a = c.args in
    let p = c.requires.first_bound in
    λ L h. batch_turned a.m a.a a.first a.re.now a.im.now a.tan.now c.requires.frame.0 p.0 L
    (c.short_lines.ensures (λ v. whole_line a.m a.a a.first (L v)) h) c.transform.ensures
    (c.finish.ensures _ (λ even v lv. c.odd_sums-odds.ensures.is even (λ v. whole_line a.m a.a a.first (L v)) h v lv))
    (c.finish.auto.line ∙ lent_back a.a a.line.now c.transform.new.work p.1 (c.transform.auto.work ∙ length-take-le (32 * a.a) a.line.now (omega arith)))
