-- The lines along each axis, added.
use borrow.Author.Rules.{rules}
use native.Mathlib.Omega.{arith}
use mathlib.Core.Path.{◌∙◌}
use Rattle.volume_transform.proofs.plan.AxisLines.{counted_lines}
use Rattle.job.proofs.Turns.{planned, lines_of_lem}
use Rattle.job.proofs.Job.line_count.Statement.{statement}
use Rattle.job.proofs.Job.line_count.Tie as tie

plan_of-requires : tie.Need-plan_of-requires
plan_of-requires c κs = search rules

line_counts-counts-requires : tie.Need-line_counts-counts-requires
line_counts-counts-requires c κs = let s = c.before in (planned s.args.self s.requires c.plan_of.ensures).sizes

overflow_add-result : tie.Need-overflow_add-result
overflow_add-result c = omega (arith, c.before.line_counts-counts.ensures.low)

overflow_add-result-2 : tie.Need-overflow_add-result-2
overflow_add-result-2 c = omega (arith, c.before.before.line_counts-counts.ensures.low)

returns : tie.Need-returns
returns c =
    let l = c.before.before in
    let s = l.before.before in
    (counted_lines l.line_counts-counts.ensures ∙ lines_of_lem s.args.self s.requires l.before.plan_of.ensures, omega (arith, l.line_counts-counts.ensures.low))

pub line_count_spec : {M : Type 1} → statement M
line_count_spec =
    tie.close
    (tie.spec plan_of-requires line_counts-counts-requires overflow_add-result overflow_add-result-2 returns)
