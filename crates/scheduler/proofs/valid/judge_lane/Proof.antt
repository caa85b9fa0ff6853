-- Each return by the tests before it.
use borrow.Author.Rules.{rules}
use native.Mathlib.Omega.{arith}
use mathlib.Core.Path.{sym, ◌∙◌}
use Rattle.refusals.proofs.Tests.{by_true}
use Rattle.scheduler.proofs.LaneFacts.{held_none, served_idle}
use Rattle.scheduler.proofs.Contracts.{blank_valid, invalid_lane, mapped_lane, impossible, begun_lane, whole_lane}
use Rattle.scheduler.proofs.valid.judge_lane.Statement.{statement}
use Rattle.scheduler.proofs.valid.judge_lane.Tie as tie

is_blank-requires : tie.Need-is_blank-requires
is_blank-requires c κs = search rules

returns-then-lane-eq0 : tie.Need-returns-then-lane-eq0
returns-then-lane-eq0 c =
    let l = c.args.lane in
    let z = c.if-lane-eq0.true in
    (c.is_blank.ensures ∙ blank_valid l z, λ v. (sym (held_none l z), sym (served_idle l z)), omega arith, omega arith)

valid_job-requires : tie.Need-valid_job-requires
valid_job-requires c κs = search rules

returns-then-not-valid_job : tie.Need-returns-then-not-valid_job
returns-then-not-valid_job c =
    let l = c.args.lane in
    impossible l (invalid_lane l c.if-lane-eq0.false c.valid_job.ensures c.if-not-valid_job.true)

returns-then-job-eq2 : tie.Need-returns-then-job-eq2
returns-then-job-eq2 c =
    let l = c.args.lane in
    impossible l (mapped_lane l c.if-lane-eq0.false c.valid_job.ensures c.if-not-valid_job.false c.if-job-eq2.true)

line_count-lines-requires : tie.Need-line_count-lines-requires
line_count-lines-requires c κs = by_true _ _ c.valid_job.ensures c.if-not-valid_job.false

volume_of-held-requires : tie.Need-volume_of-held-requires
volume_of-held-requires c κs = by_true _ _ c.valid_job.ensures c.if-not-valid_job.false

returns-then-lane-lines : tie.Need-returns-then-lane-lines
returns-then-lane-lines c =
    begun_lane c.args.lane c.if-lane-eq0.false c.valid_job.ensures c.if-not-valid_job.false c.if-job-eq2.false c.line_count-lines.ensures c.volume_of-held.ensures.0 c.volume_of-held.ensures.1 c.if-lane-lines.true

returns : tie.Need-returns
returns c =
    whole_lane c.args.lane c.if-lane-eq0.false c.valid_job.ensures c.if-not-valid_job.false c.if-job-eq2.false c.line_count-lines.ensures c.volume_of-held.ensures.0 c.volume_of-held.ensures.1 c.if-lane-lines.false

pub judge_lane_spec : {M : Type 1} → statement M
judge_lane_spec =
    tie.close
    (tie.spec is_blank-requires returns-then-lane-eq0 valid_job-requires returns-then-not-valid_job returns-then-job-eq2 line_count-lines-requires volume_of-held-requires returns-then-lane-lines returns)
