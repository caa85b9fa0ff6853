-- Each return by the tests before it.
use borrow.Author.Tests.{not-true, not-false}
use borrow.Author.Rules.{rules}
use mathlib.Core.Path.{◌≡◌, sym, ◌∙◌}
use lib.ListN.{length}
use Rattle.scheduler.proofs.Contracts.{refuted, invalid_lanes, all_lanes, over_capacity, within_capacity}
use Rattle.scheduler.proofs.valid.judge_scheduler.Statement.{statement}
use Rattle.scheduler.proofs.valid.judge_scheduler.Tie as tie

eight : (c : tie.Start) → length c.args.s.lanes ≡ 8
eight c = c.well_formed.0.1.1.0.1.0.1

judge_lanes-all-requires : tie.Need-judge_lanes-all-requires
judge_lanes-all-requires c κs = search rules

returns-then-not-all : tie.Need-returns-then-not-all
returns-then-not-all c =
    let t = c.judge_lanes-all.ensures in
    let e = invalid_lanes c.args.s t.0 (not-true _ c.if-not-all.true) in
    (e, refuted e, t.2)

returns-then-held-gt16777216 : tie.Need-returns-then-held-gt16777216
returns-then-held-gt16777216 c =
    let s = c.args.s in
    let t = c.judge_lanes-all.ensures in
    let a = all_lanes s t.0 (not-false _ c.if-not-all.false) in
    let e = over_capacity s a (t.1 a).0 c.if-held-gt16777216.true in
    (e, refuted e, t.2)

valid_last-valid-requires : tie.Need-valid_last-valid-requires
valid_last-valid-requires c κs =
    let t = c.judge_lanes-all.ensures in
    let a = all_lanes c.args.s t.0 (not-false _ c.if-not-all.false) in
    (a, (t.1 a).1, t.3)

returns : tie.Need-returns
returns c =
    let s = c.before.before.before.before.before in
    let t = c.judge_lanes-all.ensures in
    let a = all_lanes s.args.s t.0 (not-false _ c.if-not-all.false) in
    (within_capacity s.args.s a (eight s) (t.1 a).0 c.if-held-gt16777216.false c.valid_last-valid.ensures, λ v. (t.1 a).0, t.2)

pub judge_scheduler_spec : {M : Type 1} → statement M
judge_scheduler_spec =
    tie.close
    (tie.spec judge_lanes-all-requires returns-then-not-all returns-then-held-gt16777216 valid_last-valid-requires returns)
