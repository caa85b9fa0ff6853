-- Refused by the check, or a job of the header: collecting in a cleared volume, or with the volume as its map.
use mathlib.Core.Path.{◌∙◌, ap}
use Rattle.refusals.proofs.Handed.{handed_on}
use Rattle.job.specs.Answers.{open_outcome}
use Rattle.job.proofs.check.Openings.{header_passed}
use Rattle.job.proofs.Openings.{open_refused, open_collects, open_map}
use Rattle.job.proofs.open.open.Goals as goal

pub opened-requires : goal.opened-requires
opened-requires c = header_passed c.args.modulus _ c.args.kind c.args.volume.now c.in_ok-check_open.ensures

pub opened-requires-else-kind-eq0 : goal.opened-requires-else-kind-eq0
opened-requires-else-kind-eq0 c = header_passed c.args.modulus _ c.args.kind c.args.volume.now c.in_ok-check_open.ensures

pub returns-in_err-check_open : goal.returns-in_err-check_open
returns-in_err-check_open c =
    ap (λ r. open_outcome r c.args.volume.now) (handed_on _ _ c.from_residual.ensures.1)
    ∙ open_refused c.args.modulus (record { group = c.args.group; lengths = (c.args.n1, c.args.n2, c.args.n3); list1 = c.args.f1.now; list2 = c.args.f2.now; list3 = c.args.f3.now }) c.args.kind c.args.volume.now _ c.in_err-check_open.ensures

pub returns-then-kind-eq0 : goal.returns-then-kind-eq0
returns-then-kind-eq0 c =
    open_collects c.args.modulus (record { group = c.args.group; lengths = (c.args.n1, c.args.n2, c.args.n3); list1 = c.args.f1.now; list2 = c.args.f2.now; list3 = c.args.f3.now }) c.args.kind c.args.volume.now _ _ c.in_ok-check_open.ensures c.if-kind-eq0.true c.opened.ensures c.zero.ensures

pub returns-else-kind-eq0 : goal.returns-else-kind-eq0
returns-else-kind-eq0 c =
    open_map c.args.modulus (record { group = c.args.group; lengths = (c.args.n1, c.args.n2, c.args.n3); list1 = c.args.f1.now; list2 = c.args.f2.now; list3 = c.args.f3.now }) c.args.kind c.args.volume.now _ c.in_ok-check_open.ensures c.if-kind-eq0.false c.opened-else-kind-eq0.ensures
