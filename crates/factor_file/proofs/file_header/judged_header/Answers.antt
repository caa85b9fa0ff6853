-- Refused by the check, or what the header names.
use mathlib.Core.Path.{◌∙◌, ap}
use Rattle.job.specs.Job.{cell_header}
use Rattle.refusals.proofs.Handed.{handed_on}
use Rattle.factor_file.specs.Answers.{said_header}
use Rattle.factor_file.specs.HeaderRead.{named}
use Rattle.factor_file.proofs.HeadersRead.{header_unsound, header_named_lem, axes_sound}
use Rattle.factor_file.proofs.file_header.judged_header.Goals as goal

pub named-requires : goal.named-requires
named-requires c = axes_sound c.args.modulus (cell_header c.args.cell c.args.f1.now c.args.f2.now c.args.f3.now) c.args.records c.in_ok-check_opening.ensures

pub returns-in_err-check_opening : goal.returns-in_err-check_opening
returns-in_err-check_opening c =
    ap said_header (handed_on _ _ c.from_residual.ensures.1) ∙ header_unsound c.args.modulus (cell_header c.args.cell c.args.f1.now c.args.f2.now c.args.f3.now) c.args.records _ c.in_err-check_opening.ensures

pub returns : goal.returns
returns c = ap named c.named.ensures ∙ header_named_lem c.args.modulus (cell_header c.args.cell c.args.f1.now c.args.f2.now c.args.f3.now) c.args.records c.in_ok-check_opening.ensures
