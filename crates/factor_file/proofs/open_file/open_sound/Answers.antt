-- Refused by the header, or what the records lead to.
use mathlib.Core.Path.{◌∙◌, sym, ap}
use Rattle.std.specs.Prelude.{Ok, Err}
use Rattle.refusals.proofs.Handed.{handed_on}
use Rattle.job.specs.Answers.{open_outcome}
use Rattle.factor_file.specs.Answers.{file_outcome}
use Rattle.factor_file.specs.File.{modulus_in, header_in}
use Rattle.factor_file.proofs.Openings.{header_refused, records_decide, opened_empty}
use Rattle.factor_file.proofs.open_file.open_sound.Goals as goal

pub feed_records-requires : goal.feed_records-requires
feed_records-requires c =
    let v = c.open_header.new.volume in
    let file = c.args.file.now in
    let e = opened_empty (modulus_in file) (header_in file) c.args.volume.now v _ (ap (λ r. open_outcome r v) (sym c.in_ok-job.was) ∙ c.open_header.ensures) in
    (c.requires.0, c.requires.1, e.0, e.1)

pub returns-in_err-job : goal.returns-in_err-job
returns-in_err-job c =
    let v = c.open_header.new.volume in
    ap (λ r. file_outcome r v) (handed_on _ _ c.from_residual.ensures.1)
    ∙ header_refused _ _ v c.requires.1 _ (ap (λ r. open_outcome r v) (sym c.in_err-job.was) ∙ c.open_header.ensures)

pub returns : goal.returns
returns c =
    let v = c.open_header.new.volume in
    c.feed_records.ensures ∙ records_decide _ _ v c.requires.1 _ (ap (λ r. open_outcome r v) (sym c.in_ok-job.was) ∙ c.open_header.ensures)
