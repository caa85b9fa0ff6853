-- What the first walk says, on zeros again: refused, or what the second walk leaves.
use mathlib.Core.Path.{◌≡◌, ◌∙◌, sym, ap, subst}
use mathlib.Core.List.{List, []}
use Prim.Native.Nat.{ℕ, ◌+◌}
use lib.ListN.{replicate}
use Rattle.cell.specs.declared.operations.UnitCell.{UnitCell}
use Rattle.cell.specs.Operations.{cell_group, cell_halves, cell_lengths}
use Rattle.cell.specs.TestSteps.{IsVolume}
use Rattle.job.specs.declared.Job.{Job}
use Rattle.job.specs.Job.{job_cell}
use Rattle.refusals.proofs.Handed.{handed_on}
use Rattle.file_format.specs.Format.{records_in}
use Rattle.factor_file.specs.File.{Judgement, judged, record_all_on}
use Rattle.factor_file.specs.Marks.{IsEmpty}
use Rattle.factor_file.specs.Answers.{said_verdict, file_outcome}
use Rattle.factor_file.proofs.Openings.{feed_refused, feed_taken}
use Rattle.factor_file.proofs.records.feed_records.Goals as goal

-- what the first walk says of the job's cell
says : (file : List ℕ) (j : Job) (k : UnitCell) {b : Judgement} → b ≡ judged j.modulus k.group (cell_lengths k) [] (records_in file) → k ≡ job_cell j → b ≡ judged j.modulus (job_cell j).group (cell_lengths (job_cell j)) [] (records_in file)
says file j k e q = e ∙ ap (λ (k : UnitCell). judged j.modulus k.group (cell_lengths k) [] (records_in file)) q

same_volume : {k l : UnitCell} {v w : List ℕ} → k ≡ l → v ≡ w → IsVolume l w → IsVolume k v
same_volume {k} {l} {v} e f x = subst (λ (k : UnitCell). IsVolume k v) (sym e) (subst (IsVolume l) (sym f) x)

pub first_record-start-requires : goal.first_record-start-requires
first_record-start-requires c = c.requires.0.near

pub judge_records-verdict-requires : goal.judge_records-verdict-requires
judge_records-verdict-requires c =
    (c.first_record-start.ensures ∙ ap (λ (n : ℕ). n + 4) c.requires.0.count, c.requires.1, subst (λ (k : UnitCell). IsEmpty k c.args.volume.now) (sym c.unit_cell-cell.ensures) c.requires.2, c.requires.3)

pub record_all-requires : goal.record_all-requires
record_all-requires c =
    let w = c.zero.ensures ∙ ap (λ (n : ℕ). replicate n 0) c.judge_records-verdict.auto.marks ∙ sym c.requires.2.zeros in
    record {
      start_value = (c.first_record-start.ensures ∙ ap (λ (n : ℕ). n + 4) c.requires.0.count, c.requires.1, same_volume c.unit_cell-cell.ensures w c.requires.2.volume, c.requires.3);
      file_value = sym c.in_ok-verdict.ensures;
    }

pub returns-in_err-verdict : goal.returns-in_err-verdict
returns-in_err-verdict c =
    let a = c.args in
    let w = c.zero.ensures ∙ ap (λ (n : ℕ). replicate n 0) c.judge_records-verdict.auto.marks ∙ sym c.requires.2.zeros in
    ap (λ r. file_outcome r c.zero.new.volume) (handed_on _ _ c.from_residual.ensures.1)
    ∙ feed_refused (records_in a.file.now) a.job a.volume.now c.requires.2.zeros w _ (says a.file.now a.job _ c.in_err-verdict.ensures c.unit_cell-cell.ensures)

pub returns : goal.returns
returns c =
    let a = c.args in
    let w = c.zero.ensures ∙ ap (λ (n : ℕ). replicate n 0) c.judge_records-verdict.auto.marks ∙ sym c.requires.2.zeros in
    let k = c.unit_cell-cell.ensures in
    feed_taken (records_in a.file.now) a.job a.volume.now (says a.file.now a.job _ c.in_ok-verdict.ensures k)
    (c.record_all.ensures ∙ λ i. record_all_on (cell_group (k i)) (cell_halves (k i)) a.job.modulus (records_in a.file.now) (w i))
