-- Refused by the opening, or what is printed of its job.
use mathlib.Core.Path.{◌≡◌, sym, ap, ◌∙◌}
use mathlib.Core.List.{List}
use Prim.Native.Nat.{ℕ}
use Rattle.std.specs.Prelude.{Result, Ok}
use Rattle.job.specs.declared.Job.{Job}
use Rattle.job.specs.Job.{OpenOutcome, opened}
use Rattle.factor_file.specs.declared.FileRefusal.{FileRefusal}
use Rattle.factor_file.specs.Answers.{file_outcome}
use Rattle.printing.specs.Text.{put_text, opened_text}
use Rattle.output.specs.Output.{FillOutcome}
use Rattle.printing.proofs.Opened.{opened_synthesis}
use Rattle.printing.proofs.printer.print_opened.Goals as goal

-- the text of an outcome, by its answer
told : {r a : Result Job FileRefusal} {v : List ℕ} {o : OpenOutcome} (out : List ℕ) → file_outcome r v ≡ o → r ≡ a → put_text (opened_text (file_outcome a v)) out ≡ put_text (opened_text o) out
told {v = v} out e q = ap (λ (a : Result Job FileRefusal). put_text (opened_text (file_outcome a v)) out) (sym q) ∙ ap (λ (o : OpenOutcome). put_text (opened_text o) out) e

-- an answer that is a job
opened_by : {r : Result Job FileRefusal} {j : Job} {v : List ℕ} {o : OpenOutcome} → file_outcome r v ≡ o → r ≡ Ok j → o ≡ record { answer = opened j; volume = v }
opened_by {v = v} e q = sym e ∙ ap (λ (a : Result Job FileRefusal). file_outcome a v) q

pub print_job-requires : goal.print_job-requires
print_job-requires c = opened_synthesis c.args.file.now c.args.volume.now _ _ (opened_by c.open_file.ensures c.in-Ok.is)

pub returns-in-Ok : goal.returns-in-Ok
returns-in-Ok c = c.print_job.ensures ∙ told c.args.out.now c.open_file.ensures c.in-Ok.is

pub returns-in-Err : goal.returns-in-Err
returns-in-Err c = c.refusal_text.ensures ∙ told c.args.out.now c.open_file.ensures c.in-Err.is
