-- The check is that of the record at the place.
use mathlib.Core.Path.{◌≡◌, sym, ◌∙◌, ap}
use mathlib.Core.Bool.{Bool, true, false, not}
use Prim.Native.Nat.{ℕ}
use Rattle.std.specs.Prelude.{Result}
use Rattle.std.specs.Result.{is_err}
use Rattle.refusals.specs.declared.Refusal.{Refusal}
use Rattle.refusals.specs.Refusals.{first}
use Rattle.refusals.specs.Checks.{checked_number}
use Rattle.refusals.proofs.Handed.{failed_number, passed_number}
use Rattle.refusals.proofs.Tests.{not_zero}
use Rattle.cell.specs.Operations.{cell_lengths}
use Rattle.job.specs.Job.{own_tests}
use Rattle.file_format.specs.declared.FileRecord.{FileRecord}
use Rattle.factor_file.specs.File.{index_in}
use Rattle.faults.specs.FaultSteps.{own_number}
use Rattle.faults.proofs.sound_at.Goals as goal

-- a check that says Ok has found no test that holds, and one that says Err has
sound : (r : Result (Unit {0}) Refusal) (b : Bool) (n : ℕ) → is_err r ≡ not b → checked_number r ≡ n → (b ≡ true → 0 ≡ n) × (b ≡ false → n ≡ 0 → ⊥)
sound r b n e q = (λ t. sym (passed_number r (e ∙ ap not t)) ∙ q, λ f z. let x = failed_number r (e ∙ ap not f) in not_zero x.0 (sym x.1 ∙ q ∙ z))

pub returns : goal.returns
unfolding own_number
returns c =
    let a = c.args in
    sound c.check_own.result c.is_ok.result _ c.is_ok.ensures.negation
    (c.check_own.ensures ∙ ap (λ (r : FileRecord). first (own_tests a.modulus a.cell.group (cell_lengths a.cell) (index_in r) r.a r.b)) c.standing_record-c.ensures)
