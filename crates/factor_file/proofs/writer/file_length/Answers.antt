-- Refused by the check, or the length of the file whose records were counted.
use native.Mathlib.Omega.{arith}
use mathlib.Core.Path.{◌≡◌, ◌∙◌, ap}
use mathlib.Core.List.{List}
use Prim.Native.Nat.{ℕ, ◌≤◌}
use lib.ListN.{length}
use borrow.Author.Tests.{not-false, eqb-true}
use Rattle.numbers.specs.Value.{prime}
use Rattle.numbers.proofs.Primes.{prime_pos}
use Rattle.slices.proofs.Bounds.{below_all_below}
use Rattle.refusals.specs.Refusals.{first}
use Rattle.refusals.proofs.Handed.{handed_on}
use Rattle.refusals.proofs.Tests.{passed}
use Rattle.cell.specs.declared.operations.UnitCell.{UnitCell}
use Rattle.job.specs.declared.Job.{Job}
use Rattle.job.specs.Job.{job_cell}
use Rattle.job.proofs.Jobs.{valid_sizes, valid_modulus}
use Rattle.factor_file.specs.Answers.{said_size}
use Rattle.factor_file.specs.File.{held_tests}
use Rattle.factor_file.specs.Steps.{IsFactors, records_with}
use Rattle.factor_file.proofs.file.RecordLaws.{admitted_few}
use Rattle.factor_file.proofs.writer.Files.{size_first, size_refused, size_told, valid_volume}
use Rattle.factor_file.proofs.writer.file_length.Goals as goal

-- where none holds, the volume holds factors, and no more of them than an opening admits
sound : (j : Job) (v : List ℕ) → 0 ≡ first (held_tests j v) → IsFactors j.modulus (job_cell j) v × (length v ≤ 16777216)
sound j v e =
    let p = passed (held_tests j v) tt e in
    let ok = not-false _ p.0 in
    let long = eqb-true _ _ (not-false _ p.1.1.0) in
    (record { modulus = valid_modulus j ok; volume = record { sizes = valid_sizes j ok; long = long }; small = below_all_below (prime j.modulus) v (prime_pos j.modulus) (not-false _ p.1.1.1.0) }, omega (arith, long, valid_volume j ok))

-- the records that were counted
counted : (j : Job) (v : List ℕ) (k : UnitCell) {n : ℕ} → n ≡ length (records_with k j.modulus v) → k ≡ job_cell j → n ≡ length (records_with (job_cell j) j.modulus v)
counted j v k e q = e ∙ ap (λ (k : UnitCell). length (records_with k j.modulus v)) q

pub returns-in_err-check_synthesis : goal.returns-in_err-check_synthesis
returns-in_err-check_synthesis c =
    ap said_size (handed_on _ _ c.from_residual.ensures.1)
    ∙ size_refused c.args.job c.args.volume.now _ (c.in_err-check_synthesis.ensures ∙ size_first c.args.job c.args.volume.now)

pub count_records-count-requires : goal.count_records-count-requires
count_records-count-requires c =
    rw c.unit_cell-cell.ensures (sound c.args.job c.args.volume.now (c.in_ok-check_synthesis.ensures ∙ size_first c.args.job c.args.volume.now)).0

pub file_length-requires : goal.file_length-requires
file_length-requires c =
    let a = c.args in
    let s = sound a.job a.volume.now (c.in_ok-check_synthesis.ensures ∙ size_first c.args.job c.args.volume.now) in
    omega (arith, counted a.job a.volume.now _ c.count_records-count.ensures c.unit_cell-cell.ensures, admitted_few s.0.volume.sizes a.job.modulus a.volume.now s.0.volume.long s.1)

pub returns : goal.returns
returns c =
    let a = c.args in
    let j = a.job in
    size_told j a.volume.now (c.in_ok-check_synthesis.ensures ∙ size_first j a.volume.now)
    (c.file_length.ensures.0 j.group j.a.length j.b.length j.c.length (records_with (job_cell j) j.modulus a.volume.now) (counted j a.volume.now _ c.count_records-count.ensures c.unit_cell-cell.ensures))
