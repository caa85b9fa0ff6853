-- Refused by the check, or what is left to do with sound factors.
use native.Mathlib.Omega.{arith}
use mathlib.Core.Path.{◌∙◌, ap}
use borrow.Author.Tests.{not-false, eqb-true}
use Rattle.numbers.specs.Value.{prime}
use Rattle.numbers.proofs.Primes.{prime_pos}
use Rattle.slices.proofs.Bounds.{below_all_below}
use Rattle.refusals.proofs.Handed.{handed_on}
use Rattle.refusals.proofs.Tests.{passed}
use Rattle.cell.specs.declared.operations.UnitCell.{UnitCell}
use Rattle.output.specs.Answers.{fill_outcome}
use Rattle.job.proofs.Jobs.{valid_sizes, valid_modulus}
use Rattle.factor_file.specs.Steps.{filed_with}
use Rattle.factor_file.proofs.writer.Files.{held, held_first, write_refused, write_filed, valid_volume}
use Rattle.factor_file.proofs.writer.write_file.Goals as goal

pub returns-in_err-check_synthesis : goal.returns-in_err-check_synthesis
returns-in_err-check_synthesis c =
    let a = c.args in
    ap (λ r. fill_outcome r a.out.now) (handed_on _ _ c.from_residual.ensures.1)
    ∙ write_refused a.job a.volume.now a.out.now _ (c.in_err-check_synthesis.ensures ∙ held_first a.job a.volume.now a.out.now)

pub write_factors-requires : goal.write_factors-requires
write_factors-requires c =
    let a = c.args in
    let p = passed (held a.job a.volume.now a.out.now) tt (c.in_ok-check_synthesis.ensures ∙ held_first a.job a.volume.now a.out.now) in
    let ok = not-false _ p.0 in
    let long = eqb-true _ _ (not-false _ p.1.1.0) in
    rw c.unit_cell-cell.ensures (record { modulus = valid_modulus a.job ok; volume = record { sizes = valid_sizes a.job ok; long = long }; small = below_all_below (prime a.job.modulus) a.volume.now (prime_pos a.job.modulus) (not-false _ p.1.1.1.0) }, omega (arith, long, valid_volume a.job ok))

pub returns : goal.returns
returns c =
    let a = c.args in
    let p = passed (held a.job a.volume.now a.out.now) tt (c.in_ok-check_synthesis.ensures ∙ held_first a.job a.volume.now a.out.now) in
    write_filed a.job a.volume.now a.out.now c.write_factors.result _ p
    (c.write_factors.ensures ∙ ap (λ (k : UnitCell). filed_with a.job.modulus k a.job.a.factors a.job.b.factors a.job.c.factors a.volume.now a.out.now) c.unit_cell-cell.ensures)
