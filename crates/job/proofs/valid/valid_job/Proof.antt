-- The group, the modulus, the header and the state in turn.
use borrow.Author.Rules.{rules}
use mathlib.Core.Path.{◌≡◌, ◌∙◌, sym, ap, subst}
use Prim.Native.Nat.{◌<◌}
use lib.Dec.{eqb}
use Rattle.lengths.specs.Lengths.{octal_digits}
use mathlib.Core.Bool.{true}
use Rattle.numbers.specs.Value.{is_modulus}
use Rattle.refusals.specs.Refusals.{first}
use Rattle.refusals.proofs.Tests.{by_true, by_false}
use Rattle.cell.specs.declared.operations.UnitCell.{UnitCell}
use Rattle.job.specs.Job.{cell_header, axis_tests, header_of}
use Rattle.job.proofs.Jobs.{invalid_group, invalid_modulus, invalid_header, valid_state}
use Rattle.job.proofs.valid.valid_job.Statement.{statement}
use Rattle.job.proofs.valid.valid_job.Tie as tie

returns-then-job-ge5 : tie.Need-returns-then-job-ge5
returns-then-job-ge5 c = invalid_group c.args.job c.if-job-ge5.true

is_modulus-requires : tie.Need-is_modulus-requires
is_modulus-requires c κs = search rules

returns-then-not-is_modulus : tie.Need-returns-then-not-is_modulus
returns-then-not-is_modulus c = invalid_modulus c.args.job c.if-job-ge5.false (by_false _ _ c.is_modulus.ensures c.if-not-is_modulus.true)

-- the modulus is 1 or 2
known : (c : tie.Else-not-is_modulus) → is_modulus c.args.job.modulus ≡ true
known c = by_true _ _ c.is_modulus.ensures c.if-not-is_modulus.false

unit_cell-requires : tie.Need-unit_cell-requires
unit_cell-requires c κs = search rules

-- what the header's test says of the job
told : (c : tie.After-valid_header) → c.valid_header.result ≡ eqb (first (axis_tests (header_of c.args.job))) 0
told c =
    let j = c.args.job in
    c.valid_header.ensures ∙ ap (λ (k : UnitCell). eqb (first (axis_tests (cell_header k (octal_digits j.a.factors) (octal_digits j.b.factors) (octal_digits j.c.factors)))) 0) c.unit_cell.ensures

valid_header-requires : tie.Need-valid_header-requires
valid_header-requires c κs = subst (λ (k : UnitCell). k.group < 5) (sym c.unit_cell.ensures) c.if-job-ge5.false

returns-then-not-valid_header : tie.Need-returns-then-not-valid_header
returns-then-not-valid_header c =
    let k = c.before.before.before in
    invalid_header k.args.job k.if-job-ge5.false (known k) (told c.before) c.if-not-valid_header.true

returns : tie.Need-returns
returns c =
    let k = c.before.before.before.before in
    valid_state k.args.job k.if-job-ge5.false (known k) (told c.before.before) c.if-not-valid_header.false

pub valid_job_spec : {M : Type 1} → statement M
valid_job_spec =
    tie.close
    (tie.spec returns-then-job-ge5 is_modulus-requires returns-then-not-is_modulus unit_cell-requires valid_header-requires returns-then-not-valid_header returns)
