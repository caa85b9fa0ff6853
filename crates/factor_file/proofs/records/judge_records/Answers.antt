-- A record that is read stands in the file; it is taken, or the walk ends with it.
use mathlib.Core.Path.{◌≡◌, ◌∙◌, sym, ap}
use native.Mathlib.Omega.{arith}
use Rattle.refusals.specs.Checks.{checked_number}
use Rattle.file_format.specs.Format.{count_at}
use Rattle.file_format.proofs.integers.Numbers.{four_bytes_fit}
use Rattle.file_format.proofs.Reading.{record_inside, record_after}
use Rattle.factor_file.proofs.Walking.{record_left}
use Rattle.factor_file.proofs.Judging.{none_marked, judging_start, judging_end, judging_next, judging_refused}
use Rattle.factor_file.proofs.records.judge_records.Goals as goal

pub loop-c-init : goal.loop-c-init
loop-c-init c = judging_start c.args.modulus c.args.cell c.args.file.now c.requires.0 (none_marked _ _ _ c.requires.2.zeros)

pub returns-in_default : goal.returns-in_default
returns-in_default c = judging_end c.loop-c.invariant c.requires.1 (sym c.in_default.is ∙ c.read_record-step.ensures.0)

pub judge_record-requires : goal.judge_record-requires
judge_record-requires c =
    (record { sizes = c.requires.2.volume.sizes; long = c.loop-c.auto.marks ∙ c.requires.2.volume.long }, c.requires.3)

pub returns-in-Err : goal.returns-in-Err
returns-in-Err c =
    let s = c.loop-c.invariant in
    judging_refused s c.requires.1 c.in-Some.c (sym c.in-Some.is ∙ c.read_record-step.ensures.0) c.read_record-step.ensures.1 c.in-Err.refusal
    (ap checked_number (sym c.in-Err.is) ∙ (c.judge_record.ensures s.before s.marked).0)

pub overflow_add-place : goal.overflow_add-place
overflow_add-place c =
    let file = c.args.file.now in
    let left = record_left c.loop-c.invariant.walked c.requires.1 c.in-Some.c (sym c.in-Some.is ∙ c.read_record-step.ensures.0) in
    omega (arith, left, four_bytes_fit file (count_at file) (λ i. omega (arith, c.type_inv.file i)))

pub loop-c-smaller : goal.loop-c-smaller
loop-c-smaller c =
    let r = sym c.in-Some.is ∙ c.read_record-step.ensures.0 in
    omega (arith, record_inside _ _ c.in-Some.c r, c.read_record-step.ensures.1 ∙ record_after _ _ c.in-Some.c r)

pub loop-c-preserved : goal.loop-c-preserved
loop-c-preserved c =
    let s = c.loop-c.invariant in
    let e = c.judge_record.ensures s.before s.marked in
    let sound = ap checked_number c.in_default-judge_record.is in
    judging_next s c.requires.1 c.in-Some.c (sym c.in-Some.is ∙ c.read_record-step.ensures.0) c.read_record-step.ensures.1 (sym sound ∙ e.0) (e.1 sound)
