-- A record that is read passes every test, so that its images may be written.
use mathlib.Core.Path.{◌∙◌, sym, ap}
use native.Mathlib.Omega.{arith}
use lib.Dec.{ltb}
use borrow.Author.Tests.{not-false, ltb-true}
use Rattle.numbers.specs.Value.{prime}
use Rattle.refusals.proofs.Tests.{passed, both}
use Rattle.cell.specs.Operations.{cell_group, cell_halves, cell_lengths}
use Rattle.cell.specs.Consistency.{record_on}
use Rattle.job.proofs.check.Points.{within_of}
use Rattle.job.proofs.check.record.Reflections.{pair_of_numbers}
use Rattle.file_format.proofs.Reading.{record_inside, record_after}
use Rattle.factor_file.specs.File.{index_in, judge_tests}
use Rattle.factor_file.proofs.Judging.{recording_start, recording_end, recording_passes, recording_next}
use Rattle.factor_file.proofs.records.record_all.Goals as goal

pub loop-c-init : goal.loop-c-init
loop-c-init c = recording_start c.args.modulus c.args.cell c.args.file.now c.args.volume.now c.requires.start_value.0 c.requires.file_value

pub returns-in_default : goal.returns-in_default
returns-in_default c = recording_end c.loop-c.invariant c.requires.start_value.1 (sym c.in_default.is ∙ c.read_record-step.ensures.0)

pub write_images-requires : goal.write_images-requires
write_images-requires c =
    let cell = c.args.cell in
    let p = prime c.args.modulus in
    let d = c.in-Some.c in
    let r = c.loop-c.invariant in
    let t = passed (judge_tests c.args.modulus cell.group (cell_lengths cell) r.before (index_in d) d.a d.b) tt (recording_passes r c.requires.start_value.1 d (sym c.in-Some.is ∙ c.read_record-step.ensures.0) c.read_record-step.ensures.1) in
    let b = both (ltb d.a p) (ltb d.b p) (not-false _ t.1.0) in
    record {
      modulus = (c.requires.start_value.3, record { re = ltb-true _ _ b.0; im = ltb-true _ _ b.1 }, c.requires.start_value.2.sizes, within_of cell (record { h = d.h; k = d.k; l = d.l }) (not-false _ t.0));
      volume_len = c.loop-c.auto.volume ∙ c.requires.start_value.2.long;
    }

pub loop-c-smaller : goal.loop-c-smaller
loop-c-smaller c =
    let r = sym c.in-Some.is ∙ c.read_record-step.ensures.0 in
    omega (arith, record_inside _ _ c.in-Some.c r, c.read_record-step.ensures.1 ∙ record_after _ _ c.in-Some.c r)

pub loop-c-preserved : goal.loop-c-preserved
loop-c-preserved c =
    let d = c.in-Some.c in
    recording_next c.loop-c.invariant c.requires.start_value.1 d (sym c.in-Some.is ∙ c.read_record-step.ensures.0) c.read_record-step.ensures.1
    (c.write_images.ensures ∙ ap (λ z. record_on (cell_group c.args.cell) (cell_halves c.args.cell) c.args.modulus (index_in d) z c.loop-c.volume) (pair_of_numbers c.args.modulus d.a d.b))
