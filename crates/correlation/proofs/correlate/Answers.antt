-- Refused by the check, or correlated.
use mathlib.Core.Path.{◌≡◌, sym, ◌∙◌, ap, subst}
use Rattle.refusals.proofs.Handed.{handed_on}
use Rattle.header.proofs.Headers.{sound_lists}
use Rattle.correlation.specs.declared.modulo.Axes.{Axes}
use Rattle.correlation.specs.Correlation.{header_of}
use Rattle.correlation.specs.Steps.{axes_of, SoundAxes}
use Rattle.correlation.specs.Answers.{buffers, correlation_outcome}
use Rattle.correlation.proofs.Tests.{sound}
use Rattle.correlation.proofs.Outcome.{refused_outcome, accepted_outcome}
use Rattle.correlation.proofs.correlate.Goals as goal

pub packed-requires : goal.packed-requires
packed-requires c = let l = (sound_lists (header_of (c.args.n1, c.args.n2, c.args.n3) c.args.f1.now c.args.f2.now c.args.f3.now) (sound (c.args.n1, c.args.n2, c.args.n3) c.args.f1.now c.args.f2.now c.args.f3.now c.args.a.now c.args.b.now _ _ _ _ _ c.in_ok-check_correlation.ensures).header).0 in record { factors_value = l.0; factors_bound = l.1 }

pub packed-requires-2 : goal.packed-requires-2
packed-requires-2 c = let l = (sound_lists (header_of (c.args.n1, c.args.n2, c.args.n3) c.args.f1.now c.args.f2.now c.args.f3.now) (sound (c.args.n1, c.args.n2, c.args.n3) c.args.f1.now c.args.f2.now c.args.f3.now c.args.a.now c.args.b.now _ _ _ _ _ c.in_ok-check_correlation.ensures).header).1 in record { factors_value = l.0; factors_bound = l.1 }

pub packed-requires-3 : goal.packed-requires-3
packed-requires-3 c = let l = (sound_lists (header_of (c.args.n1, c.args.n2, c.args.n3) c.args.f1.now c.args.f2.now c.args.f3.now) (sound (c.args.n1, c.args.n2, c.args.n3) c.args.f1.now c.args.f2.now c.args.f3.now c.args.a.now c.args.b.now _ _ _ _ _ c.in_ok-check_correlation.ensures).header).2 in record { factors_value = l.0; factors_bound = l.1 }

pub correlate_sound-requires : goal.correlate_sound-requires
correlate_sound-requires c =
    let a = c.args in
    let k = (sound (c.args.n1, c.args.n2, c.args.n3) c.args.f1.now c.args.f2.now c.args.f3.now c.args.a.now c.args.b.now _ _ _ _ _ c.in_ok-check_correlation.ensures) in
    let l = k.long in
    let same : record { n1 = a.n1; n2 = a.n2; n3 = a.n3; f1 = c.packed.result; f2 = c.packed-2.result; f3 = c.packed-3.result } ≡ axes_of (a.n1, a.n2, a.n3) a.f1.now a.f2.now a.f3.now =
    λ i. record { n1 = a.n1; n2 = a.n2; n3 = a.n3; f1 = c.packed.ensures i; f2 = c.packed-2.ensures i; f3 = c.packed-3.ensures i } in record {
      sound_axes = (subst (λ (x : Axes). SoundAxes x) (sym same) k.axes, k.within, k.room);
      a_len = (l.a_long, l.b_long, l.output_long);
      work1_len = (l.work1_long, l.work2_long, l.work3_long);
    }

pub returns-in_err-check_correlation : goal.returns-in_err-check_correlation
returns-in_err-check_correlation c =
    ap (λ r. correlation_outcome r (buffers c.args.output.now c.args.work1.now c.args.work2.now c.args.work3.now c.args.scratch.now)) (handed_on _ _ c.from_residual.ensures.1)
    ∙ refused_outcome (header_of (c.args.n1, c.args.n2, c.args.n3) c.args.f1.now c.args.f2.now c.args.f3.now) c.args.a.now c.args.b.now (buffers c.args.output.now c.args.work1.now c.args.work2.now c.args.work3.now c.args.scratch.now) _ c.in_err-check_correlation.ensures

pub returns : goal.returns
returns c =
    let e = c.correlate_sound.ensures in
    accepted_outcome (header_of (c.args.n1, c.args.n2, c.args.n3) c.args.f1.now c.args.f2.now c.args.f3.now) c.args.a.now c.args.b.now (buffers c.args.output.now c.args.work1.now c.args.work2.now c.args.work3.now c.args.scratch.now) c.in_ok-check_correlation.ensures (sound (c.args.n1, c.args.n2, c.args.n3) c.args.f1.now c.args.f2.now c.args.f3.now c.args.a.now c.args.b.now _ _ _ _ _ c.in_ok-check_correlation.ensures).long.output_long e.0 e.1 e.2 e.3 e.4
