-- The header, then the buffers.
use mathlib.Core.Path.{refl}
use native.Mathlib.Omega.{arith}
use borrow.Author.Tests.{ltb-false}
use Rattle.refusals.proofs.Handed.{handed_number}
use Rattle.refusals.proofs.Tests.{passed}
use Rattle.header.specs.Header.{axis_tests}
use Rattle.header.proofs.Headers.{sound_sizes}
use Rattle.correlation.specs.Correlation.{header_of}
use Rattle.correlation.proofs.Tests.{header_refused, buffers_decide}
use Rattle.correlation.proofs.check.check_correlation.Goals as goal

pub check_buffers-requires : goal.check_buffers-requires
check_buffers-requires c =
    (sound_sizes (header_of (c.args.n1, c.args.n2, c.args.n3) c.args.f1.now c.args.f2.now c.args.f3.now) c.in_ok-check_header.ensures (omega arith), refl, ltb-false _ _ (passed (axis_tests (header_of (c.args.n1, c.args.n2, c.args.n3) c.args.f1.now c.args.f2.now c.args.f3.now)) tt c.in_ok-check_header.ensures).1.1.1.0)

pub returns-in_err-check_header : goal.returns-in_err-check_header
returns-in_err-check_header c =
    let a = c.args in
    handed_number _ _ c.from_residual.ensures.1 (header_refused (header_of (c.args.n1, c.args.n2, c.args.n3) c.args.f1.now c.args.f2.now c.args.f3.now) a.a.now a.b.now a.output a.work1 a.work2 a.work3 a.scratch _ c.in_err-check_header.ensures)

pub returns : goal.returns
returns c =
    let a = c.args in
    buffers_decide (header_of (c.args.n1, c.args.n2, c.args.n3) c.args.f1.now c.args.f2.now c.args.f3.now) a.a.now a.b.now a.output a.work1 a.work2 a.work3 a.scratch c.in_ok-check_header.ensures c.check_buffers.ensures
