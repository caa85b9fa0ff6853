-- Place by place.
use Rattle.std.proofs.Common.{arith}
use Rattle.slices.proofs.Rows.{row_end}
use Rattle.batches.proofs.VolumeLanes.{scattering_next}
use Rattle.batches.proofs.gathering.scatter.Goals as goal

pub loop-j-preserved : goal.loop-j-preserved
loop-j-preserved c =
    let few = c.requires.modulus.2 in
    let wide = c.requires.modulus.3 in (
      scattering_next c.loop-j.volume c.loop-j.invariant.0 c.reduce_place.ensures c.put_place.ensures few wide (omega (arith, row_end c.args.stride c.loop-j-test.true)),
      c.reduce_place.ensures.long,
    )
