use Rattle.output.proofs.Writing.{each_none, each_ends, each_next}
use Rattle.mrc.specs.Mrc.{row_bytes}
use Rattle.mrc.proofs.writing.put_plane.Goals as goal

pub loop-y-init : goal.loop-y-init
loop-y-init c = each_none _ _ _

pub put_row-place-requires : goal.put_row-place-requires
put_row-place-requires c = (c.requires.0, c.requires.1, c.loop-y-test.true, each_ends (row_bytes c.args.cell c.args.map.now c.args.z) c.requires.2 c.loop-y-test.true c.loop-y.invariant)

pub loop-y-preserved : goal.loop-y-preserved
loop-y-preserved c = each_next (row_bytes c.args.cell c.args.map.now c.args.z) c.loop-y.invariant c.put_row-place.ensures
