use Rattle.output.proofs.Writing.{each_none, each_ends, each_next}
use Rattle.mrc.specs.Mrc.{plane_bytes}
use Rattle.mrc.proofs.writing.put_cell.Goals as goal

pub loop-z-init : goal.loop-z-init
loop-z-init c = each_none _ _ _

pub put_plane-place-requires : goal.put_plane-place-requires
put_plane-place-requires c = (c.requires.0, c.loop-z-test.true, each_ends (plane_bytes c.args.cell c.args.map.now) c.requires.1 c.loop-z-test.true c.loop-z.invariant)

pub loop-z-preserved : goal.loop-z-preserved
loop-z-preserved c = each_next (plane_bytes c.args.cell c.args.map.now) c.loop-z.invariant c.put_plane-place.ensures
