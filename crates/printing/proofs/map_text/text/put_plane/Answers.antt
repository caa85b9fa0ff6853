use Rattle.std.proofs.Common.{arith}
use Rattle.printing.specs.Text.{row_line}
use Rattle.output.proofs.Writing.{each_none, each_ends, each_next, each_done}
use Rattle.printing.proofs.map_text.text.put_plane.Goals as goal

pub loop-x-init : goal.loop-x-init
loop-x-init c = each_none _ _ _

pub put_row-place-requires : goal.put_row-place-requires
put_row-place-requires c =
    record {
      printable = (c.requires.printable.0, c.requires.printable.1, c.loop-x-test.true);
      ends = each_ends (row_line c.args.job c.args.volume.now c.args.z) c.requires.ends c.loop-x-test.true c.loop-x.invariant;
    }

pub loop-x-preserved : goal.loop-x-preserved
loop-x-preserved c = each_next (row_line c.args.job c.args.volume.now c.args.z) c.loop-x.invariant c.put_row-place.ensures

pub returns : goal.returns
returns c = each_done (row_line c.args.job c.args.volume.now c.args.z) (omega arith) c.loop-x-test.false c.loop-x.invariant
