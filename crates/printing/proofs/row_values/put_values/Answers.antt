use Rattle.std.proofs.Common.{ℕ, List, ◌+◌, get_or, arith}
use lib.Dec.{ltb}
use borrow.Author.Tests.{ltb-true}
use Rattle.algebra.proofs.cells.Passing.{passed_at}
use Rattle.output.proofs.Writing.{each_none, each_ends, each_next, each_done}
use Rattle.printing.specs.Text.{value_text}
use Rattle.printing.proofs.row_values.put_values.Goals as goal

abbrev field : ℕ → List ℕ → ℕ → ℕ → List ℕ
field p volume start y = value_text p (get_or volume (start + y) 0)

pub loop-y-init : goal.loop-y-init
loop-y-init c = each_none _ _ _

pub put_value-place-requires : goal.put_value-place-requires
put_value-place-requires c =
    let v = c.args.volume.now in
    record {
      value_lt_p = (ltb-true _ _ (passed_at (λ y. ltb (get_or v (c.args.start + y) 0) c.args.p) c.args.n c.loop-y.y c.requires.n_in_bounds.1 c.loop-y-test.true), c.requires.n_in_bounds.2);
      ends = each_ends (field c.args.p v c.args.start) c.requires.ends c.loop-y-test.true c.loop-y.invariant;
    }

pub loop-y-preserved : goal.loop-y-preserved
loop-y-preserved c = each_next (field c.args.p c.args.volume.now c.args.start) c.loop-y.invariant c.put_value-place.ensures

pub returns : goal.returns
returns c = each_done (field c.args.p c.args.volume.now c.args.start) (omega arith) c.loop-y-test.false c.loop-y.invariant
