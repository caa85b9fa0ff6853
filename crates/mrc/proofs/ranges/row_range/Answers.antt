use Rattle.std.proofs.Common.{List, ℕ, ◌+◌, refl, get_or, ℤ, pos, arith, rules}
use Rattle.mrc.proofs.Densities.{spans_first, spans_next, spans_single}
use Rattle.mrc.proofs.ranges.row_range.Goals as goal

abbrev number : List ℤ → ℕ → (ℤ → ℤ → ℤ) → ℕ → ℤ
number map start pick y = get_or map (start + y) (pos 0)

pub loop-y-init : goal.loop-y-init
loop-y-init c = spans_first (number c.args.map.now c.args.start) (spans_single c.args.map.now c.args.start (c.args.start + 0) (omega arith) (search rules) c.single-range.ensures)

pub loop-y-preserved : goal.loop-y-preserved
loop-y-preserved c =
    spans_next c.loop-y.y (number c.args.map.now c.args.start) c.loop-y.invariant
    (spans_single c.args.map.now (c.args.start + c.loop-y.y) (c.args.start + c.loop-y.y) refl (search rules) c.single.ensures)
    c.joined-range.ensures
