-- Pair 0 has the two places that have one number each.
use mathlib.Core.List.{List}
use Prim.Native.Nat.{ℕ}
use Rattle.algebra.specs.lines.Folds.{line3}
use Rattle.numbers.specs.Value.{Value, real, on_values}
use Rattle.numbers.specs.Bounds.{res}
use Rattle.numbers.proofs.Values.{small_by}
use Rattle.slices.specs.Pairs.{values_of}
use Rattle.folds.proofs.alternating.after.Back.{pack_even, pack_odd, pack_rest}
use Rattle.folds.proofs.alternating.after.pack_at.Goals as goal

abbrev whole : (m a part twice : ℕ) (fold : List ℕ) → ℕ → Value m
whole m a part twice fold = on_values m line3 a (real m (res m part)) (values_of m fold) (real m (res m twice))

pub times_i-requires : goal.times_i-requires
times_i-requires c = (c.requires.modulus.0, small_by c.args.m _ c.line_at-y.ensures)

pub sum-requires : goal.sum-requires
sum-requires c =
    (c.requires.modulus.0, small_by c.args.m _ c.line_at-x.ensures, small_by c.args.m _ c.times_i.ensures)

pub sum-requires-else-a-eq0 : goal.sum-requires-else-a-eq0
sum-requires-else-a-eq0 c =
    (c.requires.modulus.0, small_by c.args.m _ c.line_at-x.ensures, small_by c.args.m _ c.line_at-y.ensures)

pub returns-then-a-eq0 : goal.returns-then-a-eq0
returns-then-a-eq0 c =
    pack_even c.args.m c.args.a (whole c.args.m c.args.a c.args.part c.args.twice c.args.fold.now) c.args.t c.if-t-eq0.true c.if-a-eq0.true c.line_at-x.ensures c.line_at-y.ensures c.times_i.ensures c.sum.ensures

pub returns-else-a-eq0 : goal.returns-else-a-eq0
returns-else-a-eq0 c =
    pack_odd c.args.m c.args.a (whole c.args.m c.args.a c.args.part c.args.twice c.args.fold.now) c.args.t c.if-t-eq0.true c.if-a-eq0.false c.line_at-x.ensures c.line_at-y.ensures c.sum-else-a-eq0.ensures

pub returns-else-t-eq0 : goal.returns-else-t-eq0
returns-else-t-eq0 c = pack_rest c.args.m c.args.a (whole c.args.m c.args.a c.args.part c.args.twice c.args.fold.now) c.args.t c.if-t-eq0.false c.line_at-x.ensures
