-- The two ends, and the places between.
use mathlib.Core.Path.{ap}
use Prim.Native.Nat.{ℕ, ◌*◌}
use native.Mathlib.Omega.{arith}
use lib.ListN.{get_or}
use Rattle.numbers.proofs.Values.{small_by}
use Rattle.slices.proofs.Bounds.{small_of}
use Rattle.fold_formulas.proofs.Frames.{stride_inside}
use Rattle.folds.proofs.mirror.after.Forms.{finished_zero, finished_middle, finished_between}
use Rattle.folds.proofs.mirror.after.finish_at.Goals as goal

pub returns-then-s-eq0 : goal.returns-then-s-eq0
returns-then-s-eq0 c =
    finished_zero _ _ c.args.first c.args.tan.now _ _ _ c.requires.below c.if-s-eq0.true c.get.ensures

pub difference-requires : goal.difference-requires
difference-requires c =
    (c.requires.modulus.0, small_of _ _ c.get-then-s-a.ensures c.requires.below, small_by _ _ c.sum-odds.ensures)

pub returns-then-s-a : goal.returns-then-s-a
returns-then-s-a c =
    finished_middle _ _ c.args.first c.args.tan.now _ _ _ c.requires.a_nonzero.0 c.if-s-a.true c.sum-odds.ensures c.get-then-s-a.ensures c.difference.ensures

pub finish_between-requires : goal.finish_between-requires
finish_between-requires c = (
  c.requires.modulus.0,
  c.requires.modulus.2,
  c.requires.modulus.1.below _ (stride_inside c.requires.a_nonzero.1 c.requires.a_nonzero.2 (omega arith)),
  small_of _ _ c.get-y.ensures c.requires.below,
  small_of _ _ c.get-z.ensures c.requires.below,
)

pub returns : goal.returns
returns c =
    finished_between _ _ c.args.first c.args.tan.now _ _ _ _ (omega arith) (omega arith)
    (ap (λ (k : ℕ). get_or c.args.tan.now (k * c.args.s) 0) c.requires.a_nonzero.1)
    c.get-y.ensures c.get-z.ensures c.finish_between.ensures
