-- The product so far is at most the whole one.
use native.Mathlib.Omega.{arith}
use mathlib.Core.Path.{◌≡◌, sym, ap}
use Prim.Native.Nat.{ℕ, ◌+◌, ◌*◌}
use lib.Dec.{eqb}
use borrow.Author.Tests.{ne_eqb}
use Rattle.lengths.specs.Lengths.{product}
use Rattle.lengths.proofs.Factors.{product_next, product_least, product_done}
use Rattle.lengths.proofs.has_product.Goals as goal

pub returns-then-n-done : goal.returns-then-n-done
returns-then-n-done c =
    let f = c.args.factors.now in
    let l = c.loop-factor in
    let p = product_next f l.factor-index l.done c.from-done.result c.loop-factor-test.true c.from-done.ensures l.invariant.1 in
    sym (ne_eqb (product f) c.args.n (λ e. omega (arith, product_least f (l.factor-index + 1) (l.done * c.from-done.result) c.requires.factors_value p, c.if-n-done.true)))

pub loop-factor-preserved : goal.loop-factor-preserved
loop-factor-preserved c =
    let f = c.args.factors.now in
    let l = c.loop-factor in
    (omega arith, product_next f l.factor-index l.done c.from-done.result c.loop-factor-test.true c.from-done.ensures l.invariant.1)

pub returns : goal.returns
returns c =
    let l = c.loop-factor in
    ap (λ (x : ℕ). eqb x c.args.n) (sym (product_done c.args.factors.now l.factor-index l.done c.loop-factor-test.false l.invariant.1))
