-- Two values and a product, summed and reduced once.
use native.Mathlib.Omega.{arith}
use Rattle.numbers.proofs.Primes.{small_most}
use Rattle.numbers.proofs.unreduced.Unreduced.{counted_one, rooms, stands_for}
use Rattle.numbers.proofs.unreduced.plus_product.Goals as goal

pub of_pair-requires : goal.of_pair-requires
of_pair-requires c = small_most c.requires.0 c.requires.1

pub of_pair-requires-2 : goal.of_pair-requires-2
of_pair-requires-2 c = small_most c.requires.0 c.requires.2

pub total-requires-clause-room : goal.total-requires-clause-room
total-requires-clause-room c =
    let m = c.args.m in
    rooms (omega arith) (omega arith) (c.sum.ensures m 1 1 _ _ (counted_one m c.of_pair.ensures.0) (counted_one m c.of_pair-2.ensures.0))
    (counted_one m c.product.ensures.0)

pub returns : goal.returns
returns c =
    let m = c.args.m in
    c.total.ensures 2 1 _ _
    (c.sum.ensures m 1 1 _ _ (stands_for c.of_pair.ensures.0 (c.of_pair.ensures.1 m)) (stands_for c.of_pair-2.ensures.0 (c.of_pair-2.ensures.1 m)))
    (stands_for c.product.ensures.0 c.product.ensures.1)
