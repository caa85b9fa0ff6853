-- The sums at w and at its conjugate differ in the sign of the odd part.
use native.Mathlib.Omega.{arith}
use Rattle.butterflies.specs.Butterflies.{even_part, odd_part}
use Rattle.numbers.proofs.unreduced.Unreduced.{counted_one, room, rooms}
use Rattle.butterflies.proofs.conjugates.Goals as goal

pub weighed-requires : goal.weighed-requires
weighed-requires c =
    let m = c.args.m in
    let t = c.sum.ensures m 1 1 _ _ (counted_one m c.requires.room.1) (counted_one m c.requires.room.4) in
    let u = c.sum-2.ensures m 1 1 _ _ (counted_one m c.requires.room.2) (counted_one m c.requires.room.3) in
    (c.requires.modulus.1, c.requires.modulus.3, room 731561241608 (omega arith) t, room 731561241608 (omega arith) u)

pub sum-even-requires : goal.sum-even-requires
sum-even-requires c =
    let m = c.args.m in
    let t = c.sum.ensures m 1 1 _ _ (counted_one m c.requires.room.1) (counted_one m c.requires.room.4) in
    let u = c.sum-2.ensures m 1 1 _ _ (counted_one m c.requires.room.2) (counted_one m c.requires.room.3) in
    rooms (omega arith) (omega arith) (counted_one m c.requires.room.0) (c.weighed.ensures m 2 2 _ _ t u)

pub both_ways-requires-clause-room : goal.both_ways-requires-clause-room
both_ways-requires-clause-room c =
    let m = c.args.m in
    let t = c.sum.ensures m 1 1 _ _ (counted_one m c.requires.room.1) (counted_one m c.requires.room.4) in
    let u = c.sum-2.ensures m 1 1 _ _ (counted_one m c.requires.room.2) (counted_one m c.requires.room.3) in
    let even = c.sum-even.ensures m 1 1209596 _ _ (counted_one m c.requires.room.0) (c.weighed.ensures m 2 2 _ _ t u) in
    let odd = c.weighed-odd.ensures m 4 4 _ _ (c.difference_times_i.ensures m c.requires.modulus.0) (c.difference_times_i-2.ensures m c.requires.modulus.0) in
    rooms (omega arith) (omega arith) even odd

pub returns : goal.returns
unfolding even_part odd_part
returns c =
    let m = c.args.m in
    let t = c.sum.ensures m 1 1 _ _ (counted_one m c.requires.room.1) (counted_one m c.requires.room.4) in
    let u = c.sum-2.ensures m 1 1 _ _ (counted_one m c.requires.room.2) (counted_one m c.requires.room.3) in
    let even = c.sum-even.ensures m 1 1209596 _ _ (counted_one m c.requires.room.0) (c.weighed.ensures m 2 2 _ _ t u) in
    let odd = c.weighed-odd.ensures m 4 4 _ _ (c.difference_times_i.ensures m c.requires.modulus.0) (c.difference_times_i-2.ensures m c.requires.modulus.0) in
    c.both_ways.ensures 1209597 2419192 _ _ even odd
