-- e(1/3) and e(2/3) are conjugate.
use native.Mathlib.Omega.{arith}
use lib.Dec.{lit<}
use Rattle.numbers.proofs.unreduced.Unreduced.{room, rooms}
use Rattle.butterflies.proofs.Given.{given, given_both}
use Rattle.butterflies.proofs.quarter_turn.Powers.{root_most}
use Rattle.butterflies.proofs.Butterflies.{three_butterfly}
use Rattle.butterflies.proofs.three.Goals as goal

pub sum-t-requires : goal.sum-t-requires
sum-t-requires c = given_both c.requires.all_room 1 (lit< tt) 2 (lit< tt)

pub scaled-requires : goal.scaled-requires
scaled-requires c =
    let m = c.args.m in
    let t = c.sum-t.ensures m 1 1 _ _ (given c.requires.all_room 1 (lit< tt) m) (given c.requires.all_room 2 (lit< tt) m) in
    ((root_most c.requires.modulus.1 (lit< tt) c.root_at-w.ensures c.requires.modulus.0).0, room 731561241608 (omega arith) t)

pub sum-even-requires : goal.sum-even-requires
sum-even-requires c =
    let m = c.args.m in
    let t = c.sum-t.ensures m 1 1 _ _ (given c.requires.all_room 1 (lit< tt) m) (given c.requires.all_room 2 (lit< tt) m) in
    rooms (omega arith) (omega arith) (given c.requires.all_room 0 (lit< tt) m) (c.scaled.ensures m 2 _ t)

pub difference_times_i-requires : goal.difference_times_i-requires
difference_times_i-requires c =
    (c.requires.all_room.each 1 (lit< tt), c.requires.all_room.each 2 (lit< tt))

pub scaled-odd-requires : goal.scaled-odd-requires
scaled-odd-requires c =
    ((root_most c.requires.modulus.1 (lit< tt) c.root_at-w.ensures c.requires.modulus.0).1, room 731561241608 (omega arith) (c.difference_times_i.ensures c.args.m c.requires.modulus.0))

pub total-requires-clause-room : goal.total-requires-clause-room
total-requires-clause-room c =
    let m = c.args.m in
    let t = c.sum-t.ensures m 1 1 _ _ (given c.requires.all_room 1 (lit< tt) m) (given c.requires.all_room 2 (lit< tt) m) in
    rooms (omega arith) (omega arith) (given c.requires.all_room 0 (lit< tt) m) t

pub both_ways-requires-clause-room : goal.both_ways-requires-clause-room
both_ways-requires-clause-room c =
    let m = c.args.m in
    let t = c.sum-t.ensures m 1 1 _ _ (given c.requires.all_room 1 (lit< tt) m) (given c.requires.all_room 2 (lit< tt) m) in
    let even = c.sum-even.ensures m 1 604798 _ _ (given c.requires.all_room 0 (lit< tt) m) (c.scaled.ensures m 2 _ t) in
    let odd = c.scaled-odd.ensures m 4 _ (c.difference_times_i.ensures m c.requires.modulus.0) in
    rooms (omega arith) (omega arith) even odd

pub returns : goal.returns
returns c =
    let m = c.args.m in
    let a = given c.requires.all_room 0 (lit< tt) m in
    let t = c.sum-t.ensures m 1 1 _ _ (given c.requires.all_room 1 (lit< tt) m) (given c.requires.all_room 2 (lit< tt) m) in
    let even = c.sum-even.ensures m 1 604798 _ _ a (c.scaled.ensures m 2 _ t) in
    let odd = c.scaled-odd.ensures m 4 _ (c.difference_times_i.ensures m c.requires.modulus.0) in
    let mates = c.both_ways.ensures 604799 1209596 _ _ even odd in
    three_butterfly m c.requires.modulus.1 _ _ c.root_at-w.ensures (c.total.ensures 1 2 _ _ a t) mates.0 mates.1
