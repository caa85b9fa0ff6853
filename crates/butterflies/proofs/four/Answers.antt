-- e(1/2) is -1, and e(1/4) is one quarter turn.
use Prim.Native.Nat.{ℕ}
use native.Mathlib.Omega.{arith}
use lib.Dec.{lit<}
use Rattle.algebra.specs.ring.Ring.{pow}
use Rattle.numbers.specs.Value.{Value, field}
use Rattle.roots.specs.Table.{table_root}
use Rattle.butterflies.specs.declared.FourSums.{FourSums}
use Rattle.numbers.specs.Unreduced.{meant}
use Rattle.numbers.proofs.unreduced.Unreduced.{rooms}
use Rattle.butterflies.proofs.Given.{given, given_both}
use Rattle.butterflies.proofs.Butterflies.{four_butterfly}
use Rattle.butterflies.proofs.four.Goals as goal

pub sum-requires : goal.sum-requires
sum-requires c = given_both c.requires.all_room 0 (lit< tt) 2 (lit< tt)

pub sum-requires-2 : goal.sum-requires-2
sum-requires-2 c = given_both c.requires.all_room 1 (lit< tt) 3 (lit< tt)

-- what the quarter turn gives
abbrev quarter_4 : (m : ℕ) → Value m → FourSums → Value m
quarter_4 m W v = (field m).mul (pow (field m) W 720) ((field m).add (meant m v.x1) ((field m).neg (meant m v.x3)))

pub both_ways-near-requires-clause-room : goal.both_ways-near-requires-clause-room
both_ways-near-requires-clause-room c =
    let m = c.args.m in
    let even = c.sum.ensures m 1 1 _ _ (given c.requires.all_room 0 (lit< tt) m) (given c.requires.all_room 2 (lit< tt) m) in
    let odd = c.sum-2.ensures m 1 1 _ _ (given c.requires.all_room 1 (lit< tt) m) (given c.requires.all_room 3 (lit< tt) m) in
    rooms (omega arith) (omega arith) even odd

pub apart-requires : goal.apart-requires
apart-requires c =
    (given_both c.requires.all_room 0 (lit< tt) 2 (lit< tt))

pub difference_times_quarter-requires-clause-room : goal.difference_times_quarter-requires-clause-room
difference_times_quarter-requires-clause-room c =
    (c.requires.all_room.each 1 (lit< tt), c.requires.all_room.each 3 (lit< tt))

pub both_ways-far-requires-clause-room : goal.both_ways-far-requires-clause-room
both_ways-far-requires-clause-room c =
    let m = c.args.m in
    let W = table_root m c.args.re.now c.args.im.now in
    let away = c.apart.ensures m 1 1 _ _ c.requires.modulus.0 (given c.requires.all_room 0 (lit< tt) m) (given c.requires.all_room 2 (lit< tt) m) in
    rooms {b = quarter_4 m W c.args.v} (omega arith) (omega arith) away c.difference_times_quarter.ensures

pub returns : goal.returns
returns c =
    let m = c.args.m in
    let a = given c.requires.all_room 0 (lit< tt) m in
    let b = given c.requires.all_room 2 (lit< tt) m in
    let odd = c.sum-2.ensures m 1 1 _ _ (given c.requires.all_room 1 (lit< tt) m) (given c.requires.all_room 3 (lit< tt) m) in
    let near = c.both_ways-near.ensures 2 2 _ _ (c.sum.ensures m 1 1 _ _ a b) odd in
    let W = table_root m c.args.re.now c.args.im.now in
    let far = c.both_ways-far.ensures 2428553 4 _ (quarter_4 m W c.args.v) (c.apart.ensures m 1 1 _ _ c.requires.modulus.0 a b) c.difference_times_quarter.ensures in
    four_butterfly m c.requires.modulus.1 _ _ near.0 far.0 near.1 far.1
