-- The powers of e(1/5) are two conjugate pairs.
use native.Mathlib.Omega.{arith}
use lib.Dec.{lit<}
use Rattle.numbers.proofs.unreduced.Unreduced.{rooms}
use Rattle.butterflies.proofs.Given.{given, given_both}
use Rattle.butterflies.proofs.quarter_turn.Powers.{root_most}
use Rattle.butterflies.proofs.Butterflies.{five_butterfly}
use Rattle.butterflies.proofs.five.Goals as goal

pub sum-requires : goal.sum-requires
sum-requires c = given_both c.requires.all_room 1 (lit< tt) 4 (lit< tt)

pub sum-all-requires : goal.sum-all-requires
sum-all-requires c =
    let m = c.args.m in
    rooms (omega arith) (omega arith) (given c.requires.all_room 0 (lit< tt) m) (c.sum.ensures m 1 1 _ _ (given c.requires.all_room 1 (lit< tt) m) (given c.requires.all_room 4 (lit< tt) m))

pub sum-requires-2 : goal.sum-requires-2
sum-requires-2 c =
    given_both c.requires.all_room 2 (lit< tt) 3 (lit< tt)

pub total-requires-clause-room : goal.total-requires-clause-room
total-requires-clause-room c =
    let m = c.args.m in
    let t = c.sum.ensures m 1 1 _ _ (given c.requires.all_room 1 (lit< tt) m) (given c.requires.all_room 4 (lit< tt) m) in
    let all = c.sum-all.ensures m 1 2 _ _ (given c.requires.all_room 0 (lit< tt) m) t in
    rooms (omega arith) (omega arith) all (c.sum-2.ensures m 1 1 _ _ (given c.requires.all_room 2 (lit< tt) m) (given c.requires.all_room 3 (lit< tt) m))

pub conjugates-requires : goal.conjugates-requires
conjugates-requires c =
    let w = root_most c.requires.modulus.1 (lit< tt) c.root_at-w.ensures c.requires.modulus.0 in
    let z = root_most c.requires.modulus.1 (lit< tt) c.root_at-z.ensures c.requires.modulus.0 in
    let given = c.requires.all_room.each in
    record { modulus = (c.requires.modulus.0, w.0, w.1, z.0, z.1); room = (given 0 (lit< tt), given 1 (lit< tt), given 2 (lit< tt), given 3 (lit< tt), given 4 (lit< tt)) }

pub conjugates-requires-2 : goal.conjugates-requires-2
conjugates-requires-2 c =
    let w = root_most c.requires.modulus.1 (lit< tt) c.root_at-w.ensures c.requires.modulus.0 in
    let z = root_most c.requires.modulus.1 (lit< tt) c.root_at-z.ensures c.requires.modulus.0 in
    let given = c.requires.all_room.each in
    record { modulus = (c.requires.modulus.0, z.0, z.1, w.0, w.1); room = (given 0 (lit< tt), given 1 (lit< tt), given 3 (lit< tt), given 2 (lit< tt), given 4 (lit< tt)) }

pub returns : goal.returns
returns c =
    let m = c.args.m in
    let t = c.sum.ensures m 1 1 _ _ (given c.requires.all_room 1 (lit< tt) m) (given c.requires.all_room 4 (lit< tt) m) in
    let all = c.sum-all.ensures m 1 2 _ _ (given c.requires.all_room 0 (lit< tt) m) t in
    let u = c.sum-2.ensures m 1 1 _ _ (given c.requires.all_room 2 (lit< tt) m) (given c.requires.all_room 3 (lit< tt) m) in
    let near = c.conjugates.ensures in
    let far = c.conjugates-2.ensures in
    five_butterfly m c.requires.modulus.1 _ _ c.root_at-w.ensures c.root_at-z.ensures (c.total.ensures 3 2 _ _ all u) near.0 far.0 far.1 near.1
