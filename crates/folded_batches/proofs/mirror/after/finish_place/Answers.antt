-- The two ends, and the places between.
use Rattle.std.proofs.Common.{◌≡◌, arith, refl}
use Rattle.folded_batches.proofs.MirrorFinish.{first_block, middle_block, between_block}
use Rattle.folded_batches.proofs.mirror.after.finish_place.Goals as goal

pub returns-then-s-eq0 : goal.returns-then-s-eq0
returns-then-s-eq0 c =
    let a = c.args in
    let p = c.requires in
    (c.add_places.ensures.long, λ o sums. first_block a.m a.a a.first a.tan.now a.fold.now o p.modulus.0 p.modulus.3 c.if-s-eq0.true p.up_to.1 c.add_places.ensures)

pub returns-then-s-a : goal.returns-then-s-a
returns-then-s-a c =
    let a = c.args in
    let p = c.requires in
    let even : a.first ≡ 0 = omega arith in
    (c.middle.ensures.long, λ o sums. middle_block a.m a.a a.first a.tan.now a.fold.now o a.odds.now p.modulus.0 p.modulus.3 c.if-s-a.true p.up_to.1 p.up_to.0 (sums even) c.middle.ensures)

pub returns : goal.returns
returns c =
    let a = c.args in
    (c.mixed.ensures.long, λ o sums. between_block a.m a.a a.first a.tan.now a.fold.now o _ c.requires.modulus.0 (omega arith) (omega arith) refl c.coefficients-k.ensures c.mixed.ensures)
