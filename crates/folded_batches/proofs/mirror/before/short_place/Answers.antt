-- Both places as they are, or both mirror images.
use Rattle.std.proofs.Common.{arith, refl}
use Rattle.folded_batches.proofs.MirrorShort.{short_near, short_even, short_odd}
use Rattle.folded_batches.proofs.mirror.before.short_place.Goals as goal

pub returns-then-t-a : goal.returns-then-t-a
returns-then-t-a c =
    (c.add_places.ensures.long, λ X h. short_near c.args.m h c.requires.4 c.args.t c.if-t-a.true c.add_places.ensures)

pub returns-then-first-eq0 : goal.returns-then-first-eq0
returns-then-first-eq0 c =
    let even = c.add_places-then-first-eq0.ensures in
    (even.long, λ X h. short_even c.args.m h c.requires.4 c.args.t _ c.requires.2 (omega arith) refl c.if-first-eq0.true even)

pub returns-else-first-eq0 : goal.returns-else-first-eq0
returns-else-first-eq0 c =
    let odd = c.subtract_places.ensures in
    (odd.long, λ X h. short_odd c.args.m h c.requires.4 c.args.t _ c.requires.2 (omega arith) refl (omega arith) odd)
