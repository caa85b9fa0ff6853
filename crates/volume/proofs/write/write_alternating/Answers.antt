-- The ends are one number each of pair 0.
use native.Mathlib.Omega.{arith}
use Rattle.cell.proofs.PlaceLaws.{first_inside, middle_inside}
use Rattle.volume.proofs.write.WrittenFactors.{first_written, second_written, pair_written}
use Rattle.volume.proofs.write.write_alternating.Goals as goal

pub bounds-volume-first : goal.bounds-volume-first
bounds-volume-first c =
    omega (arith, c.requires.volume_len, first_inside c.requires.sizes.0 _ c.requires.sizes.1 c.requires.sizes.2 c.requires.sizes.3)

pub bounds-volume-first-then-j-half : goal.bounds-volume-first-then-j-half
bounds-volume-first-then-j-half c =
    omega (arith, c.requires.volume_len, first_inside c.requires.sizes.0 _ c.requires.sizes.1 c.requires.sizes.2 c.requires.sizes.3)

pub store-requires : goal.store-requires
store-requires c =
    omega (arith, c.requires.volume_len, middle_inside c.requires.sizes.0 _ c.requires.sizes.1 c.requires.sizes.2 c.requires.sizes.3 c.requires.sizes.4 c.if-j-half.false)

pub returns-then-j-eq0 : goal.returns-then-j-eq0
returns-then-j-eq0 c = first_written _ _ _ _ _ _ _ c.if-j-eq0.true c.pair_place-first.ensures.0

pub returns-then-j-half : goal.returns-then-j-half
returns-then-j-half c =
    second_written _ _ _ _ _ _ _ c.if-j-eq0.false c.if-j-half.true c.pair_place-first.ensures.0 c.alternating_part.ensures

pub returns-else-j-half : goal.returns-else-j-half
returns-else-j-half c =
    pair_written _ _ _ _ _ _ _ c.if-j-eq0.false c.if-j-half.false c.pair_place.ensures.0 c.store.ensures
