-- Not stored, or the lower of the two.
use Rattle.volume.proofs.orbit_place.OrbitPlaceLaws.{not_stored, own_lower, other_lower}
use Rattle.volume.proofs.orbit_place.lower_place.Goals as goal

pub returns-then-not-is_stored : goal.returns-then-not-is_stored
returns-then-not-is_stored c = not_stored _ _ _ _ c.is_stored.ensures c.if-not-is_stored.true

pub returns-then-own-place : goal.returns-then-own-place
returns-then-own-place c =
    own_lower _ _ _ _ c.is_stored.ensures c.if-not-is_stored.false c.number_place-own.ensures c.if-own-place.true

pub returns-else-own-place : goal.returns-else-own-place
returns-else-own-place c =
    other_lower _ _ _ _ c.is_stored.ensures c.if-not-is_stored.false c.number_place-own.ensures c.if-own-place.false
