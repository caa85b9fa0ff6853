-- `cell::same_place`: the theorem of proofs/OrbitPlaces.
use Rattle.cell.proofs.OrbitPlaces.{same_places}
use Rattle.cell.proofs.same_place.Goals as goal

pub returns : goal.returns
returns c = same_places
