-- `rising_places`: the theorem of proofs/Rising.
use Rattle.volume_transform.proofs.Rising.{rising_places}
use Rattle.volume_transform.proofs.rising_places.Goals as goal

pub returns : goal.returns
returns c = rising_places
