use Rattle.folded_batches.proofs.AlternatingTurning.{turning_next}
use Rattle.folded_batches.proofs.alternating.turning.turn_places.Goals as goal

pub loop-s-preserved : goal.loop-s-preserved
loop-s-preserved c = turning_next c.requires.modulus.0 c.loop-s.invariant c.coefficients-k.ensures c.mixed_alone.ensures c.put_place.ensures
