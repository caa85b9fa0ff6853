use Rattle.std.proofs.Common.{rules, arith}
use Rattle.numbers.proofs.Primes.{prime_most}
use Rattle.batches.proofs.DrivingLanes.{up_as}
use Rattle.folded_batches.proofs.AlternatingBefore.{odd_start, odd_next, odd_room}
use Rattle.folded_batches.proofs.alternating.before.odd_sums.Goals as goal

pub loop-t-init : goal.loop-t-init
loop-t-init c = odd_start (search rules) (λ v lv. search rules)

pub add_imaginary-requires : goal.add_imaginary-requires
add_imaginary-requires c = (up_as c.requires.modulus.2 (prime_most c.requires.modulus.0), omega arith, c.loop-t.invariant.long, odd_room c.requires.modulus.0 c.loop-t.invariant (omega arith))

pub loop-t-preserved : goal.loop-t-preserved
loop-t-preserved c = odd_next c.loop-t.invariant c.odd_place.ensures.0 c.requires.modulus.2 c.add_imaginary.ensures.0 c.add_imaginary.ensures.1
