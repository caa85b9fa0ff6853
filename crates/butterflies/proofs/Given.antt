-- What a butterfly is given: sums that are no larger than one product each.
use Prim.Native.Nat.{ℕ, ◌<◌}
use native.Mathlib.Omega.{arith}
use Rattle.numbers.specs.declared.Accumulator.{Accumulator}
use Rattle.numbers.specs.Unreduced.{Accumulated, meant, Room}
use Rattle.numbers.proofs.unreduced.Unreduced.{counted_one, rooms}
use Rattle.butterflies.specs.Butterflies.{AllRoom}

module _ {B : ℕ} {x : ℕ → Accumulator} (h : AllRoom B x) (b : ℕ) (l : b < B) where
  pub given : (m : ℕ) → Accumulated m 1 (x b) (meant m (x b))
  given m = counted_one m (h.each b l)

  pub given_both : (c : ℕ) → c < B → Room 500000000000000000 (x b) × Room 444158510417000000 (x c)
  given_both c r = rooms (omega arith) (omega arith) (counted_one 1 (h.each b l)) (counted_one 1 (h.each c r))
