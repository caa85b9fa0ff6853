-- A pair of zeros, a residue of a number, and the bounds of a pair: what contracts say beside the values.
use Rattle.std.specs.Prelude.{ℕ, ◌<◌}
use Rattle.algebra.specs.ring.Ring.{residue}
use Rattle.numbers.specs.declared.Pair.{Pair}
use Rattle.numbers.specs.Value.{prime, Residue}

abbrev pub zero_pair : Pair
zero_pair = record { re = 0; im = 0 }

abbrev pub res : (m : ℕ) → ℕ → Residue m
res m x = residue (prime m) x

-- both numbers of a pair are below p
pub record Small (p : ℕ) (v : Pair) : Type 0 where
  pub re : v.re < p
  pub im : v.im < p
