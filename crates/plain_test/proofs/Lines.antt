-- Lists of factors by a test, and lines of the generator.
use mathlib.Core.Bool.{Bool, true, ◌&&◌}
use mathlib.Core.List.{List, [], ◌∷◌}
use Prim.Native.Nat.{ℕ, ◌<◌}
use native.Mathlib.Omega.{arith}
use lib.Dec.{T, leb, leb→le}
use lib.Ieee.Fits.{and_l, and_r}
use lib.ListN.{length, get_or}
use Rattle.numbers.specs.Value.{prime}
use Rattle.numbers.proofs.Primes.{prime_pos, prime_least}
use Rattle.slices.specs.Pairs.{Below}
use Rattle.slices.proofs.Bounds.{below_each}
use Rattle.lengths.specs.Lengths.{octal, product}
use Rattle.lengths.specs.Admitted.{none, one, Factored, Factors}
use Rattle.lengths.proofs.stage.Factoring.{packed}

unfoldable pub two_to_five : List ℕ → Bool
two_to_five [] = true
two_to_five (f ∷ l) = (leb 2 f && leb f 5) && two_to_five l

factors_of_lem : (l : List ℕ) → T (two_to_five l) → Factors l
unfolding two_to_five
factors_of_lem [] h = none
factors_of_lem (f ∷ l) h =
    let digit : T (leb 2 f && leb f 5) = and_l (leb 2 f && leb f 5) (two_to_five l) h in
    one (leb→le 2 f (and_l (leb 2 f) (leb f 5) digit)) (leb→le f 5 (and_r (leb 2 f) (leb f 5) digit)) (factors_of_lem l (and_r (leb 2 f && leb f 5) (two_to_five l) h))

pub listed : (l : List ℕ) → T (two_to_five l) → Factored (octal l) (product l)
listed l h = packed (factors_of_lem l h)

-- every number of the generator is a residue
pub generated : (m : ℕ) {l : List ℕ} → ((k : ℕ) → k < length l → get_or l k 0 < 86399) → Below (prime m) l
generated m {l} h = below_each (prime m) l (prime_pos m) (λ k lt. omega (arith, h k lt, prime_least m))
