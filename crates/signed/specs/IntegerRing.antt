-- The whole numbers as a ring, and what a whole number is in any ring.
use Rattle.algebra.specs.Prelude.{suc}
use Rattle.std.specs.Prelude.{ℤ, pos, negsuc, neg_ℤ, ◌+ℤ◌, ◌*ℤ◌}
use Rattle.algebra.specs.ring.Ring.{Ops}
use Rattle.algebra.specs.fourier.Axis.{cast}

unfoldable pub integers : Ops ℤ
integers = record { add = ◌+ℤ◌; mul = ◌*ℤ◌; neg = neg_ℤ; zer = pos 0; one = pos 1 }

-- n times 1, or its negative
unfoldable pub numeral : {R : Type 0} → Ops R → ℤ → R
numeral 𝓞 (pos n) = cast 𝓞 n
numeral 𝓞 (negsuc n) = 𝓞.neg (cast 𝓞 (suc n))
