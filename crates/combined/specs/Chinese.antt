-- The Chinese remainder theorem for the two primes 86,399 and 302,399: the whole number next to zero with two given
-- residues.
use Rattle.std.specs.Prelude.{◌≡◌, ◌+◌, ◌*◌, ◌-◌, ◌%◌, ◌<◌, ◌≤◌}
use Rattle.algebra.specs.Prelude.{ℕ, List, length, get_or, replicate}
use Rattle.signed.specs.Integers.{ℤ, pos, nat_abs, residue_z, centred}
use Rattle.slices.specs.Filling.{stores}

-- the largest magnitude: (86,399 * 302,399 - 1)/2
abbrev pub limit : ℕ
limit = 13063485600

-- the number below 86,399 * 302,399 with the residues x and y: 181,438 is 1/86,399 modulo 302,399
unfoldable pub common : (x y : ℕ) → ℕ
common x y = x + 86399 * ((y + 302399 - x) * 181438 % 302399)

-- the whole number next to zero that is congruent to it modulo 86,399 * 302,399
unfoldable pub combined : (x y : ℕ) → ℤ
combined x y = centred 26126971201 (common x y)

-- z has both residues, and is from -limit to limit
pub record Combines (x y : ℕ) (z : ℤ) : Type 0 where
  pub first : residue_z 86399 z ≡ x
  pub second : residue_z 302399 z ≡ y
  pub near : nat_abs z ≤ limit

-- Of two residues: combined x y is such a number, and the only one; so it is zero for zeros.
pub record CombinedOnly : Type 0 where
  pub is : (x y : ℕ) → x < 86399 → y < 302399 → Combines x y (combined x y)
  pub only : (x y : ℕ) → x < 86399 → y < 302399 → (z : ℤ) → Combines x y z → z ≡ combined x y
  pub zero : combined 0 0 ≡ pos 0

-- the list of the n numbers f 0, f 1, .., f (n - 1)
abbrev pub tabulate : (n : ℕ) (f : ℕ → ℤ) → List ℤ
tabulate n f = stores (λ j. j) f n (replicate n (pos 0))

-- two lists of residues, number by number
abbrev pub combined_numbers : (v w : List ℕ) → List ℤ
combined_numbers v w = tabulate (length v) (λ n. combined (get_or v n 0) (get_or w n 0))
