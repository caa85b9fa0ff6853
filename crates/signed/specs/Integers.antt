-- Whole numbers with a sign, and their residues.
use Rattle.std.specs.Prelude.{◌≡◌, ◌-◌, ◌/◌, ◌%◌, ◌<◌, ◌≤◌}
use Rattle.algebra.specs.Prelude.{cond, leb, ℕ, suc}
pub use Rattle.std.specs.Prelude.{ℤ, pos, negsuc, nat_abs, ◌+ℤ◌, ◌*ℤ◌}

-- the residue of a whole number modulo p; negsuc n is -(n + 1)
unfoldable pub residue_z : (p : ℕ) → ℤ → ℕ
residue_z p (pos n) = n % p
residue_z p (negsuc n) = p - suc (n % p)

-- the whole number next to 0 that is congruent to x modulo an odd p, for an x below p: x itself in the lower half, x -
-- p in the upper
unfoldable pub centred : (p x : ℕ) → ℤ
centred p x = cond (leb x (p / 2)) (pos x) (negsuc (p - suc x))

-- z is congruent to x modulo p, and its magnitude is at most (p - 1)/2, which is p / 2 for an odd p
pub record Centre (p x : ℕ) (z : ℤ) : Type 0 where
  pub congruent : residue_z p z ≡ x
  pub near : nat_abs z ≤ p / 2

-- Of an odd p and a residue x: centred p x is such a number, and the only one; so it is zero for zero.
pub record CentredOnly : Type 0 where
  pub is : (p x : ℕ) → p % 2 ≡ 1 → x < p → Centre p x (centred p x)
  pub only : (p x : ℕ) → p % 2 ≡ 1 → x < p → (z : ℤ) → Centre p x z → z ≡ centred p x
  pub zero : (p : ℕ) → centred p 0 ≡ pos 0

-- ---- division rounded down: of -(t + 1) by n the quotient is -(t / n + 1) and the remainder n - 1 - t % n

abbrev pub floor_quotient : ℤ → ℕ → ℤ
floor_quotient (pos t) n = pos (t / n)
floor_quotient (negsuc t) n = negsuc (t / n)

abbrev pub floor_remainder : ℤ → ℕ → ℕ
floor_remainder (pos t) n = t % n
floor_remainder (negsuc t) n = n - suc (t % n)

-- z is the quotient times n and the remainder, which is from 0 to n - 1
pub record FloorDivided (z : ℤ) (n : ℕ) : Type 0 where
  pub whole : z ≡ floor_quotient z n *ℤ pos n +ℤ pos (floor_remainder z n)
  pub below : floor_remainder z n < n

abbrev pub FloorDivision : Type 0
FloorDivision = (z : ℤ) (n : ℕ) → 1 ≤ n → FloorDivided z n
