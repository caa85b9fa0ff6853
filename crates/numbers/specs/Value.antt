-- The two primes, chosen by the modulus number m: 86,399 at 1 and 302,399 at 2. Both are 2,880 c - 1. At a number that
-- is no modulus stands the second prime too, as in the code: so what holds of both primes holds at every m.
use Rattle.std.specs.Prelude.{◌||◌, ◌+◌, ◌/◌, ◌≤◌}
use Rattle.algebra.specs.Prelude.{Bool, cond, eqb, ℕ}
use Rattle.algebra.specs.ring.Ring.{Ops, Res, residue, residues}
use Rattle.algebra.specs.ring.Ring as Gauss
use Rattle.numbers.specs.declared.Pair.{Pair}

unfoldable pub prime : ℕ → ℕ
prime m = cond (eqb m 1) 86399 302399

-- the paper's exponent c in r = ((a + i)/(a - i))^c
unfoldable pub exponent : ℕ → ℕ
exponent m = cond (eqb m 1) 30 105

-- The modulus numbers, as a test (refusal 26) and as what a contract asks for.
abbrev pub is_modulus : ℕ → Bool
is_modulus m = eqb m 1 || eqb m 2

pub record IsModulus (m : ℕ) : Type 0 where
  pub low : 1 ≤ m
  pub high : m ≤ 2

-- ---- Values a + b i over the residues modulo the prime that m chooses, and the pairs of numbers that hold them at run
-- time.

-- A residue of the paper, and a value: the pair (a, b) means a + b i.
abbrev pub Residue : ℕ → Type 0
Residue m = Res (prime m)

abbrev pub Value : ℕ → Type 0
Value m = Res (prime m) × Res (prime m)

abbrev pub ring : (m : ℕ) → Ops (Residue m)
ring m = residues (prime m)

abbrev pub field : (m : ℕ) → Ops (Value m)
field m = Gauss.gauss (residues (prime m))

abbrev pub conj : (m : ℕ) → Value m → Value m
conj m = Gauss.conj (residues (prime m))

abbrev pub i : (m : ℕ) → Value m
i m = Gauss.imag (residues (prime m))

-- the value a + b i of two numbers
abbrev pub value : (m a b : ℕ) → Value m
value m a b = (residue (prime m) a, residue (prime m) b)

-- 1/2 and 1/N as residues: both are exact, since 2,880 divides p + 1
unfoldable pub half : (m : ℕ) → Residue m
half m = residue (prime m) ((prime m + 1) / 2)

unfoldable pub part : (m N : ℕ) → Residue m
part m N = residue (prime m) ((prime m + 1) / N)

-- a residue as a real value
abbrev pub real : (m : ℕ) → Residue m → Value m
real m x = (x, residue (prime m) 0)

-- a definition of the algebra over these values: the operations, the conjugation, i and 1/2 are what it takes first
abbrev pub on_values {ℓ} : (m : ℕ) {T : Type ℓ} →
    (Ops (Value m) → (Value m → Value m) → Value m → Value m → T) →
    T
on_values m f = f (field m) (conj m) (i m) (real m (half m))

-- what a pair of numbers stands for, and the pair of a value: both numbers are below p
unfoldable pub value_of : (m : ℕ) → Pair → Value m
value_of m v = value m v.re v.im

unfoldable pub pair_of : {p : ℕ} → Res p × Res p → Pair
pair_of z = record { re = z.0.val; im = z.1.val }
