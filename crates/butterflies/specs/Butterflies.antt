-- The butterflies of equation (3) of document 001: what a butterfly takes and gives, the values that it reads, with
-- their factors, and where a step has it read and store. Equation3.antt beside this has the parts of the equation by
-- their names.
use Rattle.std.specs.Prelude.{ℕ, ◌*◌, ◌/◌, zero, suc, ◌<◌, ◌+◌, ◌≡◌, List, length}
use Rattle.numbers.specs.declared.Pair.{Pair}
use Rattle.numbers.specs.declared.Accumulator.{Accumulator}
use Rattle.numbers.specs.Value.{Value, field, i, real, pair_of}
use Rattle.numbers.specs.Bounds.{res}
use Rattle.numbers.specs.Unreduced.{Room, meant}
use Rattle.butterflies.specs.declared.TwoPairs.{TwoPairs}
use Rattle.butterflies.specs.declared.ThreePairs.{ThreePairs}
use Rattle.butterflies.specs.declared.FourPairs.{FourPairs}
use Rattle.butterflies.specs.declared.FivePairs.{FivePairs}
use Rattle.butterflies.specs.declared.TwoSums.{TwoSums}
use Rattle.butterflies.specs.declared.ThreeSums.{ThreeSums}
use Rattle.butterflies.specs.declared.FourSums.{FourSums}
use Rattle.butterflies.specs.declared.FiveSums.{FiveSums}
use Rattle.slices.specs.Pairs.{values_of, puts}
use Rattle.butterflies.specs.Equation3.{factor, outer}
use Rattle.butterflies.specs.declared.twiddle.Places.{Places}

-- ---- What a butterfly takes and gives: B sums that are not reduced become their B outer sums, reduced.

-- the pairs in order
abbrev pub of_two : TwoPairs → ℕ → Pair
of_two v zero = v.x0
of_two v (suc b) = v.x1

abbrev pub of_three : ThreePairs → ℕ → Pair
of_three v zero = v.x0
of_three v (suc zero) = v.mates.x0
of_three v (suc (suc b)) = v.mates.x1

abbrev pub of_four : FourPairs → ℕ → Pair
of_four v zero = v.near.x0
of_four v (suc zero) = v.far.x0
of_four v (suc (suc zero)) = v.near.x1
of_four v (suc (suc (suc b))) = v.far.x1

abbrev pub of_five : FivePairs → ℕ → Pair
of_five v zero = v.x0
of_five v (suc zero) = v.near.x0
of_five v (suc (suc zero)) = v.far.x0
of_five v (suc (suc (suc zero))) = v.far.x1
of_five v (suc (suc (suc (suc b)))) = v.near.x1

-- the sums in order
abbrev pub of_two_sums : TwoSums → ℕ → Accumulator
of_two_sums v zero = v.x0
of_two_sums v (suc b) = v.x1

abbrev pub of_three_sums : ThreeSums → ℕ → Accumulator
of_three_sums v zero = v.x0
of_three_sums v (suc zero) = v.x1
of_three_sums v (suc (suc b)) = v.x2

abbrev pub of_four_sums : FourSums → ℕ → Accumulator
of_four_sums v zero = v.x0
of_four_sums v (suc zero) = v.x1
of_four_sums v (suc (suc zero)) = v.x2
of_four_sums v (suc (suc (suc b))) = v.x3

abbrev pub of_five_sums : FiveSums → ℕ → Accumulator
of_five_sums v zero = v.x0
of_five_sums v (suc zero) = v.x1
of_five_sums v (suc (suc zero)) = v.x2
of_five_sums v (suc (suc (suc zero))) = v.x3
of_five_sums v (suc (suc (suc (suc b)))) = v.x4

-- each of the first B sums is at most as large as one product of two values
pub record AllRoom (B : ℕ) (x : ℕ → Accumulator) : Type 0 where
  pub each : (b : ℕ) → b < B → Room 182890310402 (x b)

-- y are the outer sums of X
pub record Butterfly (m : ℕ) (W : Value m) (B : ℕ) (X : ℕ → Value m) (y : ℕ → Pair) : Type 0 where
  pub sums : (c : ℕ) → c < B → y c ≡ pair_of (outer (field m) W B X c)

-- The two parts of a + w b + z c + z' d + w' e, where w' and z' are the conjugates of w and z: exchanging w, z and w',
-- z' leaves the first and negates the second.
module _ (m : ℕ) (w z : Pair) where
  open field m use {add as ◌⊕◌, mul as ◌⊗◌, neg as ⊖◌}

  infixl 65 ◌⊕◌
  infixl 70 ◌⊗◌
  infix 75 ⊖◌
  unfoldable pub even_part : (a b c d e : Value m) → Value m
  even_part a b c d e = a ⊕ (real m (res m w.re) ⊗ (b ⊕ e) ⊕ real m (res m z.re) ⊗ (c ⊕ d))

  unfoldable pub odd_part : (b c d e : Value m) → Value m
  odd_part b c d e =
      real m (res m w.im) ⊗ (i m ⊗ (b ⊕ ⊖ e)) ⊕ real m (res m z.im) ⊗ (i m ⊗ (c ⊕ ⊖ d))

-- ---- The values that a butterfly of a step reads, times their factors.

-- the value for b
abbrev pub read_at : (m : ℕ) → Places → List ℕ → ℕ → Value m
read_at m p l b = values_of m l (b * p.stride + p.first)

-- The factors at these places are those of the transform's 𝐚 in a split by A and B: W^k is e(𝐚/AB).
abbrev pub FactorsOf : (A B 𝐚 : ℕ) → Places → Type 0
FactorsOf A B 𝐚 p = p.k ≡ 2880 / (A * B) * 𝐚

-- a stands for the value for b times the factor e(b𝐚/AB), and is at most as large as one product
pub record Loaded (m : ℕ) (W : Value m) (p : Places) (l : List ℕ) (b : ℕ) (a : Accumulator) : Type 0 where
  pub room : Room 182890310402 a
  pub value_is : (A B 𝐚 : ℕ) → FactorsOf A B 𝐚 p →
      meant m a ≡ factor (field m) W A B b 𝐚 (read_at m p l b)

-- ---- Where their outer sums go.

-- d with f 0, f 1, .. at the places of the first B sums
abbrev pub spread : Places → (ℕ → Pair) → (B : ℕ) → List ℕ → List ℕ
spread p f B d = puts (λ c. p.base + c * p.gap) f B d

-- d with the B outer sums at their places: the sum for 𝐛 is that over b of the value for b times its factor
unfoldable pub outer_sums : (m : ℕ) → Value m → (A B 𝐚 : ℕ) → Places → (l d : List ℕ) → List ℕ
outer_sums m W A B 𝐚 p l d =
    spread p (λ 𝐛. pair_of (outer (field m) W B (λ b. factor (field m) W A B b 𝐚 (read_at m p l b)) 𝐛)) B d

-- the B values lie inside l, and their exponents in the tables
pub record Reads (B : ℕ) (p : Places) (l : List ℕ) : Type 0 where
  pub inside : (b : ℕ) → b < B → 2 * (b * p.stride + p.first) + 1 < length l
  pub exponents : (b : ℕ) → b < B → b * p.k < 2880

-- the places of the B sums lie inside d
pub record Stores (B : ℕ) (p : Places) (d : List ℕ) : Type 0 where
  pub inside : 2 * (p.base + B * p.gap) + 1 < length d + 2 * p.gap

-- each of the first B sums stands for its value
pub record AllLoaded (m : ℕ) (W : Value m) (B : ℕ) (p : Places) (l : List ℕ)
    (x : ℕ → Accumulator) : Type 0 where
  pub each : (b : ℕ) → b < B → Loaded m W p l b (x b)
