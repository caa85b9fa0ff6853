-- A prime of the papers' shape, p + 1 = 2,880 c, and its root r = ((a + i)/(a - i))^c: all that the transform facts use
-- of them.
use Rattle.std.specs.Prelude.{◌≡◌, ℕ, ◌+◌, ◌*◌, ◌/◌, ◌%◌, ◌≤◌, ◌<◌}
use Rattle.algebra.specs.ring.Ring.{Ops, pow, Res, residue, residues}
use Rattle.algebra.specs.ring.Ring as Gauss
use Rattle.prime_shape.specs.Prime.{Prime}

-- Values a + b i over the residues modulo p.
abbrev pub Value : ℕ → Type 0
Value p = Res p × Res p

module _ (p : ℕ) where
  abbrev pub field : Ops (Value p)
  field = Gauss.gauss (residues p)

  abbrev pub conj : Value p → Value p
  conj = Gauss.conj (residues p)

  abbrev pub i : Value p
  i = Gauss.imag (residues p)

  -- a number as a real value, and 1/N, which is exact where N divides p + 1
  abbrev pub number : ℕ → Value p
  number x = (residue p x, residue p 0)

  abbrev pub part : ℕ → Value p
  part N = number ((p + 1) / N)

  open field use {add as ◌⊕◌, mul as ◌⊗◌, neg as ⊖◌, one as 𝟙}

  infixl 65 ◌⊕◌
  infixl 70 ◌⊗◌
  infix 75 ⊖◌
  infixl 80 ◌^◌
  abbrev ◌^◌ : Value p → ℕ → Value p
  z ^ k = pow field z k

  -- z has order exactly n: z^n = 1, and a power of z is 1 only where n divides the exponent
  pub record OrderIs (n : ℕ) (z : Value p) : Type 0 where
    pub cycle : z ^ n ≡ 𝟙
    pub only : (k : ℕ) → z ^ k ≡ 𝟙 → k % n ≡ 0

  -- z is ((a + i)/(a - i))^c
  pub record Candidate (c a : ℕ) (z : Value p) : Type 0 where
    pub inverse : Value p
    pub inverts : (number a ⊕ ⊖ i) ⊗ inverse ≡ 𝟙
    pub power : z ≡ ((number a ⊕ i) ⊗ inverse) ^ c

  -- what the paper asks of the root: order exactly 2,880 and the quarter turn -i
  pub record Suits (z : Value p) : Type 0 where
    pub order : OrderIs 2880 z
    pub quarter : z ^ 720 ≡ ⊖ i

  -- r is ((a + i)/(a - i))^c for the least a from 1 upward for which that suits
  pub record LeastChoice (c a : ℕ) (r : Value p) : Type 0 where
    pub candidate : Candidate c a r
    pub suits : Suits r
    pub least : (b : ℕ) → 1 ≤ b → b < a → (z : Value p) → Candidate c b z → Suits z → ⊥

-- The shape. That a is the least is no part of it: the transform facts hold for every a that suits.
pub record Shape (p c a : ℕ) (r : Value p) : Type 0 where
  pub is_prime : Prime p
  pub next : p + 1 ≡ 2880 * c
  pub candidate : Candidate p c a r
  pub suits : Suits p r
