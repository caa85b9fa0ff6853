-- Rings: the operations over a carrier, powers and finite sums; residues, pairs of them with an i; the transform. The
-- laws are in RingLaws.
use Rattle.std.specs.Prelude.{◌≡◌, ◌+◌, ◌*◌, ◌-◌, ◌%◌}
use Rattle.algebra.specs.Prelude.{ℕ, zero, suc}
use Rattle.std.proofs.Math.Nat.{mod-mod}

pub record Ops (R : Type 0) : Type 0 where
  pub add : R → R → R
  pub mul : R → R → R
  pub neg : R → R
  pub zer : R
  pub one : R

module _ {R : Type 0} (𝓞 : Ops R) where
  open 𝓞 use {add as ◌⊕◌, mul as ◌⊗◌, zer as 𝟘, one as 𝟙}

  infixl 65 ◌⊕◌
  infixl 70 ◌⊗◌
  -- powers with a native exponent
  unfoldable pub pow : R → ℕ → R
  pow x zero = 𝟙
  pow x (suc n) = x ⊗ pow x n

  -- the sum of f 0, .., f (n - 1)
  unfoldable pub sum : ℕ → (ℕ → R) → R
  sum zero f = 𝟘
  sum (suc n) f = sum n f ⊕ f n

-- ---- Residues modulo p: numbers that are their own remainder, with operations that reduce.

pub record Res (p : ℕ) : Type 0 where
  pub val : ℕ
  pub norm : val % p ≡ val

-- the residue of a number
unfoldable pub residue : (p x : ℕ) → Res p
residue p x = record { val = x % p; norm = mod-mod x p }

unfoldable pub residues : (p : ℕ) → Ops (Res p)
residues p = record {
  add = λ a b. residue p (a.val + b.val);
  mul = λ a b. residue p (a.val * b.val);
  neg = λ a. residue p (p - a.val);
  zer = residue p 0;
  one = residue p 1;
}

-- ---- R[i], i * i = -1, as pairs.

module _ {R : Type 0} (𝓞 : Ops R) where
  open 𝓞 use {add as ◌⊕◌, mul as ◌⊗◌, neg as ⊖◌, zer as 𝟘, one as 𝟙}

  infixl 65 ◌⊕◌
  infixl 70 ◌⊗◌
  infix 75 ⊖◌
  unfoldable pub gauss : Ops (R × R)
  gauss = record {
    add = λ x y. (x.0 ⊕ y.0, x.1 ⊕ y.1);
    mul = λ x y. (x.0 ⊗ y.0 ⊕ ⊖ (x.1 ⊗ y.1), x.0 ⊗ y.1 ⊕ x.1 ⊗ y.0);
    neg = λ x. (⊖ x.0, ⊖ x.1);
    zer = (𝟘, 𝟘);
    one = (𝟙, 𝟘);
  }

  unfoldable pub conj : R × R → R × R
  conj x = (x.0, ⊖ x.1)

  unfoldable pub imag : R × R
  imag = (𝟘, 𝟙)

-- ---- The transform over a ring with a root of unity.

module _ {R : Type 0} (𝓞 : Ops R) where
  open 𝓞 use {mul as ◌⊗◌}

  infixl 70 ◌⊗◌
  -- the transform of X of length n at w
  unfoldable pub dft : ℕ → R → (ℕ → R) → ℕ → R
  dft n w X s = sum 𝓞 n (λ t. X t ⊗ pow 𝓞 w (t * s))
