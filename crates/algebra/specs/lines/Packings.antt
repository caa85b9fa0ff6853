-- The rules and the packings of the kinds that are folded, by name: what Kinds says of each.
use Rattle.std.specs.Prelude.{◌+◌, ◌*◌, ◌-◌}
use Rattle.algebra.specs.Prelude.{ℕ}
use Rattle.algebra.specs.ring.Ring.{Ops}
use Rattle.algebra.specs.lines.Kinds.{three, Reflected as reflected, sign, re, im, unfold_by, pack_by}
use Rattle.algebra.specs.lines.Kinds.{interleave, unit as unit-of}

module _ {R : Type 0} (𝓞 : Ops R) where
  open 𝓞 use {mul as ◌⊗◌, neg as ⊖◌}

  infixl 70 ◌⊗◌
  infix 75 ⊖◌
  abbrev pub Symmetric : ℕ → (ℕ → R) → Type 0
  Symmetric n X = reflected 𝓞 n (λ t x. x) X

  abbrev pub Antisymmetric : ℕ → (ℕ → R) → Type 0
  Antisymmetric n X = reflected 𝓞 n (λ t x. ⊖ x) X

  module _ (conj : R → R) where
    abbrev pub Hermitian : ℕ → (ℕ → R) → Type 0
    Hermitian n X = reflected 𝓞 n (λ t x. conj x) X

    abbrev pub AntiHermitian : ℕ → (ℕ → R) → Type 0
    AntiHermitian n X = reflected 𝓞 n (λ t x. ⊖ conj x) X

    abbrev pub Alternating : ℕ → (ℕ → R) → Type 0
    Alternating n X = reflected 𝓞 n (λ t x. sign 𝓞 t ⊗ conj x) X

module _ {R : Type 0} (𝓞 : Ops R) (conj : R → R) (i half : R) (A : ℕ) where
  open 𝓞 use {add as ◌⊕◌, mul as ◌⊗◌, neg as ⊖◌, zer as 𝟘}

  infixl 65 ◌⊕◌
  infixl 70 ◌⊗◌
  infix 75 ⊖◌
  abbrev ℜ : R → R
  ℜ z = re 𝓞 conj i half z

  abbrev ℑ : R → R
  ℑ z = im 𝓞 conj i half z

  abbrev unit : ℕ → R
  unit n = unit-of 𝓞 conj i half A n

  -- The whole line X of each folded kind from what is packed before the transform (B): pair t is X(t) for 0 < t < A.
  -- Kind 1: pair 0 holds X(0) and X(A), both real; X(-t) = conj X(t).
  abbrev pub unfold_b1 : (ℕ → R) → ℕ → R
  unfold_b1 p = unfold_by A (ℜ (p 0)) (ℑ (p 0)) (λ t x. conj x) p

  -- Kind 2: pair 0 holds the imaginary parts of X(0) and X(A); X(-t) = -conj X(t).
  abbrev pub unfold_b2 : (ℕ → R) → ℕ → R
  unfold_b2 p = unfold_by A (i ⊗ ℜ (p 0)) (i ⊗ ℑ (p 0)) (λ t x. ⊖ conj x) p

  -- Kind 3: pair 0 holds X(0), real, and the part of X(A) that can differ from 0: the real one for even A, the
  -- imaginary one for odd A; X(-t) = (-1)^t conj X(t).
  abbrev pub unfold_b3 : (ℕ → R) → ℕ → R
  unfold_b3 p = unfold_by A (ℜ (p 0)) (unit A ⊗ ℑ (p 0)) (λ t x. sign 𝓞 t ⊗ conj x) p

  -- Kind 4, before and after: pairs 0 .. A are X(0) .. X(A); X(-t) = X(t).
  abbrev pub unfold4 : (ℕ → R) → ℕ → R
  unfold4 p = unfold_by A (p 0) (p A) (λ t x. x) p

  -- Kind 5, before and after: X(0) and X(A) are zero; X(-t) = -X(t).
  abbrev pub unfold5 : (ℕ → R) → ℕ → R
  unfold5 p = unfold_by A 𝟘 𝟘 (λ t x. ⊖ x) p

  -- The whole line from what is packed after the transform (A). Kind 1: N real parts, two in a pair. Kind 2: N
  -- imaginary parts.
  abbrev pub unfold_a1 : (ℕ → R) → ℕ → R
  unfold_a1 q = interleave (λ s. ℜ (q s)) (λ s. ℑ (q s))

  abbrev pub unfold_a2 : (ℕ → R) → ℕ → R
  unfold_a2 q = interleave (λ s. i ⊗ ℜ (q s)) (λ s. i ⊗ ℑ (q s))

  -- Kind 3: X^(0) .. X^(A - 1); the other half is their conjugates, X^(s + A) = conj X^(s).
  abbrev pub unfold_a3 : (ℕ → R) → ℕ → R
  unfold_a3 q s = three s A (q s) (conj (q (s - A))) (conj (q (s - A)))

  -- The pairs of a line of each kind, before the transform ..
  abbrev pub pack_b1 : (ℕ → R) → ℕ → R
  pack_b1 X = pack_by (X 0 ⊕ i ⊗ X A) X

  abbrev pub pack_b2 : (ℕ → R) → ℕ → R
  pack_b2 X = pack_by (ℑ (X 0) ⊕ i ⊗ ℑ (X A)) X

  abbrev pub pack_b3 : (ℕ → R) → ℕ → R
  pack_b3 X = pack_by (X 0 ⊕ i ⊗ (conj (unit A) ⊗ X A)) X

  -- .. and after it
  abbrev pub pack_a1 : (ℕ → R) → ℕ → R
  pack_a1 Z s = Z (2 * s) ⊕ i ⊗ Z (2 * s + 1)

  abbrev pub pack_a2 : (ℕ → R) → ℕ → R
  pack_a2 Z s = ℑ (Z (2 * s)) ⊕ i ⊗ ℑ (Z (2 * s + 1))
