-- The six kinds of line, as the paper's table has them: what a packed line holds before the transform and after it, and
-- what the transform is.
--
-- A line X has N = 2 A values, indices modulo N. `unfold_before` and `unfold_after` are the whole line that a packed
-- one stands for, `pack_before` and `pack_after` the pairs that are packed of a whole line. The transform, `forward`,
-- and its inverse are sums over the whole line: no fold stands here.
use Rattle.std.specs.Prelude.{◌≡◌, ◌*◌, ◌-◌, ◌/◌, ◌%◌, ◌<◌, ◌+◌}
use Rattle.algebra.specs.Prelude.{ℕ, zero, suc}
use Prim.Native.Nat.{Ordering}
use Prim.Native.Nat.{compare}
use Rattle.algebra.specs.ring.Ring.{Ops, pow, dft}

-- a value below, at and above a number
unfoldable pub three : {R : Type 0} → ℕ → ℕ → R → R → R → R
three t n a b c = elim (compare t n) [ Ordering.lt ↦ a | Ordering.eq ↦ b | Ordering.gt ↦ c ]

module _ {R : Type 0} (𝓞 : Ops R) where
  open 𝓞 use {add as ◌⊕◌, mul as ◌⊗◌, neg as ⊖◌, zer as 𝟘, one as 𝟙}

  infixl 65 ◌⊕◌
  infixl 70 ◌⊗◌
  infix 75 ⊖◌
  -- a rule for X(-t), indices modulo n
  abbrev pub Reflected : ℕ → (ℕ → R → R) → (ℕ → R) → Type 0
  Reflected n f X = (t : ℕ) → t < n → X ((n - t) % n) ≡ f t (X t)

  abbrev pub sign : ℕ → R
  sign t = pow 𝓞 (⊖ 𝟙) t

  module _ (conj : R → R) (i half : R) where
    -- the parts of a value: both are real, and z = re z + i im z
    unfoldable pub re : R → R
    re z = half ⊗ (z ⊕ conj z)

    unfoldable pub im : R → R
    im z = ⊖ (half ⊗ (i ⊗ (z ⊕ ⊖ conj z)))

-- Packed lines, as functions of the place of a pair.
module _ {R : Type 0} where
  -- the whole line from the pairs 1 .. A - 1, the values at 0 and A, and the rule for X(-t)
  unfoldable pub unfold_by : (A : ℕ) (first middle : R) (f : ℕ → R → R) (p : ℕ → R) → ℕ → R
  unfold_by A first middle f p zero = first
  unfold_by A first middle f p (suc t) = three (suc t) A (p (suc t)) middle (f (2 * A - suc t) (p (2 * A - suc t)))

  -- the pairs of a line, with pair 0 given
  unfoldable pub pack_by : R → (ℕ → R) → ℕ → R
  pack_by first X zero = first
  pack_by first X (suc t) = X (suc t)

  -- f at the even places and g at the odd ones
  unfoldable pub interleave : (f g : ℕ → R) → ℕ → R
  interleave f g s = elim (s % 2) [ zero ↦ f (s / 2) | suc k ↦ g (s / 2) ]

module _ {R : Type 0} (𝓞 : Ops R) (conj : R → R) (i half : R) (A : ℕ) where
  open 𝓞 use {one as 𝟙}

  -- 1 for even n, i for odd n
  unfoldable pub unit : ℕ → R
  unit zero = 𝟙
  unit (suc zero) = i
  unit (suc (suc n)) = unit n

-- ---- the kinds

pub data Kind : Type 0 where
  plain hermitian antihermitian alternating symmetric antisymmetric : Kind

-- how many pairs (the paper's slots) a packed line has, before and after
unfoldable pub slots : Kind → ℕ → ℕ
slots plain A = 2 * A
slots hermitian A = A
slots antihermitian A = A
slots alternating A = A
slots symmetric A = suc A
slots antisymmetric A = A - 1

module _ {R : Type 0} (𝓞 : Ops R) (conj : R → R) (i half : R) (A : ℕ) where
  open 𝓞 use {add as ◌⊕◌, mul as ◌⊗◌, neg as ⊖◌, zer as 𝟘}

  infixl 65 ◌⊕◌
  infixl 70 ◌⊗◌
  infix 75 ⊖◌
  abbrev ℜ : R → R
  ℜ z = re 𝓞 conj i half z

  abbrev ℑ : R → R
  ℑ z = im 𝓞 conj i half z

  -- The whole line from what is packed before the transform: pair t is X(t) for 0 < t < A, the rule of the kind gives
  -- X(-t). Hermitian: pair 0 holds X(0) and X(A), both real; antihermitian: their imaginary parts. Alternating: X(0),
  -- real, and the part of X(A) that can differ from 0, the real one for even A, the imaginary one for odd A. Symmetric:
  -- the pairs 0 .. A are X(0) .. X(A); antisymmetric: X(0) and X(A) are zero, pair 0 is X(1).
  unfoldable pub unfold_before : Kind → (ℕ → R) → ℕ → R
  unfold_before plain p = p
  unfold_before hermitian p = unfold_by A (ℜ (p 0)) (ℑ (p 0)) (λ t x. conj x) p
  unfold_before antihermitian p = unfold_by A (i ⊗ ℜ (p 0)) (i ⊗ ℑ (p 0)) (λ t x. ⊖ conj x) p
  unfold_before alternating p =
      unfold_by A (ℜ (p 0)) (unit 𝓞 conj i half A A ⊗ ℑ (p 0)) (λ t x. sign 𝓞 t ⊗ conj x) p
  unfold_before symmetric p = unfold_by A (p 0) (p A) (λ t x. x) p
  unfold_before antisymmetric p = unfold_by A 𝟘 𝟘 (λ t x. ⊖ x) (λ t. p (t - 1))

  -- The whole line from what is packed after it. Hermitian: N real parts, two in a pair; antihermitian: N imaginary
  -- parts. Alternating: X^(0) .. X^(A - 1), the other half is their conjugates.
  unfoldable pub unfold_after : Kind → (ℕ → R) → ℕ → R
  unfold_after plain q = q
  unfold_after hermitian q = interleave (λ s. ℜ (q s)) (λ s. ℑ (q s))
  unfold_after antihermitian q = interleave (λ s. i ⊗ ℜ (q s)) (λ s. i ⊗ ℑ (q s))
  unfold_after alternating q = λ s. three s A (q s) (conj (q (s - A))) (conj (q (s - A)))
  unfold_after symmetric q = unfold_by A (q 0) (q A) (λ t x. x) q
  unfold_after antisymmetric q = unfold_by A 𝟘 𝟘 (λ t x. ⊖ x) (λ t. q (t - 1))

  -- What is packed of a whole line, before the transform and after it.
  unfoldable pub pack_before : Kind → (ℕ → R) → ℕ → R
  pack_before plain X = X
  pack_before hermitian X = pack_by (X 0 ⊕ i ⊗ X A) X
  pack_before antihermitian X = pack_by (ℑ (X 0) ⊕ i ⊗ ℑ (X A)) X
  pack_before alternating X = pack_by (X 0 ⊕ i ⊗ (conj (unit 𝓞 conj i half A A) ⊗ X A)) X
  pack_before symmetric X = X
  pack_before antisymmetric X = λ t. X (suc t)

  unfoldable pub pack_after : Kind → (ℕ → R) → ℕ → R
  pack_after plain Z = Z
  pack_after hermitian Z = λ s. Z (2 * s) ⊕ i ⊗ Z (2 * s + 1)
  pack_after antihermitian Z = λ s. ℑ (Z (2 * s)) ⊕ i ⊗ ℑ (Z (2 * s + 1))
  pack_after alternating Z = Z
  pack_after symmetric Z = Z
  pack_after antisymmetric Z = λ s. Z (suc s)

  -- the rule that a line of each kind keeps, and the rule of its result
  abbrev pub RuleBefore : Kind → (ℕ → R) → Type 0
  RuleBefore plain X = Unit {0}
  RuleBefore hermitian X = Reflected 𝓞 (2 * A) (λ t x. conj x) X
  RuleBefore antihermitian X = Reflected 𝓞 (2 * A) (λ t x. ⊖ conj x) X
  RuleBefore alternating X = Reflected 𝓞 (2 * A) (λ t x. sign 𝓞 t ⊗ conj x) X
  RuleBefore symmetric X = Reflected 𝓞 (2 * A) (λ t x. x) X
  RuleBefore antisymmetric X = Reflected 𝓞 (2 * A) (λ t x. ⊖ x) X

  abbrev pub RuleAfter : Kind → (ℕ → R) → Type 0
  RuleAfter plain Z = Unit {0}
  RuleAfter hermitian Z = (s : ℕ) → s < 2 * A → conj (Z s) ≡ Z s
  RuleAfter antihermitian Z = (s : ℕ) → s < 2 * A → conj (Z s) ≡ ⊖ Z s
  RuleAfter alternating Z = (s : ℕ) → s < A → Z (A + s) ≡ conj (Z s)
  RuleAfter symmetric Z = RuleBefore symmetric Z
  RuleAfter antisymmetric Z = RuleBefore antisymmetric Z

  -- Direction 0: pack the sums X^(s) of X(t) e(ts/N) over all t, w = e(1/N). Direction 1: the same with e(-ts/N), times
  -- part = 1/N.
  abbrev pub forward : (w : R) → Kind → (ℕ → R) → ℕ → R
  forward w k p = pack_after k (λ s. dft 𝓞 (2 * A) w (unfold_before k p) s)

  abbrev pub inverse : (w part : R) → Kind → (ℕ → R) → ℕ → R
  inverse w part k q = pack_before k (λ t. 𝓞.mul part (dft 𝓞 (2 * A) (conj w) (unfold_after k q) t))
