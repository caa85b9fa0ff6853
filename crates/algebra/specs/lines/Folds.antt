-- What the folds compute: the short line of A points from the packed half, and the packed half from the short
-- transform. No reader of the line's promise needs this page: the proofs say that each fold gives the sum over the
-- whole line.
use Rattle.std.specs.Prelude.{ℕ, zero, suc, ◌+◌, ◌*◌, ◌-◌}
use Rattle.algebra.specs.ring.Ring.{Ops, pow}
use Rattle.algebra.specs.lines.Kinds.{re, im, three, interleave}

-- the mate of a place: A - t, indices modulo A
unfoldable pub mate : ℕ → ℕ → ℕ
mate A zero = 0
mate A (suc t) = A - suc t

module _ {R : Type 0} (𝓞 : Ops R) where
  open 𝓞 use {add as ◌⊕◌, mul as ◌⊗◌, neg as ⊖◌, zer as 𝟘, one as 𝟙}

  infixl 65 ◌⊕◌
  infixl 70 ◌⊗◌
  infix 75 ⊖◌
  -- kind 2: pairs 1 .. A - 1 times c
  unfoldable pub inner_times : R → (ℕ → R) → ℕ → R
  inner_times c p zero = p 0
  inner_times c p (suc t) = c ⊗ p (suc t)

  -- kind 3: X(2t) + i X(2t + 1); kinds 4 and 5: X(2t) + X(2t + 1)
  unfoldable pub alternating_point : (i : R) (X : ℕ → R) → ℕ → R
  alternating_point i X t = X (2 * t) ⊕ i ⊗ X (2 * t + 1)

  unfoldable pub mirror_point : (X : ℕ → R) → ℕ → R
  mirror_point X t = X (2 * t) ⊕ X (2 * t + 1)

  -- kinds 4 and 5: y and z at the places s and A - s of the short transform; th is i tau or -i tau
  unfoldable pub mirror_value : (half σ th y z : R) → R
  mirror_value half σ th y z = half ⊗ ((y ⊕ σ ⊗ z) ⊕ th ⊗ (y ⊕ ⊖ (σ ⊗ z)))

  -- the places 0 .. A, from the short transform y and the sum o of the line's odd places
  unfoldable pub finish : (half : R) (A : ℕ) (th : ℕ → R) (σ : R) (y : ℕ → R) (o : R) → ℕ → R
  finish half A th σ y o zero = y 0
  finish half A th σ y o (suc s) =
      three (suc s) A (mirror_value half σ (th (suc s)) (y (suc s)) (y (A - suc s))) (y 0 ⊕ ⊖ (o ⊕ o)) 𝟘

  -- from two half tangents
  module _ (half : R) (A : ℕ) (tau : ℕ → R) where
    unfoldable pub csc : ℕ → R
    csc s = half ⊗ (tau s ⊕ tau (A - s))

    unfoldable pub cot : ℕ → R
    cot s = half ⊗ (tau (A - s) ⊕ ⊖ tau s)

  module _ (conj : R → R) (i half : R) (A : ℕ) where
    abbrev ℜ : R → R
    ℜ z = re 𝓞 conj i half z

    abbrev ℑ : R → R
    ℑ z = im 𝓞 conj i half z

    -- kind 1, forward: Y = R + i S of x = X(t) and y = X(A + t), e = e(t/N)
    unfoldable pub hermitian_point : (e x y : R) → R
    hermitian_point e x y = (x ⊕ y) ⊕ i ⊗ (e ⊗ (x ⊕ ⊖ y))

    -- at t = 0 the mate of X(0) is X(A), which shares its pair: two reals, and e(0) is 1
    unfoldable pub fold1 : (w : R) (p : ℕ → R) → ℕ → R
    fold1 w p zero = (ℜ (p 0) ⊕ ℑ (p 0)) ⊕ i ⊗ (ℜ (p 0) ⊕ ⊖ ℑ (p 0))
    fold1 w p (suc t) = hermitian_point (pow 𝓞 w (suc t)) (p (suc t)) (conj (p (A - suc t)))

    -- kind 1, back: x = y(t), c = conj y(A - t), e = e(-t/N), part = 1/N
    unfoldable pub hermitian_value : (e x c : R) → R
    hermitian_value e x c = half ⊗ ((x ⊕ c) ⊕ ⊖ (i ⊗ (e ⊗ (x ⊕ ⊖ c))))

    -- at t = 0 the mate of y(0) is itself, and R(0) and S(0) are its parts
    unfoldable pub back1 : (part w : R) (y : ℕ → R) → ℕ → R
    back1 part w y zero = part ⊗ ((ℜ (y 0) ⊕ ℑ (y 0)) ⊕ i ⊗ (ℜ (y 0) ⊕ ⊖ ℑ (y 0)))
    back1 part w y (suc t) = part ⊗ hermitian_value (pow 𝓞 (conj w) (suc t)) (y (suc t)) (conj (y (A - suc t)))

    -- kind 3, forward: m is the sum of the imaginary parts at the line's odd places
    unfoldable pub finish3 : (tau y : ℕ → R) (m : R) → ℕ → R
    finish3 tau y m zero = (ℜ (y 0) ⊕ m) ⊕ i ⊗ m
    finish3 tau y m (suc s) =
        (ℜ (y (suc s)) ⊕ ℑ (y (suc s)) ⊗ cot half A tau (suc s))
        ⊕ i ⊗ (ℑ (y (suc s)) ⊗ csc half A tau (suc s))

    -- kind 3, back: V(s) with V + conj V = 2 E(s) and V + e(-s/A) conj V = -2 e(-s/N) b(s), from q(s) = E(s) + i b(s);
    -- at s = 0 the two rules disagree, and V(0) = E(0) keeps the first
    unfoldable pub alternating_spectrum : (tau q : ℕ → R) → ℕ → R
    alternating_spectrum tau q zero = ℜ (q 0)
    alternating_spectrum tau q (suc s) =
        ℜ (q (suc s))
        ⊕ i ⊗ (ℜ (q (suc s)) ⊗ cot half A tau (suc s) ⊕ ℑ (q (suc s)) ⊗ csc half A tau (suc s))

    -- what the second rule lacks at s = 0, the same at every odd place: 2 (E(0) + b(0))
    unfoldable pub twice_M : (ℕ → R) → R
    twice_M q = (ℜ (q 0) ⊕ ℑ (q 0)) ⊕ (ℜ (q 0) ⊕ ℑ (q 0))

    -- the whole line from the short transform y of V, and m = twice_M
    unfoldable pub line3 : (part : R) (y : ℕ → R) (m : R) → ℕ → R
    line3 part y m =
        interleave (λ t. part ⊗ (y t ⊕ conj (y (mate A t))))
        (λ t. part ⊗ (i ⊗ (m ⊕ ⊖ (y t ⊕ conj (y (A - suc t))))))
