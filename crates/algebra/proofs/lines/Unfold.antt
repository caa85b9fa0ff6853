-- Reading an unfolded line: its places, its rule, its even and odd places.
use mathlib.Core.Path.{◌≡◌, refl, sym, ◌∙◌, ap}
use Prim.Native.Nat.{ℕ, zero, suc, ◌+◌, ◌*◌, ◌-◌, ◌/◌, ◌%◌, ◌≤◌, ◌<◌, compare, Ordering}
use native.Mathlib.Nat as N
use native.Mathlib.Omega.{arith}
use native.Mathlib.Decide.{ℕ_discrete, dec_lt}
use lib.Dec.{compare_is_eq, is_le, eqb→eq, eqb_refl, le→leb, leb→le, T}
use Rattle.algebra.specs.ring.Ring.{Ops}
use Rattle.algebra.specs.ring.RingLaws.{CRing}
use Rattle.algebra.specs.lines.Kinds.{three, unfold_by, interleave, Reflected}
use Rattle.algebra.specs.lines.Packings.{unfold_b3}
use Rattle.algebra.proofs.fourier.Transform.{sign_even, sign_odd}
use Rattle.algebra.proofs.ring.Laws.{neg_one_mul, along}

pub three_lt : {R : Type 0} (t n : ℕ) (a b c : R) → t < n → three t n a b c ≡ a
unfolding three
three_lt {R} t n a b c h = go (compare t n) (λ e. absurd (not_eq (eqb→eq t n e))) (le→leb t n (omega arith))
  where
    not_eq : t ≡ n → ⊥
    not_eq e = omega arith

    go : (o : Ordering) → (T (compare_is_eq o) → ⊥) → T (is_le o) → (elim o as (λ o. R) [ Ordering.lt ↦ a | Ordering.eq ↦ b | Ordering.gt ↦ c ]) ≡ a
    go Ordering.lt p q = refl
    go Ordering.eq p q = absurd (p tt)
    go Ordering.gt p q = absurd q

pub three_eq : {R : Type 0} (t n : ℕ) (a b c : R) → t ≡ n → three t n a b c ≡ b
unfolding three
three_eq {R} t n a b c h = go (compare t n) (rw h (eqb_refl n))
  where
    go : (o : Ordering) → T (compare_is_eq o) → (elim o as (λ o. R) [ Ordering.lt ↦ a | Ordering.eq ↦ b | Ordering.gt ↦ c ]) ≡ b
    go Ordering.lt p = absurd p
    go Ordering.eq p = refl
    go Ordering.gt p = absurd p

pub three_gt : {R : Type 0} (t n : ℕ) (a b c : R) → n < t → three t n a b c ≡ c
unfolding three
three_gt {R} t n a b c h = go (compare t n) (λ e. not_le (leb→le t n e))
  where
    not_le : t ≤ n → ⊥
    not_le e = omega arith

    go : (o : Ordering) → (T (is_le o) → ⊥) → (elim o as (λ o. R) [ Ordering.lt ↦ a | Ordering.eq ↦ b | Ordering.gt ↦ c ]) ≡ c
    go Ordering.lt p = absurd (p tt)
    go Ordering.eq p = absurd (p tt)
    go Ordering.gt p = refl

module _ {R : Type 0} (A : ℕ) (first middle : R) (f : ℕ → R → R) (p : ℕ → R) where
  abbrev X : ℕ → R
  X = unfold_by A first middle f p

  pub unfold_zero : unfold_by A first middle f p 0 ≡ first
  unfolding unfold_by
  unfold_zero = refl

  pub unfold_low : (t : ℕ) → 0 < t → t < A → unfold_by A first middle f p t ≡ p t
  unfolding unfold_by
  unfold_low zero q l = absurd (omega arith)
  unfold_low (suc t) q l = three_lt (suc t) A _ _ _ l

  pub unfold_middle : 0 < A → unfold_by A first middle f p A ≡ middle
  unfolding unfold_by
  unfold_middle q = go A q refl
    where
      go : (t : ℕ) → 0 < t → t ≡ A → unfold_by A first middle f p t ≡ middle
      go zero q e = absurd (omega arith)
      go (suc t) q e = three_eq (suc t) A _ _ _ e

  pub unfold_high : (t u : ℕ) → A < t → t + u ≡ 2 * A → unfold_by A first middle f p t ≡ f u (p u)
  unfolding unfold_by
  unfold_high zero u l e = absurd (omega arith)
  unfold_high (suc t) u l e = three_gt (suc t) A _ _ _ l ∙ along (λ k. f k (p k)) (2 * A - suc t) u (omega arith)

  -- the second half, from its place above A
  pub unfold_above : (t u : ℕ) → 0 < t → t + u ≡ A → unfold_by A first middle f p (A + t) ≡ f u (p u)
  unfold_above t u q e = unfold_high (A + t) u (omega arith) (omega arith)

  module _ (𝓞 : Ops R) (pos : 0 < A) (fix-first : f 0 first ≡ first) (fix-middle : f A middle ≡ middle)
      (twice : (t u : ℕ) (x : R) → t + u ≡ 2 * A → f u (f t x) ≡ x) where
    pub unfold_reflected : Reflected 𝓞 (2 * A) f (unfold_by A first middle f p)
    unfold_reflected zero l = ap (unfold_by A first middle f p) (along (λ k. k % (2 * A)) (2 * A - 0) (2 * A) (omega arith) ∙ N.mod_self (2 * A)) ∙ unfold_zero ∙ sym fix-first ∙ ap (f 0) (sym unfold_zero)
    unfold_reflected (suc t) l = ap (unfold_by A first middle f p) (N.mod-eq_of_lt (omega arith)) ∙ go (2 * A - suc t) (omega arith) (ℕ_discrete (suc t) A) (dec_lt (suc t) A)
      where
        go : (u : ℕ) → suc t + u ≡ 2 * A → Dec (suc t ≡ A) → Dec (suc t < A) → unfold_by A first middle f p u ≡ f (suc t) (unfold_by A first middle f p (suc t))
        go u e (yes h) d = ap (unfold_by A first middle f p) u_is ∙ unfold_middle pos ∙ sym fix-middle ∙ ap (f A) (sym (unfold_middle pos)) ∙ ap (λ k. f k (unfold_by A first middle f p k)) (sym h)
          where
            u_is : u ≡ A
            u_is = omega arith
        go u e (no h) (yes d) = unfold_high u (suc t) (omega arith) (omega arith) ∙ ap (f (suc t)) (sym (unfold_low (suc t) (omega arith) d))
        go u e (no h) (no d) = unfold_low u (omega arith) (omega arith) ∙ sym (twice u (suc t) (p u) (omega arith)) ∙ ap (f (suc t)) (sym (unfold_high (suc t) u (omega arith) e))

module _ {R : Type 0} (f g : ℕ → R) where
  pub interleave_even : (s : ℕ) → interleave f g (2 * s) ≡ f s
  unfolding interleave
  interleave_even s = go (2 * s % 2) (omega arith) ∙ ap f (omega arith)
    where
      go : (k : ℕ) → k ≡ 0 → (elim k as (λ k. R) [ zero ↦ f (2 * s / 2) | suc k ↦ g (2 * s / 2) ]) ≡ f (2 * s / 2)
      go zero e = refl
      go (suc k) e = absurd (omega arith)

  pub interleave_odd : (s : ℕ) → interleave f g (2 * s + 1) ≡ g s
  unfolding interleave
  interleave_odd s = go ((2 * s + 1) % 2) (omega arith) ∙ ap g (omega arith)
    where
      go : (k : ℕ) → k ≡ 1 → (elim k as (λ k. R) [ zero ↦ f ((2 * s + 1) / 2) | suc k ↦ g ((2 * s + 1) / 2) ]) ≡ g ((2 * s + 1) / 2)
      go zero e = absurd (omega arith)
      go (suc k) e = refl

  -- a line below 2n is known from its even and its odd places
  pub interleave_all : (n : ℕ) (X : ℕ → R) → ((s : ℕ) → s < n → X (2 * s) ≡ f s) → ((s : ℕ) → s < n → X (2 * s + 1) ≡ g s) → (t : ℕ) → t < 2 * n → X t ≡ interleave f g t
  unfolding interleave
  interleave_all n X e o t l = go (t % 2) refl
    where
      go : (k : ℕ) → t % 2 ≡ k → X t ≡ (elim k as (λ k. R) [ zero ↦ f (t / 2) | suc k ↦ g (t / 2) ])
      go zero h = ap X (omega arith) ∙ e (t / 2) (omega arith)
      go (suc k) h = ap X (omega arith) ∙ o (t / 2) (omega arith)

module _ {R : Type 0} {𝓞 : Ops R} (𝓡 : CRing 𝓞) where
  -- a rule of the line at the places t and u = n - t, and at 0
  pub at_mirror : (n : ℕ) (f : ℕ → R → R) (X : ℕ → R) → Reflected 𝓞 n f X → (t u : ℕ) → 0 < t → 0 < u → t + u ≡ n → X u ≡ f t (X t)
  at_mirror n f X r t u p q e = ap X (sym (along (λ k. k % n) (n - t) u (omega arith) ∙ N.mod-eq_of_lt (omega arith))) ∙ r t (omega arith)

  pub at_zero : (n : ℕ) (f : ℕ → R → R) (X : ℕ → R) → 0 < n → Reflected 𝓞 n f X → X 0 ≡ f 0 (X 0)
  at_zero n f X p r = ap X (sym (along (λ k. k % n) (n - 0) n (omega arith) ∙ N.mod_self n)) ∙ r 0 p

-- an alternating line, with no power of -1
module _ {R : Type 0} {𝓞 : Ops R} (𝓡 : CRing 𝓞) (conj : R → R) (i half : R) (A : ℕ) (p : ℕ → R) where
  open 𝓞 use {add as ◌⊕◌, mul as ◌⊗◌, neg as ⊖◌, zer as 𝟘, one as 𝟙}
  open 𝓡 use {one_mul}

  infixl 70 ◌⊗◌
  infix 75 ⊖◌
  pub read_even : (t u : ℕ) → A < 2 * t → t + u ≡ A → unfold_b3 𝓞 conj i half A p (2 * t) ≡ conj (p (2 * u))
  read_even t u l e = unfold_high A _ _ _ p (2 * t) (2 * u) l (omega arith) ∙ ap (λ y. y ⊗ conj (p (2 * u))) (sign_even 𝓡 u) ∙ one_mul _

  pub read_odd : (t u : ℕ) → A < 2 * t + 1 → suc (t + u) ≡ A → unfold_b3 𝓞 conj i half A p (2 * t + 1) ≡ ⊖ conj (p (2 * u + 1))
  read_odd t u l e = unfold_high A _ _ _ p (2 * t + 1) (2 * u + 1) l (omega arith) ∙ ap (λ y. y ⊗ conj (p (2 * u + 1))) (sign_odd 𝓡 u) ∙ neg_one_mul 𝓡 _
