-- For each 0 < k < 2,880 a multiple of k is 1,440, 960 or 576 modulo 2,880: one computed test.
use mathlib.Core.Path.{◌≡◌, refl, sym, ◌∙◌, ap}
use mathlib.Core.List.{List, [], ◌∷◌}
use mathlib.Core.Bool.{Bool, false, ◌||◌}
use Prim.Native.Nat.{ℕ, zero, suc, ◌*◌, ◌%◌, ◌<◌}
use native.Mathlib.Omega.{arith}
use lib.Dec.{T, eqb, eqb→eq}
use Rattle.algebra.specs.ring.Ring.{Ops, pow, sum}
use Rattle.algebra.specs.fourier.Axis.{cast, Root}
use Rattle.algebra.specs.ring.RingLaws.{CRing}
use Rattle.algebra.specs.cells.Cell.{below}
use Rattle.algebra.proofs.ring.Bool.{or_e, below_at}
use Rattle.algebra.proofs.ring.Solver.{ring, quote}
use Rattle.algebra.proofs.fourier.Transform.{geometric, pow_mul, pow_mod}

abbrev good : ℕ → Bool
good r = eqb r 1440 || (eqb r 960 || eqb r 576)

abbrev any : ℕ → List ℕ → Bool
any k [] = false
any k (j ∷ js) = good (k * j % 2880) || any k js

abbrev factors : List ℕ
factors = 1440 ∷ 720 ∷ 360 ∷ 180 ∷ 90 ∷ 45 ∷ 960 ∷ 1920 ∷ 320 ∷ 640 ∷ 1 ∷ 2 ∷ 3 ∷ 4 ∷ []

pub data Hit (k : ℕ) : Type 0 where
  hit2 : (j : ℕ) → k * j % 2880 ≡ 1440 → Hit k
  hit3 : (j : ℕ) → k * j % 2880 ≡ 960 → Hit k
  hit5 : (j : ℕ) → k * j % 2880 ≡ 576 → Hit k

good_hit : (k j : ℕ) → T (good (k * j % 2880)) → Hit k
good_hit k j t = or_e (eqb (k * j % 2880) 1440) _ _ t (λ a. hit2 j (eqb→eq _ _ a)) (λ t. or_e (eqb (k * j % 2880) 960) _ _ t (λ a. hit3 j (eqb→eq _ _ a)) (λ a. hit5 j (eqb→eq _ _ a)))

any_hit : (k : ℕ) (js : List ℕ) → T (any k js) → Hit k
any_hit k [] t = absurd t
any_hit k (j ∷ js) t = or_e (good (k * j % 2880)) (any k js) (Hit k) t (good_hit k j) (any_hit k js)

all_2879 : T (below 2879 (λ k. any (suc k) factors))
unfolding below
all_2879 = tt

pub hit : (k : ℕ) → 0 < k → k < 2880 → Hit k
hit zero h l = absurd (omega arith)
hit (suc k) h l = any_hit (suc k) factors (below_at 2879 (λ k. any (suc k) factors) k all_2879 (omega arith))

module _ {R : Type 0} {𝓞 : Ops R} (𝓡 : CRing 𝓞) where
  open 𝓞 use {add as ◌⊕◌, mul as ◌⊗◌, neg as ⊖◌, zer as 𝟘, one as 𝟙}

  infixl 65 ◌⊕◌
  infixl 70 ◌⊗◌
  infix 75 ⊖◌
  -- where w^m - 1 has an inverse and k j counts as m, w^k - 1 has one
  pub apart_by : (w : R) (m k j : ℕ) → (v : R) → v ⊗ (pow 𝓞 w m ⊕ ⊖ 𝟙) ≡ 𝟙 → pow 𝓞 w (k * j) ≡ pow 𝓞 w m → (v : R) × (v ⊗ (pow 𝓞 w k ⊕ ⊖ 𝟙) ≡ 𝟙)
  apart_by w m k j v e h = (v ⊗ S, step v S (pow 𝓞 w k ⊕ ⊖ 𝟙) ∙ ap (λ y. v ⊗ y) (geometric 𝓡 (pow 𝓞 w k) j ∙ ap (λ y. y ⊕ ⊖ 𝟙) (sym (pow_mul 𝓡 w k j) ∙ h)) ∙ e)
    where
      S : R
      S = sum 𝓞 j (λ i. pow 𝓞 (pow 𝓞 w k) i)

      step : (v s d : R) → v ⊗ s ⊗ d ≡ v ⊗ (d ⊗ s)
      step v s d = ring 𝓡 (v ∷ s ∷ d ∷ []) (search quote depth 40 fits 9999) refl

  -- a root of order 2,880: three inverses are enough
  pub root_2880 : (w w' part v2 v3 v5 : R) → w ⊗ w' ≡ 𝟙 → pow 𝓞 w 2880 ≡ 𝟙 → part ⊗ cast 𝓞 2880 ≡ 𝟙
      → v2 ⊗ (pow 𝓞 w 1440 ⊕ ⊖ 𝟙) ≡ 𝟙 → v3 ⊗ (pow 𝓞 w 960 ⊕ ⊖ 𝟙) ≡ 𝟙 → v5 ⊗ (pow 𝓞 w 576 ⊕ ⊖ 𝟙) ≡ 𝟙 → Root 𝓞 2880 w w' part
  root_2880 w w' part v2 v3 v5 e c pc e2 e3 e5 = record { inverse = e; cycle = c; apart = λ k h l. go k (hit k h l); part_of = pc }
    where
      go : (k : ℕ) → Hit k → (v : R) × (v ⊗ (pow 𝓞 w k ⊕ ⊖ 𝟙) ≡ 𝟙)
      go k (hit2 j h) = apart_by w 1440 k j v2 e2 (sym (pow_mod 𝓡 w 2880 (k * j) c) ∙ ap (pow 𝓞 w) h)
      go k (hit3 j h) = apart_by w 960 k j v3 e3 (sym (pow_mod 𝓡 w 2880 (k * j) c) ∙ ap (pow 𝓞 w) h)
      go k (hit5 j h) = apart_by w 576 k j v5 e5 (sym (pow_mod 𝓡 w 2880 (k * j) c) ∙ ap (pow 𝓞 w) h)
