-- The next step of a stage: its factor is not 0, and the product of the factors stays small. The stages of a list are its splits.
use mathlib.Core.Path.{◌≡◌, refl, sym, ◌∙◌, ap}
use mathlib.Core.Bool.{true}
use mathlib.Core.List.{List}
use Prim.Native.Nat.{ℕ, zero, suc, ◌+◌, ◌*◌, ◌/◌, ◌%◌, ◌≤◌, ◌<◌}
use native.Mathlib.Nat as N
use native.Mathlib.Numerals.{add-one}
use native.Mathlib.Omega.{arith}
use lib.ListN.{length, get_or, take, drop}
use Rattle.lengths.specs.declared.stage.Stage.{Stage}
use Rattle.lengths.specs.Stages.{points, after, stage_after, split_stage, Ahead}
use Rattle.lengths.specs.Lengths.{octal, product, factors_ok}
use Rattle.lengths.proofs.Factors.{factor_at_lem, octal_drop, product_drop, product_take}
use Rattle.lengths.proofs.stage.Divisors.{divisor_le}
use Rattle.lengths.proofs.stage.Factoring.{next_factor_lem, next_length, factored_pos}

module _ {s : Stage} (a : Ahead s) where
  pub next_low : 2 ≤ s.left % 8
  next_low = (next_factor_lem a.factors a.more).low

  pub next_inner : s.inner * (s.left % 8) ≤ 2880
  next_inner =
      let f : ℕ = s.left % 8 in
      let rest : ℕ = s.lines / (s.left % 8) in
      let long : s.inner * f * rest ≡ points s = next_length s.inner a.factors a.more in
      let most : points s ≤ 2880 = divisor_le (points s) (2880 / points s) a.divides in
      let more : s.inner * f * 1 ≤ s.inner * f * rest = N.mul-le-mul_left {m = 1} {n = rest} (s.inner * f) (factored_pos (next_factor_lem a.factors a.more).rest) in
      omega (arith, long, most, more)

-- ---- the stages of a list

module _ (l : List ℕ) (each : factors_ok l ≡ true) where
  module _ (k : ℕ) (h : k < length l) where
    rest : octal (drop k l) ≡ get_or l k 0 + 8 * octal (drop (suc k) l)
    rest = octal_drop l k h ∙ ap (λ (n : ℕ). get_or l k 0 + 8 * octal (drop n l)) (add-one k)

    pub next_of : octal (drop k l) % 8 ≡ get_or l k 0
    next_of = let f = factor_at_lem l k each h in omega (arith, rest, f.1)

    left_of : octal (drop k l) / 8 ≡ octal (drop (suc k) l)
    left_of = let f = factor_at_lem l k each h in omega (arith, rest, f.1)

    pub lines_of_lem : product (drop k l) / get_or l k 0 ≡ product (drop (suc k) l)
    lines_of_lem =
        ap (λ (n : ℕ). n / get_or l k 0) (product_drop l k h ∙ ap (λ (n : ℕ). get_or l k 0 * product (drop n l)) (add-one k))
        ∙ N.mul-div_right (product (drop (suc k) l)) (omega (arith, (factor_at_lem l k each h).0))

    pub split_next : after (split_stage l k) ≡ split_stage l (suc k)
    unfolding after
    split_next =
        ap (λ (x : ℕ). record { left = x; inner = product (take k l) * (octal (drop k l) % 8); lines = product (drop k l) / (octal (drop k l) % 8) }) left_of
        ∙ ap (λ (x : ℕ). record { left = octal (drop (suc k) l); inner = product (take k l) * x; lines = product (drop k l) / x }) next_of
        ∙ ap (λ (x : ℕ). record { left = octal (drop (suc k) l); inner = x; lines = product (drop k l) / get_or l k 0 }) (sym (product_take l k h))
        ∙ ap (λ (x : ℕ). record { left = octal (drop (suc k) l); inner = product (take (suc k) l); lines = x }) lines_of_lem

  pub stages_split : (k : ℕ) → k ≤ length l → stage_after k (split_stage l 0) ≡ split_stage l k
  unfolding stage_after product
  stages_split zero h = refl
  stages_split (suc k) h = ap after (stages_split k (omega arith)) ∙ split_next k (omega arith)
