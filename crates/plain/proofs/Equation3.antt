-- A step of equation (3) lengthens the inner sums by its factor; before the first step they are the line, after the last its transform.
use mathlib.Core.Path.{◌≡◌, sym, ◌∙◌, ap, ap₂, subst}
use Prim.Native.Nat.{ℕ, ◌+◌, ◌*◌, ◌/◌, ◌%◌, ◌<◌}
use native.Mathlib.Nat as N
use native.Mathlib.Omega.{arith}
use Rattle.algebra.specs.ring.Ring.{Ops, pow, dft}
use Rattle.algebra.specs.ring.RingLaws.{CRing}
use Rattle.algebra.specs.fourier.Split.{T}
use Rattle.algebra.proofs.ring.Laws.{along}
use Rattle.algebra.proofs.fourier.Sums.{sum_cong}
use Rattle.algebra.proofs.fourier.Transform.{pow_mul, T_start, T_end}
use Rattle.slices.proofs.Rows.{row_end, row_col}
use Rattle.butterflies.specs.Equation3.{e, direct, inner, factor, outer}
use Rattle.butterflies.proofs.Equation3.{equation_three}
use Rattle.butterflies.proofs.radix.Spreading.{outer_cong}
use Rattle.plain.specs.Plain.{line_of, inner_sums, stepped, Splits}
use Rattle.plain.proofs.step.Sizes.{outer_pos, product_divides}

module _ {R : Type 0} {𝓞 : Ops R} (𝓡 : CRing 𝓞) (W : R) where
  open 𝓞 use {mul as ◌⊗◌, one as 𝟙}

  infixl 70 ◌⊗◌
  -- the inner sums are the transforms of the lines
  inner_T : (A M : ℕ) (X : ℕ → R) (j : ℕ) → inner_sums 𝓞 W A M X j ≡ T 𝓞 X M A (pow 𝓞 W (2880 / A)) (j / A) (j % A)
  unfolding inner_sums inner T e
  inner_T A M X j = sum_cong 𝓡 A _ _ (λ a l. ap₂ ◌⊗◌ (along X (a * M + j / A) (j / A + M * a) (omega arith)) (pow_mul 𝓡 W (2880 / A) (a * (j % A))))

  pub inner_start : (M : ℕ) (X : ℕ → R) (j : ℕ) → inner_sums 𝓞 W 1 M X j ≡ X j
  inner_start M X j = inner_T 1 M X j ∙ ap₂ (T 𝓞 X M 1 (pow 𝓞 W 2880)) (N.div-one j) (N.mod-one j) ∙ T_start 𝓡 X M _ j

  pub inner_end : (A : ℕ) (X : ℕ → R) (j : ℕ) → j < A → inner_sums 𝓞 W A 1 X j ≡ dft 𝓞 A (pow 𝓞 W (2880 / A)) X j
  inner_end A X j h = inner_T A 1 X j ∙ ap₂ (T 𝓞 X 1 A (pow 𝓞 W (2880 / A))) (N.div-eq_of_lt h) (N.mod-eq_of_lt h) ∙ T_end 𝓡 X A _ j

  -- the places of a step
  module _ (A B M : ℕ) where
    -- the inner sum that it finds for b and 𝐚
    pub found_at : (X : ℕ → R) (q b : ℕ) {𝐚 : ℕ} → 𝐚 < A → inner_sums 𝓞 W A (M * B) X ((b * M + q) * A + 𝐚) ≡ inner 𝓞 W A B (line_of M q X) b 𝐚
    unfolding inner_sums inner
    found_at X q b {𝐚} ha =
        ap₂ (inner 𝓞 W A (M * B) X) (row_col (b * M + q) ha).0 (row_col (b * M + q) ha).1
        ∙ sum_cong 𝓡 A _ _ (λ a l. ap (λ y. y ⊗ e 𝓞 W A (a * 𝐚)) (along X (a * (M * B) + (b * M + q)) (q + M * (a * B + b)) (omega arith)))

    -- what it makes of the values that it finds
    pub stepped_at : (Y : ℕ → R) (q : ℕ) {𝐚 𝐛 : ℕ} → 𝐚 < A → 𝐛 < B → stepped 𝓞 W A B M Y ((q * B + 𝐛) * A + 𝐚) ≡ outer 𝓞 W B (λ b. factor 𝓞 W A B b 𝐚 (Y ((b * M + q) * A + 𝐚))) 𝐛
    unfolding stepped
    stepped_at Y q {𝐚} {𝐛} ha hb = rw ((row_col (q * B + 𝐛) ha).0, (row_col (q * B + 𝐛) ha).1, (row_col q hb).0, (row_col q hb).1)

    -- the longer inner sum is the direct sum over the line q
    pub longer_at : (X : ℕ → R) (q : ℕ) {𝐚 𝐛 : ℕ} → 𝐚 < A → 𝐛 < B → inner_sums 𝓞 W (A * B) M X ((q * B + 𝐛) * A + 𝐚) ≡ direct 𝓞 W (A * B) (line_of M q X) (𝐚 + 𝐛 * A)
    unfolding inner_sums inner direct
    longer_at X q {𝐚} {𝐛} ha hb =
        let lt : 𝐚 + 𝐛 * A < A * B = subst (λ k. 𝐚 + 𝐛 * A < k) (N.mul_comm B A) (omega (arith, row_end A hb)) in
        let place : (q * B + 𝐛) * A + 𝐚 ≡ q * (A * B) + (𝐚 + 𝐛 * A) = omega arith in
        ap (inner_sums 𝓞 W (A * B) M X) place
        ∙ ap₂ (inner 𝓞 W (A * B) M X) (row_col q lt).0 (row_col q lt).1
        ∙ sum_cong 𝓡 (A * B) _ _ (λ t l. ap (λ y. y ⊗ e 𝓞 W (A * B) (t * (𝐚 + 𝐛 * A))) (along X (t * M + q) (q + M * t) (omega arith)))

  module _ {A B M : ℕ} (h : Splits A B M) (cycle : pow 𝓞 W 2880 ≡ 𝟙) (X : ℕ → R) where
    module _ {Y : ℕ → R} (found : (j : ℕ) → j < A * B * M → Y j ≡ inner_sums 𝓞 W A (M * B) X j) {q 𝐚 𝐛 : ℕ} (hq : q < M) (ha : 𝐚 < A) (hb : 𝐛 < B) where
      -- the three parts of (3), from values that are the inner sums
      pub parts_at : stepped 𝓞 W A B M Y ((q * B + 𝐛) * A + 𝐚) ≡ outer 𝓞 W B (λ b. factor 𝓞 W A B b 𝐚 (inner 𝓞 W A B (line_of M q X) b 𝐚)) 𝐛
      parts_at =
          stepped_at A B M Y q ha hb
          ∙ outer_cong 𝓡 W B _ _ 𝐛 (λ b l. ap (factor 𝓞 W A B b 𝐚) (found ((b * M + q) * A + 𝐚) (read_place l) ∙ found_at A B M X q b ha))
        where
          read_place : {b : ℕ} → b < B → (b * M + q) * A + 𝐚 < A * B * M
          read_place {b} l =
              let row : b * M + q < B * M = omega (arith, row_end M l) in
              omega (arith, row_end A row)

      -- together they are the direct sum
      pub together_at : stepped 𝓞 W A B M Y ((q * B + 𝐛) * A + 𝐚) ≡ direct 𝓞 W (A * B) (line_of M q X) (𝐚 + 𝐛 * A)
      together_at = parts_at ∙ sym (equation_three 𝓡 W A B (product_divides h) cycle (line_of M q X) 𝐚 𝐛)

    -- at every place
    pub equation_3 : {Y : ℕ → R} → ((j : ℕ) → j < A * B * M → Y j ≡ inner_sums 𝓞 W A (M * B) X j) → (j : ℕ) → j < A * B * M → stepped 𝓞 W A B M Y j ≡ inner_sums 𝓞 W (A * B) M X j
    equation_3 {Y} found j l =
        let place : (j / A / B * B + j / A % B) * A + j % A ≡ j = ap (λ k. k * A + j % A) (N.div-add-mod' (j / A) B) ∙ N.div-add-mod' j A in
        let hq : j / A / B < M = (N.div-lt_iff_lt-mul (outer_pos h)).1 ((N.div-lt_iff_lt-mul h.inner).1 (subst (λ k. j < k) (omega arith) l)) in
        let ha : j % A < A = N.mod-lt j h.inner in
        let hb : j / A % B < B = N.mod-lt (j / A) (outer_pos h) in
        subst (λ k. stepped 𝓞 W A B M Y k ≡ inner_sums 𝓞 W (A * B) M X k) place (together_at found hq ha hb ∙ sym (longer_at A B M X (j / A / B) ha hb))
