-- Facts of the numbers below 2, 3, 4 and 5, case by case.
use Prim.Native.Nat.{ℕ, zero, suc, ◌<◌}
use native.Mathlib.Omega.{arith}

module _ (P : ℕ → Type 0) (p0 : P 0) (p1 : P 1) where
  pub below_2 : (c : ℕ) → c < 2 → P c
  below_2 zero l = p0
  below_2 (suc zero) l = p1
  below_2 (suc (suc c)) l = absurd (omega arith)

  module _ (p2 : P 2) where
    pub below_3 : (c : ℕ) → c < 3 → P c
    below_3 zero l = p0
    below_3 (suc zero) l = p1
    below_3 (suc (suc zero)) l = p2
    below_3 (suc (suc (suc c))) l = absurd (omega arith)

    module _ (p3 : P 3) where
      pub below_4 : (c : ℕ) → c < 4 → P c
      below_4 zero l = p0
      below_4 (suc zero) l = p1
      below_4 (suc (suc zero)) l = p2
      below_4 (suc (suc (suc zero))) l = p3
      below_4 (suc (suc (suc (suc c)))) l = absurd (omega arith)

      pub below_5 : P 4 → (c : ℕ) → c < 5 → P c
      below_5 p4 zero l = p0
      below_5 p4 (suc zero) l = p1
      below_5 p4 (suc (suc zero)) l = p2
      below_5 p4 (suc (suc (suc zero))) l = p3
      below_5 p4 (suc (suc (suc (suc zero)))) l = p4
      below_5 p4 (suc (suc (suc (suc (suc c))))) l = absurd (omega arith)
