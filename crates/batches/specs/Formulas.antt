-- What the formulas of a lane compute, number by number.
use Rattle.std.specs.Prelude.{◌≡◌, ℕ, ◌+◌, ◌*◌, ◌-◌}
use Rattle.batches.specs.declared.lane.Factor.{Factor}
use Rattle.batches.specs.declared.lane.Three.{Three}
use Rattle.batches.specs.declared.lane.Four.{Four}
use Rattle.batches.specs.declared.lane.Five.{Five}
use Rattle.batches.specs.Reduction.{Divided}

-- radix 3: z is e(1/3), and `turn` the part of i (b - c)
pub record ThreeOf (m : ℕ) (z : Factor) (o a b c turn : ℕ) (r : Three) : Type 0 where
  pub even : ℕ
  pub odd : ℕ
  pub even_is : Divided m (z.re * (b + c)) even
  pub odd_is : Divided m (z.im * turn) odd
  pub x0 : r.x0 ≡ a + (b + c)
  pub x1 : r.x1 ≡ a + even + odd
  pub x2 : r.x2 ≡ a + even + (o - odd)

-- radix 4: `turn` is the part of e(1/4) (b - d)
pub record FourOf (o a b c d turn : ℕ) (r : Four) : Type 0 where
  pub x0 : r.x0 ≡ a + c + (b + d)
  pub x1 : r.x1 ≡ a + (o - c) + turn
  pub x2 : r.x2 ≡ a + c + (o + o - (b + d))
  pub x3 : r.x3 ≡ a + (o - c) + (o + o - turn)

-- radix 5: w is e(1/5) and z is e(2/5); `outer` is the part of i (b - e), `inner` that of i (c - d)
pub record FiveOf (m : ℕ) (w z : Factor) (o a b c d e outer inner : ℕ) (r : Five) : Type 0 where
  pub near : ℕ
  pub far : ℕ
  pub near_odd : ℕ
  pub far_odd : ℕ
  pub near_is : Divided m (w.re * (b + e) + z.re * (c + d)) near
  pub far_is : Divided m (z.re * (b + e) + w.re * (c + d)) far
  pub near_odd_is : Divided m (w.im * outer + z.im * inner) near_odd
  pub far_odd_is : Divided m (z.im * outer + w.minus * inner) far_odd
  pub x0 : r.x0 ≡ a + (b + e) + (c + d)
  pub x1 : r.x1 ≡ a + near + near_odd
  pub x2 : r.x2 ≡ a + far + far_odd
  pub x3 : r.x3 ≡ a + far + (o - far_odd)
  pub x4 : r.x4 ≡ a + near + (o - near_odd)
