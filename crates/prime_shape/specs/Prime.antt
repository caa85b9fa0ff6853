-- A prime: a number above 1 that no number between 1 and itself divides.
use Rattle.std.specs.Prelude.{◌≡◌, ℕ, ◌%◌, ◌<◌}

pub record Prime (p : ℕ) : Type 0 where
  pub above : 1 < p
  pub only : (d : ℕ) → 1 < d → d < p → p % d ≡ 0 → ⊥
