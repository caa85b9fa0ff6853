-- Power kept, of the model's own two numbers: after any list of calls the sum of the squares of its map over the whole
-- cell, and that of F × conj F, are real, and the first is N1 × N2 × N3 times the second modulo the prime. That the
-- two calls answer these numbers is part of EveryList.
use Rattle.std.specs.Prelude.{◌≡◌, ◌*◌, ◌%◌}
use Rattle.algebra.specs.Prelude.{ℕ, List}
use Rattle.algebra.specs.ring.Ring.{Ops}
use Rattle.numbers.specs.Value.{prime, Value, field, conj}
use Rattle.power.specs.Power.{over_cell}
use Rattle.job.specs.declared.Job.{Job}
use Rattle.model.specs.Model.{Model, half, factor_of, density_of, map_power_of, factor_power_of, Call}
use Rattle.demands.specs.Demands.{Start, Started, model_end}

-- N1 N2 N3
abbrev pub points_of : {μ : ℕ} → Model μ → ℕ
points_of m = m.header.lengths.0 * m.header.lengths.1 * m.header.lengths.2

-- the two sums
abbrev pub map_squares : {μ : ℕ} → Model μ → Value μ
map_squares {μ} m = over_cell μ (half m) (λ x y z. (field μ).mul (density_of m (x, y, z)) (density_of m (x, y, z)))

abbrev pub factor_squares : {μ : ℕ} → Model μ → Value μ
factor_squares {μ} m =
    over_cell μ (half m) (λ h k l. (field μ).mul (factor_of m (h, k, l)) (conj μ (factor_of m (h, k, l))))

pub record PowerOf {μ : ℕ} (m : Model μ) : Type 0 where
  pub map_real : (map_squares m).1.val ≡ 0
  pub factors_real : (factor_squares m).1.val ≡ 0
  pub kept : map_power_of m ≡ (points_of m * factor_power_of m) % prime μ

pub record ModelPower : Type 0 where
  pub after :
      (μ : ℕ) (s : Start μ) (j : Job) (v : List ℕ) (m : Model μ) → Started s j v m →
      (l : List Call) → PowerOf (model_end m l)
