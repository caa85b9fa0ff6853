-- The powers of a model whose F obeys its group are real, and one is N1 N2 N3 times the other.
use mathlib.Core.Path.{◌≡◌, refl, ◌∙◌}
use mathlib.Core.List.{List}
use Prim.Native.Nat.{ℕ}
use Rattle.algebra.specs.cells.Cell.{J}
use Rattle.cell.specs.Volume.{map_of}
use Rattle.line.proofs.kinds.Axes.{axis_laws}
use Rattle.power.proofs.PowerKept.{kept}
use Rattle.power.proofs.PowerReal.{map_squares_real, factor_squares_real}
use Rattle.job.specs.Job.{valid_job}
use Rattle.job.proofs.Jobs.{valid_modulus, valid_job_sizes}
use Rattle.job.proofs.PowersKept.{points}
use Rattle.model.specs.Model.{Model, group, half, factor_power_of, model_job}
use Rattle.model.proofs.Sound.{LawfulModel, map_is_real}
use Rattle.demands.specs.Demands.{model_end}
use Rattle.demands.specs.ModelPower.{PowerOf, ModelPower}
use Rattle.demands.proofs.Lists.{end_sound}
use Rattle.demands.proofs.Starts.{started_sound}

power_of : {μ : ℕ} (m : Model μ) → LawfulModel m → PowerOf m
power_of {μ} m sound =
    let s = valid_job_sizes (model_job m) sound.valid in
    let is = valid_modulus (model_job m) sound.valid in
    record {
      map_real = map_squares_real μ (half m) (map_of μ (half m) m.F) (map_is_real m sound);
      factors_real = factor_squares_real μ (half m) m.F;
      kept =
          kept (group m) (half m) μ (axis_laws μ is s.first) (axis_laws μ is s.second) (axis_laws μ is s.third) m.F (map_of μ (half m) m.F) m.F sound.lawful (λ j n. refl) (λ j n. refl)
          ∙ points (model_job m) sound.valid (factor_power_of m);
    }

pub model_power : ModelPower
model_power = record { after = λ μ s j v m started l. power_of (model_end m l) (end_sound m (started_sound s j v m started).0 l) }
