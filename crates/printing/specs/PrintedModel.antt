-- The printer and the reference model: of a file within the printer's limits the text is that of the model's map, or of
-- the model's refusal, under the modulus of the file.
use Rattle.std.specs.Prelude.{◌≡◌, List, ℕ, ◌≤◌, length}
use Rattle.job.specs.Job.{needed, map_held}
use Rattle.factor_file.specs.File.{modulus_in, header_in}
use Rattle.model.specs.Model.{Model, in_state, map_volume, model_job, begun, not_begun, model_file}
use Rattle.printing.specs.Text.{map_text, refusal_text, file_limit, lent_limit, printed}

-- the file is not too long to be read, and its map not too large to be held
pub record WithinLimits (file : List ℕ) : Type 0 where
  pub short : length file ≤ file_limit
  pub small : needed (header_in file) ≤ lent_limit

pub record PrintsModel : Type 0 where
  pub prints : (file : List ℕ) (m : Model (modulus_in file)) →
      WithinLimits file →
      model_file (modulus_in file) file ≡ begun m →
      printed file ≡ map_text (model_job (in_state m map_held)) (map_volume m)
  pub refuses : (file : List ℕ) (n place : ℕ) →
      WithinLimits file →
      model_file (modulus_in file) file ≡ not_begun n place →
      printed file ≡ refusal_text n place
