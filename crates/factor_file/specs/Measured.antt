-- What refusal 18 of the writer says: the output is shorter than the file. So a caller who is refused so and lends as
-- many places as the file has bytes is not refused so again.
use Rattle.std.specs.Prelude.{◌≡◌, ◌<◌, ◌≤◌}
use Rattle.algebra.specs.Prelude.{ℕ, List, length}
use Rattle.job.specs.declared.Job.{Job}
use Rattle.output.specs.Output.{not_written, filled, not_filled}
use Rattle.factor_file.specs.File.{job_file, write_step, bytes, not_sized, length_step}

pub record Measured : Type 0 where
  pub short : (j : Job) (v output : List ℕ) →
      (write_step j v output).answer ≡ not_written 18 →
      length output < length (job_file j v)

-- What the call that measures the file says of the writer: the places that it names are enough, fewer are not, and
-- where it is refused the writer is refused alike.
pub record MeasuredBefore : Type 0 where
  pub enough : (j : Job) (v output : List ℕ) (n : ℕ) →
      length_step j v ≡ bytes n → n ≤ length output →
      write_step j v output ≡ filled (job_file j v) output
  pub fewer : (j : Job) (v output : List ℕ) (n : ℕ) →
      length_step j v ≡ bytes n → length output < n →
      write_step j v output ≡ not_filled output 18
  pub alike : (j : Job) (v output : List ℕ) (n : ℕ) →
      length_step j v ≡ not_sized n →
      write_step j v output ≡ not_filled output n
