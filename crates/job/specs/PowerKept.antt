-- Power kept: over the whole cell, the sum of the squares of the map is N1 N2 N3 times the sum of F × conj F, modulo
-- the prime. So two calls tell a whole entry by one number.
use Rattle.std.specs.Prelude.{◌≡◌, ◌*◌, ◌%◌}
use Rattle.algebra.specs.Prelude.{ℕ, List}
use Rattle.numbers.specs.Value.{prime}
use Rattle.job.specs.declared.Job.{Job}
use Rattle.job.specs.Job.{done, power, synthesis_step, analysis_step, map_power_step, factor_power_step}

-- N1 N2 N3 times a power, modulo the job's prime
abbrev pub times_points : Job → ℕ → ℕ
times_points j p = (j.a.length * j.b.length * j.c.length * p) % prime j.modulus

-- Whatever job and volume a call accepts, of every group and for both primes: the factors before a synthesis and the
-- map that it leaves; the map before an analysis and the factors that it leaves.
pub record PowerKept : Type 0 where
  pub synthesis : (j : Job) (v scratch : List ℕ) →
      (synthesis_step j v scratch).outcome.answer ≡ done →
      let after = (synthesis_step j v scratch).outcome in
      (p : ℕ)
      × ((factor_power_step j v).answer ≡ power p)
      × ((map_power_step after.job after.volume).answer ≡ power (times_points j p))
  pub analysis : (j : Job) (v scratch : List ℕ) →
      (analysis_step j v scratch).outcome.answer ≡ done →
      let after = (analysis_step j v scratch).outcome in
      (p : ℕ)
      × ((map_power_step j v).answer ≡ power (times_points j p))
      × ((factor_power_step after.job after.volume).answer ≡ power p)
