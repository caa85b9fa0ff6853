-- The value of a structure factor, as the check of its orbit has it.
pub use Rattle.job.proofs.check.orbit.Reflections.{pair_of_numbers}
