-- That a line whose tests were all passed is accepted in the sense of specs/Accepted.
use mathlib.Core.Path.{◌≡◌}
use mathlib.Core.Bool.{true}
use mathlib.Core.List.{List}
use Prim.Native.Nat.{ℕ, ◌/◌, ◌≤◌}
use native.Mathlib.Omega.{arith}
use borrow.Author.Tests.{not-false, leb-false, ltb-false, eqb-true}
use Rattle.numbers.specs.Value.{prime, IsModulus}
use Rattle.numbers.proofs.Primes.{prime_pos}
use Rattle.numbers.proofs.ModulusCases.{tested_modulus}
use Rattle.slices.proofs.Bounds.{below_all_below}
use Rattle.lengths.specs.Lengths.{product, octal, factors_ok, kind_of}
use Rattle.refusals.specs.Refusals.{first}
use Rattle.refusals.proofs.Tests.{Passed, passed}
use Rattle.lengths.specs.Admitted.{AdmittedLength}
use Rattle.lengths.proofs.Counts.{slots_le}
use Rattle.lengths.proofs.AdmittedLengths.{admitted_length, factor_list}
use Rattle.line.specs.Line.{line_tests}
use Rattle.line.specs.Answers.{Accepted}

module _ (m kind direction N : ℕ) (factors line : List ℕ) (scratch : ℕ) (none : 0 ≡ first (line_tests m kind direction N factors line scratch)) where
  tests : Passed (line_tests m kind direction N factors line scratch)
  tests = passed (line_tests m kind direction N factors line scratch) tt none

  pub accepted_modulus : IsModulus m
  accepted_modulus = tested_modulus m (not-false _ tests.0)

  pub accepted_size : AdmittedLength N
  accepted_size = admitted_length N (not-false _ tests.1.1.1.0)

  pub accepted_factors : (factors_ok factors ≡ true) × (product factors ≡ N / 2) × (product factors ≤ 1440)
  accepted_factors =
      let e : product factors ≡ N / 2 = eqb-true _ _ (not-false _ tests.1.1.1.1.1.0) in
      (not-false _ tests.1.1.1.1.0, e, omega (arith, accepted_size.short))

  pub accepted_line : Accepted m kind direction N (octal factors) line scratch
  accepted_line = record {
    modulus_is = accepted_modulus;
    kind_is = leb-false 6 kind tests.1.0;
    direction_is = leb-false 2 direction tests.1.1.0;
    size = accepted_size;
    list = factor_list factors accepted_size accepted_factors.0 accepted_factors.1;
    line_length = eqb-true _ _ (not-false _ tests.1.1.1.1.1.1.0);
    pairs_fit = omega (arith, slots_le (kind_of kind) (N / 2) accepted_size.positive, accepted_size.whole);
    scratch_fits = ltb-false scratch 11520 tests.1.1.1.1.1.1.1.0;
    below = below_all_below (prime m) line (prime_pos m) (not-false _ tests.1.1.1.1.1.1.1.1.0);
  }
