-- The header of sound parameters has no NaN, and leaves mean and RMS deviation undetermined.
use mathlib.Core.Path.{◌≡◌, ◌∙◌, ap}
use mathlib.Core.Bool.{true, not}
use Prim.Native.Nat.{ℕ, ◌≤◌}
use native.Mathlib.Omega.{arith}
use lib.Dec.{T, eqb}
use lib.IntN.{ℤ, pos, negsuc, nat_abs, pred_ℤ, ◌-ℤ◌, -ℤ_one}
use lib.Ieee.{Float, lt, is_nan}
use Rattle.algebra.specs.cells.Cell.{J}
use Rattle.refusals.proofs.Tests.{both}
use Rattle.mrc.specs.Floats.{float_of, exact_limit}
use Rattle.mrc.specs.Parameters.{of_group, are_edges}
use Rattle.mrc.specs.Header.{headed, header_of, NoNan, Undetermined}
use Rattle.mrc.specs.declared.parameters.CellParameters.{CellParameters}
use Rattle.mrc.specs.declared.parameters.CellParameters.TheVariants.{Triclinic, Monoclinic}
use Rattle.mrc.proofs.WholeFloats.{whole_number, one_less, one_less_within}
use Rattle.mrc.proofs.EdgesAngles.{edges_numbers, angles_numbers, gamma_number}

-- ---- no NaN

module _ (least greatest : ℤ) (low : nat_abs least ≤ exact_limit) (high : nat_abs greatest ≤ exact_limit) where
  headed_numbers : (n : J) (a b c alpha beta gamma : Float) → T (not (is_nan a)) × T (not (is_nan b)) × T (not (is_nan c)) → T (not (is_nan alpha)) × T (not (is_nan beta)) × T (not (is_nan gamma))
      → NoNan (headed n a b c alpha beta gamma least greatest)
  headed_numbers n a b c alpha beta gamma e f = record {
    a = e.0;
    b = e.1;
    c = e.2;
    alpha = f.0;
    beta = f.1;
    gamma = f.2;
    least = whole_number least (omega arith);
    greatest = whole_number greatest (omega arith);
    mean = rw (-ℤ_one least) (whole_number (pred_ℤ least) (one_less_within least low));
    rms = whole_number (negsuc 0) (omega arith);
  }

  right_angle : T (not (is_nan (float_of (pos 90))))
  right_angle = whole_number (pos 90) (omega arith)

  pub header_numbers : (n : J) (group : ℕ) (parameters : CellParameters) → of_group group parameters ≡ true → NoNan (header_of n parameters least greatest)
  unfolding of_group
  header_numbers n group (Triclinic a b c alpha beta gamma) e =
      let p = both (are_edges a b c) _ (both (eqb group 0) _ e).1 in
      headed_numbers n a b c alpha beta gamma (edges_numbers a b c p.0) (angles_numbers alpha beta gamma p.1)
  header_numbers n group (Monoclinic a b c gamma) e =
      let p = both (are_edges a b c) _ (both (not (eqb group 0)) _ e).1 in
      headed_numbers n a b c (float_of (pos 90)) (float_of (pos 90)) gamma (edges_numbers a b c p.0) (right_angle, right_angle, gamma_number group gamma p.1)

-- ---- not determined

mean_less : (least : ℤ) → nat_abs least ≤ exact_limit → lt (float_of (least -ℤ pos 1)) (float_of least) ≡ true
mean_less least l = ap (λ z. lt (float_of z) (float_of least)) (-ℤ_one least) ∙ one_less least l

rms_negative : lt (float_of (negsuc 0)) (float_of (pos 0)) ≡ true
rms_negative = one_less (pos 0) (omega arith)

pub undetermined : Undetermined
undetermined n (Triclinic a b c alpha beta gamma) least greatest l = record { mean = mean_less least l; rms = rms_negative }
undetermined n (Monoclinic a b c gamma) least greatest l = record { mean = mean_less least l; rms = rms_negative }
