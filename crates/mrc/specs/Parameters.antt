-- The unit cell's edges and angles, and what is refused of them.
use Rattle.algebra.specs.Prelude.{Bool, true, false, not, cond, eqb, ℕ}
use Rattle.signed.specs.Integers.{pos}
use Rattle.std.specs.Prelude.{Float, ◌≡◌, ◌&&◌, ◌≤◌}
use Rattle.std.specs.Float.Ieee.{Float.nan, Float.inf, Float.fin, lt, eq}
use Rattle.mrc.specs.Floats.{float_of, binary32, of_bits}
use Rattle.mrc.specs.declared.parameters.CellParameters.{CellParameters}
use Rattle.mrc.specs.declared.parameters.CellParameters.TheVariants.{Triclinic, Monoclinic}

-- an edge: finite and above 0, which -0 is not
unfoldable pub is_edge : Float → Bool
is_edge nan = false
is_edge (inf s) = false
is_edge (fin s m e) = lt (float_of (pos 0)) (fin s m e)

-- an angle in degrees: strictly between 0 and 180, so no NaN
unfoldable pub is_angle : Float → Bool
is_angle x = lt (float_of (pos 0)) x && lt x (float_of (pos 180))

-- the one free angle of a group: any, but exactly 90 in group 4, P2₁2₁2₁
unfoldable pub is_gamma : (group : ℕ) → Float → Bool
is_gamma group x = cond (eqb group 4) (eq x (float_of (pos 90))) (is_angle x)

unfoldable pub are_edges : (a b c : Float) → Bool
are_edges a b c = is_edge a && (is_edge b && is_edge c)

unfoldable pub are_angles : (alpha beta gamma : Float) → Bool
are_angles alpha beta gamma = is_angle alpha && (is_angle beta && is_angle gamma)

-- the parameters are of the group's kind, three angles for group 0, P1, and one for the others; and each is an edge or
-- an angle
unfoldable pub of_group : (group : ℕ) → CellParameters → Bool
of_group group (Triclinic a b c alpha beta gamma) = eqb group 0 && (are_edges a b c && are_angles alpha beta gamma)
of_group group (Monoclinic a b c gamma) = not (eqb group 0) && (are_edges a b c && is_gamma group gamma)

-- ---- the ends of what is taken

-- No NaN, no infinity and neither zero is an edge; the least and the greatest positive float are. No NaN, not 0 and not
-- 180 are an angle; the floats next to them are. Group 4 has 90 alone: neither of the floats next to it.
pub record ParameterEnds : Type 0 where
  pub no_nan_edge : is_edge nan ≡ false
  pub no_infinite_edge : (s : Bool) → is_edge (inf s) ≡ false
  pub no_zero_edge : (s : Bool) → is_edge (fin s 0 (pos 0)) ≡ false
  pub least_edge : is_edge (of_bits binary32 1) ≡ true
  pub greatest_edge : is_edge (of_bits binary32 2139095039) ≡ true
  pub no_nan_angle : is_angle nan ≡ false
  pub no_zero_angle : is_angle (float_of (pos 0)) ≡ false
  pub no_straight_angle : is_angle (float_of (pos 180)) ≡ false
  pub least_angle : is_angle (of_bits binary32 1) ≡ true
  pub greatest_angle : is_angle (of_bits binary32 1127481343) ≡ true
  pub right_gamma : is_gamma 4 (float_of (pos 90)) ≡ true
  pub no_less_gamma : is_gamma 4 (of_bits binary32 1119092735) ≡ false
  pub no_greater_gamma : is_gamma 4 (of_bits binary32 1119092737) ≡ false

-- What is taken in each group. P1 has three angles, each any; the others have gamma alone: any in groups 1, 2 and 3,
-- and 90 in group 4.
pub record GroupParameters : Type 0 where
  pub p1 :
      (a b c alpha beta gamma : Float) →
      of_group 0 (Triclinic a b c alpha beta gamma)
      ≡ is_edge a && (is_edge b && (is_edge c && (is_angle alpha && (is_angle beta && is_angle gamma))))
  pub p1_not_one : (a b c gamma : Float) → of_group 0 (Monoclinic a b c gamma) ≡ false
  pub not_three :
      (group : ℕ) → (group ≡ 0 → ⊥) →
      (a b c alpha beta gamma : Float) → of_group group (Triclinic a b c alpha beta gamma) ≡ false
  pub one :
      (group : ℕ) → 1 ≤ group → group ≤ 3 →
      (a b c gamma : Float) →
      of_group group (Monoclinic a b c gamma) ≡ is_edge a && (is_edge b && (is_edge c && is_angle gamma))
  pub right :
      (a b c gamma : Float) →
      of_group 4 (Monoclinic a b c gamma) ≡ is_edge a && (is_edge b && (is_edge c && eq gamma (float_of (pos 90))))
