-- Edges and angles: what a comparison with the ends says, and that neither is a NaN.
use mathlib.Core.Path.{◌≡◌, refl, sym, ◌∙◌, ap, subst}
use mathlib.Core.Bool.{Bool, true, false, not, ◌&&◌, cond}
use Prim.Native.Nat.{ℕ, ◌≤◌}
use native.Mathlib.Omega.{arith}
use borrow.Author.Tests.{ne_eqb}
use lib.Dec.{T, eqb}
use lib.IntN.{pos}
use lib.Ieee.{Float, nan, inf, fin, binary32, lt, eq, of_int, of_bits, is_nan}
use Rattle.refusals.proofs.Tests.{both}
use Rattle.mrc.specs.Floats.{float_of}
use Rattle.mrc.specs.Parameters.{is_edge, is_angle, is_gamma, are_edges, are_angles, of_group, ParameterEnds, GroupParameters}

never {ℓ} : {X : Type ℓ} → false ≡ true → X
never e = absurd (subst T (sym e) tt)

-- ---- the literals of the code

pub zero_is : float_of (pos 0) ≡ of_bits binary32 0
unfolding of_int of_bits
zero_is = refl

pub right_angle_is : float_of (pos 90) ≡ of_bits binary32 1119092736
unfolding of_int of_bits
right_angle_is = refl

pub straight_is : float_of (pos 180) ≡ of_bits binary32 1127481344
unfolding of_int of_bits
straight_is = refl

-- ---- an edge above 0 is finite where it is less than the infinity

pub below_infinity : (x : Float) → lt (of_bits binary32 0) x ≡ true → lt x (of_bits binary32 2139095040) ≡ is_edge x
unfolding of_bits of_int lt is_edge
below_infinity nan e = refl
below_infinity (inf true) e = never e
below_infinity (inf false) e = refl
below_infinity (fin s m k) e = sym e

pub not_above : (x : Float) → lt (of_bits binary32 0) x ≡ false → false ≡ is_edge x
unfolding of_bits of_int lt is_edge
not_above nan e = refl
not_above (inf s) e = refl
not_above (fin s m k) e = sym e

pub between_ends : (x : Float) (b : Bool) → lt (of_bits binary32 0) x ≡ b → b && lt x (of_bits binary32 1127481344) ≡ is_angle x
unfolding is_angle
between_ends x b e = (λ k. sym e k && lt x (sym straight_is k)) ∙ ap (λ y. lt y x && lt x (float_of (pos 180))) (sym zero_is)

-- ---- none is a NaN

pub edge_number : (x : Float) → is_edge x ≡ true → T (not (is_nan x))
unfolding is_edge is_nan
edge_number nan e = never e
edge_number (inf s) e = tt
edge_number (fin s m k) e = tt

pub angle_number : (x : Float) → is_angle x ≡ true → T (not (is_nan x))
unfolding is_angle is_nan lt
angle_number nan e = never (both (lt (float_of (pos 0)) nan) false e).1
angle_number (inf s) e = tt
angle_number (fin s m k) e = tt

equal_number : (x y : Float) → eq x y ≡ true → T (not (is_nan x))
unfolding eq is_nan
equal_number nan y e = never e
equal_number (inf s) y e = tt
equal_number (fin s m k) y e = tt

pub gamma_number : (group : ℕ) (x : Float) → is_gamma group x ≡ true → T (not (is_nan x))
unfolding is_gamma
gamma_number group x e = by (eqb group 4) e
  where
    by : (b : Bool) → cond b (eq x (float_of (pos 90))) (is_angle x) ≡ true → T (not (is_nan x))
    by true e = equal_number x (float_of (pos 90)) e
    by false e = angle_number x e

pub edges_numbers : (a b c : Float) → are_edges a b c ≡ true → T (not (is_nan a)) × T (not (is_nan b)) × T (not (is_nan c))
unfolding are_edges
edges_numbers a b c e = let p = both (is_edge a) _ e in let q = both (is_edge b) _ p.1 in (edge_number a p.0, edge_number b q.0, edge_number c q.1)

pub angles_numbers : (a b c : Float) → are_angles a b c ≡ true → T (not (is_nan a)) × T (not (is_nan b)) × T (not (is_nan c))
unfolding are_angles
angles_numbers a b c e = let p = both (is_angle a) _ e in let q = both (is_angle b) _ p.1 in (angle_number a p.0, angle_number b q.0, angle_number c q.1)

-- ---- the ends, computed

zero_edge : (s : Bool) → is_edge (fin s 0 (pos 0)) ≡ false
unfolding is_edge lt of_int
zero_edge false = refl
zero_edge true = refl

pub parameter_ends : ParameterEnds
unfolding is_edge is_angle is_gamma lt eq of_int of_bits
parameter_ends = record {
  no_nan_edge = refl;
  no_infinite_edge = λ s. refl;
  no_zero_edge = zero_edge;
  least_edge = refl;
  greatest_edge = refl;
  no_nan_angle = refl;
  no_zero_angle = refl;
  no_straight_angle = refl;
  least_angle = refl;
  greatest_angle = refl;
  right_gamma = refl;
  no_less_gamma = refl;
  no_greater_gamma = refl;
}

-- ---- every group

regroup : (a b c x : Bool) → (a && (b && c)) && x ≡ a && (b && (c && x))
regroup false b c x = refl
regroup true false c x = refl
regroup true true c x = refl

other_group : (group : ℕ) (x : Bool) → (group ≡ 0 → ⊥) → eqb group 0 && x ≡ false
other_group group x n = ap (λ (b : Bool). b && x) (ne_eqb group 0 n)

one_angle : (group : ℕ) (a b c x : Float) → 1 ≤ group → group ≤ 3 → not (eqb group 0) && (are_edges a b c && is_gamma group x) ≡ is_edge a && (is_edge b && (is_edge c && is_angle x))
unfolding are_edges is_gamma
one_angle group a b c x l m =
    ap (λ (q : Bool). not q && (are_edges a b c && is_gamma group x)) (ne_eqb group 0 (λ e. absurd (omega (arith, e, l))))
    ∙ ap (λ (q : Bool). are_edges a b c && cond q (eq x (float_of (pos 90))) (is_angle x)) (ne_eqb group 4 (λ e. absurd (omega (arith, e, m))))
    ∙ regroup (is_edge a) (is_edge b) (is_edge c) (is_angle x)

pub group_parameters : GroupParameters
unfolding of_group are_edges are_angles is_gamma
group_parameters = record {
  p1 = λ a b c alpha beta gamma. regroup (is_edge a) (is_edge b) (is_edge c) (is_angle alpha && (is_angle beta && is_angle gamma));
  p1_not_one = λ a b c gamma. refl;
  not_three = λ group n a b c alpha beta gamma. other_group group (are_edges a b c && are_angles alpha beta gamma) n;
  one = λ group l m a b c gamma. one_angle group a b c gamma l m;
  right = λ a b c gamma. regroup (is_edge a) (is_edge b) (is_edge c) (eq gamma (float_of (pos 90)));
}
