-- The groups: their tables are closed, both actions are actions, and each factor and point is read at a stored place.
use mathlib.Core.Path.{◌≡◌, refl, sym as inv, ◌∙◌, ap, subst}
use mathlib.Core.Logic.{◌↔◌}
use mathlib.Core.Bool.{Bool, true, false, ◌&&◌, ◌||◌, cond, not}
use mathlib.Core.List.{List, [], ◌∷◌}
use Prim.Native.Nat.{ℕ, suc, ◌*◌, ◌≤◌, ◌<◌}
use native.Mathlib.Omega.{arith}
use lib.Dec.{T, eqb, eqb→eq, eqb_refl, leb, ltb, ltb→lt, nltb→le, leb→le, nleb→lt}
use Rattle.algebra.specs.ring.Ring.{Ops}
use Rattle.algebra.specs.ring.RingLaws.{CRing, Star}
use Rattle.algebra.specs.orbits.Orbit.{Mem, first, later}
use Rattle.algebra.specs.orbits.OrbitLaws.{Action, Closed}
use Rattle.algebra.specs.cells.Cell.{every, J, Inside, Sym, sym, one, friedel, ◌·◌, Group, P1, P2₁, Pm, Pa, P2₁2₁2₁, ops, full, image_of, point_image, neg_i, half_i, flip, shifted, same_j, same_orbit, span, planes, plane_sym, point_operation, star, implied_value, implied_density, factor_acts}
use Rattle.algebra.specs.cells.CellSteps.{map_acts}
use Rattle.algebra.specs.cells.CellPlaces.{line_sym, Stored, line_operation, factor_operation, StoredPoint}
use Rattle.algebra.proofs.ring.Paths.{triple}
use Rattle.algebra.proofs.ring.Bool.{and_l, and_r, and_i, or_e, split, every_at, some_at, some_by}
use Rattle.algebra.proofs.ring.Laws.{mul_zero}
use Rattle.algebra.proofs.ring.Conj.{conj_zero}
use Rattle.algebra.proofs.cells.CellAxis.{neg_pos, half_high}
use Rattle.algebra.proofs.cells.CellSym as S

-- places
pub same_j_eq : (i j : J) → T (same_j i j) → i ≡ j
same_j_eq i j t = triple (eqb→eq i.0 j.0 (and_l (eqb i.0 j.0) _ t)) (eqb→eq i.1 j.1 (and_l (eqb i.1 j.1) _ (and_r (eqb i.0 j.0) _ t))) (eqb→eq i.2 j.2 (and_r (eqb i.1 j.1) _ (and_r (eqb i.0 j.0) _ t)))

pub same_j_refl : (i : J) → T (same_j i i)
same_j_refl i = and_i (eqb i.0 i.0) _ (eqb_refl i.0) (and_i (eqb i.1 i.1) _ (eqb_refl i.1) (eqb_refl i.2))

-- one orbit: the second is an image of the first
pub orbit_iff : (g : Group) (a i j : J) → T (same_orbit g a i j) ↔ ((s : Sym) × Mem s (full g) × (image_of a s i ≡ j))
unfolding same_orbit
orbit_iff g a i j = (
  λ t. let r = some_at (full g) _ t in (r.0, r.1, same_j_eq _ _ r.2),
  λ r. some_by (full g) _ r.0 r.1 (subst (λ q. T (same_j (image_of a r.0 i) q)) r.2 (same_j_refl (image_of a r.0 i))),
)

-- operations, as tests
abbrev eq_b : Bool → Bool → Bool
eq_b true b = b
eq_b false b = not b

eq_b_eq : (a b : Bool) → T (eq_b a b) → a ≡ b
eq_b_eq true true t = refl
eq_b_eq true false t = absurd t
eq_b_eq false true t = absurd t
eq_b_eq false false t = refl

abbrev eq_s : Sym → Sym → Bool
eq_s (sym c f g h p q r) (sym c₁ f₁ g₁ h₁ p₁ q₁ r₁) = eq_b c c₁ && (eq_b f f₁ && (eq_b g g₁ && (eq_b h h₁ && (eq_b p p₁ && (eq_b q q₁ && eq_b r r₁)))))

eq_s_eq : (s t : Sym) → T (eq_s s t) → s ≡ t
eq_s_eq (sym c f g h p q r) (sym c₁ f₁ g₁ h₁ p₁ q₁ r₁) t₀ =
    let t₁ = and_r (eq_b c c₁) _ t₀ in
    let t₂ = and_r (eq_b f f₁) _ t₁ in
    let t₃ = and_r (eq_b g g₁) _ t₂ in
    let t₄ = and_r (eq_b h h₁) _ t₃ in
    let t₅ = and_r (eq_b p p₁) _ t₄ in
    let e₀ = eq_b_eq c c₁ (and_l (eq_b c c₁) _ t₀) in
    let e₁ = eq_b_eq f f₁ (and_l (eq_b f f₁) _ t₁) in
    let e₂ = eq_b_eq g g₁ (and_l (eq_b g g₁) _ t₂) in
    let e₃ = eq_b_eq h h₁ (and_l (eq_b h h₁) _ t₃) in
    let e₄ = eq_b_eq p p₁ (and_l (eq_b p p₁) _ t₄) in
    let e₅ = eq_b_eq q q₁ (and_l (eq_b q q₁) _ t₅) in
    let e₆ = eq_b_eq r r₁ (and_r (eq_b q q₁) _ t₅) in
    λ i. sym (e₀ i) (e₁ i) (e₂ i) (e₃ i) (e₄ i) (e₅ i) (e₆ i)

abbrev memb : Sym → List Sym → Bool
memb s [] = false
memb s (t ∷ l) = eq_s s t || memb s l

pub memb_ok : (s : Sym) (l : List Sym) → T (memb s l) → Mem s l
memb_ok s [] t = absurd t
memb_ok s (u ∷ l) t = or_e (eq_s s u) (memb s l) (Mem s (u ∷ l)) t (λ h. subst (λ y. Mem y (u ∷ l)) (inv (eq_s_eq s u h)) first) (λ h. later (memb_ok s l h))

-- closed under products, with the identity
abbrev closed_t : List Sym → Bool
closed_t l = memb one l && every l (λ s. every l (λ t. memb (s · t) l))

-- what each group's table is tested for, once
abbrev table_t : Group → Bool
table_t g = closed_t (full g) && (closed_t (ops g) && (memb (line_sym g) (full g) && (memb friedel (full g) && memb (plane_sym g) (ops g))))

tables : (g : Group) → T (table_t g)
unfolding every
tables P1 = tt
tables P2₁ = tt
tables Pm = tt
tables Pa = tt
tables P2₁2₁2₁ = tt

closed_one : (l : List Sym) → T (closed_t l) → Mem one l
closed_one l c = memb_ok one l (and_l (memb one l) _ c)

closed_mul : (l : List Sym) → T (closed_t l) → (s t : Sym) → Mem s l → Mem t l → Mem (s · t) l
closed_mul l c s t m n = memb_ok (s · t) l (every_at l (λ t. memb (s · t) l) t (every_at l (λ s. every l (λ t. memb (s · t) l)) s (and_r (memb one l) _ c) m) n)

full_closed : (g : Group) → T (closed_t (full g))
full_closed g = and_l (closed_t (full g)) _ (tables g)

after_full : (g : Group) → T (closed_t (ops g) && (memb (line_sym g) (full g) && (memb friedel (full g) && memb (plane_sym g) (ops g))))
after_full g = and_r (closed_t (full g)) _ (tables g)

ops_closed : (g : Group) → T (closed_t (ops g))
ops_closed g = and_l (closed_t (ops g)) _ (after_full g)

after_ops : (g : Group) → T (memb (line_sym g) (full g) && (memb friedel (full g) && memb (plane_sym g) (ops g)))
after_ops g = and_r (closed_t (ops g)) _ (after_full g)

pub line_mem : (g : Group) → Mem (line_sym g) (full g)
line_mem g = memb_ok _ _ (and_l (memb (line_sym g) (full g)) _ (after_ops g))

pub friedel_mem : (g : Group) → Mem friedel (full g)
friedel_mem g = memb_ok _ _ (and_l (memb friedel (full g)) _ (and_r (memb (line_sym g) (full g)) _ (after_ops g)))

pub plane_mem : (g : Group) → Mem (plane_sym g) (ops g)
plane_mem g = memb_ok _ _ (and_r (memb friedel (full g)) _ (and_r (memb (line_sym g) (full g)) _ (after_ops g)))

-- both actions
module _ {R : Type 0} {𝓞 : Ops R} {conj : R → R} {i : R} (𝓡 : CRing 𝓞) (𝓢 : Star 𝓞 conj i) (a : J) where
  open 𝓞 use {zer as 𝟘}

  star_zero : (c : Bool) → star conj c 𝟘 ≡ 𝟘
  unfolding star
  star_zero false = refl
  star_zero true = conj_zero 𝓡 𝓢

  pub implied_zero : (s : Sym) (j : J) → implied_value 𝓞 conj s j 𝟘 ≡ 𝟘
  unfolding implied_value
  implied_zero (sym c f g h p q r) j = ap (star conj c) (simp (mul_zero 𝓡)) ∙ star_zero c

  pub density_zero : (s : Sym) → implied_density conj s 𝟘 ≡ 𝟘
  unfolding implied_density
  density_zero (sym c f g h p q r) = star_zero c

  pub factor_action : Action (factor_acts 𝓞 conj a) (Inside a)
  unfolding factor_acts
  factor_action = record {
    square = S.square;
    same_eq = same_j_eq;
    same_refl = same_j_refl;
    image_inside = S.image_inside a;
    image_one = S.image_one a;
    image_image = S.image_image a;
    implied_one = S.implied_one 𝓡 𝓢;
    implied_implied = S.implied_implied 𝓡 𝓢;
    implied_image = S.implied_image 𝓡 𝓢 a;
    implied_zero = implied_zero;
  }

  pub map_action : Action (map_acts 𝓞 conj a) (Inside a)
  unfolding map_acts
  map_action = record {
    square = S.square;
    same_eq = same_j_eq;
    same_refl = same_j_refl;
    image_inside = S.point_inside a;
    image_one = S.point_one a;
    image_image = S.point_point a;
    implied_one = λ j v. S.density_one 𝓡 𝓢 v;
    implied_implied = λ s t j v. S.density_density 𝓡 𝓢 s t v;
    implied_image = λ s t j v n. refl;
    implied_zero = λ s j. density_zero s;
  }

  pub closed : (g : Group) → Closed (factor_acts 𝓞 conj a) (full g)
  unfolding factor_acts
  closed g = record { has_one = closed_one (full g) (full_closed g); has_mul = closed_mul (full g) (full_closed g) }

  pub map_closed : (g : Group) → Closed (map_acts 𝓞 conj a) (ops g)
  unfolding map_acts
  map_closed g = record { has_one = closed_one (ops g) (ops_closed g); has_mul = closed_mul (ops g) (ops_closed g) }

-- reading a factor: the operation is one of the group's, and leads to a stored place
line_operation_in : (g : Group) (a j : J) → Mem (line_operation g a j) (full g)
unfolding line_operation
line_operation_in g a j = split (ltb j.2 (span g a.2)) (λ b. Mem (cond b one (line_sym g)) (full g)) (λ t. closed_one (full g) (full_closed g)) (λ t. line_mem g)

pub operation_in : (g : Group) (a j : J) → Mem (factor_operation g a j) (full g)
unfolding factor_operation
operation_in g a j =
    split (leb j.1 a.1) (λ b. Mem (cond b (line_operation g a j) (line_operation g a (image_of a friedel j) · friedel)) (full g)) (λ t. line_operation_in g a j)
    (λ t. closed_mul (full g) (full_closed g) _ _ (line_operation_in g a (image_of a friedel j)) (friedel_mem g))

line_neg : (c l : ℕ) → suc c ≤ l → l < 2 * c → neg_i c l < suc c
line_neg c l h m = rw (neg_pos c l (omega arith) m) (omega arith)

line_stored : (g : Group) (a j : J) → Inside a j → j.1 ≤ a.1 → span g a.2 ≤ j.2 → Stored g a (image_of a (line_sym g) j)
unfolding image_of flip span
line_stored P1 a j n k h = absurd (omega (arith, n.2))
line_stored P2₁ a j n k h = (k, line_neg a.2 j.2 h n.2)
line_stored Pm a j n k h = (k, line_neg a.2 j.2 h n.2)
line_stored Pa a j n k h = (k, line_neg a.2 j.2 h n.2)
line_stored P2₁2₁2₁ a j n k h = (k, line_neg a.2 j.2 h n.2)

line_operation_stored : (g : Group) (a j : J) → Inside a j → j.1 ≤ a.1 → Stored g a (image_of a (line_operation g a j) j)
unfolding line_operation
line_operation_stored g a j n k = split (ltb j.2 (span g a.2)) (λ b. Stored g a (image_of a (cond b one (line_sym g)) j)) (λ t. subst (Stored g a) (inv (S.image_one a j)) (k, ltb→lt _ _ t)) (λ t. line_stored g a j n k (nltb→le _ _ t))

friedel_low : (a j : J) → Inside a j → a.1 < j.1 → (image_of a friedel j).1 ≤ a.1
unfolding image_of flip
friedel_low a j n h = rw (neg_pos a.1 j.1 (omega arith) n.1) (omega (arith, n.1))

pub operation_stored : (g : Group) (a j : J) → Inside a j → Stored g a (image_of a (factor_operation g a j) j)
unfolding factor_operation
operation_stored g a j n =
    split (leb j.1 a.1) (λ b. Stored g a (image_of a (cond b (line_operation g a j) (line_operation g a (image_of a friedel j) · friedel)) j)) (λ t. line_operation_stored g a j n (leb→le _ _ t))
    (λ t. subst (Stored g a) (S.image_image a (line_operation g a (image_of a friedel j)) friedel j n) (line_operation_stored g a (image_of a friedel j) (S.image_inside a friedel j n) (friedel_low a j n (nleb→lt _ _ t))))

-- reading a point
pub point_operation_in : (g : Group) (a j : J) → Mem (point_operation g a j) (ops g)
unfolding point_operation
point_operation_in g a j = split (ltb j.2 (planes g a.2)) (λ b. Mem (cond b one (plane_sym g)) (ops g)) (λ t. closed_one (ops g) (ops_closed g)) (λ t. plane_mem g)

up : (c z : ℕ) → c ≤ z → z < 2 * c → half_i c z < c
up c z h m = rw (half_high c z h m) (omega arith)

plane_stored : (g : Group) (a x : J) → Inside a x → planes g a.2 ≤ x.2 → StoredPoint g a (point_image a (plane_sym g) x)
unfolding point_image flip shifted planes
plane_stored P1 a x n h = absurd (omega (arith, n.2))
plane_stored P2₁ a x n h = up a.2 x.2 h n.2
plane_stored Pm a x n h = line_neg a.2 x.2 h n.2
plane_stored Pa a x n h = line_neg a.2 x.2 h n.2
plane_stored P2₁2₁2₁ a x n h = up a.2 x.2 h n.2

pub point_operation_stored : (g : Group) (a j : J) → Inside a j → StoredPoint g a (point_image a (point_operation g a j) j)
unfolding point_operation
point_operation_stored g a j n = split (ltb j.2 (planes g a.2)) (λ b. StoredPoint g a (point_image a (cond b one (plane_sym g)) j)) (λ t. subst (StoredPoint g a) (inv (S.point_one a j)) (ltb→lt _ _ t)) (λ t. plane_stored g a j n (nltb→le _ _ t))

-- and that operation does not conjugate
pub point_operation_plain : {R : Type 0} (conj : R → R) (g : Group) (a x : J) (v : R) → implied_density conj (point_operation g a x) v ≡ v
unfolding point_operation implied_density star
point_operation_plain conj g a x v = go (ltb x.2 (planes g a.2)) g
  where
    go : (b : Bool) (g : Group) → implied_density conj (cond b one (plane_sym g)) v ≡ v
    go true g = refl
    go false P1 = refl
    go false P2₁ = refl
    go false Pm = refl
    go false Pa = refl
    go false P2₁2₁2₁ = refl
