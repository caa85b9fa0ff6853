-- What the tests behind refusals 12, 14 and 24 say at the groups: the orbit laws for packed factors, stored planes and records.
use mathlib.Core.Path.{◌≡◌, sym as inv, subst}
use mathlib.Core.Logic.{◌↔◌}
use mathlib.Core.Bool.{Bool}
use mathlib.Core.List.{List}
use Prim.Native.Nat.{ℕ, ◌*◌, ◌≤◌, ◌<◌}
use native.Mathlib.Omega.{arith}
use lib.Dec.{T, leb, leb→le, ltb→lt, le→leb, lt→ltb}
use Rattle.algebra.specs.ring.Ring.{Ops}
use Rattle.algebra.specs.ring.RingLaws.{CRing, Star}
use Rattle.algebra.specs.orbits.Orbit.{Perm, Acts, record_all}
use Rattle.algebra.specs.orbits.OrbitLaws.{AgreesWithItself, Obeying, Accepted, cell_of, Consistent}
use Rattle.algebra.specs.cells.Cell.{J, Inside, Sym, Group, P1, P2₁, Pm, Pa, P2₁2₁2₁, ops, full, image_of, point_image, same_j, span, planes, point_operation, implied_value, factor_acts, below, every_place, stored_t, stored_point_t, agrees_t}
use Rattle.algebra.specs.cells.CellSteps.{map_acts}
use Rattle.algebra.specs.cells.CellPlaces.{Stored, factor_operation, StoredPoint}
use Rattle.algebra.specs.cells.StoredTests.{consistent_factors_t, consistent_map_t}
use Rattle.algebra.proofs.ring.Bool.{and_l, and_r, and_i, imply_iff, every_at, every_by, below_at, below_by}
use Rattle.algebra.proofs.orbits.Orbits as O
use Rattle.algebra.proofs.orbits.OrbitOrder.{reorder_both}
use Rattle.algebra.proofs.cells.CellGroup.{factor_action, map_action, closed, map_closed, operation_in, operation_stored, point_operation_in, point_operation_stored, same_j_eq, same_j_refl}

pub every_place_at : (n m q : ℕ) (P : J → Bool) (j : J) → T (every_place n m q P) → j.0 < n → j.1 < m → j.2 < q → T (P j)
unfolding every_place
every_place_at n m q P j t h k l = below_at q (λ l. P (j.0, j.1, l)) j.2 (below_at m (λ k. below q (λ l. P (j.0, k, l))) j.1 (below_at n (λ h. below m (λ k. below q (λ l. P (h, k, l)))) j.0 t h) k) l

pub every_place_by : (n m q : ℕ) (P : J → Bool) → ((j : J) → j.0 < n → j.1 < m → j.2 < q → T (P j)) → T (every_place n m q P)
unfolding every_place
every_place_by n m q P f = below_by n _ (λ h hn. below_by m _ (λ k km. below_by q _ (λ l lq. f (h, k, l) hn km lq)))

pub stored_iff : (g : Group) (a j : J) → T (stored_t g a j) ↔ Stored g a j
stored_iff g a j = (λ t. (leb→le _ _ (and_l (leb j.1 a.1) _ t), ltb→lt _ _ (and_r (leb j.1 a.1) _ t)), λ s. and_i (leb j.1 a.1) _ (le→leb _ _ s.0) (lt→ltb _ _ s.1))

-- lengths of 2 and more
abbrev pub Positive : J → Type 0
Positive a = (0 < a.0) × (0 < a.1) × (0 < a.2)

span_fits : (g : Group) (c : ℕ) → 0 < c → span g c ≤ 2 * c
unfolding span
span_fits P1 c h = omega arith
span_fits P2₁ c h = omega arith
span_fits Pm c h = omega arith
span_fits Pa c h = omega arith
span_fits P2₁2₁2₁ c h = omega arith

planes_fit : (g : Group) (c : ℕ) → 0 < c → planes g c ≤ 2 * c
unfolding planes
planes_fit P1 c h = omega arith
planes_fit P2₁ c h = omega arith
planes_fit Pm c h = omega arith
planes_fit Pa c h = omega arith
planes_fit P2₁2₁2₁ c h = omega arith

module _ {R : Type 0} {𝓞 : Ops R} {conj : R → R} {i : R} (𝓡 : CRing 𝓞) (𝓢 : Star 𝓞 conj i) (eq : R → R → Bool) (eq_iff : (x y : R) → T (eq x y) ↔ (x ≡ y)) (g : Group) (a : J) (long : Positive a) where
  open 𝓞 use {zer as 𝟘}

  abbrev 𝓐 : Acts Sym J R
  𝓐 = factor_acts 𝓞 conj a

  abbrev 𝓜 : Acts Sym J R
  𝓜 = map_acts 𝓞 conj a

  -- 12
  pub agrees_iff : (j : J) (v : R) → T (agrees_t 𝓞 conj eq g a j v) ↔ AgreesWithItself 𝓐 (full g) j v
  unfolding agrees_t factor_acts
  agrees_iff j v = (
    λ t s m e. (eq_iff _ _).0 ((imply_iff (same_j (image_of a s j) j) _).0 (every_at (full g) _ s t m) (subst (λ y. T (same_j (image_of a s j) y)) e (same_j_refl (image_of a s j)))),
    λ c. every_by (full g) _ (λ s m. (imply_iff (same_j (image_of a s j) j) _).1 (λ t. (eq_iff _ _).1 (c s m (same_j_eq _ _ t)))),
  )

  -- 14: the test says that every stored image has the implied value ..
  consistent_test : (b : J → R) → T (consistent_factors_t 𝓞 conj eq g a b) ↔ Consistent 𝓐 (Inside a) (Stored g a) (full g) b
  unfolding consistent_factors_t factor_acts
  consistent_test b = (
    λ t s m j n st st'. (eq_iff _ _).0 ((imply_iff (stored_t g a (image_of a s j)) _).0 (every_at (full g) _ s (every_place_at _ _ _ _ j t n.0 (omega (arith, st.0)) st.1) m) ((stored_iff g a (image_of a s j)).1 st')),
    λ w. every_place_by _ _ _ _ (λ j hn km lq. every_by (full g) _ (λ s m. (imply_iff (stored_t g a (image_of a s j)) _).1 (λ t. (eq_iff _ _).1 (w s m j (hn, omega (arith, long.1), omega (arith, span_fits g a.2 long.2)) (omega arith, lq) ((stored_iff g a (image_of a s j)).0 t))))),
  )

  -- .. and that is: some cell that obeys group and Friedel has these values
  pub factors_test : (b : J → R) → T (consistent_factors_t 𝓞 conj eq g a b) ↔ ((F : J → R) × Obeying 𝓐 (Inside a) (full g) F × ((j : J) → Inside a j → Stored g a j → F j ≡ b j))
  unfolding factor_acts
  factors_test b = let w = O.consistent_iff (factor_action 𝓡 𝓢 a) (full g) (closed 𝓡 𝓢 a g) (Stored g a) (factor_operation g a) (λ j n. operation_in g a j) (λ j n. operation_stored g a j n) b in
      (λ t. w.0 ((consistent_test b).0 t), λ f. (consistent_test b).1 (w.1 f))

  -- that cell is the one that is read
  pub factors_read_lem : (b F : J → R) → Obeying 𝓐 (Inside a) (full g) F → ((j : J) → Inside a j → Stored g a j → F j ≡ b j) → (j : J) → Inside a j → F j ≡ cell_of 𝓐 (factor_operation g a) b j
  unfolding factor_acts
  factors_read_lem b F = O.consistent_one (factor_action 𝓡 𝓢 a) (full g) (closed 𝓡 𝓢 a g) (Stored g a) (factor_operation g a) (λ j n. operation_in g a j) (λ j n. operation_stored g a j n) b F

  -- reading a factor
  pub factor_read : (F : J → R) → Obeying 𝓐 (Inside a) (full g) F → (j : J) → Inside a j → F j ≡ implied_value 𝓞 conj (factor_operation g a j) j (F (image_of a (factor_operation g a j) j))
  unfolding factor_acts cell_of
  factor_read F o j n = inv (O.cell_of_obeying (factor_action 𝓡 𝓢 a) (full g) (closed 𝓡 𝓢 a g) (Stored g a) (factor_operation g a) (λ j n. operation_in g a j) (λ j n. operation_stored g a j n) F o j n)

  -- 14 of a map
  consistent_map_test : (m : J → R) → T (consistent_map_t 𝓞 conj eq g a m) ↔ Consistent 𝓜 (Inside a) (StoredPoint g a) (ops g) m
  unfolding consistent_map_t map_acts
  consistent_map_test b = (
    λ t s m j n st st'. (eq_iff _ _).0 ((imply_iff (stored_point_t g a (point_image a s j)) _).0 (every_at (ops g) _ s (every_place_at _ _ _ _ j t n.0 n.1 st) m) (lt→ltb _ _ st')),
    λ w. every_place_by _ _ _ _ (λ j hn km lq. every_by (ops g) _ (λ s m. (imply_iff (stored_point_t g a (point_image a s j)) _).1 (λ t. (eq_iff _ _).1 (w s m j (hn, km, omega (arith, planes_fit g a.2 long.2)) lq (ltb→lt _ _ t))))),
  )

  pub map_read : (m M : J → R) → Obeying 𝓜 (Inside a) (ops g) M → ((x : J) → Inside a x → StoredPoint g a x → M x ≡ m x) → (x : J) → Inside a x → M x ≡ cell_of 𝓜 (point_operation g a) m x
  unfolding map_acts
  map_read m M = O.consistent_one (map_action 𝓡 𝓢 a) (ops g) (map_closed 𝓡 𝓢 a g) (StoredPoint g a) (point_operation g a) (λ j n. point_operation_in g a j) (λ j n. point_operation_stored g a j n) m M

  -- two orders in which every record is accepted
  pub records_order : {rs qs : List (J × R)} → Perm rs qs → (F : J → R) → Obeying 𝓐 (Inside a) (full g) F → Accepted 𝓐 (Inside a) (full g) rs F → Accepted 𝓐 (Inside a) (full g) qs F → record_all 𝓐 (full g) rs F ≡ record_all 𝓐 (full g) qs F
  unfolding factor_acts
  records_order = reorder_both (factor_action 𝓡 𝓢 a) (full g) (closed 𝓡 𝓢 a g) eq eq_iff
