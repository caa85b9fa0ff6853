-- The place of an orbit: stored indices have different places inside the volume, each orbit has a stored index, so the least place of its stored images
-- lies in the volume and tells orbits apart.
use mathlib.Core.Path.{◌≡◌, refl, sym, ◌∙◌, ap, subst}
use mathlib.Core.Logic.{◌↔◌}
use mathlib.Core.Bool.{Bool, true, false, ◌&&◌, not, cond}
use mathlib.Core.List.{List, [], ◌∷◌}
use Prim.Native.Nat.{ℕ, suc, ◌+◌, ◌*◌, ◌<◌, ◌≤◌}
use native.Mathlib.Omega.{arith}
use lib.Dec.{T, eqb, eqb→eq, ltb, ltb→lt, nltb→le}
use borrow.Author.Tests.{eq-eqb}
use Rattle.algebra.specs.orbits.Orbit.{Mem, first, later}
use Rattle.algebra.specs.lines.Kinds.{Kind.symmetric, Kind.antisymmetric}
use Rattle.algebra.specs.cells.Cell.{J, Inside, Sym, ◌·◌, Group, P1, P2₁, Pm, Pa, P2₁2₁2₁, full, image_of, same_orbit, span, planes, stored_t, factor_acts}
use Rattle.algebra.specs.cells.CellPack.{even}
use Rattle.algebra.specs.cells.CellPlaces.{Stored, factor_operation}
use Rattle.algebra.proofs.ring.Bool.{and_l, and_r, split}
use Rattle.algebra.proofs.ring.Paths.{triple}
use Rattle.algebra.proofs.orbits.Orbits.{image_back}
use Rattle.algebra.proofs.cells.CellSym.{image_image, image_inside}
use Rattle.algebra.proofs.cells.CellGroup.{factor_action, closed, operation_in, operation_stored, orbit_iff}
use Rattle.algebra.proofs.cells.CellTests.{Positive, stored_iff}
use Rattle.numbers.proofs.Values.{field_ring, field_star}
use Rattle.slices.proofs.Rows.{block_inj}
use Rattle.cell.specs.Volume.{layers, pair_place, volume_length}
use Rattle.cell.specs.OrbitPlace.{place_in_line, number_place, lower, least_place, orbit_place, SamePlace}
use Rattle.cell.proofs.Tests.{true_iff}
use Rattle.cell.proofs.VolumeLayout.{place_inside}

-- ---- the places of stored indices

module _ (a : J) where
  -- they lie in the volume, and each is the place of one index
  record Places (g : Group) : Type 0 where
    pub low : (j : J) → Inside a j → Stored g a j → number_place g a j < volume_length g a
    pub one : (i j : J) → Inside a i → Inside a j → Stored g a i → Stored g a j → number_place g a i ≡ number_place g a j → i ≡ j

  same_pair_lem : (g : Group) (i j : J) (w u : ℕ) → Inside a i → Inside a j → Stored g a i → Stored g a j → pair_place g a w i.0 i.1 ≡ pair_place g a u j.0 j.1 → (w ≡ u) × (i.0 ≡ j.0) × (i.1 ≡ j.1)
  same_pair_lem g i j w u n m s t e = block_inj w u n.0 m.0 (omega (arith, s.0)) (omega (arith, t.0)) e

  -- lines whose stored indices have each a pair of their own
  whole_pairs : (g : Group) → span g a.2 ≡ layers g a → ((j : J) → number_place g a j ≡ 2 * pair_place g a j.2 j.0 j.1) → Places g
  whole_pairs g e f = record {
    low = λ j n s. omega (arith, f j, place_inside g a {w = j.2} {h = j.0} {k = j.1} (subst (λ q. j.2 < q) e s.1) n.0 (omega (arith, s.0)));
    one = λ i j n m s t q. let r = same_pair_lem g i j i.2 j.2 n m s t (omega (arith, f i, f j, q)) in triple r.1 r.2 r.0;
  }

  -- alternating lines: l = 0 and l = A share a pair; an index is at the last l, or before it
  data AtLast (g : Group) (j : J) : Type 0 where
    last : j.2 ≡ a.2 → number_place g a j ≡ 2 * pair_place g a 0 j.0 j.1 + 1 → AtLast g j
    before : j.2 < a.2 → number_place g a j ≡ 2 * pair_place g a j.2 j.0 j.1 → AtLast g j

  shared_pair : (g : Group) → 0 < a.2 → span g a.2 ≡ suc a.2 → layers g a ≡ a.2 → ((j : J) → number_place g a j ≡ cond (eqb j.2 a.2) (2 * pair_place g a 0 j.0 j.1 + 1) (2 * pair_place g a j.2 j.0 j.1)) → Places g
  shared_pair g pos e c f = record { low = λ j n s. low j n s (at j s); one = λ i j n m s t. one i j n m s t (at i s) (at j t) }
    where
      at : (j : J) → Stored g a j → AtLast g j
      at j s = split (eqb j.2 a.2) (λ b. number_place g a j ≡ cond b (2 * pair_place g a 0 j.0 j.1 + 1) (2 * pair_place g a j.2 j.0 j.1) → AtLast g j)
          (λ t q. last (eqb→eq _ _ t) q)
          (λ t q. before (less (λ z. not_both (eq-eqb j.2 a.2 z) t)) q)
          (f j)
        where
          less : (j.2 ≡ a.2 → ⊥) → j.2 < a.2
          less z = let l = subst (λ q. j.2 < q) e s.1 in omega arith

          not_both : {b : Bool} → b ≡ true → T (not b) → ⊥
          not_both {b} q t = subst (λ b. T (not b)) q t

      low : (j : J) → Inside a j → Stored g a j → AtLast g j → number_place g a j < volume_length g a
      low j n s (last l q) = omega (arith, q, place_inside g a {w = 0} {h = j.0} {k = j.1} (subst (λ c. 0 < c) (sym c) pos) n.0 (omega (arith, s.0)))
      low j n s (before l q) = omega (arith, q, place_inside g a {w = j.2} {h = j.0} {k = j.1} (subst (λ c. j.2 < c) (sym c) l) n.0 (omega (arith, s.0)))

      one : (i j : J) → Inside a i → Inside a j → Stored g a i → Stored g a j → AtLast g i → AtLast g j → number_place g a i ≡ number_place g a j → i ≡ j
      one i j n m s t (last l p) (last u q) e = let r = same_pair_lem g i j 0 0 n m s t (omega (arith, p, q, e)) in triple r.1 r.2 (l ∙ sym u)
      one i j n m s t (last l p) (before u q) e = absurd (omega (arith, p, q, e))
      one i j n m s t (before l p) (last u q) e = absurd (omega (arith, p, q, e))
      one i j n m s t (before l p) (before u q) e = let r = same_pair_lem g i j i.2 j.2 n m s t (omega (arith, p, q, e)) in triple r.1 r.2 r.0

  places : 0 < a.2 → (g : Group) → Places g
  unfolding number_place span planes
  places pos P1 = whole_pairs P1 refl (λ j. refl)
  places pos P2₁ = shared_pair P2₁ pos refl refl (λ j. refl)
  places pos Pm = whole_pairs Pm refl (λ j. refl)
  places pos Pa = whole_pairs Pa refl (λ j. mirror (even j.0) j)
    where
      mirror : (b : Bool) (j : J) → place_in_line Pa a (cond b symmetric antisymmetric) j.0 j.1 j.2 ≡ 2 * pair_place Pa a j.2 j.0 j.1
      mirror true j = refl
      mirror false j = refl
  places pos P2₁2₁2₁ = shared_pair P2₁2₁2₁ pos refl refl (λ j. refl)

-- ---- the least of them

module _ (g : Group) (a : J) where
  data Lower (i : J) (place : ℕ) : Type 0 where
    this : T (stored_t g a i) → number_place g a i < place → lower g a i place ≡ number_place g a i → Lower i place
    other : (T (stored_t g a i) → place ≤ number_place g a i) → lower g a i place ≡ place → Lower i place

  lower_by : (i : J) (place : ℕ) → Lower i place
  unfolding lower
  lower_by i place = split (stored_t g a i && ltb (number_place g a i) place) (λ b. lower g a i place ≡ cond b (number_place g a i) place → Lower i place)
      (λ t q. this (and_l (stored_t g a i) _ t) (ltb→lt _ _ (and_r (stored_t g a i) _ t)) q)
      (λ t q. other (λ s. nltb→le _ _ (not_and (stored_t g a i) _ s t)) q)
      refl
    where
      not_and : (b c : Bool) → T b → T (not (b && c)) → T (not c)
      not_and true c s t = t
      not_and false c s t = absurd s

  least_low : (l : List Sym) (j : J) (place : ℕ) → least_place g a l j place ≤ place
  unfolding least_place
  least_low [] j place = omega arith
  least_low (s ∷ l) j place = go (lower_by (image_of a s j) place) (least_low l j (lower g a (image_of a s j) place))
    where
      go : Lower (image_of a s j) place → least_place g a l j (lower g a (image_of a s j) place) ≤ lower g a (image_of a s j) place → least_place g a l j (lower g a (image_of a s j) place) ≤ place
      go (this t h q) r = omega arith
      go (other f q) r = omega arith

  least_le : (l : List Sym) (j : J) (place : ℕ) (s : Sym) → Mem s l → T (stored_t g a (image_of a s j)) → least_place g a l j place ≤ number_place g a (image_of a s j)
  unfolding least_place
  least_le (u ∷ l) j place s first t = go (lower_by (image_of a s j) place) (least_low l j (lower g a (image_of a s j) place))
    where
      go : Lower (image_of a s j) place → least_place g a l j (lower g a (image_of a s j) place) ≤ lower g a (image_of a s j) place → least_place g a l j (lower g a (image_of a s j) place) ≤ number_place g a (image_of a s j)
      go (this t h q) r = omega arith
      go (other f q) r = let h = f t in omega arith
  least_le (u ∷ l) j place s (later m) t = least_le l j _ s m t
  least_le [] j place s x'' t = elim x'' [ ]

  -- it is one of them, or the place to begin with
  data Least (l : List Sym) (j : J) (place : ℕ) : Type 0 where
    found : (s : Sym) → Mem s l → T (stored_t g a (image_of a s j)) → least_place g a l j place ≡ number_place g a (image_of a s j) → Least l j place
    not_found : least_place g a l j place ≡ place → Least l j place

  least : (l : List Sym) (j : J) (place : ℕ) → Least l j place
  unfolding least_place
  least [] j place = not_found refl
  least (s ∷ l) j place = go (lower_by (image_of a s j) place) (least l j (lower g a (image_of a s j) place))
    where
      go : Lower (image_of a s j) place → Least l j (lower g a (image_of a s j) place) → Least (s ∷ l) j place
      go w (found u m t q) = found u (later m) t q
      go (this t h e) (not_found q) = found s first t (q ∙ e)
      go (other f e) (not_found q) = not_found (q ∙ e)

-- ---- the place of an orbit

module _ (g : Group) (a : J) (long : Positive a) where
  pub orbit_place_low : (j : J) → Inside a j → orbit_place g a j < volume_length g a
  orbit_place_low j n =
      let s = operation_stored g a j n in
      let i = image_of a (factor_operation g a j) j in
      let p = least_le g a (full g) j (volume_length g a) (factor_operation g a j) (operation_in g a j) ((stored_iff g a i).1 s) in
      let q = (places a long.2 g).low i (image_inside a (factor_operation g a j) j n) s in
      omega arith

  abbrev At : J → Type 0
  At j = (s : Sym) × Mem s (full g) × Stored g a (image_of a s j) × (orbit_place g a j ≡ number_place g a (image_of a s j))

  -- it is the place of a stored image
  at_image : (j : J) → Inside a j → At j
  at_image j n = go (least g a (full g) j (volume_length g a)) (orbit_place_low j n)
    where
      go : Least g a (full g) j (volume_length g a) → orbit_place g a j < volume_length g a → At j
      go (found s m t q) l = (s, m, (stored_iff g a (image_of a s j)).0 t, q)
      go (not_found q) l = absurd (omega arith)

  back : (s : Sym) (j : J) → Inside a j → image_of a s (image_of a s j) ≡ j
  unfolding factor_acts
  back s j n = image_back (factor_action (field_ring 1) (field_star 1) a) (full g) (closed (field_ring 1) (field_star 1) a g) s j n

  has : (s t : Sym) → Mem s (full g) → Mem t (full g) → Mem (s · t) (full g)
  unfolding factor_acts
  has = (closed (field_ring 1) (field_star 1) a g).has_mul

  -- the stored images of an image are among those of the index
  orbit_le : (i : J) (s : Sym) → Inside a i → Mem s (full g) → orbit_place g a i ≤ orbit_place g a (image_of a s i)
  orbit_le i s n m =
      let r = at_image (image_of a s i) (image_inside a s i n) in
      let e = image_image a r.0 s i n in
      let p = least_le g a (full g) i (volume_length g a) (r.0 · s) (has r.0 s r.1 m) ((stored_iff g a (image_of a (r.0 · s) i)).1 (subst (Stored g a) e r.2)) in
      omega (arith, p, r.3, ap (number_place g a) e)

  pub same_place : (i j : J) → Inside a i → Inside a j → (orbit_place g a i ≡ orbit_place g a j) ↔ T (same_orbit g a i j)
  same_place i j n m = (
    λ e.
        let p = at_image i n in
        let q = at_image j m in
        let s = image_of a p.0 i in
        let t = image_of a q.0 j in
        let o = (places a long.2 g).one s t (image_inside a p.0 i n) (image_inside a q.0 j m) p.2 q.2 (sym p.3 ∙ e ∙ q.3) in
        (orbit_iff g a i j).1 (q.0 · p.0, has q.0 p.0 q.1 p.1, sym (image_image a q.0 p.0 i n) ∙ ap (image_of a q.0) o ∙ back q.0 j m),
    λ t.
        let r = (orbit_iff g a i j).0 t in
        let e = r.2 in
        let p = subst (λ k. orbit_place g a i ≤ orbit_place g a k) e (orbit_le i r.0 n r.1) in
        let q = subst (λ k. orbit_place g a j ≤ orbit_place g a k) (ap (image_of a r.0) (sym e) ∙ back r.0 i n) (orbit_le j r.0 m r.1) in
        omega arith,
  )

pub same_places : SamePlace
same_places = record {
  inside = λ g a long j n. orbit_place_low g a long j n;
  same = λ g a long i j n m. let r = same_place g a long i j n m in (λ e. (true_iff _).1 (r.0 e), λ e. r.1 ((true_iff _).0 e));
}
