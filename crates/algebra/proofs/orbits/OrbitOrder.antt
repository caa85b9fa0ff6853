-- Records in another order. A zero changes nothing, so what accepted records leave is what those of them leave that are not zero; these are of different orbits, and their order is free.
use mathlib.Core.Path.{◌≡◌, refl, sym as inv, ◌∙◌, ap, subst}
use mathlib.Core.Logic.{◌≢◌, ◌↔◌}
use mathlib.Core.Bool.{Bool, cond}
use mathlib.Core.List.{List, [], ◌∷◌}
use lib.Dec.{T, T_not}
use Rattle.algebra.specs.orbits.Orbit.{Mem, first, later, Perm, p_nil, p_skip, p_swap, p_trans, Acts, recorded, record_all}
use Rattle.algebra.specs.orbits.OrbitLaws.{Action, Closed, Obeying, Accepted, Fit}
use Rattle.algebra.proofs.ring.Bool.{split}
use Rattle.algebra.proofs.ring.Members.{mem_cons, none, perm_mem}
use Rattle.algebra.proofs.orbits.Orbits as O

module _ {S J R : Type 0} {𝓐 : Acts S J R} {In : J → Type 0} (𝓛 : Action 𝓐 In) (G : List S) (𝓖 : Closed 𝓐 G) where
  open 𝓐 use {zer}

  -- no value is zero
  abbrev Live : List (J × R) → Type 0
  Live rs = (r : J × R) → Mem r rs → r.1 ≢ zer

  -- accepted records, none of them zero, are accepted in another order and leave the same cell
  reorder : {rs qs : List (J × R)} → Perm rs qs → (F : J → R) → Live rs → Accepted 𝓐 In G rs F → Accepted 𝓐 In G qs F × (record_all 𝓐 G rs F ≡ record_all 𝓐 G qs F)
  unfolding Accepted record_all
  reorder p_nil F n a = (a, refl)
  reorder (p_skip {x} p) F n a = let r = reorder p (recorded 𝓐 G x.0 x.1 F) (λ q m. n q (later m)) a.1 in ((a.0, r.0), r.1)
  reorder (p_swap {x} {y} {l}) F n a = swapped x.0 y.0 x.1 y.1 (n x first) a.0 a.1.0 a.1.1
    where
      swapped : (i j : J) (u v : R) → u ≢ zer → Fit 𝓐 In G i u F → Fit 𝓐 In G j v (recorded 𝓐 G i u F) → Accepted 𝓐 In G l (recorded 𝓐 G j v (recorded 𝓐 G i u F)) →
          (Fit 𝓐 In G j v F × (Fit 𝓐 In G i u (recorded 𝓐 G j v F) × Accepted 𝓐 In G l (recorded 𝓐 G i u (recorded 𝓐 G j v F)))) × (record_all 𝓐 G l (recorded 𝓐 G j v (recorded 𝓐 G i u F)) ≡ record_all 𝓐 G l (recorded 𝓐 G i u (recorded 𝓐 G j v F)))
      swapped i j u v nu (ni, ci, zi) (nj, cj, zj) rest =
          let o = O.apart 𝓛 G 𝓖 i j u F ni ci nu zj in
          let e = O.record_commute 𝓛 G 𝓖 i j u v F ni nj ci cj o in
          (((nj, cj, inv (O.record_off 𝓛 G 𝓖 i j u F o) ∙ zj), ((ni, ci, O.record_off 𝓛 G 𝓖 j i v F (O.off_sym 𝓛 G 𝓖 i j ni nj o) ∙ zi), subst (Accepted 𝓐 In G l) e rest)), ap (record_all 𝓐 G l) e)
  reorder (p_trans p q) F n a =
      let r = reorder p F n a in
      let t = reorder q F (λ x m. n x (perm_mem p x m)) r.0 in
      (t.0, r.1 ∙ t.1)

  module _ (eq : R → R → Bool) (eq_iff : (x y : R) → T (eq x y) ↔ (x ≡ y)) where
    -- the records of a list that are not zero
    unfoldable live : List (J × R) → List (J × R)
    live [] = []
    live (r ∷ rs) = cond (eq r.1 zer) (live rs) (r ∷ live rs)

    is_live : (rs : List (J × R)) → Live (live rs)
    unfolding live
    is_live [] = λ r m. none m
    is_live (q ∷ rs) = split (eq q.1 zer) (λ b. Live (cond b (live rs) (q ∷ live rs))) (λ t. is_live rs) (λ t. mem_cons (λ r. r.1 ≢ zer) (λ e. T_not (eq q.1 zer) t ((eq_iff _ _).1 e)) (is_live rs))

    live_perm : {rs qs : List (J × R)} → Perm rs qs → Perm (live rs) (live qs)
    unfolding live
    live_perm p_nil = p_nil
    live_perm (p_skip {x} {l} {m} p) = split (eq x.1 zer) (λ b. Perm (cond b (live l) (x ∷ live l)) (cond b (live m) (x ∷ live m))) (λ t. live_perm p) (λ t. p_skip (live_perm p))
    live_perm (p_swap {x} {y} {l}) =
        split (eq x.1 zer) (λ b. Perm (cond b (cond (eq y.1 zer) (live l) (y ∷ live l)) (x ∷ cond (eq y.1 zer) (live l) (y ∷ live l))) (cond (eq y.1 zer) (cond b (live l) (x ∷ live l)) (y ∷ cond b (live l) (x ∷ live l))))
        (λ t. same (cond (eq y.1 zer) (live l) (y ∷ live l)))
        (λ t. split (eq y.1 zer) (λ b. Perm (x ∷ cond b (live l) (y ∷ live l)) (cond b (x ∷ live l) (y ∷ x ∷ live l))) (λ u. same (x ∷ live l)) (λ u. p_swap))
      where
        same : (l : List (J × R)) → Perm l l
        same [] = p_nil
        same (x ∷ l) = p_skip (same l)
    live_perm (p_trans p q) = p_trans (live_perm p) (live_perm q)

    -- a list without its zeros is accepted too, and leaves the same cell
    drop_zeros : (rs : List (J × R)) (F : J → R) → Obeying 𝓐 In G F → Accepted 𝓐 In G rs F → Accepted 𝓐 In G (live rs) F × (record_all 𝓐 G rs F ≡ record_all 𝓐 G (live rs) F)
    unfolding live Accepted record_all
    drop_zeros [] F o a = (tt, refl)
    drop_zeros (r ∷ rs) F o a =
        split (eq r.1 zer) (λ b. Accepted 𝓐 In G (cond b (live rs) (r ∷ live rs)) F × (record_all 𝓐 G rs (recorded 𝓐 G r.0 r.1 F) ≡ record_all 𝓐 G (cond b (live rs) (r ∷ live rs)) F))
        (λ t.
        let e = O.recorded_zero 𝓛 G 𝓖 r.0 r.1 F a.0.0 o ((eq_iff _ _).0 t) a.0.2 in
        let q = drop_zeros rs F o (subst (Accepted 𝓐 In G rs) e a.1) in
        (q.0, ap (record_all 𝓐 G rs) e ∙ q.1))
        (λ t. let q = drop_zeros rs _ (O.record_obeys 𝓛 G 𝓖 r.0 r.1 F a.0.0 a.0.1 o) a.1 in ((a.0, q.0), q.1))

    -- two orders in which every record is accepted leave the same cell
    pub reorder_both : {rs qs : List (J × R)} → Perm rs qs → (F : J → R) → Obeying 𝓐 In G F → Accepted 𝓐 In G rs F → Accepted 𝓐 In G qs F → record_all 𝓐 G rs F ≡ record_all 𝓐 G qs F
    reorder_both {rs} {qs} p F o a b =
        let x = drop_zeros rs F o a in
        x.1 ∙ (reorder (live_perm p) F (is_live rs) x.0).1 ∙ inv (drop_zeros qs F o b).1
