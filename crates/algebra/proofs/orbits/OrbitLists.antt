-- Lists of records on different orbits: what they leave, in any order; what writes a cell anew.
use mathlib.Core.Path.{◌≡◌, refl, sym as inv, ◌∙◌, ap}
use mathlib.Core.Logic.{◌⊎◌, inl, inr}
use mathlib.Core.List.{List, [], ◌∷◌}
use Rattle.algebra.specs.orbits.Orbit.{Mem, first, later, Perm, p_nil, p_skip, p_swap, p_trans, Acts, record_all}
use Rattle.algebra.specs.orbits.OrbitLaws.{Action, Closed, Obeying, Accepted, Off, OffAll, Sound}
use Rattle.algebra.proofs.orbits.Orbits as O

module _ {S J R : Type 0} {𝓐 : Acts S J R} {In : J → Type 0} (𝓛 : Action 𝓐 In) (G : List S) (𝓖 : Closed 𝓐 G) where
  open 𝓐 use {image, implied, zer}

  off_all_at : (i : J) (r : J × R) (rs : List (J × R)) → OffAll 𝓐 G i rs → Mem r rs → Off 𝓐 G i r.0
  unfolding OffAll
  off_all_at i r (q ∷ rs) o first = o.0
  off_all_at i r (q ∷ rs) o (later m) = off_all_at i r rs o.1 m
  off_all_at i r [] o x'' = elim x'' [ ]

  pub sound_inside : (r : J × R) (rs : List (J × R)) → Sound 𝓐 In G rs → Mem r rs → In r.0
  unfolding Sound
  sound_inside r (q ∷ rs) o first = o.0.0
  sound_inside r (q ∷ rs) o (later m) = sound_inside r rs o.2 m
  sound_inside r [] o x'' = elim x'' [ ]

  -- a place that no record's orbit holds
  pub all_off : (rs : List (J × R)) (F : J → R) (j : J) → ((r : J × R) → Mem r rs → Off 𝓐 G r.0 j) → record_all 𝓐 G rs F j ≡ F j
  unfolding record_all
  all_off [] F j o = refl
  all_off (r ∷ rs) F j o = all_off rs _ j (λ q m. o q (later m)) ∙ O.record_off 𝓛 G 𝓖 r.0 j r.1 F (o r first)

  -- a place that a record's orbit holds
  pub all_at : (rs : List (J × R)) (F : J → R) (r : J × R) (s : S) → Sound 𝓐 In G rs → Mem r rs → Mem s G → record_all 𝓐 G rs F (image s r.0) ≡ implied s r.0 r.1
  unfolding record_all Sound
  all_at (q ∷ rs) F r s o first m =
      all_off rs _ (image s r.0) (λ t mt. O.off_image 𝓛 G 𝓖 s t.0 r.0 (sound_inside t rs o.2 mt) o.0.0 m (O.off_sym 𝓛 G 𝓖 r.0 t.0 o.0.0 (sound_inside t rs o.2 mt) (off_all_at r.0 t rs o.1 mt)))
      ∙ O.record_at_lem 𝓛 G 𝓖 s r.0 r.1 F o.0.0 m o.0.1
  all_at (q ∷ rs) F r s o (later h) m = all_at rs _ r s o.2 h m
  all_at [] F r s o x3 m = elim x3 [ ]

  -- the order is free
  off_perm : (i : J) {rs qs : List (J × R)} → Perm rs qs → OffAll 𝓐 G i rs → OffAll 𝓐 G i qs
  unfolding OffAll
  off_perm i p_nil o = o
  off_perm i (p_skip p) o = (o.0, off_perm i p o.1)
  off_perm i p_swap o = (o.1.0, (o.0, o.1.1))
  off_perm i (p_trans p q) o = off_perm i q (off_perm i p o)

  pub sound_perm : {rs qs : List (J × R)} → Perm rs qs → Sound 𝓐 In G rs → Sound 𝓐 In G qs
  unfolding OffAll Sound
  sound_perm p_nil o = o
  sound_perm (p_skip {x} p) o = (o.0, off_perm x.0 p o.1, sound_perm p o.2)
  sound_perm (p_swap {x} {y}) o = (o.2.0, (O.off_sym 𝓛 G 𝓖 x.0 y.0 o.0.0 o.2.0.0 o.1.0, o.2.1), (o.0, o.1.1, o.2.2))
  sound_perm (p_trans p q) o = sound_perm q (sound_perm p o)

  -- records of different orbits on a cell that is zero at them are accepted
  pub sound_accepted : (rs : List (J × R)) (F : J → R) → Sound 𝓐 In G rs → ((r : J × R) → Mem r rs → F r.0 ≡ zer) → Accepted 𝓐 In G rs F
  unfolding Sound Accepted
  sound_accepted [] F o z = tt
  sound_accepted (r ∷ rs) F o z = ((o.0.0, o.0.1, z r first), sound_accepted rs _ o.2 (λ q m. O.record_off 𝓛 G 𝓖 r.0 q.0 r.1 F (off_all_at r.0 q rs o.1 m) ∙ z q (later m)))

  -- reading a written file: one record for each orbit that is not zero, with F's value, restores F
  pub rebuild : (F : J → R) → Obeying 𝓐 In G F → (rs : List (J × R)) → Sound 𝓐 In G rs → ((r : J × R) → Mem r rs → r.1 ≡ F r.0) →
      (j : J) → In j → ((r : J × R) × (s : S) × Mem r rs × Mem s G × (image s r.0 ≡ j)) ⊎ ((F j ≡ zer) × ((r : J × R) → Mem r rs → Off 𝓐 G r.0 j)) → record_all 𝓐 G rs (λ j. zer) j ≡ F j
  rebuild F o rs so v j n (inl (r, s, m, ms, e)) = ap (record_all 𝓐 G rs (λ j. zer)) (inv e) ∙ all_at rs _ r s so m ms ∙ ap (implied s r.0) (v r m) ∙ inv (o s ms r.0 (sound_inside r rs so m)) ∙ ap F e
  rebuild F o rs so v j n (inr (z, f)) = all_off rs _ j f ∙ inv z
