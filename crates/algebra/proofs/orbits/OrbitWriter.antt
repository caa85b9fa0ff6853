-- The records of a cell, one for each orbit that is not zero, at its lowest place: they are accepted and restore the cell.
use mathlib.Core.Path.{◌≡◌, refl, sym as inv, ◌∙◌, ap, subst}
use mathlib.Core.Logic.{◌≢◌, ◌↔◌, ◌⊎◌, inl, inr}
use mathlib.Core.Bool.{Bool, ◌&&◌, not, cond}
use mathlib.Core.List.{List, [], ◌∷◌}
use lib.Dec.{T, T_not, not_T}
use Rattle.algebra.specs.orbits.Orbit.{Mem, first, later, Acts, record_all}
use Rattle.algebra.specs.orbits.OrbitLaws.{Action, Closed, Obeying, Accepted, Off, OffAll, Sound}
use Rattle.algebra.specs.cells.Cell.{lowest, records_of}
use Rattle.algebra.proofs.ring.Members.{none}
use Rattle.algebra.proofs.ring.Bool.{and_l, and_r, and_i, split, every_at, every_by}
use Rattle.algebra.proofs.orbits.Orbits as O
use Rattle.algebra.proofs.orbits.OrbitLists as OL

-- no place twice
unfoldable pub Distinct : {J : Type 0} → List J → Type 0
Distinct [] = Unit {0}
Distinct {J} (j ∷ l) = ((i : J) → Mem i l → j ≡ i → ⊥) × Distinct l

pub record Order {J : Type 0} (le : J → J → Bool) : Type 0 where
  pub total : (i j : J) → T (le i j) ⊎ T (le j i)
  pub trans : (i j k : J) → T (le i j) → T (le j k) → T (le i k)
  pub antisym : (i j : J) → T (le i j) → T (le j i) → i ≡ j

module _ {S J R : Type 0} {𝓐 : Acts S J R} {In : J → Type 0} (𝓛 : Action 𝓐 In) (G : List S) (𝓖 : Closed 𝓐 G) (le : J → J → Bool) (𝓞 : Order le) (eq : R → R → Bool) (eq_iff : (x y : R) → T (eq x y) ↔ (x ≡ y)) where
  open 𝓐 use {mul, image, zer}
  open 𝓞 use {total, trans, antisym}

  le_refl : (i : J) → T (le i i)
  le_refl i = go (total i i)
    where
      go : T (le i i) ⊎ T (le i i) → T (le i i)
      go (inl t) = t
      go (inr t) = t

  abbrev Best : J → List S → Type 0
  Best j l = (b : S) × Mem b l × ((t : S) → Mem t l → T (le (image b j) (image t j)))

  best : (j : J) (x : S) (l : List S) → Best j (x ∷ l)
  best j x [] = (x, first, one_only)
    where
      one_only : (t : S) → Mem t (x ∷ []) → T (le (image x j) (image t j))
      one_only t first = le_refl (image x j)
      one_only t (later m) = none m
  best j x (y ∷ l) = go (best j y l)
    where
      take_x : (b : S) → T (le (image x j) (image b j)) → ((t : S) → Mem t (y ∷ l) → T (le (image b j) (image t j))) → (t : S) → Mem t (x ∷ y ∷ l) → T (le (image x j) (image t j))
      take_x b h f t first = le_refl (image x j)
      take_x b h f t (later m) = trans _ _ _ h (f t m)

      keep : (b : S) → T (le (image b j) (image x j)) → ((t : S) → Mem t (y ∷ l) → T (le (image b j) (image t j))) → (t : S) → Mem t (x ∷ y ∷ l) → T (le (image b j) (image t j))
      keep b h f t first = h
      keep b h f t (later m) = f t m

      pick : (b : S) → Mem b (y ∷ l) → ((t : S) → Mem t (y ∷ l) → T (le (image b j) (image t j))) → T (le (image x j) (image b j)) ⊎ T (le (image b j) (image x j)) → Best j (x ∷ y ∷ l)
      pick b m f (inl h) = (x, first, take_x b h f)
      pick b m f (inr h) = (b, later m, keep b h f)

      go : Best j (y ∷ l) → Best j (x ∷ y ∷ l)
      go (b, m, f) = pick b m f (total (image x j) (image b j))

  best_in : (j : J) (l : List S) {s : S} → Mem s l → Best j l
  best_in j (x ∷ l) first = best j x l
  best_in j (x ∷ l) (later m) = best j x l
  best_in j [] {s = s} x' = elim x' [ ]

  -- every orbit has a lowest place, and one only
  pub lowest_of : (j : J) → In j → (s : S) × Mem s G × T (lowest 𝓐 le eq G (image s j))
  lowest_of j n = go (best_in j G 𝓖.has_one)
    where
      go : Best j G → (s : S) × Mem s G × T (lowest 𝓐 le eq G (image s j))
      go (b, m, f) = (b, m, every_by G _ (λ t mt. subst (λ y. T (le (image b j) y)) (inv (𝓛.image_image t b j n)) (f (mul t b) (𝓖.has_mul t b mt m))))

  pub lowest_one : (i j : J) (s : S) → In i → Mem s G → image s i ≡ j → T (lowest 𝓐 le eq G i) → T (lowest 𝓐 le eq G j) → i ≡ j
  lowest_one i j s n m e p q = antisym i j (subst (λ y. T (le i y)) e (every_at G _ s p m)) (subst (λ y. T (le j y)) (ap (image s) (inv e) ∙ O.image_back 𝓛 G 𝓖 s i n) (every_at G _ s q m))

  module _ (F : J → R) (o : Obeying 𝓐 In G F) where
    abbrev Rec : List J → List (J × R)
    Rec l = records_of 𝓐 le eq G F l

    abbrev Taken : J → Bool
    Taken j = lowest 𝓐 le eq G j && not (eq (F j) zer)

    abbrev Good : List J → J × R → Type 0
    Good l r = Mem r.0 l × T (lowest 𝓐 le eq G r.0) × (r.1 ≡ F r.0) × (F r.0 ≢ zer)

    good_later : (j : J) (l : List J) (r : J × R) → Good l r → Good (j ∷ l) r
    good_later j l r (m, p, e, z) = (later m, p, e, z)

    taken_live : (j : J) → T (Taken j) → F j ≢ zer
    taken_live j t e = T_not (eq (F j) zer) (and_r (lowest 𝓐 le eq G j) _ t) ((eq_iff _ _).1 e)

    cons_good : (j : J) (l : List J) → T (Taken j) → ((r : J × R) → Mem r (Rec l) → Good l r) → (r : J × R) → Mem r ((j, F j) ∷ Rec l) → Good (j ∷ l) r
    cons_good j l t f r first = (first, and_l (lowest 𝓐 le eq G j) _ t, refl, taken_live j t)
    cons_good j l t f r (later m) = good_later j l r (f r m)

    pub good : (l : List J) (r : J × R) → Mem r (Rec l) → Good l r
    unfolding records_of
    good [] r m = elim m [ ]
    good (j ∷ l) r m = split (Taken j) (λ b. Mem r (cond b ((j, F j) ∷ Rec l) (Rec l)) → Good (j ∷ l) r) (λ t m. cons_good j l t (λ q h. good l q h) r m) (λ t m. good_later j l r (good l r m)) m

    pub found : (l : List J) (j : J) → Mem j l → T (Taken j) → Mem (j, F j) (Rec l)
    unfolding records_of
    found (i ∷ l) j first t = split (Taken j) (λ b. Mem (j, F j) (cond b ((j, F j) ∷ Rec l) (Rec l))) (λ u. first) (λ u. absurd (T_not (Taken j) u t))
    found (i ∷ l) j (later m) t = split (Taken i) (λ b. Mem (j, F j) (cond b ((i, F i) ∷ Rec l) (Rec l))) (λ u. later (found l j m t)) (λ u. found l j m t)
    found [] j x'' t = elim x'' [ ]

    off_by : (i : J) (rs : List (J × R)) → ((r : J × R) → Mem r rs → Off 𝓐 G i r.0) → OffAll 𝓐 G i rs
    unfolding OffAll
    off_by i [] f = tt
    off_by i (r ∷ rs) f = (f r first, off_by i rs (λ q m. f q (later m)))

    pub sound : (l : List J) → Distinct l → ((j : J) → Mem j l → In j) → Sound 𝓐 In G (Rec l)
    unfolding records_of Sound Distinct
    sound [] d n = tt
    sound (j ∷ l) d n =
        let rest = sound l d.1 (λ i m. n i (later m)) in
        let nj = n j first in
        split (Taken j) (λ b. Sound 𝓐 In G (cond b ((j, F j) ∷ Rec l) (Rec l)))
        (λ t. ((nj, λ s m e. inv (o s m j nj) ∙ ap F e), off_by j (Rec l) (λ r m s ms e. let g = good l r m in d.0 r.0 g.0 (lowest_one j r.0 s nj ms e (and_l (lowest 𝓐 le eq G j) _ t) g.1)), rest))
        (λ t. rest)

    module _ (l : List J) (d : Distinct l) (n : (j : J) → Mem j l → In j) (c : (j : J) → In j → Mem j l) where
      -- the records are accepted on the zero cell ..
      pub writer_accepted : Accepted 𝓐 In G (Rec l) (λ j. zer)
      writer_accepted = OL.sound_accepted 𝓛 G 𝓖 (Rec l) (λ j. zer) (sound l d n) (λ r m. refl)

      -- .. and restore the cell
      pub writer_reader : (j : J) → In j → record_all 𝓐 G (Rec l) (λ j. zer) j ≡ F j
      writer_reader j nj = OL.rebuild 𝓛 G 𝓖 F o (Rec l) (sound l d n) (λ r m. (good l r m).2) j nj (split (eq (F j) zer) (λ b. Case) (λ t. inr (dead ((eq_iff _ _).0 t))) (λ t. inl (live t)))
        where
          Case : Type 0
          Case = ((r : J × R) × (s : S) × Mem r (Rec l) × Mem s G × (image s r.0 ≡ j)) ⊎ ((F j ≡ zer) × ((r : J × R) → Mem r (Rec l) → Off 𝓐 G r.0 j))

          dead : F j ≡ zer → (F j ≡ zer) × ((r : J × R) → Mem r (Rec l) → Off 𝓐 G r.0 j)
          dead z = (z, λ r m s ms e. let g = good l r m in g.3 ((O.orbit_zero 𝓛 G 𝓖 s r.0 F (n r.0 g.0) ms o).0 (ap F e ∙ z)))

          live : T (not (eq (F j) zer)) → (r : J × R) × (s : S) × Mem r (Rec l) × Mem s G × (image s r.0 ≡ j)
          live t =
              let w = lowest_of j nj in
              let i = image w.0 j in
              let ni : In (image w.0 j) = 𝓛.image_inside w.0 j nj in
              let nz : T (not (eq (F (image w.0 j)) zer)) = not_T (eq (F (image w.0 j)) zer) (λ u. T_not (eq (F j) zer) t ((eq_iff _ _).1 ((O.orbit_zero 𝓛 G 𝓖 w.0 j F nj w.1 o).0 ((eq_iff _ _).0 u)))) in
              ((i, F i), w.0, found l (image w.0 j) (c (image w.0 j) ni) (and_i (lowest 𝓐 le eq G (image w.0 j)) _ w.2 nz), w.1, O.image_back 𝓛 G 𝓖 w.0 j nj)
