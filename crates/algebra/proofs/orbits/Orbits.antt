-- Over any action: a record leaves a cell that obeys, records on different orbits commute, and a cell that obeys is known by its stored places.
use mathlib.Core.Path.{◌≡◌, refl, sym as inv, ◌∙◌, ap, subst}
use mathlib.Core.Logic.{◌≢◌, ◌↔◌}
use mathlib.Core.Bool.{Bool, true, false, cond}
use mathlib.Core.List.{List, [], ◌∷◌}
use lib.Dec.{T}
use Rattle.algebra.specs.orbits.Orbit.{Mem, first, later, Acts, written, recorded}
use Rattle.algebra.specs.orbits.OrbitLaws.{Action, Closed, AgreesWithItself, Obeying, cell_of, Consistent, Off}
use Rattle.algebra.proofs.ring.Members.{none, mem_cons}

module _ {S J R : Type 0} {𝓐 : Acts S J R} {In : J → Type 0} (𝓛 : Action 𝓐 In) (G : List S) (𝓖 : Closed 𝓐 G) where
  open 𝓐 use {mul, one, same, image, implied, zer}
  open 𝓛 use {square, same_eq, same_refl, image_inside, image_one, image_image, implied_one, implied_implied, implied_image, implied_zero}
  open 𝓖 use {has_one, has_mul}

  pub image_back : (s : S) (j : J) → In j → image s (image s j) ≡ j
  image_back s j n = image_image s s j n ∙ ap (λ t. image t j) (square s) ∙ image_one j

  pub implied_back : (s : S) (j : J) (v : R) → implied s j (implied s j v) ≡ v
  implied_back s j v = implied_implied s s j v ∙ ap (λ t. implied t j v) (square s) ∙ implied_one j v

  -- a place is an image of j under an operation of l, or under none
  pub data Where (l : List S) (j j' : J) : Type 0 where
    hit : (s : S) → Mem s l → image s j ≡ j' → ((v old : R) → written 𝓐 l j v j' old ≡ implied s j v) → Where l j j'
    miss : ((s : S) → Mem s l → image s j ≡ j' → ⊥) → ((v old : R) → written 𝓐 l j v j' old ≡ old) → Where l j j'

  pub locate : (l : List S) (j j' : J) → Where l j j'
  unfolding written
  locate [] j j' = miss (λ s m e. none m) (λ v old. refl)
  locate (t ∷ l) j j' = go (same (image t j) j') (λ h. same_eq (image t j) j' h) (λ e. subst (λ y. T (same (image t j) y)) e (same_refl (image t j))) refl (locate l j j')
    where
      go : (b : Bool) → (T b → image t j ≡ j') → (image t j ≡ j' → T b) → same (image t j) j' ≡ b → Where l j j' → Where (t ∷ l) j j'
      go true yes-is no-is e w = hit t first (yes-is tt) (λ v old. ap (λ b. cond b (implied t j v) (written 𝓐 l j v j' old)) e)
      go false yes-is no-is e (hit s m h k) = hit s (later m) h (λ v old. ap (λ b. cond b (implied t j v) (written 𝓐 l j v j' old)) e ∙ k v old)
      go false yes-is no-is e (miss h k) = miss (mem_cons (λ s. image s j ≡ j' → ⊥) no-is h) (λ v old. ap (λ b. cond b (implied t j v) (written 𝓐 l j v j' old)) e ∙ k v old)

  -- two operations with one image of j imply one value
  pub agree : (s t : S) (j : J) (v : R) → In j → Mem s G → Mem t G → AgreesWithItself 𝓐 G j v → image s j ≡ image t j → implied s j v ≡ implied t j v
  agree s t j v n ms mt c e = inv (implied_back t j _) ∙ ap (implied t j) (implied_implied t s j v ∙ c (mul t s) (has_mul t s mt ms) (inv (image_image t s j n) ∙ ap (image t) e ∙ image_back t j n))

  -- a record writes the implied value at each image ..
  pub record_at_lem : (s : S) (j : J) (v : R) (F : J → R) → In j → Mem s G → AgreesWithItself 𝓐 G j v → recorded 𝓐 G j v F (image s j) ≡ implied s j v
  unfolding recorded
  record_at_lem s j v F n m c = go (locate G j (image s j))
    where
      go : Where G j (image s j) → written 𝓐 G j v (image s j) (F (image s j)) ≡ implied s j v
      go (hit t mt e k) = k v _ ∙ agree t s j v n mt m c e
      go (miss h k) = absurd (h s m refl)

  -- .. and nowhere else
  pub record_off : (j j' : J) (v : R) (F : J → R) → Off 𝓐 G j j' → recorded 𝓐 G j v F j' ≡ F j'
  unfolding recorded
  record_off j j' v F o = go (locate G j j')
    where
      go : Where G j j' → written 𝓐 G j v j' (F j') ≡ F j'
      go (hit t mt e k) = absurd (o t mt e)
      go (miss h k) = k v _

  pub off_sym : (i j : J) → In i → In j → Off 𝓐 G i j → Off 𝓐 G j i
  off_sym i j ni nj o s m e = o s m (ap (image s) (inv e) ∙ image_back s j nj)

  pub off_image : (s : S) (j j' : J) → In j → In j' → Mem s G → Off 𝓐 G j j' → Off 𝓐 G j (image s j')
  off_image s j j' n n' m o t mt e = o (mul s t) (has_mul s t m mt) (inv (image_image s t j n) ∙ ap (image s) e ∙ image_back s j' n')

  -- a consistent record leaves a cell that obeys obeying
  pub record_obeys : (j : J) (v : R) (F : J → R) → In j → AgreesWithItself 𝓐 G j v → Obeying 𝓐 In G F → Obeying 𝓐 In G (recorded 𝓐 G j v F)
  record_obeys j v F n c o s m j' n' = go (locate G j j')
    where
      go : Where G j j' → recorded 𝓐 G j v F (image s j') ≡ implied s j' (recorded 𝓐 G j v F j')
      go (hit t mt e k) =
          ap (λ y. recorded 𝓐 G j v F (image s y)) (inv e) ∙ ap (recorded 𝓐 G j v F) (image_image s t j n) ∙ record_at_lem (mul s t) j v F n (has_mul s t m mt) c
          ∙ inv (ap (λ y. implied s y (recorded 𝓐 G j v F y)) (inv e) ∙ ap (implied s (image t j)) (record_at_lem t j v F n mt c) ∙ implied_image s t j _ n ∙ implied_implied s t j v)
      go (miss h k) = record_off j (image s j') v F (off_image s j j' n n' m h) ∙ o s m j' n' ∙ ap (implied s j') (inv (record_off j j' v F h))

  -- two records on different orbits commute
  pub record_commute : (i j : J) (u v : R) (F : J → R) → In i → In j → AgreesWithItself 𝓐 G i u → AgreesWithItself 𝓐 G j v → Off 𝓐 G i j → recorded 𝓐 G j v (recorded 𝓐 G i u F) ≡ recorded 𝓐 G i u (recorded 𝓐 G j v F)
  unfolding recorded
  record_commute i j u v F ni nj ci cj o = λ d j'. at j' d
    where
      both : (j' : J) (s t : S) → Mem s G → Mem t G → image s i ≡ j' → image t j ≡ j' → ⊥
      both j' s t ms mt e f = o (mul t s) (has_mul t s mt ms) (inv (image_image t s i ni) ∙ ap (image t) (e ∙ inv f) ∙ image_back t j nj)

      go : (j' : J) → Where G i j' → Where G j j' → recorded 𝓐 G j v (recorded 𝓐 G i u F) j' ≡ recorded 𝓐 G i u (recorded 𝓐 G j v F) j'
      go j' (hit s ms e k) (hit t mt f l) = absurd (both j' s t ms mt e f)
      go j' (hit s ms e k) (miss f l) = record_off j j' v (recorded 𝓐 G i u F) f ∙ k u (F j') ∙ inv (k u _)
      go j' (miss e k) (hit t mt f l) = l v _ ∙ inv (record_off i j' u (recorded 𝓐 G j v F) e ∙ l v (F j'))
      go j' (miss e k) (miss f l) = record_off j j' v (recorded 𝓐 G i u F) f ∙ record_off i j' u F e ∙ inv (record_off i j' u (recorded 𝓐 G j v F) e ∙ record_off j j' v F f)

      at : (j' : J) → recorded 𝓐 G j v (recorded 𝓐 G i u F) j' ≡ recorded 𝓐 G i u (recorded 𝓐 G j v F) j'
      at j' = go j' (locate G i j') (locate G j j')

  -- a value that is not zero implies values that are not zero
  pub implied_live : (s : S) (j : J) (v : R) → implied s j v ≡ zer → v ≡ zer
  implied_live s j v e = inv (implied_back s j v) ∙ ap (implied s j) e ∙ implied_zero s j

  -- 24: a place of the orbit holds zero exactly if the own place does
  pub orbit_zero : (s : S) (j : J) (F : J → R) → In j → Mem s G → Obeying 𝓐 In G F → (F (image s j) ≡ zer) ↔ (F j ≡ zer)
  orbit_zero s j F n m o = (λ e. implied_live s j (F j) (inv (o s m j n) ∙ e), λ e. o s m j n ∙ ap (implied s j) e ∙ implied_zero s j)

  -- the next record is on another orbit, if F there is zero
  pub apart : (i j : J) (u : R) (F : J → R) → In i → AgreesWithItself 𝓐 G i u → u ≢ zer → recorded 𝓐 G i u F j ≡ zer → Off 𝓐 G i j
  apart i j u F n c nz e s m h = nz (implied_live s i u (inv (record_at_lem s i u F n m c) ∙ ap (recorded 𝓐 G i u F) h ∙ e))

  -- a zero on a place that is zero changes nothing
  pub recorded_zero : (j : J) (v : R) (F : J → R) → In j → Obeying 𝓐 In G F → v ≡ zer → F j ≡ zer → recorded 𝓐 G j v F ≡ F
  unfolding recorded
  recorded_zero j v F n o z e = λ d j'. at j' (locate G j j') d
    where
      at : (j' : J) → Where G j j' → written 𝓐 G j v j' (F j') ≡ F j'
      at j' (hit s m h k) = k v (F j') ∙ ap (implied s j) (z ∙ inv e) ∙ inv (o s m j n) ∙ ap F h
      at j' (miss h k) = k v (F j')

  -- what is stored
  module _ (St : J → Type 0) (rep : J → S) (operation_in : (j : J) → In j → Mem (rep j) G) (operation_stored : (j : J) → In j → St (image (rep j) j)) where
    -- the cell is read off the stored places alone
    pub cell_cong : (b c : J → R) → ((j : J) → In j → St j → b j ≡ c j) → (j : J) → In j → cell_of 𝓐 rep b j ≡ cell_of 𝓐 rep c j
    unfolding cell_of
    cell_cong b c e j n = ap (implied (rep j) j) (e (image (rep j) j) (image_inside (rep j) j n) (operation_stored j n))

    -- a cell that obeys is read off its own stored places
    pub cell_of_obeying : (F : J → R) → Obeying 𝓐 In G F → (j : J) → In j → cell_of 𝓐 rep F j ≡ F j
    unfolding cell_of
    cell_of_obeying F o j n = ap (implied (rep j) j) (o (rep j) (operation_in j n) j n) ∙ implied_back (rep j) j (F j)

    pub cell_at_stored : (b : J → R) → Consistent 𝓐 In St G b → (j : J) → In j → St j → cell_of 𝓐 rep b j ≡ b j
    unfolding cell_of
    cell_at_stored b w j n s = ap (implied (rep j) j) (w (rep j) (operation_in j n) j n s (operation_stored j n)) ∙ implied_back (rep j) j (b j)

    pub consistent_obeys : (b : J → R) → Consistent 𝓐 In St G b → Obeying 𝓐 In G (cell_of 𝓐 rep b)
    unfolding cell_of
    consistent_obeys b w s m j n =
        let i = image s j in
        let ni : In (image s j) = image_inside s j n in
        let r = rep (image s j) in
        let t = rep j in
        let j₁ = image t j in
        let n₁ : In j₁ = image_inside t j n in
        let q = mul (mul r s) t in
        let mq : Mem q G = has_mul (mul r s) t (has_mul r s (operation_in (image s j) ni) m) (operation_in j n) in
        let e : image r (image s j) ≡ image q (image t j) = image_image r s j n ∙ ap (image (mul r s)) (inv (image_back t j n)) ∙ image_image (mul r s) t (image t j) n₁ in
        ap (implied r i) (ap b e ∙ w q mq (image t j) n₁ (operation_stored j n) (subst St e (operation_stored (image s j) ni)) ∙ implied_image q t j _ n ∙ inv (implied_implied (mul r s) t j _) ∙ inv (implied_implied r s j _))
        ∙ implied_image r s j _ n ∙ implied_back r j _

    -- 14: some cell that obeys has these stored values, exactly if every stored image has the implied value
    pub consistent_iff : (b : J → R) → Consistent 𝓐 In St G b ↔ ((F : J → R) × Obeying 𝓐 In G F × ((j : J) → In j → St j → F j ≡ b j))
    consistent_iff b = (λ w. (cell_of 𝓐 rep b, consistent_obeys b w, cell_at_stored b w), λ f s m j n st st'. inv (f.2 (image s j) (image_inside s j n) st') ∙ f.1 s m j n ∙ ap (implied s j) (f.2 j n st))

    -- and that cell is the one that is read
    pub consistent_one : (b F : J → R) → Obeying 𝓐 In G F → ((j : J) → In j → St j → F j ≡ b j) → (j : J) → In j → F j ≡ cell_of 𝓐 rep b j
    consistent_one b F o e j n = inv (cell_of_obeying F o j n) ∙ cell_cong F b e j n
