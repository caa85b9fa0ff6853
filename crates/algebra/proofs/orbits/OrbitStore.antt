-- A record's loop over the operations writes the record into any store of the stored places.
use mathlib.Core.Path.{◌≡◌, refl, sym as inv, ◌∙◌, ap, subst}
use mathlib.Core.Logic.{◌≢◌}
use mathlib.Core.Bool.{Bool, cond}
use mathlib.Core.List.{List, [], ◌∷◌}
use lib.Dec.{T, T_not}
use Rattle.algebra.specs.orbits.Orbit.{Mem, first, later, Acts, recorded}
use Rattle.algebra.specs.orbits.OrbitLaws.{Action, Closed, AgreesWithItself, put_all}
use Rattle.algebra.proofs.ring.Bool.{split}
use Rattle.algebra.proofs.orbits.Orbits as O

module _ {S J R : Type 0} {𝓐 : Acts S J R} {In : J → Type 0} (𝓛 : Action 𝓐 In) (G : List S) (𝓖 : Closed 𝓐 G) where
  open 𝓐 use {mul, same, image, implied}
  open 𝓛 use {same_eq, same_refl, image_inside, image_image, implied_image, implied_implied}
  open 𝓖 use {has_mul}

  -- an implied value is consistent where it is implied
  pub image_agrees_lem : (s : S) (j : J) (v : R) → In j → Mem s G → AgreesWithItself 𝓐 G j v → AgreesWithItself 𝓐 G (image s j) (implied s j v)
  image_agrees_lem s j v n m c t mt e = implied_image t s j _ n ∙ implied_implied t s j v ∙ O.agree 𝓛 G 𝓖 (mul t s) s j v n (has_mul t s mt m) m c (inv (image_image t s j n) ∙ e)

  module _ {B : Type 0} (get : B → J → R) (put : B → J → R → B) (stored : J → Bool)
      (get_same : (b : B) (i : J) (v : R) → In i → T (stored i) → AgreesWithItself 𝓐 G i v → get (put b i v) i ≡ v)
      (get_other : (b : B) (i i' : J) (v : R) → In i → T (stored i) → In i' → T (stored i') → i ≢ i' → get (put b i v) i' ≡ get b i') where
    -- where an operation of l leads to i' the value is the implied one, else what it was
    loop_at : (l : List S) → ((s : S) → Mem s l → Mem s G) → (b : B) (j : J) (v : R) → In j → AgreesWithItself 𝓐 G j v → (i' : J) → In i' → T (stored i') →
        (x : R) → ((s : S) → Mem s G → image s j ≡ i' → implied s j v ≡ x) → get b i' ≡ x → get (put_all 𝓐 put stored l b j v) i' ≡ x
    unfolding put_all
    loop_at [] sub b j v n c i' n' st x h e = e
    loop_at (s ∷ l) sub b j v n c i' n' st x h e =
        loop_at l (λ t m. sub t (later m)) _ j v n c i' n' st x h
        (split (stored (image s j)) (λ q. get (cond q (put b (image s j) (implied s j v)) b) i' ≡ x)
        (λ t. split (same (image s j) i') (λ _. get (put b (image s j) (implied s j v)) i' ≡ x)
        (λ u. let e' = same_eq _ _ u in ap (get (put b (image s j) (implied s j v))) (inv e') ∙ get_same b (image s j) (implied s j v) (image_inside s j n) t (image_agrees_lem s j v n (sub s first) c) ∙ h s (sub s first) e')
        (λ u. get_other b (image s j) i' (implied s j v) (image_inside s j n) t n' st (λ q. T_not (same (image s j) i') u (subst (λ y. T (same (image s j) y)) q (same_refl (image s j)))) ∙ e))
        (λ t. e))

    loop_hit : (l : List S) → ((s : S) → Mem s l → Mem s G) → (b : B) (j : J) (v : R) → In j → AgreesWithItself 𝓐 G j v → (i' : J) → In i' → T (stored i') →
        (s : S) → Mem s l → image s j ≡ i' → get (put_all 𝓐 put stored l b j v) i' ≡ implied s j v
    unfolding put_all
    loop_hit (r ∷ l) sub b j v n c i' n' st s first e =
        loop_at l (λ t m. sub t (later m)) _ j v n c i' n' st (implied s j v) (λ t m q. O.agree 𝓛 G 𝓖 t s j v n m (sub s first) c (q ∙ inv e))
        (split (stored (image s j)) (λ q. get (cond q (put b (image s j) (implied s j v)) b) i' ≡ implied s j v)
        (λ t. ap (get (put b (image s j) (implied s j v))) (inv e) ∙ get_same b (image s j) (implied s j v) (image_inside s j n) t (image_agrees_lem s j v n (sub s first) c))
        (λ t. absurd (T_not (stored (image s j)) t (subst (λ y. T (stored y)) (inv e) st))))
    loop_hit (r ∷ l) sub b j v n c i' n' st s (later m) e = loop_hit l (λ t m. sub t (later m)) _ j v n c i' n' st s m e
    loop_hit [] sub b j v n c i' n' st s x7 e = elim x7 [ ]

    loop_miss : (b : B) (j : J) (v : R) → In j → AgreesWithItself 𝓐 G j v → (i' : J) → In i' → T (stored i') → ((s : S) → Mem s G → image s j ≡ i' → ⊥) → get (put_all 𝓐 put stored G b j v) i' ≡ get b i'
    loop_miss b j v n c i' n' st f = loop_at G (λ s m. m) b j v n c i' n' st (get b i') (λ s m e. absurd (f s m e)) refl

    -- the loop leaves the stored values of the recorded cell
    pub loop_records : (b : B) (j : J) (v : R) (F : J → R) → In j → AgreesWithItself 𝓐 G j v → ((i : J) → In i → T (stored i) → get b i ≡ F i) → (i : J) → In i → T (stored i) → get (put_all 𝓐 put stored G b j v) i ≡ recorded 𝓐 G j v F i
    loop_records b j v F n c e i' n' st = go (O.locate 𝓛 G 𝓖 G j i')
      where
        go : O.Where 𝓛 G 𝓖 G j i' → get (put_all 𝓐 put stored G b j v) i' ≡ recorded 𝓐 G j v F i'
        go (O.hit s m h k) = loop_hit G (λ s m. m) b j v n c i' n' st s m h ∙ inv (ap (recorded 𝓐 G j v F) (inv h) ∙ O.record_at_lem 𝓛 G 𝓖 s j v F n m c)
        go (O.miss h k) = loop_miss b j v n c i' n' st h ∙ e i' n' st ∙ inv (O.record_off 𝓛 G 𝓖 j i' v F h)
