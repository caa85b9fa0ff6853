-- The record's loop on packed factors: it leaves the packed factors of the recorded cell.
use mathlib.Core.Path.{◌≡◌, refl, sym as inv, ◌∙◌, ap, ap₂, subst}
use mathlib.Core.Logic.{◌≢◌}
use mathlib.Core.Bool.{true, false, cond}
use Prim.Native.Nat.{ℕ, zero, suc, ◌<◌}
use native.Mathlib.Omega.{arith}
use native.Mathlib.Decide.{ℕ_discrete}
use lib.Dec.{T, T_not, eqb, eqb→eq, eqb_refl}
use Rattle.algebra.specs.ring.Ring.{Ops, gauss, conj}
use Rattle.algebra.specs.ring.RingLaws.{CRing}
use Rattle.algebra.specs.orbits.Orbit.{recorded}
use Rattle.algebra.specs.orbits.OrbitLaws.{AgreesWithItself, put_all}
use Rattle.algebra.specs.cells.Cell.{J, Inside, Group, P1, P2₁, Pm, Pa, P2₁2₁2₁, full, neg_i, flip, image_of, sgn, star, same_j, span, Cell, at, factor_acts, stored_t}
use Rattle.algebra.specs.cells.CellPlaces.{line_sym}
use Rattle.algebra.specs.cells.CellSteps.{Lawful}
use Rattle.algebra.specs.cells.CellPack.{even, part_of, of_part, unpack_alt, times_i, over_i, unpack, upd, put_alt, put_factor, PackedIn, FactorVolume}
use Rattle.algebra.proofs.ring.Paths.{triple}
use Rattle.algebra.proofs.ring.Bool.{split}
use Rattle.algebra.proofs.ring.GaussRing.{gauss_ring, gauss_star}
use Rattle.algebra.proofs.cells.CellAxis.{neg_zero, neg_pos}
use Rattle.algebra.proofs.cells.CellSym.{implied_out}
use Rattle.algebra.proofs.cells.CellGroup.{factor_action, closed, line_mem, same_j_eq, same_j_refl}
use Rattle.algebra.proofs.cells.CellTests.{Positive, stored_iff}
use Rattle.algebra.proofs.cells.CellPack.{pow_even, self_sign, rotated, over_times, pack_iff}
use Rattle.algebra.proofs.orbits.OrbitStore.{loop_records}
use Rattle.algebra.proofs.orbits.Orbits.{record_obeys}

-- where a place of an alternating line is packed
data Pos (c l : ℕ) : Type 0 where
  at_0 : l ≡ 0 → Pos c l
  at_c : 0 < l → l ≡ c → Pos c l
  at_m : 0 < l → l < c → Pos c l

pos : (c l : ℕ) → l < suc c → Pos c l
pos c l h = go (ℕ_discrete l 0) (ℕ_discrete l c)
  where
    go : Dec (l ≡ 0) → Dec (l ≡ c) → Pos c l
    go (yes e) d = at_0 e
    go (no e) (yes d) = at_c (omega arith) d
    go (no e) (no d) = at_m (omega arith) (omega arith)

module _ {K : Type 0} {𝓚 : Ops K} (𝓡 : CRing 𝓚) (half : K) (half_two : 𝓚.mul half (𝓚.add 𝓚.one 𝓚.one) ≡ 𝓚.one) where
  open 𝓚 use {zer as k0}
  open gauss 𝓚 use {mul as ◌⊗◌, neg as ⊖◌, zer as 𝟘, one as 𝟙}

  infixl 70 ◌⊗◌
  infix 75 ⊖◌
  abbrev V2 : Type 0
  V2 = K × K

  upd_same : (B : FactorVolume K) (w h k : ℕ) (v : V2) → upd 𝓚 B w h k v w h k ≡ v
  unfolding upd
  upd_same B w h k v = split (same_j (w, h, k) (w, h, k)) (λ b. cond b v (B w h k) ≡ v) (λ t. refl) (λ t. absurd (T_not (same_j (w, h, k) (w, h, k)) t (same_j_refl (w, h, k))))

  upd_other : (B : FactorVolume K) (w h k : ℕ) (v : V2) (w' h' k' : ℕ) → (◌≡◌ {A = J} (w, h, k) (w', h', k') → ⊥) → upd 𝓚 B w h k v w' h' k' ≡ B w' h' k'
  unfolding upd
  upd_other B w h k v w' h' k' n = split (same_j (w, h, k) (w', h', k')) (λ b. cond b v (B w' h' k') ≡ B w' h' k') (λ t. absurd (n (same_j_eq (w, h, k) (w', h', k') t))) (λ t. refl)

  -- one number of the pair is new, the other is read
  upd_keep : (B : FactorVolume K) (w h k : ℕ) (v : V2) (f : V2 → K) → f v ≡ f (B w h k) → (h' k' : ℕ) → f (upd 𝓚 B w h k v w h' k') ≡ f (B w h' k')
  unfolding upd
  upd_keep B w h k v f e h' k' = split (same_j (w, h, k) (w, h', k')) (λ b. f (cond b v (B w h' k')) ≡ f (B w h' k')) (λ t. e ∙ ap (λ j. f (B j.0 j.1 j.2)) (same_j_eq (w, h, k) (w, h', k') t)) (λ t. refl)

  unpack_0 : (c l : ℕ) (S : ℕ → V2) → l ≡ 0 → unpack_alt 𝓚 c S l ≡ ((S 0).0, k0)
  unfolding unpack_alt
  unpack_0 c zero S e = refl
  unpack_0 c (suc l) S e = absurd (omega arith)

  unpack_c : (c l : ℕ) (S : ℕ → V2) → 0 < l → l ≡ c → unpack_alt 𝓚 c S l ≡ of_part 𝓚 (even c) (S 0).1
  unfolding unpack_alt
  unpack_c c zero S h e = absurd (omega arith)
  unpack_c c (suc l) S h e = split (eqb (suc l) c) (λ b. cond b (of_part 𝓚 (even c) (S 0).1) (S (suc l)) ≡ of_part 𝓚 (even c) (S 0).1) (λ t. refl) (λ t. absurd (T_not (eqb (suc l) c) t (subst (λ y. T (eqb (suc l) y)) e (eqb_refl (suc l)))))

  unpack_m : (c l : ℕ) (S : ℕ → V2) → 0 < l → l < c → unpack_alt 𝓚 c S l ≡ S l
  unfolding unpack_alt
  unpack_m c zero S h e = absurd (omega arith)
  unpack_m c (suc l) S h e = split (eqb (suc l) c) (λ b. cond b (of_part 𝓚 (even c) (S 0).1) (S (suc l)) ≡ S (suc l)) (λ t. absurd (omega (arith, eqb→eq (suc l) c t))) (λ t. refl)

  put_0 : (c l h k : ℕ) (B : FactorVolume K) (v : V2) → l ≡ 0 → put_alt 𝓚 c B h k l v ≡ upd 𝓚 B 0 h k (v.0, (B 0 h k).1)
  unfolding put_alt
  put_0 c zero h k B v e = refl
  put_0 c (suc l) h k B v e = absurd (omega arith)

  put_c : (c l h k : ℕ) (B : FactorVolume K) (v : V2) → 0 < l → l ≡ c → put_alt 𝓚 c B h k l v ≡ upd 𝓚 B 0 h k ((B 0 h k).0, part_of 𝓚 (even c) v)
  unfolding put_alt
  put_c c zero h k B v p e = absurd (omega arith)
  put_c c (suc l) h k B v p e = split (eqb (suc l) c) (λ b. cond b (upd 𝓚 B 0 h k ((B 0 h k).0, part_of 𝓚 (even c) v)) (upd 𝓚 B (suc l) h k v) ≡ upd 𝓚 B 0 h k ((B 0 h k).0, part_of 𝓚 (even c) v)) (λ t. refl) (λ t. absurd (T_not (eqb (suc l) c) t (subst (λ y. T (eqb (suc l) y)) e (eqb_refl (suc l)))))

  put_m : (c l h k : ℕ) (B : FactorVolume K) (v : V2) → 0 < l → l < c → put_alt 𝓚 c B h k l v ≡ upd 𝓚 B l h k v
  unfolding put_alt
  put_m c zero h k B v p e = absurd (omega arith)
  put_m c (suc l) h k B v p e = split (eqb (suc l) c) (λ b. cond b (upd 𝓚 B 0 h k ((B 0 h k).0, part_of 𝓚 (even c) v)) (upd 𝓚 B (suc l) h k v) ≡ upd 𝓚 B (suc l) h k v) (λ t. absurd (omega (arith, eqb→eq (suc l) c t))) (λ t. refl)

  -- an alternating line: what is put is got; the value at an end has its part alone
  alt_same : (c l h k : ℕ) (B : FactorVolume K) (v : V2) → (l ≡ 0 → v ≡ of_part 𝓚 true (part_of 𝓚 true v)) → (l ≡ c → v ≡ of_part 𝓚 (even c) (part_of 𝓚 (even c) v)) → Pos c l → unpack_alt 𝓚 c (λ w. put_alt 𝓚 c B h k l v w h k) l ≡ v
  alt_same c l h k B v f g (at_0 e) = unpack_0 c l _ e ∙ ap (λ P. ((P 0 h k).0, k0)) (put_0 c l h k B v e) ∙ ap (λ y. (y.0, k0)) (upd_same B 0 h k _) ∙ inv (f e)
  alt_same c l h k B v f g (at_c p e) = unpack_c c l _ p e ∙ ap (λ P. of_part 𝓚 (even c) (P 0 h k).1) (put_c c l h k B v p e) ∙ ap (λ y. of_part 𝓚 (even c) y.1) (upd_same B 0 h k _) ∙ inv (g e)
  alt_same c l h k B v f g (at_m p e) = unpack_m c l _ p e ∙ ap (λ P. P l h k) (put_m c l h k B v p e) ∙ upd_same B l h k v

  alt_other : (c l h k l' h' k' : ℕ) (B : FactorVolume K) (v : V2) → (◌≡◌ {A = J} (h, k, l) (h', k', l') → ⊥) → Pos c l → Pos c l' → unpack_alt 𝓚 c (λ w. put_alt 𝓚 c B h k l v w h' k') l' ≡ unpack_alt 𝓚 c (λ w. B w h' k') l'
  alt_other c l h k l' h' k' B v n (at_0 e) (at_0 e') = unpack_0 c l' _ e' ∙ ap (λ P. ((P 0 h' k').0, k0)) (put_0 c l h k B v e) ∙ ap (λ y. (y.0, k0)) (upd_other B 0 h k _ 0 h' k' (λ q. n (triple (ap (λ j. j.1) q) (ap (λ j. j.2) q) (e ∙ inv e')))) ∙ inv (unpack_0 c l' _ e')
  alt_other c l h k l' h' k' B v n (at_0 e) (at_c p' e') = unpack_c c l' _ p' e' ∙ ap (λ P. of_part 𝓚 (even c) (P 0 h' k').1) (put_0 c l h k B v e) ∙ ap (of_part 𝓚 (even c)) (upd_keep B 0 h k _ (λ y. y.1) refl h' k') ∙ inv (unpack_c c l' _ p' e')
  alt_other c l h k l' h' k' B v n (at_0 e) (at_m p' e') = unpack_m c l' _ p' e' ∙ ap (λ P. P l' h' k') (put_0 c l h k B v e) ∙ upd_other B 0 h k _ l' h' k' (λ q. let z : 0 ≡ l' = ap (λ j. j.0) q in omega arith) ∙ inv (unpack_m c l' _ p' e')
  alt_other c l h k l' h' k' B v n (at_c p e) (at_0 e') = unpack_0 c l' _ e' ∙ ap (λ P. ((P 0 h' k').0, k0)) (put_c c l h k B v p e) ∙ ap (λ y. (y, k0)) (upd_keep B 0 h k _ (λ y. y.0) refl h' k') ∙ inv (unpack_0 c l' _ e')
  alt_other c l h k l' h' k' B v n (at_c p e) (at_c p' e') = unpack_c c l' _ p' e' ∙ ap (λ P. of_part 𝓚 (even c) (P 0 h' k').1) (put_c c l h k B v p e) ∙ ap (λ y. of_part 𝓚 (even c) y.1) (upd_other B 0 h k _ 0 h' k' (λ q. n (triple (ap (λ j. j.1) q) (ap (λ j. j.2) q) (e ∙ inv e')))) ∙ inv (unpack_c c l' _ p' e')
  alt_other c l h k l' h' k' B v n (at_c p e) (at_m p' e') = unpack_m c l' _ p' e' ∙ ap (λ P. P l' h' k') (put_c c l h k B v p e) ∙ upd_other B 0 h k _ l' h' k' (λ q. let z : 0 ≡ l' = ap (λ j. j.0) q in omega arith) ∙ inv (unpack_m c l' _ p' e')
  alt_other c l h k l' h' k' B v n (at_m p e) (at_0 e') = unpack_0 c l' _ e' ∙ ap (λ P. ((P 0 h' k').0, k0)) (put_m c l h k B v p e) ∙ ap (λ y. (y.0, k0)) (upd_other B l h k _ 0 h' k' (λ q. let z : l ≡ 0 = ap (λ j. j.0) q in omega arith)) ∙ inv (unpack_0 c l' _ e')
  alt_other c l h k l' h' k' B v n (at_m p e) (at_c p' e') = unpack_c c l' _ p' e' ∙ ap (λ P. of_part 𝓚 (even c) (P 0 h' k').1) (put_m c l h k B v p e) ∙ ap (λ y. of_part 𝓚 (even c) y.1) (upd_other B l h k _ 0 h' k' (λ q. let z : l ≡ 0 = ap (λ j. j.0) q in omega arith)) ∙ inv (unpack_c c l' _ p' e')
  alt_other c l h k l' h' k' B v n (at_m p e) (at_m p' e') = unpack_m c l' _ p' e' ∙ ap (λ P. P l' h' k') (put_m c l h k B v p e) ∙ upd_other B l h k _ l' h' k' (λ q. n (triple (ap (λ j. j.1) q) (ap (λ j. j.2) q) (ap (λ j. j.0) q))) ∙ inv (unpack_m c l' _ p' e')

  module _ (a : J) (long : Positive a) where
    -- what consistency says of a value at l = 0 and l = A
    end_1 : (j : J) (v : V2) → AgreesWithItself (factor_acts (gauss 𝓚) (conj 𝓚) a) (full P2₁) j v → neg_i a.2 j.2 ≡ j.2 → v ≡ of_part 𝓚 (even j.2) (part_of 𝓚 (even j.2) v)
    unfolding factor_acts image_of flip sgn star
    end_1 j v c e = self_sign 𝓡 half half_two (even j.2) v (inv (c (line_sym P2₁) (line_mem P2₁) (triple refl refl e)) ∙ implied_out (gauss_ring 𝓡) (gauss_star 𝓡) true false false true false false true j v ∙ 𝓕.one_mul _ ∙ 𝓕.one_mul _ ∙ ap (λ y. y ⊗ conj 𝓚 v) (pow_even 𝓡 j.2))
      where
        𝓕 : CRing (gauss 𝓚)
        𝓕 = gauss_ring 𝓡

    end_4 : (j : J) (v : V2) → AgreesWithItself (factor_acts (gauss 𝓚) (conj 𝓚) a) (full P2₁2₁2₁) j v → neg_i a.2 j.2 ≡ j.2 → times_i 𝓚 (even j.0) v ≡ of_part 𝓚 (even j.2) (part_of 𝓚 (even j.2) (times_i 𝓚 (even j.0) v))
    unfolding factor_acts image_of flip sgn star
    end_4 j v c e = self_sign 𝓡 half half_two (even j.2) _
        (ap (times_i 𝓚 (even j.0)) (inv (c (line_sym P2₁2₁2₁) (line_mem P2₁2₁2₁) (triple refl refl e)) ∙ implied_out (gauss_ring 𝓡) (gauss_star 𝓡) true false false true true false true j v ∙ ap₂ ◌⊗◌ (pow_even 𝓡 j.0) (𝓕.one_mul _))
        ∙ rotated 𝓡 half half_two (even j.0) _ v ∙ ap (λ y. y ⊗ conj 𝓚 (times_i 𝓚 (even j.0) v)) (pow_even 𝓡 j.2))
      where
        𝓕 : CRing (gauss 𝓚)
        𝓕 = gauss_ring 𝓡

    neg_0 : (l : ℕ) → l ≡ 0 → neg_i a.2 l ≡ l
    neg_0 l e = rw e (neg_zero a.2)

    neg_c_lem : (l : ℕ) → l ≡ a.2 → neg_i a.2 l ≡ l
    neg_c_lem l e = rw e (neg_pos a.2 a.2 long.2 (omega (arith, long.2)) ∙ omega arith)

    even_0 : (l : ℕ) → l ≡ 0 → even l ≡ true
    unfolding even
    even_0 l e = ap even e

    get_same : (g : Group) (B : FactorVolume K) (j : J) (v : V2) → Inside a j → T (stored_t g a j) → AgreesWithItself (factor_acts (gauss 𝓚) (conj 𝓚) a) (full g) j v → unpack 𝓚 g a (put_factor 𝓚 g a B j v) j ≡ v
    unfolding unpack put_factor span
    get_same P1 B j v n s c = upd_same B j.2 j.0 j.1 v
    get_same P2₁ B j v n s c = alt_same a.2 j.2 j.0 j.1 B v (λ e. subst (λ b. v ≡ of_part 𝓚 b (part_of 𝓚 b v)) (even_0 j.2 e) (end_1 j v c (neg_0 j.2 e))) (λ e. subst (λ y. v ≡ of_part 𝓚 (even y) (part_of 𝓚 (even y) v)) e (end_1 j v c (neg_c_lem j.2 e))) (pos a.2 j.2 ((stored_iff P2₁ a j).0 s).1)
    get_same Pm B j v n s c = upd_same B j.2 j.0 j.1 v
    get_same Pa B j v n s c = upd_same B j.2 j.0 j.1 v
    get_same P2₁2₁2₁ B j v n s c =
        let u = times_i 𝓚 (even j.0) v in
        ap (over_i 𝓚 (even j.0)) (alt_same a.2 j.2 j.0 j.1 B u (λ e. subst (λ b. u ≡ of_part 𝓚 b (part_of 𝓚 b u)) (even_0 j.2 e) (end_4 j v c (neg_0 j.2 e))) (λ e. subst (λ y. u ≡ of_part 𝓚 (even y) (part_of 𝓚 (even y) u)) e (end_4 j v c (neg_c_lem j.2 e))) (pos a.2 j.2 ((stored_iff P2₁2₁2₁ a j).0 s).1))
        ∙ over_times 𝓡 (even j.0) v

    turn : (j i : J) → j ≢ i → ◌≡◌ {A = J} (j.2, j.0, j.1) (i.2, i.0, i.1) → ⊥
    turn j i n q = n (triple (ap (λ x. x.1) q) (ap (λ x. x.2) q) (ap (λ x. x.0) q))

    get_other : (g : Group) (B : FactorVolume K) (j i : J) (v : V2) → Inside a j → T (stored_t g a j) → Inside a i → T (stored_t g a i) → j ≢ i → unpack 𝓚 g a (put_factor 𝓚 g a B j v) i ≡ unpack 𝓚 g a B i
    unfolding unpack put_factor span
    get_other P1 B j i v n s m t d = upd_other B j.2 j.0 j.1 v i.2 i.0 i.1 (turn j i d)
    get_other P2₁ B j i v n s m t d = alt_other a.2 j.2 j.0 j.1 i.2 i.0 i.1 B v d (pos a.2 j.2 ((stored_iff P2₁ a j).0 s).1) (pos a.2 i.2 ((stored_iff P2₁ a i).0 t).1)
    get_other Pm B j i v n s m t d = upd_other B j.2 j.0 j.1 v i.2 i.0 i.1 (turn j i d)
    get_other Pa B j i v n s m t d = upd_other B j.2 j.0 j.1 v i.2 i.0 i.1 (turn j i d)
    get_other P2₁2₁2₁ B j i v n s m t d = ap (over_i 𝓚 (even i.0)) (alt_other a.2 j.2 j.0 j.1 i.2 i.0 i.1 B (times_i 𝓚 (even j.0) v) d (pos a.2 j.2 ((stored_iff P2₁2₁2₁ a j).0 s).1) (pos a.2 i.2 ((stored_iff P2₁2₁2₁ a i).0 t).1))

    -- the loop over the operations leaves the packed factors of the recorded cell
    pub record_packed : (g : Group) (F : Cell (K × K)) (B : FactorVolume K) (j : J) (v : V2) → Lawful (gauss 𝓚) (conj 𝓚) a g F → PackedIn 𝓚 g a F B → Inside a j → AgreesWithItself (factor_acts (gauss 𝓚) (conj 𝓚) a) (full g) j v →
        PackedIn 𝓚 g a (λ h k l. recorded (factor_acts (gauss 𝓚) (conj 𝓚) a) (full g) j v (at F) (h, k, l)) (put_all (factor_acts (gauss 𝓚) (conj 𝓚) a) (put_factor 𝓚 g a) (stored_t g a) (full g) B j v)
    unfolding factor_acts
    record_packed g F B j v o b n c =
        (pack_iff 𝓡 half half_two a long g _ _ (record_obeys (factor_action (gauss_ring 𝓡) (gauss_star 𝓡) a) (full g) (closed (gauss_ring 𝓡) (gauss_star 𝓡) a g) j v (at F) n c o)).1
        (λ i m s. inv (loop_records (factor_action (gauss_ring 𝓡) (gauss_star 𝓡) a) (full g) (closed (gauss_ring 𝓡) (gauss_star 𝓡) a g) (λ B i. unpack 𝓚 g a B i) (put_factor 𝓚 g a) (stored_t g a) (get_same g) (get_other g) B j v (at F) n c
        (λ i m s. inv ((pack_iff 𝓡 half half_two a long g F B o).0 b i m ((stored_iff g a i).0 s))) i m ((stored_iff g a i).1 s)))
