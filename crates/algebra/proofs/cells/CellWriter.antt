-- The places of a cell in rising order, and the writer's records at a group.
use mathlib.Core.Path.{◌≡◌, sym as inv, ◌∙◌, subst}
use mathlib.Core.Logic.{◌↔◌, ◌⊎◌, inl, inr}
use mathlib.Core.Bool.{Bool}
use mathlib.Core.List.{List, ◌∷◌, ◌++◌}
use Prim.Native.Nat.{ℕ, zero, suc, ◌+◌, ◌*◌, ◌≤◌, ◌<◌}
use native.Mathlib.Omega.{arith}
use native.Mathlib.Decide.{ℕ_discrete, dec_lt, dec_le}
use lib.Dec.{T, ltb, eqb, leb→le, ltb→lt, le→leb, lt→ltb, eqb→eq, eqb_refl}
use Rattle.algebra.specs.ring.Ring.{Ops}
use Rattle.algebra.specs.ring.RingLaws.{CRing, Star}
use Rattle.algebra.specs.orbits.Orbit.{Mem, first, later, record_all}
use Rattle.algebra.specs.orbits.OrbitLaws.{Obeying, Accepted, Sound}
use Rattle.algebra.specs.cells.Cell.{J, Inside, Group, full, factor_acts, line_from, plane_from, cell_from, places_of, lex_le, records_of}
use Rattle.algebra.proofs.ring.Paths.{triple}
use Rattle.algebra.proofs.ring.Members.{mem_left, mem_right}
use Rattle.algebra.proofs.ring.Bool.{and_l, and_r, and_i, or_l, or_r, or_e}
use Rattle.algebra.proofs.cells.CellGroup.{factor_action, closed}
use Rattle.algebra.proofs.cells.CellOrder.{cell_mem, cell_rises, rises_distinct}
use Rattle.algebra.proofs.orbits.OrbitWriter.{Order, sound, writer_accepted, writer_reader}

-- the order h, k, l
data Lex (i j : J) : Type 0 where
  at_h : i.0 < j.0 → Lex i j
  at_k : i.0 ≡ j.0 → i.1 < j.1 → Lex i j
  at_l : i.0 ≡ j.0 → i.1 ≡ j.1 → i.2 ≤ j.2 → Lex i j

eq_T : (m n : ℕ) → m ≡ n → T (eqb m n)
eq_T m n e = subst (λ y. T (eqb m y)) e (eqb_refl m)

lex_of : (i j : J) → T (lex_le i j) → Lex i j
lex_of i j t =
    or_e (ltb i.0 j.0) _ (Lex i j) t (λ h. at_h (ltb→lt _ _ h)) (λ u.
    let e = eqb→eq i.0 j.0 (and_l (eqb i.0 j.0) _ u) in
    or_e (ltb i.1 j.1) _ (Lex i j) (and_r (eqb i.0 j.0) _ u) (λ h. at_k e (ltb→lt _ _ h)) (λ v. at_l e (eqb→eq i.1 j.1 (and_l (eqb i.1 j.1) _ v)) (leb→le _ _ (and_r (eqb i.1 j.1) _ v))))

of_lex : (i j : J) → Lex i j → T (lex_le i j)
of_lex i j (at_h h) = or_l (ltb i.0 j.0) _ (lt→ltb _ _ h)
of_lex i j (at_k e h) = or_r (ltb i.0 j.0) _ (and_i (eqb i.0 j.0) _ (eq_T _ _ e) (or_l (ltb i.1 j.1) _ (lt→ltb _ _ h)))
of_lex i j (at_l e f h) = or_r (ltb i.0 j.0) _ (and_i (eqb i.0 j.0) _ (eq_T _ _ e) (or_r (ltb i.1 j.1) _ (and_i (eqb i.1 j.1) _ (eq_T _ _ f) (le→leb _ _ h))))

lex_trans : (i j k : J) → Lex i j → Lex j k → Lex i k
lex_trans i j k (at_h a) (at_h b) = at_h (omega arith)
lex_trans i j k (at_h a) (at_k e b) = at_h (omega arith)
lex_trans i j k (at_h a) (at_l e f b) = at_h (omega arith)
lex_trans i j k (at_k d a) (at_h b) = at_h (omega arith)
lex_trans i j k (at_k d a) (at_k e b) = at_k (d ∙ e) (omega arith)
lex_trans i j k (at_k d a) (at_l e f b) = at_k (d ∙ e) (omega arith)
lex_trans i j k (at_l d c a) (at_h b) = at_h (omega arith)
lex_trans i j k (at_l d c a) (at_k e b) = at_k (d ∙ e) (omega arith)
lex_trans i j k (at_l d c a) (at_l e f b) = at_l (d ∙ e) (c ∙ f) (omega arith)

lex_antisym : (i j : J) → Lex i j → Lex j i → i ≡ j
lex_antisym i j (at_h a) (at_h b) = absurd (omega arith)
lex_antisym i j (at_h a) (at_k e b) = absurd (omega arith)
lex_antisym i j (at_h a) (at_l e f b) = absurd (omega arith)
lex_antisym i j (at_k d a) (at_h b) = absurd (omega arith)
lex_antisym i j (at_k d a) (at_k e b) = absurd (omega arith)
lex_antisym i j (at_k d a) (at_l e f b) = absurd (omega arith)
lex_antisym i j (at_l d c a) (at_h b) = absurd (omega arith)
lex_antisym i j (at_l d c a) (at_k e b) = absurd (omega arith)
lex_antisym i j (at_l d c a) (at_l e f b) = triple d c (omega arith)

lex_total : (i j : J) → Lex i j ⊎ Lex j i
lex_total i j = go (dec_lt i.0 j.0) (dec_lt j.0 i.0) (dec_lt i.1 j.1) (dec_lt j.1 i.1) (dec_le i.2 j.2)
  where
    go : Dec (i.0 < j.0) → Dec (j.0 < i.0) → Dec (i.1 < j.1) → Dec (j.1 < i.1) → Dec (i.2 ≤ j.2) → Lex i j ⊎ Lex j i
    go (yes a) b c d e = inl (at_h a)
    go (no a) (yes b) c d e = inr (at_h b)
    go (no a) (no b) (yes c) d e = inl (at_k (omega arith) c)
    go (no a) (no b) (no c) (yes d) e = inr (at_k (omega arith) d)
    go (no a) (no b) (no c) (no d) (yes e) = inl (at_l (omega arith) (omega arith) e)
    go (no a) (no b) (no c) (no d) (no e) = inr (at_l (omega arith) (omega arith) (omega arith))

pub lex_order : Order lex_le
lex_order = record {
  total = λ i j. go i j (lex_total i j);
  trans = λ i j k p q. of_lex i k (lex_trans i j k (lex_of i j p) (lex_of j k q));
  antisym = λ i j p q. lex_antisym i j (lex_of i j p) (lex_of j i q);
}
  where
    go : (i j : J) → Lex i j ⊎ Lex j i → T (lex_le i j) ⊎ T (lex_le j i)
    go i j (inl h) = inl (of_lex i j h)
    go i j (inr h) = inr (of_lex j i h)

line_has : (h k l n x : ℕ) → l ≤ x → x < l + n → Mem (h, k, x) (line_from h k l n)
unfolding line_from
line_has h k l zero x p q = absurd (omega arith)
line_has h k l (suc n) x p q = go (ℕ_discrete x l) (λ a b. line_has h k (suc l) n x a b)
  where
    go : Dec (x ≡ l) → (suc l ≤ x → x < suc l + n → Mem (h, k, x) (line_from h k (suc l) n)) → Mem (h, k, x) ((h, k, l) ∷ line_from h k (suc l) n)
    go (yes e) ih = subst (λ y. Mem (h, k, y) ((h, k, l) ∷ line_from h k (suc l) n)) (inv e) first
    go (no e) ih = later (ih (omega arith) (omega arith))

plane_has : (q h k n y x : ℕ) → k ≤ y → y < k + n → x < q → Mem (h, y, x) (plane_from q h k n)
unfolding plane_from
plane_has q h k zero y x a b c = absurd (omega arith)
plane_has q h k (suc n) y x a b c = go (ℕ_discrete y k) (λ a b. plane_has q h (suc k) n y x a b c)
  where
    go : Dec (y ≡ k) → (suc k ≤ y → y < suc k + n → Mem (h, y, x) (plane_from q h (suc k) n)) → Mem (h, y, x) (line_from h k 0 q ++ plane_from q h (suc k) n)
    go (yes e) ih = mem_left (line_from h k 0 q) _ (subst (λ t. Mem (h, t, x) (line_from h k 0 q)) (inv e) (line_has h k 0 q x (omega arith) (omega arith)))
    go (no e) ih = mem_right (line_from h k 0 q) _ (ih (omega arith) (omega arith))

cell_has : (q m h n z y x : ℕ) → h ≤ z → z < h + n → y < m → x < q → Mem (z, y, x) (cell_from q m h n)
unfolding cell_from
cell_has q m h zero z y x a b c d = absurd (omega arith)
cell_has q m h (suc n) z y x a b c d = go (ℕ_discrete z h) (λ a b. cell_has q m (suc h) n z y x a b c d)
  where
    go : Dec (z ≡ h) → (suc h ≤ z → z < suc h + n → Mem (z, y, x) (cell_from q m (suc h) n)) → Mem (z, y, x) (plane_from q h 0 m ++ cell_from q m (suc h) n)
    go (yes e) ih = mem_left (plane_from q h 0 m) _ (subst (λ t. Mem (t, y, x) (plane_from q h 0 m)) (inv e) (plane_has q h 0 m y x (omega arith) (omega arith) d))
    go (no e) ih = mem_right (plane_from q h 0 m) _ (ih (omega arith) (omega arith))

-- the writer's records of a cell of a group
module _ {R : Type 0} {𝓞 : Ops R} {conj : R → R} {i : R} (𝓡 : CRing 𝓞) (𝓢 : Star 𝓞 conj i) (eq : R → R → Bool) (eq_iff : (x y : R) → T (eq x y) ↔ (x ≡ y)) (g : Group) (a : J) (F : J → R) (o : Obeying (factor_acts 𝓞 conj a) (Inside a) (full g) F) where
  abbrev pub recs : List (J × R)
  recs = records_of (factor_acts 𝓞 conj a) lex_le eq (full g) F (places_of a)

  places_in : (j : J) → Mem j (places_of a) → Inside a j
  places_in j m = let r = cell_mem (2 * a.2) (2 * a.1) 0 (2 * a.0) j m in (omega arith, r.2, r.3)

  places_all : (j : J) → Inside a j → Mem j (places_of a)
  places_all j n = cell_has (2 * a.2) (2 * a.1) 0 (2 * a.0) j.0 j.1 j.2 (omega arith) (omega (arith, n.0)) n.1 n.2

  -- they are of different orbits, so they are accepted ..
  pub written_sound : Sound (factor_acts 𝓞 conj a) (Inside a) (full g) recs
  unfolding factor_acts
  written_sound = sound (factor_action 𝓡 𝓢 a) (full g) (closed 𝓡 𝓢 a g) lex_le lex_order eq eq_iff F o (places_of a) (rises_distinct (places_of a) (cell_rises (2 * a.2) (2 * a.1) 0 (2 * a.0))) places_in

  pub written_accepted : Accepted (factor_acts 𝓞 conj a) (Inside a) (full g) recs (λ j. 𝓞.zer)
  unfolding factor_acts
  written_accepted = writer_accepted (factor_action 𝓡 𝓢 a) (full g) (closed 𝓡 𝓢 a g) lex_le lex_order eq eq_iff F o (places_of a) (rises_distinct (places_of a) (cell_rises (2 * a.2) (2 * a.1) 0 (2 * a.0))) places_in places_all

  -- .. and restore the cell
  pub written_read : (j : J) → Inside a j → record_all (factor_acts 𝓞 conj a) (full g) recs (λ j. 𝓞.zer) j ≡ F j
  unfolding factor_acts
  written_read = writer_reader (factor_action 𝓡 𝓢 a) (full g) (closed 𝓡 𝓢 a g) lex_le lex_order eq eq_iff F o (places_of a) (rises_distinct (places_of a) (cell_rises (2 * a.2) (2 * a.1) 0 (2 * a.0))) places_in places_all
