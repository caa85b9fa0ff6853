-- The places of a cell rise by h, then k, then l; so do the records that they give, each at the lowest place of its orbit.
use mathlib.Core.Path.{◌≡◌, refl, sym as inv, ap}
use mathlib.Core.Bool.{Bool, ◌&&◌, not, cond}
use mathlib.Core.List.{List, [], ◌∷◌, ◌++◌, map}
use Prim.Native.Nat.{ℕ, zero, suc, ◌+◌, ◌≤◌, ◌<◌}
use native.Mathlib.Omega.{arith}
use lib.Dec.{T, eqb, ltb, leb→le, ltb→lt, eqb→eq}
use Rattle.algebra.specs.orbits.Orbit.{Mem, first, later, Acts}
use Rattle.algebra.specs.cells.Cell.{J, line_from, plane_from, cell_from, lex_le, lowest, records_of}
use Rattle.algebra.specs.cells.CellOrder.{Before, by_h, by_k, by_l}
use Rattle.algebra.proofs.ring.Members.{none, mem_cons, mem_append}
use Rattle.algebra.proofs.ring.Bool.{and_l, and_r, or_e, split}
use Rattle.algebra.proofs.orbits.OrbitWriter.{Distinct}

-- ---- lists in which each comes before all that follow

unfoldable pub Rises : List J → Type 0
Rises [] = Unit {0}
Rises (j ∷ l) = ((i : J) → Mem i l → Before j i) × Rises l

rises_append : (l m : List J) → Rises l → Rises m → ((i j : J) → Mem i l → Mem j m → Before i j) → Rises (l ++ m)
unfolding Rises
rises_append [] m d e f = e
rises_append (x ∷ l) m d e f = (λ i h. mem_append l m (λ i. Before x i) (λ i h. d.0 i h) (λ i h. f x i first h) i h, rises_append l m d.1 e (λ i j h k. f i j (later h) k))

-- so none stands there twice
not_itself : (i j : J) → Before i j → i ≡ j → ⊥
not_itself i j (by_h b) e = let f : i.0 ≡ j.0 = ap (λ j. j.0) e in omega arith
not_itself i j (by_k d b) e = let f : i.1 ≡ j.1 = ap (λ j. j.1) e in omega arith
not_itself i j (by_l d c b) e = let f : i.2 ≡ j.2 = ap (λ j. j.2) e in omega arith

pub rises_distinct : (l : List J) → Rises l → Distinct l
unfolding Rises Distinct
rises_distinct [] r = tt
rises_distinct (j ∷ l) r = (λ i m. not_itself j i (r.0 i m), rises_distinct l r.1)

-- ---- the places of a cell

pub line_mem : (h k l n : ℕ) (j : J) → Mem j (line_from h k l n) → (j.0 ≡ h) × (j.1 ≡ k) × (l ≤ j.2) × (j.2 < l + n)
unfolding line_from
line_mem h k l zero j m = none m
line_mem h k l (suc n) j first = (refl, refl, omega arith, omega arith)
line_mem h k l (suc n) j (later m) = let r = line_mem h k (suc l) n j m in (r.0, r.1, omega arith, omega arith)

line_rises : (h k l n : ℕ) → Rises (line_from h k l n)
unfolding line_from Rises
line_rises h k l zero = tt
line_rises h k l (suc n) = (λ i m. let r = line_mem h k (suc l) n i m in by_l (inv r.0) (inv r.1) (omega (arith, r.2)), line_rises h k (suc l) n)

pub plane_mem : (q h k n : ℕ) (j : J) → Mem j (plane_from q h k n) → (j.0 ≡ h) × (k ≤ j.1) × (j.1 < k + n) × (j.2 < q)
unfolding plane_from
plane_mem q h k zero j m = none m
plane_mem q h k (suc n) j m = mem_append (line_from h k 0 q) _ (λ j. (j.0 ≡ h) × (k ≤ j.1) × (j.1 < k + suc n) × (j.2 < q))
    (λ j m. let r = line_mem h k 0 q j m in (r.0, omega arith, omega arith, omega arith))
    (λ j m. let r = plane_mem q h (suc k) n j m in (r.0, omega arith, omega arith, r.3)) j m

plane_rises : (q h k n : ℕ) → Rises (plane_from q h k n)
unfolding plane_from Rises
plane_rises q h k zero = tt
plane_rises q h k (suc n) = rises_append (line_from h k 0 q) _ (line_rises h k 0 q) (plane_rises q h (suc k) n) (λ i j m m'. let r = line_mem h k 0 q i m in let s = plane_mem q h (suc k) n j m' in by_k (omega arith) (omega arith))

pub cell_mem : (q m h n : ℕ) (j : J) → Mem j (cell_from q m h n) → (h ≤ j.0) × (j.0 < h + n) × (j.1 < m) × (j.2 < q)
unfolding cell_from
cell_mem q m h zero j k = none k
cell_mem q m h (suc n) j k = mem_append (plane_from q h 0 m) _ (λ j. (h ≤ j.0) × (j.0 < h + suc n) × (j.1 < m) × (j.2 < q))
    (λ j k. let r = plane_mem q h 0 m j k in (omega arith, omega arith, omega arith, r.3))
    (λ j k. let r = cell_mem q m (suc h) n j k in (omega arith, omega arith, r.2, r.3)) j k

pub cell_rises : (q m h n : ℕ) → Rises (cell_from q m h n)
unfolding cell_from Rises
cell_rises q m h zero = tt
cell_rises q m h (suc n) = rises_append (plane_from q h 0 m) _ (plane_rises q h 0 m) (cell_rises q m (suc h) n) (λ i j k k'. let r = plane_mem q h 0 m i k in let s = cell_mem q m (suc h) n j k' in by_h (omega arith))

-- ---- the records of places

module _ {S R : Type 0} (𝓐 : Acts S J R) (le : J → J → Bool) (eq : R → R → Bool) (G : List S) (F : J → R) where
  abbrev records : List J → List (J × R)
  records l = records_of 𝓐 le eq G F l

  abbrev indices : List (J × R) → List J
  indices cs = map (λ c. c.0) cs

  abbrev given : J → Bool
  given j = lowest 𝓐 le eq G j && not (eq (F j) 𝓐.zer)

  -- a record stands at one of the places, the lowest of its orbit
  placed : (l : List J) (i : J) → Mem i (indices (records l)) → Mem i l
  unfolding records_of
  placed [] i m = none m
  placed (j ∷ l) i m = split (given j) (λ b. Mem i (indices (cond b ((j, F j) ∷ records l) (records l))) → Mem i (j ∷ l)) (λ t m. mem_cons (λ i. Mem i (j ∷ l)) first (λ i m. later (placed l i m)) i m) (λ t m. later (placed l i m)) m

  pub records_lowest : (l : List J) (c : J × R) → Mem c (records l) → T (lowest 𝓐 le eq G c.0)
  unfolding records_of
  records_lowest [] c m = none m
  records_lowest (j ∷ l) c m = split (given j) (λ b. Mem c (cond b ((j, F j) ∷ records l) (records l)) → T (lowest 𝓐 le eq G c.0))
      (λ t m. mem_cons (λ (c : J × R). T (lowest 𝓐 le eq G c.0)) (and_l (lowest 𝓐 le eq G j) _ t) (λ c m. records_lowest l c m) c m)
      (λ t m. records_lowest l c m) m

  -- and they rise as the places do
  pub records_rise : (l : List J) → Rises l → Rises (indices (records l))
  unfolding records_of Rises
  records_rise [] r = tt
  records_rise (j ∷ l) r = split (given j) (λ b. Rises (indices (cond b ((j, F j) ∷ records l) (records l)))) (λ t. (λ i m. r.0 i (placed l i m), records_rise l r.1)) (λ t. records_rise l r.1)

-- ---- what comes no later does not come after

pub no_later_lem : (i j : J) → T (lex_le i j) → Before j i → ⊥
no_later_lem i j t b =
    or_e (ltb i.0 j.0) _ ⊥ t (λ h. at_h (ltb→lt _ _ h) b) (λ u.
    let e = eqb→eq i.0 j.0 (and_l (eqb i.0 j.0) _ u) in
    or_e (ltb i.1 j.1) _ ⊥ (and_r (eqb i.0 j.0) _ u) (λ h. at_k e (ltb→lt _ _ h) b) (λ v. at_l e (eqb→eq i.1 j.1 (and_l (eqb i.1 j.1) _ v)) (leb→le _ _ (and_r (eqb i.1 j.1) _ v)) b))
  where
    at_h : i.0 < j.0 → Before j i → ⊥
    at_h h (by_h b) = omega arith
    at_h h (by_k e b) = omega arith
    at_h h (by_l e f b) = omega arith

    at_k : i.0 ≡ j.0 → i.1 < j.1 → Before j i → ⊥
    at_k d h (by_h b) = omega arith
    at_k d h (by_k e b) = omega arith
    at_k d h (by_l e f b) = omega arith

    at_l : i.0 ≡ j.0 → i.1 ≡ j.1 → i.2 ≤ j.2 → Before j i → ⊥
    at_l d c h (by_h b) = omega arith
    at_l d c h (by_k e b) = omega arith
    at_l d c h (by_l e f b) = omega arith
