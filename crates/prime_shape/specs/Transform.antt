-- The transforms of a line and of a cell under any prime of the shape, by direct sums over the whole line of N = 2 A
-- values and by triple sums, and what is proved of them for every such prime.
use Rattle.std.specs.Prelude.{◌≡◌, ◌⊎◌, true, false, ℕ, suc, ◌+◌, ◌*◌, ◌/◌, ◌%◌, ◌<◌}
use Rattle.algebra.specs.ring.Ring.{pow, sum, Res, residues}
use Rattle.algebra.specs.orbits.Orbit.{Mem, recorded}
use Rattle.algebra.specs.orbits.OrbitLaws.{AgreesWithItself, cell_of, put_all}
use Rattle.algebra.specs.fourier.Axis.{cast, Root, Axis, AxisLaws}
use Rattle.algebra.specs.lines.Kinds.{Kind, plain, hermitian, alternating, symmetric, antisymmetric, slots, pack_by}
use Rattle.algebra.specs.lines.Kinds.{unfold_before, unfold_after, RuleBefore, forward, inverse}
use Rattle.algebra.specs.lines.FoldKinds.{fold_forward, fold_back}
use Rattle.algebra.specs.cells.Cell.{J, Inside, Cell, at, Group, P1, P2₁, Pm, Pa, P2₁2₁2₁, Sym, friedel, full}
use Rattle.algebra.specs.cells.Cell.{map_of, factors_of, MapObeys, factor_acts, stored_t, point_image, point_operation}
use Rattle.algebra.specs.cells.CellPlaces.{factor_operation, StoredPoint}
use Rattle.algebra.specs.cells.CellPack.{even, FactorVolume, pack_factors, unpack, put_factor, PackedIn}
use Rattle.algebra.specs.cells.CellSteps.{Obeys, Lawful, total, after_l, after_h, after_k, back_k, back_h, back_l}
use Rattle.prime_shape.specs.Shape.{Value, field, conj, i, part, Shape}

module _ (p : ℕ) (r : Value p) where
  open field p use {add as ◌⊕◌, mul as ◌⊗◌, neg as ⊖◌, zer as 𝟘, one as 𝟙}

  infixl 65 ◌⊕◌
  infixl 70 ◌⊗◌
  infix 75 ⊖◌
  infixl 80 ◌^◌
  abbrev ◌^◌ : Value p → ℕ → Value p
  z ^ k = pow (field p) z k

  -- e(1/N), and the axis of length 2 A
  abbrev pub root_of : ℕ → Value p
  root_of N = r ^ (2880 / N)

  abbrev pub axis_of : ℕ → Axis (Value p)
  axis_of A = record { half = A; w = root_of (2 * A); part = part p (2 * A) }

  -- direction 0 and direction 1 of a packed line of 2 A values
  abbrev pub forward_of : (A : ℕ) → Kind → (ℕ → Value p) → ℕ → Value p
  forward_of A k X = forward (field p) (conj p) (i p) (part p 2) A (root_of (2 * A)) k X

  abbrev pub inverse_of : (A : ℕ) → Kind → (ℕ → Value p) → ℕ → Value p
  inverse_of A k X = inverse (field p) (conj p) (i p) (part p 2) A (root_of (2 * A)) (part p (2 * A)) k X

  -- the whole line of a packed one, before the transform and after it
  abbrev pub whole_before : (A : ℕ) → Kind → (ℕ → Value p) → ℕ → Value p
  whole_before A k X = unfold_before (field p) (conj p) (i p) (part p 2) A k X

  abbrev pub whole_after : (A : ℕ) → Kind → (ℕ → Value p) → ℕ → Value p
  whole_after A k X = unfold_after (field p) (conj p) (i p) (part p 2) A k X

  -- half tangents of a length: tau s is that of e(s/N)
  abbrev pub HalfTangents : (A : ℕ) → (ℕ → Value p) → Type 0
  HalfTangents A tau = (s : ℕ) → 0 < s → s < A →
      (𝟙 ⊕ ⊖ (i p ⊗ tau s)) ⊗ (𝟙 ⊕ root_of (2 * A) ^ s) ≡ 𝟙 ⊕ 𝟙

  -- the facts of an admitted length 2 A, where A divides 1,440
  pub record LineFacts (A : ℕ) : Type 0 where
    pub root : Root (field p) (2 * A) (root_of (2 * A)) (conj p (root_of (2 * A))) (part p (2 * A))
    pub axis : (tau : ℕ → Value p) →
        HalfTangents A tau →
        AxisLaws (field p) (conj p) (i p) (part p 2) (axis_of A) tau
    pub some_tangents : (tau : ℕ → Value p) × HalfTangents A tau
    -- the whole line after the transform is the direct sum over the whole line before it, and back; each direction
    -- restores what the other was given
    pub forward_is_sum : (k : Kind) (X : ℕ → Value p) (s : ℕ) → s < 2 * A →
        whole_after A k (forward_of A k X) s
        ≡ sum (field p) (2 * A) (λ t. whole_before A k X t ⊗ root_of (2 * A) ^ (t * s))
    pub back_is_sum : (k : Kind) (X : ℕ → Value p) (t : ℕ) → t < 2 * A →
        whole_before A k (inverse_of A k X) t
        ≡ part p (2 * A) ⊗ sum (field p) (2 * A) (λ s. whole_after A k X s ⊗ conj p (root_of (2 * A)) ^ (s * t))
    pub restored : (k : Kind) (X : ℕ → Value p) (t : ℕ) →
        t < slots k A →
        inverse_of A k (forward_of A k X) t ≡ X t
    pub restored_after : (k : Kind) (X : ℕ → Value p) (s : ℕ) →
        s < slots k A →
        forward_of A k (inverse_of A k X) s ≡ X s
    -- the folded computation gives the same
    pub fold_is : (tau : ℕ → Value p) →
        HalfTangents A tau →
        (k : Kind) (X : ℕ → Value p) (s : ℕ) →
        s < slots k A →
        fold_forward (field p) (conj p) (i p) (part p 2) A (root_of (2 * A)) (part p (2 * A)) tau k X s
        ≡ forward_of A k X s
    pub fold_back_is : (tau : ℕ → Value p) →
        HalfTangents A tau →
        (k : Kind) (X : ℕ → Value p) (t : ℕ) →
        t < slots k A →
        fold_back (field p) (conj p) (i p) (part p 2) A (root_of (2 * A)) (part p (2 * A)) tau k X t
        ≡ inverse_of A k X t

  -- a cell of 2 A by 2 B by 2 C points: the triple sum and its inverse, each of which undoes the other
  abbrev pub map_for : (A B C : ℕ) → Cell (Value p) → Cell (Value p)
  map_for A B C F = map_of (field p) (axis_of A) (axis_of B) (axis_of C) F

  abbrev pub factors_for : (A B C : ℕ) → Cell (Value p) → Cell (Value p)
  factors_for A B C M = factors_of (field p) (conj p) (axis_of A) (axis_of B) (axis_of C) M

  pub record CellFacts (A B C : ℕ) : Type 0 where
    pub factors_map : (F : Cell (Value p)) (h k l : ℕ) →
        h < 2 * A → k < 2 * B → l < 2 * C →
        factors_for A B C (map_for A B C F) h k l ≡ F h k l
    pub map_factors : (M : Cell (Value p)) (x y z : ℕ) →
        x < 2 * A → y < 2 * B → z < 2 * C →
        map_for A B C (factors_for A B C M) x y z ≡ M x y z

  -- the sum over the whole cell, and how many points it has
  abbrev pub total_for : (A B C : ℕ) → Cell (Value p) → Value p
  total_for A B C F = total (field p) (axis_of A) (axis_of B) (axis_of C) F

  abbrev pub points_for : (A B C : ℕ) → Value p
  points_for A B C = cast (field p) (2 * A * (2 * B) * (2 * C))

  abbrev pub Real : (A B C : ℕ) → Cell (Value p) → Type 0
  Real A B C M = (x y z : ℕ) → x < 2 * A → y < 2 * B → z < 2 * C → conj p (M x y z) ≡ M x y z

  -- F(-h, -k, -l) = conj F(h, k, l); F obeys a group, and Friedel's rule with it
  abbrev pub Friedel : (A B C : ℕ) → Cell (Value p) → Type 0
  Friedel A B C F = Obeys (field p) (conj p) (A, B, C) friedel F

  abbrev pub Of : (A B C : ℕ) → Group → Cell (Value p) → Type 0
  Of A B C g F = Lawful (field p) (conj p) (A, B, C) g F

  -- real maps, power and correlation
  pub record SumFacts (A B C : ℕ) : Type 0 where
    pub real : (F : Cell (Value p)) → Friedel A B C F → Real A B C (map_for A B C F)
    pub power :
        (F : Cell (Value p)) → Friedel A B C F →
        total_for A B C (λ x y z. map_for A B C F x y z ⊗ map_for A B C F x y z)
        ≡ points_for A B C ⊗ total_for A B C (λ h k l. F h k l ⊗ conj p (F h k l))
    -- the sum over all points of M(x) K(x + s), the indices going round, is that of the product of the factors
    pub correlation :
        (M K : Cell (Value p)) → Real A B C M → (s t u : ℕ) →
        total_for A B C (λ x y z. M x y z ⊗ K ((x + s) % (2 * A)) ((y + t) % (2 * B)) ((z + u) % (2 * C)))
        ≡ points_for A B C
        ⊗ map_for A B C (λ h k l. conj p (factors_for A B C M h k l) ⊗ factors_for A B C K h k l) s t u

  -- the rule of a kind, of a line along l
  abbrev pub Rule : (C : ℕ) → Kind → (ℕ → Value p) → Type 0
  Rule C k X = RuleBefore (field p) (conj p) (i p) (part p 2) C k X

  -- The passes along l, h and k, and back; and by the papers' tables the kinds of the lines that they meet in a cell of
  -- each group. An odd h's line of P2₁2₁2₁ is alternating after multiplication by i.
  pub record PassFacts (A B C : ℕ) : Type 0 where
    pub passes :
        (F : Cell (Value p)) (x y z : ℕ) →
        after_k (field p) (axis_of B) (after_h (field p) (axis_of A) (after_l (field p) (axis_of C) F)) x y z
        ≡ map_for A B C F x y z
    pub passes_back :
        (M : Cell (Value p)) (h k l : ℕ) →
        back_l (field p) (conj p) (axis_of C)
        (back_h (field p) (conj p) (axis_of A) (back_k (field p) (conj p) (axis_of B) M)) h k l
        ≡ factors_for A B C M h k l
    pub p21 : (F : Cell (Value p)) →
        Of A B C P2₁ F → (h k : ℕ) → h < 2 * A → k < 2 * B →
        Rule C alternating (F h k)
    pub pm : (F : Cell (Value p)) →
        Of A B C Pm F → (h k : ℕ) → h < 2 * A → k < 2 * B →
        Rule C symmetric (F h k)
    pub pa_even :
        (F : Cell (Value p)) → Of A B C Pa F → (h k : ℕ) → h < 2 * A → k < 2 * B →
        even h ≡ true → Rule C symmetric (F h k)
    pub pa_odd :
        (F : Cell (Value p)) → Of A B C Pa F → (h k : ℕ) → h < 2 * A → k < 2 * B →
        even h ≡ false → Rule C antisymmetric (F h k)
    pub p212121_even :
        (F : Cell (Value p)) → Of A B C P2₁2₁2₁ F → (h k : ℕ) → h < 2 * A → k < 2 * B →
        even h ≡ true → Rule C alternating (F h k)
    pub p212121_odd :
        (F : Cell (Value p)) → Of A B C P2₁2₁2₁ F → (h k : ℕ) → h < 2 * A → k < 2 * B →
        even h ≡ false → Rule C alternating (λ l. i p ⊗ F h k l)
    -- the lines along k are Hermitian, whatever the group
    pub along_k_lem :
        (F : Cell (Value p)) → Friedel A B C F → (x z : ℕ) → x < 2 * A → z < 2 * C →
        Rule B hermitian (λ k. after_h (field p) (axis_of A) (after_l (field p) (axis_of C) F) x k z)
    -- the map of a cell of a group has the same value at all images of a point, its conjugate at those by Friedel's
    -- rule
    pub images :
        (g : Group) (F : Cell (Value p)) → Of A B C g F → (s : Sym) → Mem s (full g) →
        MapObeys (conj p) (A, B, C) s (map_for A B C F)

  -- ---- Packed volumes: the pair w of (h, k), each line along l packed by its kind, for k from 0 to B.

  abbrev pub packed_for : (A B C : ℕ) → Group → Cell (Value p) → (w h k : ℕ) → Value p
  packed_for A B C g F = pack_factors (residues p) g (A, B, C) F

  -- q is a packed line of a kind before a pass, and z what is packed after it: each direction makes one of the other
  abbrev pub Pass : (A : ℕ) → Kind → (q z : ℕ → Value p) → Type 0
  Pass A k q z = (s : ℕ) → s < slots k A → (forward_of A k q s ≡ z s) × (inverse_of A k z s ≡ q s)

  -- what two passes leave of a cell along k, packed: the values at k = 0 and k = B are real, and pair 0 has both
  abbrev pub packed_row : (B : ℕ) → Cell (Value p) → (x z : ℕ) → ℕ → Value p
  packed_row B T x z = pack_by ((T x 0 z).0, (T x B z).0) (λ k. T x k z)

  -- the map's row: the numbers at y = 2 k and y = 2 k + 1 in pair k
  abbrev pub map_row : Cell (Value p) → (x z : ℕ) → ℕ → Value p
  map_row M x z k = ((M x (2 * k) z).0, (M x (2 * k + 1) z).0)

  -- The lines of a packed volume under the three passes, by the papers' tables: those along l by their kinds, of Pa
  -- with h odd without the pairs 0 and C, of P2₁2₁2₁ with h odd times i; those along h plain; those along k
  -- Hermitian. And what a volume stands for: every factor, a record, every point.
  pub record PackFacts (A B C : ℕ) : Type 0 where
    pub p1 : (F : Cell (Value p)) (h k : ℕ) →
        Pass C plain (λ w. packed_for A B C P1 F w h k) (λ z. after_l (field p) (axis_of C) F h k z)
    pub p21 :
        (F : Cell (Value p)) → Of A B C P2₁ F → (h k : ℕ) → h < 2 * A → k < 2 * B →
        Pass C alternating (λ w. packed_for A B C P2₁ F w h k) (λ z. after_l (field p) (axis_of C) F h k z)
    pub pm :
        (F : Cell (Value p)) → Of A B C Pm F → (h k : ℕ) → h < 2 * A → k < 2 * B →
        Pass C symmetric (λ w. packed_for A B C Pm F w h k) (λ z. after_l (field p) (axis_of C) F h k z)
    pub pa_even :
        (F : Cell (Value p)) → Of A B C Pa F → (h k : ℕ) → h < 2 * A → k < 2 * B →
        even h ≡ true →
        Pass C symmetric (λ w. packed_for A B C Pa F w h k) (λ z. after_l (field p) (axis_of C) F h k z)
    pub pa_odd :
        (F : Cell (Value p)) → Of A B C Pa F → (h k : ℕ) → h < 2 * A → k < 2 * B →
        even h ≡ false →
        Pass C antisymmetric (λ w. packed_for A B C Pa F (suc w) h k)
        (λ z. after_l (field p) (axis_of C) F h k (suc z))
    pub pa_ends :
        (F : Cell (Value p)) → Of A B C Pa F → (h k : ℕ) → h < 2 * A → k < 2 * B →
        even h ≡ false →
        (w : ℕ) → (w ≡ 0) ⊎ (w ≡ C) →
        (packed_for A B C Pa F w h k ≡ 𝟘) × (after_l (field p) (axis_of C) F h k w ≡ 𝟘)
    pub p212121_even :
        (F : Cell (Value p)) → Of A B C P2₁2₁2₁ F → (h k : ℕ) → h < 2 * A → k < 2 * B →
        even h ≡ true →
        Pass C alternating (λ w. packed_for A B C P2₁2₁2₁ F w h k) (λ z. after_l (field p) (axis_of C) F h k z)
    pub p212121_odd :
        (F : Cell (Value p)) → Of A B C P2₁2₁2₁ F → (h k : ℕ) → h < 2 * A → k < 2 * B →
        even h ≡ false →
        Pass C alternating (λ w. packed_for A B C P2₁2₁2₁ F w h k)
        (λ z. i p ⊗ after_l (field p) (axis_of C) F h k z)
    pub along_h_lem : (T : Cell (Value p)) (k z : ℕ) →
        Pass A plain (λ h. T h k z) (λ x. after_h (field p) (axis_of A) T x k z)
    pub along_k_lem :
        (F : Cell (Value p)) → Friedel A B C F → (x z : ℕ) → x < 2 * A → z < 2 * C →
        Pass B hermitian (packed_row B (after_h (field p) (axis_of A) (after_l (field p) (axis_of C) F)) x z)
        (map_row (map_for A B C F) x z)
    -- every factor of a cell is read from a volume that holds its packed factors, through the operation of its index
    pub read :
        (g : Group) (F : Cell (Value p)) (volume : FactorVolume (Res p)) →
        Of A B C g F → PackedIn (residues p) g (A, B, C) F volume →
        (j : J) → Inside (A, B, C) j →
        at F j
        ≡ cell_of (factor_acts (field p) (conj p) (A, B, C)) (factor_operation g (A, B, C))
        (λ j. unpack (residues p) g (A, B, C) volume j) j
    -- a record that agrees with itself, written at every stored image of its index, leaves the recorded cell's factors
    pub record_held :
        (g : Group) (F : Cell (Value p)) (volume : FactorVolume (Res p)) (j : J) (v : Value p) →
        Of A B C g F → PackedIn (residues p) g (A, B, C) F volume →
        Inside (A, B, C) j →
        AgreesWithItself (factor_acts (field p) (conj p) (A, B, C)) (full g) j v →
        PackedIn (residues p) g (A, B, C)
        (λ h k l. recorded (factor_acts (field p) (conj p) (A, B, C)) (full g) j v (at F) (h, k, l))
        (put_all (factor_acts (field p) (conj p) (A, B, C)) (put_factor (residues p) g (A, B, C)) (stored_t g (A, B, C))
        (full g) volume j v)
    -- a point's number is that of its image on a stored plane
    pub point :
        (g : Group) (F : Cell (Value p)) → Of A B C g F →
        (x : J) → Inside (A, B, C) x →
        let image = point_image (A, B, C) (point_operation g (A, B, C) x) x in
        StoredPoint g (A, B, C) image × (at (map_for A B C F) x ≡ at (map_for A B C F) image)

-- Every prime of the shape has them, for all lengths 2 A where A divides 1,440.
abbrev pub OfCells : ((p : ℕ) (r : Value p) (A B C : ℕ) → Type 0) → Type 0
OfCells Facts =
    (p c a : ℕ) (r : Value p) → Shape p c a r →
    (A B C : ℕ) → 0 < A → 0 < B → 0 < C →
    A * (1440 / A) ≡ 1440 → B * (1440 / B) ≡ 1440 → C * (1440 / C) ≡ 1440 →
    Facts p r A B C

pub record EveryPrime : Type 0 where
  pub lines : (p c a : ℕ) (r : Value p) →
      Shape p c a r → (A : ℕ) → 0 < A →
      A * (1440 / A) ≡ 1440 →
      LineFacts p r A
  pub cells : OfCells CellFacts
  pub sums : OfCells SumFacts
  pub passes : OfCells PassFacts

-- and their packed volumes
abbrev pub EveryVolume : Type 0
EveryVolume = OfCells PackFacts
