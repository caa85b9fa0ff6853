-- Cells of three even axes: indices going round, operations, groups, which factors and points a volume stores, the map
-- as a triple sum and its inverse. An axis is known by its half a: its length is 2 * a.
use Rattle.std.specs.Prelude.{◌≡◌, ◌&&◌, ◌+◌, ◌*◌, ◌-◌, ◌%◌, ◌<◌, ◌∷◌, ◌++◌, ◌||◌}
use Rattle.algebra.specs.Prelude.{Bool, true, false, cond, eqb, ltb, ℕ, suc}
use Rattle.algebra.specs.Prelude.{List, [], map, get_or, not, leb, zero}
use Rattle.algebra.specs.ring.Ring.{Ops, pow, sum}
use Rattle.algebra.specs.fourier.Axis.{Axis}
use Rattle.algebra.specs.orbits.Orbit.{Acts}

-- an index, or a point
abbrev pub J : Type 0
J = ℕ × ℕ × ℕ

-- below the lengths
abbrev pub Inside : J → J → Type 0
Inside a j = (j.0 < 2 * a.0) × (j.1 < 2 * a.1) × (j.2 < 2 * a.2)

-- -h, and x + N/2, going round
unfoldable pub neg_i : ℕ → ℕ → ℕ
neg_i a h = (2 * a - h) % (2 * a)

unfoldable pub half_i : ℕ → ℕ → ℕ
half_i a x = (x + a) % (2 * a)

-- a change of sign, and a shifted by half the length, or none
unfoldable pub flip : Bool → ℕ → ℕ → ℕ
flip false a h = h
flip true a h = neg_i a h

unfoldable pub shifted : Bool → ℕ → ℕ → ℕ
shifted false a x = x
shifted true a x = half_i a x

abbrev pub xor : Bool → Bool → Bool
xor false b = b
xor true false = true
xor true true = false

-- An operation on factors: conjugate or not, the three changes of sign, the three parities.
pub data Sym : Type 0 where
  sym : (c f g h p q r : Bool) → Sym

-- the identity, Friedel's rule, and one operation after another
abbrev pub one : Sym
one = sym false false false false false false false

abbrev pub friedel : Sym
friedel = sym true true true true false false false

abbrev pub ◌·◌ : Sym → Sym → Sym
◌·◌ (sym c f g h p q r) (sym c' f' g' h' p' q' r') =
    sym (xor c c') (xor f f') (xor g g') (xor h h') (xor p p') (xor q q') (xor r r')

infixl 70 ◌·◌
-- the image of an index
unfoldable pub image_of : J → Sym → J → J
image_of a (sym c f g h p q r) j = (flip f a.0 j.0, flip g a.1 j.1, flip h a.2 j.2)

-- the image of a point
unfoldable pub point_image : J → Sym → J → J
point_image a (sym c f g h p q r) x = (
  shifted p a.0 (flip (xor c f) a.0 x.0),
  shifted q a.1 (flip (xor c g) a.1 x.1),
  shifted r a.2
      (flip (xor c h) a.2 x.2),
)

-- the groups, and the operations of each
pub data Group : Type 0 where
  P1 P2₁ Pm Pa P2₁2₁2₁ : Group

abbrev pub ops : Group → List Sym
ops P1 = one ∷ []
ops P2₁ = one ∷ sym false true true false false false true ∷ []
ops Pm = one ∷ sym false false false true false false false ∷ []
ops Pa = one ∷ sym false false false true true false false ∷ []
ops P2₁2₁2₁ =
    one ∷ sym false true true false true false true ∷ sym false true false true false true true ∷
    sym false false true true true true false ∷ []

-- each with and without Friedel
abbrev pub twice : List Sym → List Sym
twice l = l ++ map (λ s. friedel · s) l

abbrev pub full : Group → List Sym
full g = twice (ops g)

-- the same index
abbrev pub same_j : J → J → Bool
same_j i j = eqb i.0 j.0 && (eqb i.1 j.1 && eqb i.2 j.2)

-- the count of l that the packed factors (the paper's box) store
unfoldable pub span : Group → ℕ → ℕ
span P1 c = 2 * c
span P2₁ c = suc c
span Pm c = suc c
span Pa c = suc c
span P2₁2₁2₁ c = suc c

-- the stored planes of a map (the paper's held planes), the operation that leads to them (the first but the identity),
-- and the one to read a point by
unfoldable pub planes : Group → ℕ → ℕ
planes P1 c = 2 * c
planes P2₁ c = c
planes Pm c = suc c
planes Pa c = suc c
planes P2₁2₁2₁ c = c

abbrev pub plane_sym : Group → Sym
plane_sym g = get_or (ops g) 1 one

unfoldable pub point_operation : Group → J → J → Sym
point_operation g a x = cond (ltb x.2 (planes g a.2)) one (plane_sym g)

-- factors, or a map: a value at each of three indices
abbrev pub Cell : Type 0 → Type 0
Cell R = ℕ → ℕ → ℕ → R

module _ {R : Type 0} where
  -- at an index
  abbrev pub at : Cell R → J → R
  at F j = F j.0 j.1 j.2

module _ {R : Type 0} (𝓞 : Ops R) where
  open 𝓞 use {mul as ◌⊗◌, neg as ⊖◌, one as 𝟙}

  infixl 70 ◌⊗◌
  infix 75 ⊖◌
  -- the map: the triple sum over the axes X, Y, Z
  unfoldable pub map_of : (X Y Z : Axis R) → Cell R → Cell R
  map_of X Y Z F x y z =
      sum 𝓞 (2 * X.half)
      (λ h. sum 𝓞 (2 * Y.half)
      (λ k. sum 𝓞 (2 * Z.half)
      (λ l. F h k l ⊗ pow 𝓞 X.w (h * x) ⊗ pow 𝓞 Y.w (k * y)
      ⊗ pow 𝓞 Z.w (l * z))))

  -- and the factors of a map: its inverse
  unfoldable pub factors_of : (conj : R → R) (X Y Z : Axis R) → Cell R → Cell R
  factors_of conj X Y Z M h k l =
      X.part ⊗ Y.part ⊗ Z.part
      ⊗ sum 𝓞 (2 * X.half)
      (λ x. sum 𝓞 (2 * Y.half)
      (λ y. sum 𝓞 (2 * Z.half)
      (λ z. M x y z ⊗ pow 𝓞 (conj X.w) (x * h) ⊗ pow 𝓞 (conj Y.w) (y * k)
      ⊗ pow 𝓞 (conj Z.w) (z * l))))

  -- 1, or (-1)^h
  unfoldable pub sgn : Bool → ℕ → R
  sgn false h = 𝟙
  sgn true h = pow 𝓞 (⊖ 𝟙) h

module _ {R : Type 0} (conj : R → R) where
  -- conjugated, or not
  unfoldable pub star : Bool → R → R
  star false v = v
  star true v = conj v

  -- of a map, the value at the image of a point
  unfoldable pub implied_density : Sym → R → R
  implied_density (sym c f g h p q r) v = star c v

  -- a map obeys an operation at every point
  abbrev pub MapObeys : J → Sym → Cell R → Type 0
  MapObeys a s M = (x : J) → Inside a x → at M (point_image a s x) ≡ implied_density s (at M x)

module _ {R : Type 0} (𝓞 : Ops R) (conj : R → R) where
  open 𝓞 use {mul as ◌⊗◌, zer as 𝟘}

  infixl 70 ◌⊗◌
  -- the value at the image of j that v at j implies
  unfoldable pub implied_value : Sym → J → R → R
  implied_value (sym c f g h p q r) j v =
      star conj c (sgn 𝓞 p j.0 ⊗ (sgn 𝓞 q j.1 ⊗ (sgn 𝓞 r j.2 ⊗ v)))

  -- the action on factors
  unfoldable pub factor_acts : J → Acts Sym J R
  factor_acts a = record { mul = ◌·◌; one = one; same = same_j; image = image_of a; implied = implied_value; zer = 𝟘 }

-- ---- Tests over places and operations: refusal 12 over any values with an equality test; the places of a cell in
-- their order, and the records of its orbits.

-- tests of tests: an implication; every number below n; every member of a list
abbrev pub imply : Bool → Bool → Bool
imply true b = b
imply false b = true

unfoldable pub below : ℕ → (ℕ → Bool) → Bool
below zero P = true
below (suc n) P = below n P && P n

unfoldable pub every : {S : Type 0} → List S → (S → Bool) → Bool
every [] P = true
every (s ∷ l) P = P s && every l P

-- some member of a list
unfoldable pub some : {S : Type 0} → List S → (S → Bool) → Bool
some [] P = false
some (s ∷ l) P = P s || some l P

-- two indices are of one orbit: the second is an image of the first
unfoldable pub same_orbit : Group → (a i j : J) → Bool
same_orbit g a i j = some (full g) (λ s. same_j (image_of a s i) j)

-- every place h < n, k < m, l < q
unfoldable pub every_place : ℕ → ℕ → ℕ → (J → Bool) → Bool
every_place n m q P = below n (λ h. below m (λ k. below q (λ l. P (h, k, l))))

-- a factor is stored, and a point
abbrev pub stored_t : Group → J → J → Bool
stored_t g a j = leb j.1 a.1 && ltb j.2 (span g a.2)

abbrev pub stored_point_t : Group → J → J → Bool
stored_point_t g a x = ltb x.2 (planes g a.2)

module _ {R : Type 0} (𝓞 : Ops R) (conj : R → R) (eq : R → R → Bool) (g : Group) (a : J) where
  -- 12: no image of the record falls on its own place with another value
  unfoldable pub agrees_t : J → R → Bool
  agrees_t j v = every (full g) (λ s. imply (same_j (image_of a s j) j) (eq (implied_value 𝓞 conj s j v) v))

-- the places of the cell, rising in h, then k, then l
unfoldable pub line_from : ℕ → ℕ → ℕ → ℕ → List J
line_from h k l zero = []
line_from h k l (suc n) = (h, k, l) ∷ line_from h k (suc l) n

unfoldable pub plane_from : ℕ → ℕ → ℕ → ℕ → List J
plane_from q h k zero = []
plane_from q h k (suc n) = line_from h k 0 q ++ plane_from q h (suc k) n

unfoldable pub cell_from : ℕ → ℕ → ℕ → ℕ → List J
cell_from q m h zero = []
cell_from q m h (suc n) = plane_from q h 0 m ++ cell_from q m (suc h) n

abbrev pub places_of : J → List J
places_of a = cell_from (2 * a.2) (2 * a.1) 0 (2 * a.0)

-- the order of the places
abbrev pub lex_le : J → J → Bool
lex_le i j = ltb i.0 j.0 || (eqb i.0 j.0 && (ltb i.1 j.1 || (eqb i.1 j.1 && leb i.2 j.2)))

module _ {S J R : Type 0} (𝓐 : Acts S J R) (le : J → J → Bool) (eq : R → R → Bool) (G : List S) where
  open 𝓐 use {image, zer}

  -- the lowest place of its orbit
  abbrev pub lowest : J → Bool
  lowest j = every G (λ s. le j (image s j))

  -- a record for each orbit whose value is not zero, at its lowest place
  unfoldable pub records_of : (J → R) → List J → List (J × R)
  records_of F [] = []
  records_of F (j ∷ l) = cond (lowest j && not (eq (F j) zer)) ((j, F j) ∷ records_of F l) (records_of F l)
