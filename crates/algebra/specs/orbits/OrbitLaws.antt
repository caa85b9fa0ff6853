-- What is said of operations and records: the laws of an action, cells that obey, records that are accepted, what is
-- read off the stored places.
use Rattle.std.specs.Prelude.{◌≡◌, Bool, cond, List, [], ◌∷◌, T}
use Rattle.algebra.specs.orbits.Orbit.{Mem, Acts, recorded}

module _ {S J R : Type 0} (𝓐 : Acts S J R) where
  open 𝓐 use {mul, one, same, image, implied, zer}

  -- the laws of an action: every operation is its own inverse
  pub record Action (In : J → Type 0) : Type 0 where
    pub square : (s : S) → mul s s ≡ one
    pub same_eq : (i j : J) → T (same i j) → i ≡ j
    pub same_refl : (i : J) → T (same i i)
    pub image_inside : (s : S) (j : J) → In j → In (image s j)
    pub image_one : (j : J) → image one j ≡ j
    pub image_image : (s t : S) (j : J) → In j → image s (image t j) ≡ image (mul s t) j
    pub implied_one : (j : J) (v : R) → implied one j v ≡ v
    pub implied_implied : (s t : S) (j : J) (v : R) → implied s j (implied t j v) ≡ implied (mul s t) j v
    pub implied_image : (s t : S) (j : J) (v : R) → In j → implied s (image t j) v ≡ implied s j v
    pub implied_zero : (s : S) (j : J) → implied s j zer ≡ zer

  -- a list of operations that is a group
  pub record Closed (G : List S) : Type 0 where
    pub has_one : Mem one G
    pub has_mul : (s t : S) → Mem s G → Mem t G → Mem (mul s t) G

  -- refusal 12 is not this: no image falls on the own place with another value
  abbrev pub AgreesWithItself : List S → J → R → Type 0
  AgreesWithItself G j v = (s : S) → Mem s G → image s j ≡ j → implied s j v ≡ v

  -- every image has the implied value
  abbrev pub Obeying : (J → Type 0) → List S → (J → R) → Type 0
  Obeying In G F = (s : S) → Mem s G → (j : J) → In j → F (image s j) ≡ implied s j (F j)

  -- a record is accepted: it lies inside, agrees with itself, and its place is zero; its value may be zero too
  abbrev pub Fit : (J → Type 0) → List S → J → R → (J → R) → Type 0
  Fit In G j v F = In j × AgreesWithItself G j v × (F j ≡ zer)

  -- every record of a list is accepted in its turn
  unfoldable pub Accepted : (J → Type 0) → List S → List (J × R) → (J → R) → Type 0
  Accepted In G [] F = Unit {0}
  Accepted In G (r ∷ rs) F = Fit In G r.0 r.1 F × Accepted In G rs (recorded 𝓐 G r.0 r.1 F)

  -- reading through an operation to a stored place
  unfoldable pub cell_of : (J → S) → (J → R) → J → R
  cell_of through b j = implied (through j) j (b (image (through j) j))

  -- refusal 14 is not this: every stored image has the implied value
  abbrev pub Consistent : (In St : J → Type 0) → List S → (J → R) → Type 0
  Consistent In St G b = (s : S) →
      Mem s G →
      (j : J) →
      In j → St j →
      St (image s j) →
      b (image s j) ≡ implied s j (b j)

  -- no image of i is j
  abbrev pub Off : List S → J → J → Type 0
  Off G i j = (s : S) → Mem s G → image s i ≡ j → ⊥

  -- records of different orbits, each consistent
  unfoldable pub OffAll : List S → J → List (J × R) → Type 0
  OffAll G i [] = Unit {0}
  OffAll G i (r ∷ rs) = Off G i r.0 × OffAll G i rs

  unfoldable pub Sound : (J → Type 0) → List S → List (J × R) → Type 0
  Sound In G [] = Unit {0}
  Sound In G (r ∷ rs) = (In r.0 × AgreesWithItself G r.0 r.1) × OffAll G r.0 rs × Sound In G rs

  -- the loop of a record: each operation in turn writes its image, where that is stored
  module _ {B : Type 0} (put : B → J → R → B) (stored : J → Bool) where
    unfoldable pub put_all : List S → B → J → R → B
    put_all [] b j v = b
    put_all (s ∷ l) b j v = put_all l (cond (stored (image s j)) (put b (image s j) (implied s j v)) b) j v
