-- Operations that act on places and on values, whatever the places, and records: a value at a place and the implied
-- value at each image.
use Rattle.std.specs.Prelude.{◌∷◌}
use Rattle.algebra.specs.Prelude.{Bool, cond, List, []}

-- the members of a list
pub data Mem {S : Type 0} (s : S) : List S → Type 0 where
  first : {l : List S} → Mem s (s ∷ l)
  later : {t : S} {l : List S} → Mem s l → Mem s (t ∷ l)

-- two lists of the same things in some order
pub data Perm {A : Type 0} : List A → List A → Type 0 where
  p_nil : Perm [] []
  p_skip : {x : A} {l m : List A} → Perm l m → Perm (x ∷ l) (x ∷ m)
  p_swap : {x y : A} {l : List A} → Perm (x ∷ y ∷ l) (y ∷ x ∷ l)
  p_trans : {l m n : List A} → Perm l m → Perm m n → Perm l n

-- S operations, J places, R values: the image of a place, the value at the image of j that v at j implies
pub record Acts (S J R : Type 0) : Type 0 where
  pub mul : S → S → S
  pub one : S
  pub same : J → J → Bool
  pub image : S → J → J
  pub implied : S → J → R → R
  pub zer : R

module _ {S J R : Type 0} (𝓐 : Acts S J R) where
  open 𝓐 use {same, image, implied}

  -- F with v at j and the implied value at each image of j; at j'
  unfoldable pub written : List S → J → R → J → R → R
  written [] j v j' old = old
  written (s ∷ l) j v j' old = cond (same (image s j) j') (implied s j v) (written l j v j' old)

  unfoldable pub recorded : List S → J → R → (J → R) → J → R
  recorded G j v F j' = written G j v j' (F j')

  -- one record after another
  unfoldable pub record_all : List S → List (J × R) → (J → R) → J → R
  record_all G [] F = F
  record_all G (r ∷ rs) F = record_all G rs (recorded G r.0 r.1 F)
