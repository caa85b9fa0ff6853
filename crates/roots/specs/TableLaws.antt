-- The half tangents of the root's powers, tables with every number negated, and all that is proved of the root and its
-- tables.
use Rattle.std.specs.Prelude.{◌≡◌, List, ℕ, ◌-◌, ◌≤◌, ◌<◌, length, get_or}
use Rattle.algebra.specs.ring.Ring.{pow}
use Rattle.algebra.specs.fourier.Axis.{Root}
use Rattle.prime_shape.specs.Shape.{OrderIs, Shape}
use Rattle.numbers.specs.Value.{prime, exponent, Value, Residue, ring, field, conj, i, real, half, part}
use Rattle.numbers.specs.Bounds.{res}
use Rattle.roots.specs.Root.{choice, root, RootRule}
use Rattle.roots.specs.Table.{RealTable, ImaginaryTable, table_root, RootTable}

-- every number of a table is a residue
pub record AllBelow (p : ℕ) (t : List ℕ) : Type 0 where
  pub below : (k : ℕ) → k < length t → get_or t k 0 < p

-- each of the first n numbers of t is negated in u
pub record NegatedTable (m n : ℕ) (t u : List ℕ) : Type 0 where
  pub entry : (k : ℕ) → k < n → get_or u k 0 ≡ ((ring m).neg (res m (get_or t k 0))).val

module _ (m : ℕ) where
  open field m use {add as ◌⊕◌, mul as ◌⊗◌, neg as ⊖◌, one as 𝟙}
  open ring m use {add as ◌⊞◌, mul as ◌⊠◌, neg as ⊟◌, one as 𝟏}

  infixl 65 ◌⊕◌
  infixl 65 ◌⊞◌
  infixl 70 ◌⊗◌
  infixl 70 ◌⊠◌
  infix 75 ⊖◌
  infix 75 ⊟◌
  infixl 80 ◌^◌
  abbrev ◌^◌ : Value m → ℕ → Value m
  z ^ k = pow (field m) z k

  -- place k as a residue
  abbrev tau : List ℕ → ℕ → Residue m
  tau t k = res m (get_or t k 0)

  -- place k is the half tangent of r^k = c + d i: the number tau below p for which tau (1 + c) = d
  pub record TangentTable (t : List ℕ) : Type 0 where
    pub below : (k : ℕ) → k < 1440 → get_or t k 0 < prime m
    pub entry : (k : ℕ) → k < 1440 → tau t k ⊠ (𝟏 ⊞ (root m ^ k).0) ≡ (root m ^ k).1

  -- what the half tangents are for, with r^k = c + d i: 1/(1 + r^k), 1/d and c/d without a division
  pub record TangentLaws (t : List ℕ) : Type 0 where
    pub law : (k : ℕ) → k < 1440 →
        (𝟙 ⊕ ⊖ (i m ⊗ real m (tau t k))) ⊗ (𝟙 ⊕ root m ^ k) ≡ 𝟙 ⊕ 𝟙
    pub mirror : (k : ℕ) → 0 < k → k < 1440 → tau t k ⊠ tau t (1440 - k) ≡ 𝟏
    pub cosecant : (k : ℕ) → 0 < k → k < 1440 →
        half m ⊠ (tau t k ⊞ tau t (1440 - k)) ⊠ (root m ^ k).1 ≡ 𝟏
    pub cotangent : (k : ℕ) → 0 < k → k < 1440 →
        half m ⊠ (tau t (1440 - k) ⊞ ⊟ tau t k) ⊠ (root m ^ k).1 ≡ (root m ^ k).0

  -- the first of them for the conjugate root and the negated half tangents
  pub record BackwardTangents (t : List ℕ) : Type 0 where
    pub law : (k : ℕ) → k < 1440 →
        (𝟙 ⊕ ⊖ (i m ⊗ real m (tau t k))) ⊗ (𝟙 ⊕ conj m (root m) ^ k) ≡ 𝟙 ⊕ 𝟙

  -- everything that is proved of the root and its tables
  pub record RootLaws : Type 0 where
    -- r by the paper's rule, and what follows
    pub shape : Shape (prime m) (exponent m) (choice m) (root m)
    pub choice_is : RootRule m
    pub unity : Root (field m) 2880 (root m) (conj m (root m)) (real m (part m 2880))
    pub half_turn : root m ^ 1440 ≡ ⊖ 𝟙
    pub quarter_turn : root m ^ 720 ≡ ⊖ i m
    pub order : OrderIs (prime m) 2880 (root m)
    pub conjugate : (k : ℕ) → k ≤ 2880 → conj m (root m ^ k) ≡ root m ^ (2880 - k)
    -- the tables are those of r, and with the imaginary parts and half tangents negated those of its conjugate
    pub table : (re im : List ℕ) →
        RealTable m re → ImaginaryTable m im →
        RootTable m re im × (table_root m re im ≡ root m)
    pub backward : (re im u : List ℕ) → RealTable m re → ImaginaryTable m im → NegatedTable m 2880 im u →
        RootTable m re u × (table_root m re u ≡ conj m (root m))
    pub tangents : (t : List ℕ) → TangentTable t → TangentLaws t
    pub backward_tangents : (t u : List ℕ) → TangentTable t → NegatedTable m 1440 t u → BackwardTangents u
