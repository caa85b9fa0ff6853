-- The constant table of the powers of r, and two lent arrays that hold the powers of r or of its conjugate.
use Rattle.std.specs.Prelude.{◌≡◌, ◌⊎◌, List, ℕ, ◌<◌, get_or}
use Rattle.algebra.specs.ring.Ring.{pow}
use Rattle.numbers.specs.declared.Pair.{Pair}
use Rattle.numbers.specs.Value.{Value, value, field, conj, i, pair_of}
use Rattle.roots.specs.Root.{root}

-- The constant table is two arrays: place k holds the real part of r^k, and the imaginary part.
pub record RealTable (m : ℕ) (re : List ℕ) : Type 0 where
  pub entry : (k : ℕ) → k < 2880 → get_or re k 0 ≡ (pow (field m) (root m) k).0.val

pub record ImaginaryTable (m : ℕ) (im : List ℕ) : Type 0 where
  pub entry : (k : ℕ) → k < 2880 → get_or im k 0 ≡ (pow (field m) (root m) k).1.val

-- The pair at place k of two lent arrays, and the value at place 1. A transform is for that value: r or its conjugate.
unfoldable pub entry_at : (re im : List ℕ) → ℕ → Pair
entry_at re im k = record { re = get_or re k 0; im = get_or im k 0 }

unfoldable pub table_root : (m : ℕ) (re im : List ℕ) → Value m
table_root m re im = value m (get_or re 1 0) (get_or im 1 0)

-- Two arrays that hold the powers of the value at place 1. It is on the unit circle, and its quarter turn is i or -i.
pub record RootTable (m : ℕ) (re im : List ℕ) : Type 0 where
  pub cycle : pow (field m) (table_root m re im) 2880 ≡ (field m).one
  pub entry : (k : ℕ) → k < 2880 → entry_at re im k ≡ pair_of (pow (field m) (table_root m re im) k)
  pub circle : (field m).mul (table_root m re im) (conj m (table_root m re im)) ≡ (field m).one
  pub quarter : (pow (field m) (table_root m re im) 720 ≡ i m)
      ⊎ (pow (field m) (table_root m re im) 720 ≡ (field m).neg (i m))
