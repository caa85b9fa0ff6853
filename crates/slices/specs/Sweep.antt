-- Sweeps: every line of a volume of pairs is replaced by a function of it, one line after the other.
use Rattle.std.specs.Prelude.{◌≡◌, List, ℕ, zero, suc, ◌+◌, ◌*◌, ◌/◌, ◌%◌, ◌<◌}
use Rattle.numbers.specs.declared.Pair.{Pair}
use Rattle.slices.specs.Pairs.{at, puts, tab}

-- count lines; line y has the size y places place y 0, place y 1, ..
pub record Layout : Type 0 where
  pub count : ℕ
  pub size : ℕ → ℕ
  pub place : ℕ → ℕ → ℕ

-- the pairs of line y, and d with v as its line y
abbrev pub line_of : Layout → ℕ → List ℕ → ℕ → Pair
line_of L y d i = at d (L.place y i)

abbrev pub set_line : Layout → ℕ → (ℕ → Pair) → List ℕ → List ℕ
set_line L y v d = puts (L.place y) v (L.size y) d

-- d after the turns of the lines below y: each line, as it then is, goes through g
unfoldable pub sweep : Layout → (ℕ → (ℕ → Pair) → ℕ → Pair) → ℕ → List ℕ → List ℕ
sweep L g zero d = d
sweep L g (suc y) d = set_line L y (g y (line_of L y (sweep L g y d))) (sweep L g y d)

-- the lines lie inside a list of len numbers, and no two have a place in common
pub record Disjoint (L : Layout) (len : ℕ) : Type 0 where
  pub inside : (y i : ℕ) → y < L.count → i < L.size y → 2 * L.place y i + 1 < len
  pub apart : (y z i j : ℕ) → y < L.count → z < L.count → i < L.size y →
      j < L.size z →
      L.place y i ≡ L.place z j →
      (y ≡ z) × (i ≡ j)

-- g makes line y of the pairs of line y alone
pub record Local (L : Layout) (g : ℕ → (ℕ → Pair) → ℕ → Pair) : Type 0 where
  pub same : (y : ℕ) (v w : ℕ → Pair) →
      y < L.count →
      ((i : ℕ) → i < L.size y → v i ≡ w i) →
      (i : ℕ) → i < L.size y →
      g y v i ≡ g y w i

-- a function of lists, as a function of lines
abbrev pub on_lists : Layout → (ℕ → List ℕ → List ℕ) → ℕ → (ℕ → Pair) → ℕ → Pair
on_lists L G y v = at (G y (tab (L.size y) v))

-- ---- the lines of a box of pairs: `blocks` blocks of n rows of k, block a, row b, column c at place (a n + b) k + c

-- along the second index: line y is that of block y / k and column y % k
abbrev pub along_second : (blocks n k : ℕ) → Layout
along_second blocks n k = record { count = blocks * k; size = λ y. n; place = λ y j. (y / k * n + j) * k + y % k }

-- count lines of n places along the last index: neighbouring places
abbrev pub along_last : (n count : ℕ) → Layout
along_last n count = record { count = count; size = λ y. n; place = λ y j. y * n + j }
