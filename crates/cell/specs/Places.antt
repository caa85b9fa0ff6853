-- Places of a volume: runs of neighbouring ones, and a test of the numbers there.
use Rattle.std.specs.Prelude.{◌≡◌, Bool, true, cond, ◌||◌, List, [], ◌∷◌, ℕ, zero, suc, ◌+◌, ◌≤◌, ltb, leb, eqb, get_or}
use Rattle.algebra.specs.cells.Cell.{every, J, Group, neg_i}
use Rattle.numbers.specs.declared.Pair.{Pair}
use Rattle.numbers.specs.Value.{prime, Value, pair_of}
use Rattle.cell.specs.Volume.{line_kind, line_numbers, whole_line, line_in}
use Rattle.cell.specs.declared.places.Run.{Run}
use Rattle.algebra.specs.cells.Cell as C

-- the places first, first + 1, .., count of them
unfoldable pub consecutive : (first count : ℕ) → List ℕ
consecutive first zero = []
consecutive first (suc count) = first ∷ consecutive (first + 1) count

-- r is the places of a list, and they lie in a volume of len numbers
pub record IsRun (len : ℕ) (places : List ℕ) (r : Run) : Type 0 where
  pub are : consecutive r.first r.count ≡ places
  pub inside : r.first + r.count ≤ len

-- the numbers of the volume v at these places are below p
abbrev pub all_below_at : ℕ → List ℕ → List ℕ → Bool
all_below_at p v places = every places (λ q. ltb (get_or v q 0) p)

-- j if its k is stored, else its Friedel mate
abbrev pub stored_column : (a j : J) → J
stored_column a j = cond (leb j.1 a.1) j (neg_i a.0 j.0, neg_i a.1 j.1, neg_i a.2 j.2)

-- the numbers that the factor at j is read from, and that factor, where k is from 0 to B
abbrev pub line_numbers_at : Group → (a j : J) → List ℕ
line_numbers_at g a j = line_numbers g a (line_kind g j.0) j.0 j.1 j.2

abbrev pub line_factor : Group → J → (m : ℕ) → List ℕ → J → Value m
line_factor g a m v j = line_in g a m v j.0 j.1 j.2

-- the same as its line stores it, times i where the line is rotated
abbrev pub stored_factor : Group → J → (m : ℕ) → List ℕ → J → Value m
stored_factor g a m v j = whole_line g a m v j.0 j.1 j.2

-- the pair r is that factor, if the numbers that it is read from are below the prime
abbrev pub IsStoredFactor : Group → J → (m : ℕ) → List ℕ → J → Pair → Type 0
IsStoredFactor g a m v j r = all_below_at (prime m) v (line_numbers_at g a j) ≡ true →
    r ≡ pair_of (stored_factor g a m v j)

-- the groups with alternating lines, by their numbers
abbrev pub alternates : ℕ → Bool
alternates n = eqb n 1 || eqb n 4
