-- Pairs in a list of numbers. The pair at place j is the numbers 2 j and 2 j + 1.
--
-- What a loop leaves is said as a run of stores: at places 0, 1, .. (`fills`), over a whole list (`tab`), or at any
-- places (`puts`). That all the rest is untouched is then part of the statement.
use Rattle.std.specs.Prelude.{◌&&◌, ◌+◌, ◌*◌, ◌<◌, ◌∷◌}
use Rattle.algebra.specs.Prelude.{Bool, true, ltb, ℕ, zero, suc, List, [], get_or, set}
use Rattle.algebra.specs.Prelude.{replicate}
use Rattle.numbers.specs.declared.Pair.{Pair}
use Rattle.algebra.specs.ring.Ring.{Res}
use Rattle.numbers.specs.Value.{Value, value_of, pair_of}

-- the pair at place j
unfoldable pub at : List ℕ → ℕ → Pair
at l j = record { re = get_or l (2 * j) 0; im = get_or l (2 * j + 1) 0 }

-- l with v at place j
unfoldable pub put : List ℕ → ℕ → Pair → List ℕ
put l j v = set (set l (2 * j) v.re) (2 * j + 1) v.im

-- d with f 0 at place p 0, then f 1 at place p 1, .., n stores
unfoldable pub puts : (ℕ → ℕ) → (ℕ → Pair) → ℕ → List ℕ → List ℕ
puts p f zero d = d
puts p f (suc n) d = put (puts p f n d) (p n) (f n)

-- d with f j at each place j below n
abbrev pub fills : (ℕ → Pair) → ℕ → List ℕ → List ℕ
fills f n d = puts (λ j. j) f n d

-- the list of the n pairs f 0, f 1, ..
abbrev pub tab : ℕ → (ℕ → Pair) → List ℕ
tab n f = fills f n (replicate (2 * n) 0)

-- every number of the list is below m; past the end get_or gives 0, so m is not 0
pub record Below (m : ℕ) (l : List ℕ) : Type 0 where
  pub each : (k : ℕ) → get_or l k 0 < m

-- the same as a test
unfoldable pub all_below : ℕ → List ℕ → Bool
all_below m [] = true
all_below m (x ∷ l) = ltb x m && all_below m l

-- ---- The values that the pairs of a list stand for, and the list of n values.

abbrev pub values_of : (m : ℕ) → List ℕ → ℕ → Value m
values_of m l j = value_of m (at l j)

-- f 0, f 1, .., f (n - 1) as n pairs
abbrev pub list_of : {p : ℕ} → ℕ → (ℕ → Res p × Res p) → List ℕ
list_of n f = tab n (λ j. pair_of (f j))
