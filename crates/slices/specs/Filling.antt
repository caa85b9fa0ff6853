-- The invariant of a loop that fills a list. Proofs of loops cite it; a contract says what the whole loop leaves.
use Rattle.std.specs.Prelude.{◌≡◌, List, ℕ, zero, suc, ◌≤◌, length, set}
use Rattle.numbers.specs.declared.Pair.{Pair}
use Rattle.slices.specs.Pairs.{puts}

-- A loop of n turns stores f j at place p j in its turn j; j turns are done, and d₀ has become d. `run p f j d₀` is
-- the list after j stores: its elements, and what is stored, are of any type.
pub record Filling {E S : Type 0} (run : (ℕ → ℕ) → (ℕ → S) → ℕ → List E → List E) (p : ℕ → ℕ)
    (f : ℕ → S) (n j : ℕ) (d₀ d : List E) : Type 0 where
  pub le : j ≤ n
  pub len : length d ≡ length d₀
  pub is : d ≡ run p f j d₀

-- stores of one element: d with f 0 at place p 0, then f 1 at place p 1, .., n stores
unfoldable pub stores : {E : Type 0} → (ℕ → ℕ) → (ℕ → E) → ℕ → List E → List E
stores p f zero d = d
stores p f (suc n) d = set (stores p f n d) (p n) (f n)

-- stores of pairs
abbrev pub FillingPairs : (p : ℕ → ℕ) (f : ℕ → Pair) (n j : ℕ) (d₀ d : List ℕ) → Type 0
FillingPairs p f n j d₀ d = Filling puts p f n j d₀ d
