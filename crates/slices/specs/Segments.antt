-- A part of a slice that is lent on: what `&s[a..e]` and `&mut s[a..e]` hand to a call, and what the slice holds once
-- the part has come back. The forms are those in which a proof meets them.
use Rattle.std.specs.Prelude.{◌≡◌, List, ◌++◌, ℕ, ◌+◌, ◌-◌, ◌*◌, ◌≤◌, length, take, drop}

-- the numbers a, a + 1, .. up to e
abbrev pub segment : ℕ → ℕ → List ℕ → List ℕ
segment a e l = take (e - a) (drop a l)

-- l with ys in their place
abbrev pub set_segment : ℕ → ℕ → List ℕ → List ℕ → List ℕ
set_segment a e l ys = take a l ++ (ys ++ drop (e - a) (drop a l))

-- the numbers from a to e are the n pairs of l from place k on
pub record WholePairs (k n a e : ℕ) (l : List ℕ) : Type 0 where
  pub start : a ≡ 2 * k
  pub end : e ≡ 2 * (k + n)
  pub inside : e ≤ length l
