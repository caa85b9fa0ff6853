-- The lengths that are transformed, and their factor lists.
use Rattle.std.specs.Prelude.{◌≡◌, ℕ, ◌*◌, ◌/◌, ◌≤◌, ◌<◌, ◌+◌, Bool, ◌&&◌, List, [], ◌∷◌, leb}

-- the packed list, and the product of its factors
pub data Factored : ℕ → ℕ → Type 0 where
  done : Factored 0 1
  more : {f rest k : ℕ} → 2 ≤ f → f ≤ 5 → Factored rest k → Factored (f + 8 * rest) (f * k)

-- every factor is 2 to 5
pub data Factors : List ℕ → Type 0 where
  none : Factors []
  one : {f : ℕ} {l : List ℕ} → 2 ≤ f → f ≤ 5 → Factors l → Factors (f ∷ l)

-- A length N = 2 A that divides 2,880: e(1/N) is the root's power 2,880/N, e(A/N) its power 1,440, and e(1/A) the
-- square of e(1/N).
pub record AdmittedLength (N : ℕ) : Type 0 where
  pub positive : 1 ≤ N / 2
  pub whole : 2 * (N / 2) ≡ N
  pub short : N ≤ 2880
  pub turns : N * (2880 / N) ≡ 2880
  pub half_turn : 2880 / N * (N / 2) ≡ 1440
  pub half_step : 1440 / (N / 2) ≡ 2880 / N
  pub half_turns : N / 2 * (1440 / (N / 2)) ≡ 1440
  pub square : 2880 / (N / 2) ≡ 2 * (2880 / N)
  pub square_turns : N / 2 * (2880 / (N / 2)) ≡ 2880

-- A factor list in octal digits, as the plain transform takes it, of the A points of a folded line.
pub record FactorList (N factors : ℕ) : Type 0 where
  -- eight octal digits: 1440 = 2^5 * 3^2 * 5 has no more factors
  pub small : factors < 16777216
  pub folded : Factored factors (N / 2)

-- the test of one factor
abbrev pub is_factor : ℕ → Bool
is_factor f = leb 2 f && leb f 5
