-- The factor list of a length that comes without one, and the call that gives it.
use Rattle.std.specs.Prelude.{◌≡◌, ◌/◌, ◌%◌, ◌≤◌, ◌∷◌}
use Rattle.algebra.specs.Prelude.{true, not, cond, eqb, leb, ltb, ℕ, zero, suc, List, []}
use Rattle.algebra.specs.Prelude.{length}
use Rattle.lengths.specs.Lengths.{product, admitted, factors_ok}
use Rattle.refusals.specs.Refusals.{Test, ◌⇒◌, first, accepted}
use Rattle.refusals.specs.Orders.{numbers_of}
use Rattle.output.specs.Output.{FillOutcome, filled, not_filled}

-- the factor that is taken off n: 4 where it goes into n, else 5, else 3, else 2
unfoldable pub next_factor : ℕ → ℕ
next_factor n = cond (eqb (n % 4) 0) 4 (cond (eqb (n % 5) 0) 5 (cond (eqb (n % 3) 0) 3 2))

-- one factor after the other, until 1 is left or there are `count` of them
unfoldable pub factored : (count n : ℕ) → List ℕ
factored zero n = []
factored (suc c) n = cond (leb n 1) [] (next_factor n ∷ factored c (n / next_factor n))

-- of N/2, which divides 1,440 = 2^5 * 3^2 * 5: no list of it has more than eight
abbrev pub chosen_list : (N : ℕ) → List ℕ
chosen_list N = factored 8 (N / 2)

-- 3, 18
abbrev pub list_tests : (N : ℕ) (output : List ℕ) → List Test
list_tests N output = not (admitted N) ⇒ 3 ∷ ltb (length output) (length (chosen_list N)) ⇒ 18 ∷ []

unfoldable pub list_step : (N : ℕ) (output : List ℕ) → FillOutcome
list_step N output = accepted (first (list_tests N output)) (filled (chosen_list N) output) (not_filled output)

-- Of an admitted length: every number is 2 to 5, the product is N/2, and no list that has both is shorter. So eight
-- places are enough for every length.
pub record ChosenLists : Type 0 where
  pub factors : (N : ℕ) → admitted N ≡ true → factors_ok (chosen_list N) ≡ true
  pub multiplied : (N : ℕ) → admitted N ≡ true → product (chosen_list N) ≡ N / 2
  pub fewest : (N : ℕ) → admitted N ≡ true →
      (list : List ℕ) → factors_ok list ≡ true → product list ≡ N / 2 →
      length (chosen_list N) ≤ length list
  pub eight : (N : ℕ) → length (chosen_list N) ≤ 8
  pub order : (N : ℕ) (output : List ℕ) → numbers_of (list_tests N output) ≡ 3 ∷ 18 ∷ []
