-- The refusals of a line stand in the papers' order; and what 26, the first of all for a line, says.
use Rattle.algebra.specs.Prelude.{ℕ, List}
use Rattle.std.specs.Prelude.{◌⊎◌, ◌≡◌, ◌↔◌}
use Rattle.refusals.specs.Orders.{Ordered, of_line}
use Rattle.line.specs.Line.{line_tests, line_step}

pub record LineRefusals : Type 0 where
  pub ordered :
      (m kind direction N : ℕ) (factors line : List ℕ) (scratch : ℕ) →
      Ordered (line_tests m kind direction N factors line scratch) of_line
  -- 26 exactly for a modulus that is neither 1 nor 2, whatever else is wrong
  pub modulus :
      (m kind direction N : ℕ) (factors line scratch : List ℕ) →
      ((line_step m kind direction N factors line scratch).answer ≡ 26) ↔ ((m ≡ 1) ⊎ (m ≡ 2) → ⊥)
