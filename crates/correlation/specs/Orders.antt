-- The refusals of the call stand in the papers' order; and what 28 says.
use Rattle.std.specs.Prelude.{◌≡◌, ◌*◌, ◌≤◌}
use Rattle.algebra.specs.Prelude.{ℕ, List}
use Rattle.algebra.specs.cells.Cell.{J, Inside, P1}
use Rattle.signed.specs.Integers.{ℤ, pos, nat_abs}
use Rattle.refusals.specs.Orders.{Ordered, RefusedUnless, of_correlation}
use Rattle.header.specs.Header.{Header, half_lengths}
use Rattle.combined.specs.CombinedMap.{count_of}
use Rattle.output.specs.Output.{Filled.not_written}
use Rattle.correlation.specs.Correlation.{total_of, Buffers, correlation_tests, correlation_step}

-- the sum of the magnitudes in a map, over all points of the cell
abbrev pub magnitude_sum : J → List ℤ → ℕ
magnitude_sum h a = nat_abs (total_of h (λ u. pos (nat_abs (count_of P1 h a u))))

-- no value's magnitude exceeds 13,063,485,600, and neither does the sum of the magnitudes in a times any magnitude in b
pub record Narrow (h : J) (a b : List ℤ) : Type 0 where
  pub first : (u : J) → Inside h u → nat_abs (count_of P1 h a u) ≤ 13063485600
  pub second : (u : J) → Inside h u → nat_abs (count_of P1 h b u) ≤ 13063485600
  pub products : (u : J) → Inside h u → magnitude_sum h a * nat_abs (count_of P1 h b u) ≤ 13063485600

pub record CorrelationRefusals : Type 0 where
  pub ordered :
      (c : Header) (a b : List ℤ) (output work1 work2 work3 scratch : ℕ) →
      Ordered (correlation_tests c a b output work1 work2 work3 scratch) of_correlation
  pub magnitude :
      (c : Header) (a b : List ℤ) (w : Buffers) →
      RefusedUnless not_written of_correlation 28
      (correlation_step c a b w).answer
      (Narrow (half_lengths c.lengths) a b)
