-- The next factor of a list splits the line: the numbers of its step.
use mathlib.Core.Path.{◌≡◌, sym, ◌∙◌}
use mathlib.Core.Logic.{◌≢◌}
use Prim.Native.Nat.{ℕ, ◌*◌, ◌/◌, ◌%◌}
use native.Mathlib.Nat as N
use Rattle.lengths.specs.Admitted.{Factored}
use Rattle.lengths.proofs.stage.Factoring.{next_factor_lem, factored_pos, next_length}
use Rattle.plain.specs.Plain.{Splits}
use Rattle.lengths.proofs.stage.Divisors.{divisor_pos}

-- after steps whose factors have the product A
pub next_splits : {left k : ℕ} (A : ℕ) (h : Factored left k) (z : left ≢ 0) → A * k * (2880 / (A * k)) ≡ 2880 → Splits A (left % 8) (k / (left % 8))
next_splits {left} {k} A h z divides =
    let next = next_factor_lem h z in
    record {
      inner = divisor_pos A (k * (2880 / (A * k))) (sym (N.mul_assoc A k (2880 / (A * k))) ∙ divides);
      low = next.low;
      high = next.high;
      lines = factored_pos next.rest;
      divides = rw (next_length A h z) divides;
    }
