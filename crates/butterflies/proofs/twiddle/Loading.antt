-- A value times its factor: the factor one changes nothing, and any other is read from the tables.
use mathlib.Core.Path.{◌≡◌, sym, ◌∙◌, ap, ap₂}
use mathlib.Core.List.{List}
use Prim.Native.Nat.{ℕ, ◌+◌, ◌*◌, ◌/◌, ◌<◌}
use native.Mathlib.Omega.{arith}
use Rattle.algebra.specs.ring.Ring.{pow}
use Rattle.algebra.proofs.ring.Laws.{along}
use Rattle.algebra.proofs.fourier.Transform.{pow_zero}
use Rattle.numbers.specs.declared.Pair.{Pair}
use Rattle.numbers.specs.declared.Accumulator.{Accumulator}
use Rattle.numbers.specs.Value.{Value, field, value_of}
use Rattle.roots.specs.Table.{entry_at, table_root, RootTable}
use Rattle.numbers.proofs.Values.{field_ring}
use Rattle.slices.specs.Pairs.{at}
use Rattle.butterflies.proofs.quarter_turn.Powers.{root_value}
use Rattle.numbers.specs.Unreduced.{meant, Room}
use Rattle.butterflies.specs.declared.twiddle.Places.{Places}
use Rattle.butterflies.specs.Equation3.{e, factor}
use Rattle.butterflies.specs.Butterflies.{read_at, FactorsOf, Loaded}

-- the power that is read from the tables
abbrev power : Places → ℕ → ℕ
power p b = b * p.k

-- it is the factor
power_is : (m : ℕ) (W : Value m) (p : Places) (b A B 𝐚 : ℕ) → FactorsOf A B 𝐚 p → pow (field m) W (power p b) ≡ e (field m) W (A * B) (b * 𝐚)
unfolding e
power_is m W p b A B 𝐚 f = ap (λ k. pow (field m) W (b * k)) f ∙ along (pow (field m) W) (b * (2880 / (A * B) * 𝐚)) (2880 / (A * B) * (b * 𝐚)) (omega arith)

module _ (m : ℕ) (p : Places) (l : List ℕ) (b : ℕ) {v : Pair} (read : v ≡ at l (b * p.stride + p.first)) where
  factor_times : (W : Value m) {z : Value m} → z ≡ (field m).mul (pow (field m) W (power p b)) (value_of m v) → (A B 𝐚 : ℕ) → FactorsOf A B 𝐚 p → z ≡ factor (field m) W A B b 𝐚 (read_at m p l b)
  unfolding factor
  factor_times W is A B 𝐚 f = is ∙ ap₂ (field m).mul (power_is m W p b A B 𝐚 f) (ap (value_of m) read)

  pub loaded_one : {a : Accumulator} (W : Value m) → power p b ≡ 0 → Room 182890310402 a → meant m a ≡ value_of m v → Loaded m W p l b a
  loaded_one W none room is = record {
    room = room;
    value_is = factor_times W (is ∙ sym (ap (λ y. (field m).mul y (value_of m v)) (ap (pow (field m) W) none ∙ pow_zero (field_ring m) W) ∙ (field_ring m).one_mul _));
  }

  pub loaded_product : {a : Accumulator} {re im : List ℕ} {r : Pair} → RootTable m re im → power p b < 2880 → r ≡ entry_at re im (power p b) → Room 182890310402 a → meant m a ≡ (field m).mul (value_of m r) (value_of m v) → Loaded m (table_root m re im) p l b a
  loaded_product {re = re} {im = im} h lt i room is = record { room = room; value_is = factor_times (table_root m re im) (is ∙ ap (λ y. (field m).mul y (value_of m v)) (root_value h lt i)) }
