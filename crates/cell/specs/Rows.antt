-- A row of a volume along k has B + 1 pairs, of which the first and the last are real; a packed Hermitian line has B,
-- with both reals in pair 0.
use Rattle.std.specs.Prelude.{cond, ℕ, zero, suc, ltb}
use Rattle.numbers.specs.declared.Pair.{Pair}

-- The packed line of a row: the real part of pair B is the second number of pair 0.
unfoldable pub packed_row : (B : ℕ) → (ℕ → Pair) → ℕ → Pair
packed_row B v zero = record { re = (v 0).re; im = (v B).re }
packed_row B v (suc t) = v (suc t)

-- and back
unfoldable pub unpacked_row : (B : ℕ) → (ℕ → Pair) → ℕ → Pair
unpacked_row B v zero = record { re = (v 0).re; im = 0 }
unpacked_row B v (suc t) = cond (ltb (suc t) B) (v (suc t)) (record { re = (v 0).im; im = 0 })
