-- How many pairs a packed line has, by the number of its kind.
use mathlib.Core.Path.{◌≡◌, refl}
use Prim.Native.Nat.{ℕ, zero, suc, ◌+◌, ◌*◌, ◌-◌, ◌/◌, ◌≤◌, ◌<◌}
use native.Mathlib.Numerals.{add-one}
use native.Mathlib.Nat.{not-suc-le-zero}
use native.Mathlib.Omega.{arith}
use Rattle.algebra.specs.lines.Kinds.{Kind, plain, hermitian, antihermitian, alternating, symmetric, antisymmetric, slots}
use Rattle.lengths.specs.Lengths.{pair_count}

pub count_plain : (kind N : ℕ) → kind ≡ 0 → 2 * (N / 2) ≡ pair_count kind N
unfolding slots
count_plain kind N e = rw e

pub count_half : (kind N : ℕ) → 1 ≤ kind → kind < 4 → N / 2 ≡ pair_count kind N
unfolding slots
count_half zero N g l = absurd (not-suc-le-zero g)
count_half (suc zero) N g l = refl
count_half (suc (suc zero)) N g l = refl
count_half (suc (suc (suc zero))) N g l = refl
count_half (suc (suc (suc (suc k)))) N g l = absurd (omega arith)

pub count_symmetric : (kind N : ℕ) → kind ≡ 4 → N / 2 + 1 ≡ pair_count kind N
unfolding slots
count_symmetric kind N e = rw (e, add-one)

pub count_antisymmetric : (kind N : ℕ) → kind ≡ 5 → N / 2 - 1 ≡ pair_count kind N
unfolding slots
count_antisymmetric kind N e = rw e

-- never more than the whole line has
pub slots_le : (k : Kind) (A : ℕ) → 1 ≤ A → slots k A ≤ 2 * A
unfolding slots
slots_le plain A h = omega arith
slots_le hermitian A h = omega arith
slots_le antihermitian A h = omega arith
slots_le alternating A h = omega arith
slots_le symmetric A h = omega arith
slots_le antisymmetric A h = omega arith
