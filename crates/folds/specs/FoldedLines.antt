-- Kinds 1 and 2, the Hermitian lines and the antihermitian ones, are worked by one and the same code, and so are kinds
-- 4 and 5, the symmetric and the antisymmetric ones.
use Rattle.std.specs.Prelude.{Bool, true, false, ℕ, zero, suc, ◌+◌, ◌*◌, ◌-◌, List}
use Rattle.algebra.specs.lines.Kinds.{Kind, Kind.symmetric, Kind.antisymmetric, unfold_before}
use Rattle.algebra.specs.lines.Folds.{inner_times, finish}
use Rattle.numbers.specs.Value.{Value, field, i, on_values, real, half}
use Rattle.slices.specs.Pairs.{values_of}
use Rattle.fold_formulas.specs.FoldFormulas.{tangent, sigma}

-- ---- Kinds 1 and 2: the antihermitian lines are told by a Boolean.

abbrev pub hermitian_kind : Bool → Kind
hermitian_kind false = Kind.hermitian
hermitian_kind true = Kind.antihermitian

-- An antihermitian line is i times a Hermitian one: its pairs 1 .. A - 1 are multiplied by -i before the forward
-- transform, and by i after the way back. Pair 0 holds the imaginary parts of X(0) and X(A) themselves, which are the
-- reals of that Hermitian line, and stays.

-- the packed Hermitian line of a packed line of either kind, and the packed line of either kind that a Hermitian one
-- stands for
unfoldable pub to_hermitian : (m : ℕ) → Bool → (ℕ → Value m) → ℕ → Value m
to_hermitian m false p = p
to_hermitian m true p = inner_times (field m) ((field m).neg (i m)) p

unfoldable pub from_hermitian : (m : ℕ) → Bool → (ℕ → Value m) → ℕ → Value m
from_hermitian m false p = p
from_hermitian m true p = inner_times (field m) (i m) p

-- ---- Kinds 4 and 5, by the place `first` of the first value that is stored: 0 for a symmetric line, which stores the
-- places 0 .. A, and 1 for an antisymmetric one, which is zero at 0 and A and stores 1 .. A - 1.

abbrev pub mirror_kind : ℕ → Kind
mirror_kind zero = symmetric
mirror_kind (suc n) = antisymmetric

-- how many pairs are stored
abbrev pub stored_count : (A first : ℕ) → ℕ
stored_count A first = A + 1 - 2 * first

-- the whole line of 2 A values
abbrev pub whole_line : (m A first : ℕ) → List ℕ → ℕ → Value m
whole_line m A first l = on_values m unfold_before A (mirror_kind first) (values_of m l)

-- the transform at the places 0 .. A, from the short transform that `fold` holds and the sum o of the line's odd places
abbrev pub finished : (m A first : ℕ) (tan fold : List ℕ) (o : Value m) → ℕ → Value m
finished m A first tan fold o =
    finish (field m) (real m (half m)) A (λ s. (field m).mul (i m) (tangent m A tan s)) (sigma (field m) first)
    (values_of m fold) o
