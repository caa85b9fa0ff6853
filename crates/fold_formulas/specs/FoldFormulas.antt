-- What every fold is lent, the tables of a root of order 2,880 and the half of an admitted length N = 2 A; and the
-- formulas of one pair. The forms that the folds compute are those of algebra's Folds and FoldKinds, over the values of
-- modulus number m; the theorems of crate line say that they are the direct sums over the whole line.
use Rattle.std.specs.Prelude.{◌≡◌, List, ℕ, zero, suc, ◌*◌, ◌/◌, ◌<◌, get_or, Bool, true, false}
use Rattle.algebra.specs.ring.Ring.{Ops, pow}
use Rattle.algebra.specs.lines.Kinds.{Kind, re, im}
use Rattle.algebra.specs.lines.FoldKinds.{fold_forward, fold_back}
use Rattle.numbers.specs.Value.{prime, IsModulus, Value, field, conj, real, half, part, on_values, i}
use Rattle.numbers.specs.Bounds.{res}
use Rattle.roots.specs.Table.{table_root, RootTable}

-- the step of the tables' places: e(k/N) is the power k (1440 / A) of the lent root
abbrev pub stride : ℕ → ℕ
stride A = 1440 / A

-- e(1/N) of the lent root
abbrev pub line_root : (m A : ℕ) (re im : List ℕ) → Value m
line_root m A re im = pow (field m) (table_root m re im) (stride A)

-- the half tangents of the length, from the lent table
abbrev pub tangent : (m A : ℕ) (tan : List ℕ) → ℕ → Value m
tangent m A tan s = real m (res m (get_or tan (stride A * s) 0))

-- What a fold computes, by the direction: back the lent tables are those of the conjugate root, so that the root of the
-- line is the conjugate of the lent one, and its half tangents are the lent ones negated.
abbrev pub folded : (m direction A : ℕ) (re im tan : List ℕ) → Kind → (ℕ → Value m) → ℕ → Value m
folded m zero A re im tan k X =
    on_values m fold_forward A (line_root m A re im) (real m (part m (2 * A))) (tangent m A tan) k X
folded m (suc direction) A re im tan k X =
    on_values m fold_back A (conj m (line_root m A re im)) (real m (part m (2 * A)))
    (λ s. (field m).neg (tangent m A tan s)) k X

pub record Frame (m A : ℕ) (re im : List ℕ) : Type 0 where
  pub modulus : IsModulus m
  pub table : RootTable m re im
  pub positive : 0 < A
  pub divides : A * stride A ≡ 1440

-- every half tangent of the table is a residue
pub record Tangents (m : ℕ) (tan : List ℕ) : Type 0 where
  pub below : (k : ℕ) → k < 1440 → get_or tan k 0 < prime m

-- ---- Hermitian lines: pair 0 holds two reals, X(0) and X(A); the short line and the line have the same formula there.

-- (x + y) + i (x - y) of the two reals x and y that share a pair
unfoldable pub sum_and_difference : (m : ℕ) → Value m → Value m
sum_and_difference m z =
    let x = on_values m re z in
    let y = on_values m im z in
    (field m).add ((field m).add x y) ((field m).mul (i m) ((field m).add x ((field m).neg y)))

-- a value of an antihermitian line as one of the Hermitian line that it is i times, and a value of a Hermitian line as
-- it is
unfoldable pub to_hermitian_value : (m : ℕ) → Bool → Value m → Value m
to_hermitian_value m false z = z
to_hermitian_value m true z = (field m).mul ((field m).neg (i m)) z

-- ---- Symmetric and antisymmetric lines, kinds 4 and 5: `first` is 0 for a symmetric line and 1 for an antisymmetric
-- one.

-- X(-t) = sigma X(t)
abbrev pub sigma : {R : Type 0} → Ops R → ℕ → R
sigma 𝓞 zero = 𝓞.one
sigma 𝓞 (suc n) = 𝓞.neg 𝓞.one
