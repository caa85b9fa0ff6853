-- Factor lists: the factors of a length, 2 to 5 each, packed as octal digits with the first factor lowest.
use Rattle.std.specs.Prelude.{◌&&◌, ◌+◌, ◌*◌, ◌/◌, ◌%◌, ◌∷◌, ◌++◌}
use Rattle.algebra.specs.Prelude.{Bool, true, cond, eqb, leb, ltb, ℕ, zero, suc, List, []}
use Rattle.algebra.specs.Prelude.{get_or, drop, replicate}
use Rattle.algebra.specs.lines.Kinds.{Kind, plain, hermitian, antihermitian, alternating, symmetric, antisymmetric}
use Rattle.algebra.specs.lines.Kinds.{slots}

-- a list of factors as one number, and its product
unfoldable pub octal : List ℕ → ℕ
octal [] = 0
octal (f ∷ l) = f + 8 * octal l

unfoldable pub product : List ℕ → ℕ
product [] = 1
product (f ∷ l) = f * product l

-- ---- The lengths of a line, their factor lists, and the scratch.

-- An admitted length: an even divisor of 2,880.
unfoldable pub admitted : ℕ → Bool
admitted N = ltb 0 N && (eqb (N % 2) 0 && eqb (2880 % N) 0)

-- A factor list: each number is 2 to 5.
unfoldable pub factors_ok : List ℕ → Bool
factors_ok [] = true
factors_ok (f ∷ l) = (leb 2 f && leb f 5) && factors_ok l

-- The list that a number holds in its octal digits, the first factor lowest (`octal` is the number of a list):
-- digits to a base, the lowest first, of at most `count` digits.
unfoldable pub digits : (base count n : ℕ) → List ℕ
digits base zero n = []
digits base (suc c) n = cond (eqb n 0) [] (n % base ∷ digits base c (n / base))

abbrev pub octal_digits : ℕ → List ℕ
octal_digits n = digits 8 n n

-- The list of twice the length, by which a plain line goes: it has N points, and its list names the factors of N/2. Its
-- first 2 becomes a 4, or, where it has none, a 2 is added at its end.
unfoldable pub doubled_list : List ℕ → List ℕ
doubled_list [] = 2 ∷ []
doubled_list (f ∷ l) = cond (eqb f 2) (4 ∷ l) (f ∷ doubled_list l)

-- What an accepted call leaves of the lent scratch: its first 11,520 numbers zero, the others as they were.
abbrev pub scratch_length : ℕ
scratch_length = 11520

unfoldable pub cleared : List ℕ → List ℕ
cleared s = replicate scratch_length 0 ++ drop scratch_length s

-- ---- The six kinds by number, and how many pairs a packed line of a kind and a length has.

-- the kinds by the paper's numbers
abbrev pub kind_of : ℕ → Kind
kind_of n = get_or (plain ∷ hermitian ∷ antihermitian ∷ alternating ∷ symmetric ∷ antisymmetric ∷ []) n plain

-- how many pairs a packed line of a kind and a length has
abbrev pub pair_count : (kind N : ℕ) → ℕ
pair_count kind N = slots (kind_of kind) (N / 2)
