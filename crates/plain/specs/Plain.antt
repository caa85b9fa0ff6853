-- A step of the plain transform: equation (3) of document 001, whose parts and letters are those of Equation3.antt in
-- `butterflies`, for M lines at once. The line q of them has the points q, q + M, q + 2 M, .. of the whole line X. A is
-- the product of the factors before, B the factor of this step, and A B M the length of the whole line. The inner sums
-- are what the steps before have left.
use Rattle.std.specs.Prelude.{◌≡◌, ℕ, zero, suc, ◌+◌, ◌*◌, ◌/◌, ◌%◌, ◌≤◌, ◌<◌}
use Rattle.std.specs.Prelude.{Bool, cond, List, eqb, get_or, take, drop}
use Rattle.algebra.specs.ring.Ring.{Ops}
use Rattle.butterflies.specs.Equation3.{direct, inner, factor, outer}
use Rattle.numbers.specs.Value.{Value, field, i}
use Rattle.lengths.specs.Lengths.{product}
use Rattle.slices.specs.Pairs.{values_of, list_of}

-- the line q of M
abbrev pub line_of : {R : Type 0} (M q : ℕ) → (ℕ → R) → ℕ → R
line_of M q X t = X (q + M * t)

module _ {R : Type 0} (𝓞 : Ops R) (W : R) where
  -- What a slice holds before a step: place b A + 𝐚 has the inner sum for b and 𝐚 of a line of A B points.
  unfoldable pub inner_sums : (A B : ℕ) → (ℕ → R) → ℕ → R
  inner_sums A B X j = inner 𝓞 W A B X (j / A) (j % A)

  -- What a step makes of the values Y: place q A B + (𝐚 + 𝐛 A) has the outer sum for 𝐛, over b, of the value
  -- at place (b M + q) A + 𝐚 times its factor.
  unfoldable pub stepped : (A B M : ℕ) → (ℕ → R) → ℕ → R
  stepped A B M Y j =
      outer 𝓞 W B (λ b. factor 𝓞 W A B b (j % A) (Y ((b * M + j / A / B) * A + j % A))) (j / A % B)

-- the same on the numbers of a slice
abbrev pub step_of : (m : ℕ) → Value m → (A B M : ℕ) → List ℕ → List ℕ
step_of m W A B M from = list_of (A * B * M) (stepped (field m) W A B M (values_of m from))

-- The three parts of equation (3) as a step gives them for each of its lines: `from` is the slice that it reads, `to`
-- the one that it leaves.
pub record StepParts (m : ℕ) (W : Value m) (A B M : ℕ) (X : ℕ → Value m) (from to : List ℕ) : Type 0 where
  -- what it finds for b and 𝐚 is the inner sum ..
  pub inner_sum : (q b 𝐚 : ℕ) → q < M → b < B → 𝐚 < A →
      values_of m from ((b * M + q) * A + 𝐚) ≡ inner (field m) W A B (line_of M q X) b 𝐚
  -- .. what it leaves for 𝐚 and 𝐛 is the outer sum of those times their factors ..
  pub outer_sum : (q 𝐚 𝐛 : ℕ) → q < M → 𝐚 < A → 𝐛 < B →
      values_of m to (q * (A * B) + (𝐚 + 𝐛 * A))
      ≡ outer (field m) W B (λ b. factor (field m) W A B b 𝐚 (inner (field m) W A B (line_of M q X) b 𝐚)) 𝐛
  -- .. and that is the direct sum.
  pub direct_sum : (q 𝐚 𝐛 : ℕ) → q < M → 𝐚 < A → 𝐛 < B →
      values_of m to (q * (A * B) + (𝐚 + 𝐛 * A)) ≡ direct (field m) W (A * B) (line_of M q X) (𝐚 + 𝐛 * A)

-- What one step needs of its numbers: the inner length A, the factor B of this step and the count M of the lines, whose
-- product divides 2,880.
pub record Splits (A B M : ℕ) : Type 0 where
  pub inner : 0 < A
  pub low : 2 ≤ B
  pub high : B ≤ 5
  pub lines : 0 < M
  pub divides : A * B * M * (2880 / (A * B * M)) ≡ 2880

-- ---- The steps of a list of factors. That of place k, counted from 0, has these A, B and M.

abbrev pub inner_length : List ℕ → ℕ → ℕ
inner_length l k = product (take k l)

abbrev pub outer_length : List ℕ → ℕ → ℕ
outer_length l k = get_or l k 0

abbrev pub line_count : List ℕ → ℕ → ℕ
line_count l k = product (drop (suc k) l)

-- the slice after the first k steps, from the numbers of a line
unfoldable pub after_steps : (m : ℕ) → Value m → (l : List ℕ) (k : ℕ) (line : List ℕ) → List ℕ
after_steps m W l zero line = line
after_steps m W l (suc k) line =
    step_of m W (inner_length l k) (outer_length l k) (line_count l k) (after_steps m W l k line)

-- What the work slice, which held `work`, holds after the first k steps: the steps go to and fro, that of place k from
-- the line to the work slice where k is even.
unfoldable pub work_after : (m : ℕ) → Value m → (l : List ℕ) (k : ℕ) (line work : List ℕ) → List ℕ
work_after m W l zero line work = work
work_after m W l (suc k) line work =
    cond (eqb (k % 2) 0) (after_steps m W l (suc k) line) (work_after m W l k line work)

-- ---- What a line that is stored times i is multiplied by: i, or over i, which is -i.
abbrev pub rotation : (m : ℕ) → (over : Bool) → Value m
rotation m over = cond over ((field m).neg (i m)) (i m)
