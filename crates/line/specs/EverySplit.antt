-- Every split that an accepted factor list makes: a line is transformed by the steps of a list, one after the other,
-- and each step gives the three parts of equation (3) of document 001, as Equation3.antt of `butterflies` has them. The
-- first step reads the line itself, and after the last stands the direct sum.
use Rattle.std.specs.Prelude.{◌≡◌, ◌*◌, ◌/◌, ◌≤◌, ◌<◌, ◌++◌}
use Rattle.algebra.specs.Prelude.{true, ℕ, zero, suc, List, length, take, drop}
use Rattle.numbers.specs.Value.{prime, IsModulus, Value, field}
use Rattle.slices.specs.Pairs.{Below, values_of, list_of}
use Rattle.lengths.specs.Lengths.{product, admitted, factors_ok, doubled_list}
use Rattle.lengths.specs.Stages.{split_stage, stage_after}
use Rattle.butterflies.specs.Equation3.{direct}
use Rattle.plain.specs.Plain.{StepParts, inner_length, outer_length, line_count, after_steps, work_after}
use Rattle.line.specs.Tables.{root_for}

-- The list by which a line of a kind goes, and the number of points that it has: a plain line has N points, by the list
-- of twice the length; the line of any other kind is folded to N/2 points, whose list is the accepted one.
abbrev pub list_for : (kind : ℕ) (factors : List ℕ) → List ℕ
list_for zero factors = doubled_list factors
list_for (suc kind) factors = factors

abbrev pub points_for : (kind N : ℕ) → ℕ
points_for zero N = N
points_for (suc kind) N = N / 2

-- The steps of a list l on the numbers of a line of n points. In the step of place k the inner sums have the length A,
-- the product of the first k factors; B is the factor of place k, and M the product of those after it.
pub record Steps (m : ℕ) (W : Value m) (n : ℕ) (l line : List ℕ) : Type 0 where
  -- the stages that the transform comes to, one by one, are the splits of the list
  pub stages : (k : ℕ) → k ≤ length l → stage_after k (split_stage l 0) ≡ split_stage l k
  pub points : (k : ℕ) → k < length l → inner_length l k * outer_length l k * line_count l k ≡ n
  -- each step finds the inner sums, multiplies by the factor and sums over b: together the direct sums of length A B
  pub parts : (k : ℕ) → k < length l →
      StepParts m W (inner_length l k) (outer_length l k) (line_count l k) (values_of m line) (after_steps m W l k line)
      (after_steps m W l (suc k) line)
  -- all steps together give the direct sum over the line
  pub whole : after_steps m W l (length l) line ≡ list_of n (direct (field m) W n (values_of m line))

-- For every list that refusals 4 and 5 let pass, every kind of line, and both directions: W is r in direction 0, and
-- its conjugate in direction 1.
pub record EverySplit : Type 0 where
  pub steps : (m kind direction N : ℕ) (factors line : List ℕ) →
      IsModulus m → admitted N ≡ true → factors_ok factors ≡ true →
      product factors ≡ N / 2 →
      length line ≡ 2 * points_for kind N →
      Below (prime m) line →
      Steps m (root_for m direction) (points_for kind N) (list_for kind factors) line

-- What a plain line of 2 A points leaves of the work slice: in its first 4 A numbers what the steps of this list leave
-- there, one after the other, and the others as they were. So the list above is the one that the code goes by; the line
-- itself would be the same by any list.
abbrev pub plain_work : (m direction A : ℕ) (factors line work : List ℕ) → List ℕ
plain_work m direction A factors line work =
    work_after m (root_for m direction) (list_for 0 factors) (length (list_for 0 factors)) line (take (4 * A) work)
    ++ drop (4 * A) work
