-- What the call of a line returned and left, in the words of its promise; and what is known of a line whose every test
-- was passed.
use Rattle.std.specs.Prelude.{List, ℕ, ◌*◌, ◌≤◌, ◌<◌, length, ◌≡◌, Result}
use Rattle.numbers.specs.Value.{prime, IsModulus}
use Rattle.slices.specs.Pairs.{Below}
use Rattle.lengths.specs.Lengths.{scratch_length, pair_count}
use Rattle.refusals.specs.Checks.{checked_number}
use Rattle.refusals.specs.declared.Refusal.{Refusal}
use Rattle.lengths.specs.Admitted.{AdmittedLength, FactorList}
use Rattle.line.specs.Line.{LineOutcome}

-- what a call returned and left
abbrev pub line_outcome : Result (Unit {0}) Refusal → (line scratch : List ℕ) → LineOutcome
line_outcome r l s = record { answer = checked_number r; line = l; scratch = s }

-- ---- What is known of a line whose every test was passed: it is transformed under these facts alone.

-- The factors are the octal digits of the list.
pub record Accepted (m kind direction N factors : ℕ) (line : List ℕ) (scratch : ℕ) : Type 0 where
  pub modulus_is : IsModulus m
  pub kind_is : kind < 6
  pub direction_is : direction < 2
  pub size : AdmittedLength N
  pub list : FactorList N factors
  pub line_length : length line ≡ 2 * pair_count kind N
  pub pairs_fit : pair_count kind N ≤ N
  pub scratch_fits : scratch_length ≤ scratch
  pub below : Below (prime m) line
