-- One line: its transform, for the six kinds and both directions, by direct sums over the whole line of N = 2 A values;
-- what the call refuses, and what it answers and leaves for every input. `unfold_before` and `unfold_after` of
-- algebra's Kinds are the whole line of what is packed before and after the transform, `forward` and `inverse` the
-- sums, packed again.
use Rattle.std.specs.Prelude.{◌*◌, ◌/◌, ◌∷◌}
use Rattle.algebra.specs.Prelude.{not, eqb, leb, ltb, ℕ, List, [], length, zero, suc}
use Rattle.slices.specs.Pairs.{all_below, values_of, list_of}
use Rattle.lengths.specs.Lengths.{product, admitted, factors_ok, scratch_length, pair_count, cleared, kind_of}
use Rattle.refusals.specs.Refusals.{Test, ◌⇒◌, first, accepted}
use Rattle.numbers.specs.Value.{prime, is_modulus, Value, on_values}
use Rattle.algebra.specs.lines.Kinds.{Kind, slots, forward, inverse}
pub use Rattle.roots.specs.Root.{root_of, axis}

-- The packed line of 2 A values after the transform from the packed line X before it, or for direction 1 the other way.
abbrev pub transform : (m : ℕ) → Kind → (direction A : ℕ) → (ℕ → Value m) → ℕ → Value m
transform m k zero A X = on_values m forward A (axis m A).w k X
transform m k (suc direction) A X = on_values m inverse A (axis m A).w (axis m A).part k X

-- the same on the numbers of a line: pair j is the numbers 2 j and 2 j + 1
abbrev pub transformed_line : (m : ℕ) → Kind → (direction A : ℕ) → List ℕ → List ℕ
transformed_line m k direction A line = list_of (slots k A) (transform m k direction A (values_of m line))

-- as it is called: by the kind's number, and the length N
unfoldable pub transformed : (m kind direction N : ℕ) (line : List ℕ) → List ℕ
transformed m kind direction N line = transformed_line m (kind_of kind) direction (N / 2) line

-- ---- The refusals, in the paper's order

-- Line: 26, 1, 2, 3, 4, 5, 6, 13, 7: the numbers, the factor list, the line and the scratch, which counts by its length
-- alone. The residues are those of the modulus that is named.
abbrev pub line_tests : (m kind direction N : ℕ) (factors line : List ℕ) (scratch : ℕ) → List Test
line_tests m kind direction N factors line scratch =
    not (is_modulus m) ⇒ 26 ∷ leb 6 kind ⇒ 1 ∷ leb 2 direction ⇒ 2 ∷ not (admitted N) ⇒ 3 ∷
    not (factors_ok factors) ⇒ 4 ∷ not (eqb (product factors) (N / 2)) ⇒ 5 ∷
    not (eqb (length line) (2 * pair_count kind N)) ⇒ 6 ∷ ltb scratch scratch_length ⇒ 13 ∷
    not (all_below (prime m) line) ⇒ 7 ∷
    []

-- ---- The outcome

-- What a call answers, 0 or the refusal's number, and what it leaves in the line and in the scratch.
pub record LineOutcome : Type 0 where
  pub answer : ℕ
  pub line : List ℕ
  pub scratch : List ℕ

unfoldable pub line_step : (m kind direction N : ℕ) (factors line scratch : List ℕ) → LineOutcome
line_step m kind direction N factors line scratch =
    accepted (first (line_tests m kind direction N factors line (length scratch)))
    (record { answer = 0; line = transformed m kind direction N line; scratch = cleared scratch })
    (λ n. record { answer = n; line = line; scratch = scratch })
