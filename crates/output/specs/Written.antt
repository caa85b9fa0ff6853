-- How a text goes to an output.
use Rattle.std.specs.Prelude.{List, ℕ, ◌+◌, ◌≤◌, ◌≡◌, length}
use Rattle.std.proofs.lemmas.List.Edits.{sets}

-- The bytes of a text from place `at` on: those that fall inside the output are stored, all are counted. So the same
-- function measures a text, on an output of no bytes, and writes it. `next` is the place after the text.
pub record Wrote (at : ℕ) (text before : List ℕ) (next : ℕ) (after : List ℕ) : Type 0 where
  pub place : next ≡ at + length text
  pub bytes : after ≡ sets before at text

-- a text that starts at `at` ends at a place that a machine word can count
pub record Ends (at : ℕ) (text : List ℕ) : Type 0 where
  pub low : at + length text ≤ 1152921504606846976
