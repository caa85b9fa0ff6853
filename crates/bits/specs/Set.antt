-- A set of small numbers as the bits of words: number q is in the set if bit q % 64 of word q / 64 is 1.
use Rattle.std.specs.Prelude.{◌≡◌, Bool, ◌||◌, List, ℕ, ◌/◌, ◌%◌, ◌^◌, get_or, eqb}

-- bit k of a word
unfoldable pub bit_of : (word k : ℕ) → ℕ
bit_of word k = word / 2 ^ k % 2

unfoldable pub in_set : List ℕ → ℕ → Bool
in_set set q = eqb (bit_of (get_or set (q / 64) 0) (q % 64)) 1

-- q has come into the set, and no other number
pub record Inserted (q : ℕ) (before after : List ℕ) : Type 0 where
  pub each : (k : ℕ) → in_set after k ≡ (eqb k q || in_set before k)
