-- A run of turns on the numbers of a volume.
use Rattle.std.specs.Prelude.{List, ℕ, zero, suc, ◌+◌}

-- n turns, from number j on
unfoldable pub turns : (ℕ → List ℕ → List ℕ) → (j n : ℕ) → List ℕ → List ℕ
turns step j zero d = d
turns step j (suc n) d = step (j + n) (turns step j n d)
