-- What a call that reads took of the input, where that is known, and what it put into the buffer.
use Rattle.std.specs.Prelude.{◌≡◌, ◌<◌, Bool, true, false, Option, Some, IfSome, ℕ, ℤ, pos}
use Rattle.std.specs.Prelude.{List, length, take, drop, slice_index, slice_index_or}
use Rattle.std.specs.List.{flat_map}
use Rattle.std.specs.Io.KnownBytes.{Consumes, IsAtEnd}
use Rattle.output.specs.Output.{big_endian}

-- the next bytes, as many as the buffer has; or all that were left, at its start, where those are fewer
abbrev pub TakesBytes : (old new : Option (List ℕ)) → (whole : Bool) → (v : List ℕ) → Type 0
TakesBytes old new true v = Consumes old new v
TakesBytes old new false v = IsAtEnd new × (n : ℕ) × (n < length v) × Consumes old new (take n v)

-- the next numbers, in four big-endian bytes each, as many as the buffer has; or all that was left, where that is less
abbrev pub TakesNumbers : (old new : Option (List ℕ)) → (whole : Bool) → (v : List ℕ) → Type 0
TakesNumbers old new true v = Consumes old new (flat_map (big_endian 4) v)
TakesNumbers old new false v = IsAtEnd new

-- the next bytes, as many as the buffer has or all that were left: each names a number of a table, and that number
-- stands in the buffer
abbrev pub TakesNamed : (old new : Option (List ℕ)) → (table v : List ℤ) → Type 0
TakesNamed old new table v = IfSome old (λ codes. (new ≡ Some (drop (length v) codes))
    × ((k : ℕ) → k < length codes → k < length v →
    slice_index_or v k (pos 0) ≡ slice_index_or table (slice_index codes k) (pos 0)))
