-- The reader that walks a file: what it hands out at each step.
use Rattle.std.specs.Prelude.{◌≡◌, Bool, cond, List, [], ◌∷◌, ◌++◌, map, ℕ, zero, suc, ◌+◌, ◌*◌, length, replicate, leb}
use Rattle.std.specs.Prelude.{Option, Some, None}
use Rattle.file_format.specs.Format.{record_at, records_from}
use Rattle.file_format.specs.declared.FileRecord.{FileRecord}

-- A record is there where its fourteen bytes are; anywhere else is the end.
unfoldable pub record_stands : List ℕ → ℕ → Bool
record_stands file at = leb (at + 14) (length file)

unfoldable pub found_at : List ℕ → ℕ → Option FileRecord
found_at file at = cond (record_stands file at) (Some (record_at file at)) None

-- the place one record on; at the end there is none, and the place stays
unfoldable pub place_after : List ℕ → ℕ → ℕ
place_after file at = cond (record_stands file at) (at + 14) at

-- what the first n steps of a walk from a place on hand out
unfoldable pub walk : List ℕ → (at n : ℕ) → List (Option FileRecord)
walk file at zero = []
walk file at (suc n) = found_at file at ∷ walk file (place_after file at) n

-- Where n records fill the file from place q on, as in a file of sound shape from its first record on, a walk hands out
-- these records, in their order, and then the end at every step.
unfoldable pub WalkHandsOutRecords : Type 0
WalkHandsOutRecords = (file : List ℕ) (q n : ℕ) →
    q + 14 * n ≡ length file → (steps : ℕ) →
    walk file q (n + steps) ≡ map (λ c. Some c) (records_from file q n) ++ replicate steps None
