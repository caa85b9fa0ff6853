-- The paper's printed specimen: a file of one structure factor, and the text of its map.
use Rattle.std.specs.Prelude.{◌≡◌, List, [], ◌∷◌, ℕ}
use Rattle.printing.specs.Text.{printed}

-- 0000001D 01 00 0002 0002 0002 00 00 00 00000001 0001 0000 0000 00000003 00000000
abbrev pub specimen_file : List ℕ
specimen_file =
    0 ∷ 0 ∷ 0 ∷ 29 ∷ 1 ∷ 0 ∷ 0 ∷ 2 ∷ 0 ∷ 2 ∷ 0 ∷ 2 ∷ 0 ∷ 0 ∷ 0 ∷ 0 ∷ 0 ∷ 0 ∷ 1 ∷
    0 ∷ 1 ∷ 0 ∷ 0 ∷ 0 ∷ 0 ∷ 0 ∷ 0 ∷ 0 ∷ 3 ∷ 0 ∷ 0 ∷ 0 ∷ 0 ∷ []

-- map 0 2 2 2
-- 0 0 3 3
-- 0 1 -3 -3
-- 1 0 3 3
-- 1 1 -3 -3
abbrev pub specimen_text : List ℕ
specimen_text =
    109 ∷ 97 ∷ 112 ∷ 32 ∷ 48 ∷ 32 ∷ 50 ∷ 32 ∷ 50 ∷ 32 ∷ 50 ∷ 10 ∷
    48 ∷ 32 ∷ 48 ∷ 32 ∷ 51 ∷ 32 ∷ 51 ∷ 10 ∷
    48 ∷ 32 ∷ 49 ∷ 32 ∷ 45 ∷ 51 ∷ 32 ∷ 45 ∷ 51 ∷ 10 ∷
    49 ∷ 32 ∷ 48 ∷ 32 ∷ 51 ∷ 32 ∷ 51 ∷ 10 ∷
    49 ∷ 32 ∷ 49 ∷ 32 ∷ 45 ∷ 51 ∷ 32 ∷ 45 ∷ 51 ∷ 10 ∷ []

pub record PrintedSpecimen : Type 0 where
  pub shown : printed specimen_file ≡ specimen_text
