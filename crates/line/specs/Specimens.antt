-- The paper's starred specimens of lines, in one table: each line before is accepted and becomes the line after.
use Rattle.std.specs.Prelude.{◌≡◌, List, [], ◌∷◌, ℕ, ◌≤◌, length}
use Rattle.lengths.specs.Lengths.{scratch_length, cleared}
use Rattle.line.specs.Line.{line_step}

pub record Specimen : Type 0 where
  pub kind : ℕ
  pub direction : ℕ
  pub length : ℕ
  pub factors : List ℕ
  pub before : List ℕ
  pub after : List ℕ

abbrev pub row : (kind direction length : ℕ) (factors before after : List ℕ) → Specimen
row k d n f b a = record { kind = k; direction = d; length = n; factors = f; before = b; after = a }

abbrev pub specimens : List Specimen
specimens =
    row 1 0 4 (2 ∷ []) (1 ∷ 2 ∷ 3 ∷ 4 ∷ []) (9 ∷ 7 ∷ 86396 ∷ 86390 ∷ []) ∷
    row 1 1 4 (2 ∷ []) (9 ∷ 7 ∷ 86396 ∷ 86390 ∷ []) (1 ∷ 2 ∷ 3 ∷ 4 ∷ []) ∷
    row 2 0 4 (2 ∷ []) (1 ∷ 2 ∷ 3 ∷ 4 ∷ []) (11 ∷ 86392 ∷ 86394 ∷ 5 ∷ []) ∷
    row 3 0 4 (2 ∷ []) (1 ∷ 2 ∷ 3 ∷ 4 ∷ []) (3 ∷ 8 ∷ 86398 ∷ 86393 ∷ []) ∷
    row 4 0 4 (2 ∷ []) (1 ∷ 0 ∷ 2 ∷ 0 ∷ 3 ∷ 0 ∷ []) (8 ∷ 0 ∷ 86397 ∷ 0 ∷ 0 ∷ 0 ∷ []) ∷
    row 5 0 4 (2 ∷ []) (5 ∷ 0 ∷ []) (0 ∷ 86389 ∷ []) ∷
    row 0 0 2 [] (1 ∷ 0 ∷ 2 ∷ 0 ∷ []) (3 ∷ 0 ∷ 86398 ∷ 0 ∷ []) ∷
    row 3 0 2 [] (1 ∷ 2 ∷ []) (1 ∷ 2 ∷ []) ∷
    row 5 0 2 [] [] [] ∷
    []

-- with any scratch that is long enough
abbrev pub Shown : Specimen → Type 0
Shown x = (scratch : List ℕ) → scratch_length ≤ length scratch →
    line_step 1 x.kind x.direction x.length x.factors x.before scratch
    ≡ record { answer = 0; line = x.after; scratch = cleared scratch }

abbrev pub AllShown : List Specimen → Type 0
AllShown [] = Unit
AllShown (x ∷ l) = Shown x × AllShown l

pub record Specimens : Type 0 where
  pub shown : AllShown specimens
