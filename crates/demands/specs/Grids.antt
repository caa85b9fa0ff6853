-- The paper's large grids, which are not starred: how many numbers their volumes have, and whether an opening takes a
-- volume of that many.
use Rattle.std.specs.Prelude.{◌≡◌, List, [], ◌∷◌, ℕ, length, true}
use Rattle.numbers.specs.Value.{is_modulus}
use Rattle.refusals.specs.Refusals.{accepted}
use Rattle.job.specs.Job.{Header, needed, job_of, collecting, opened, not_opened, open_step}

-- three axes of one length and one factor list; the number of the refusal, 0 for none
pub record Grid : Type 0 where
  pub group : ℕ
  pub length : ℕ
  pub factors : List ℕ
  pub numbers : ℕ
  pub refusal : ℕ

abbrev pub row : (group length : ℕ) (factors : List ℕ) (numbers refusal : ℕ) → Grid
row g n f v r = record { group = g; length = n; factors = f; numbers = v; refusal = r }

-- P1 at 240³, P1 at 288³, P2₁ at 288³
abbrev pub grids : List Grid
grids =
    row 0 240 (2 ∷ 3 ∷ 4 ∷ 5 ∷ []) 13939200 0 ∷
    row 0 288 (4 ∷ 4 ∷ 3 ∷ 3 ∷ []) 24053760 9 ∷
    row 1 288 (4 ∷ 4 ∷ 3 ∷ 3 ∷ []) 12026880 0 ∷
    []

abbrev pub header_of : Grid → Header
header_of x =
    record {
      group = x.group;
      lengths = (x.length, x.length, x.length);
      list1 = x.factors;
      list2 = x.factors;
      list3 = x.factors;
    }

-- under either modulus, whatever the volume of that many numbers holds
abbrev pub Shown : Grid → Type 0
Shown x =
    (needed (header_of x) ≡ x.numbers)
    ×
    ((m : ℕ) → is_modulus m ≡ true →
    (v : List ℕ) →
    length v ≡ x.numbers →
    (open_step m (header_of x) 0 v).answer
    ≡ accepted x.refusal (opened (job_of m (header_of x) collecting)) (λ n. not_opened n 0))

abbrev pub AllShown : List Grid → Type 0
AllShown [] = Unit
AllShown (x ∷ l) = Shown x × AllShown l

pub record Grids : Type 0 where
  pub shown : AllShown grids
