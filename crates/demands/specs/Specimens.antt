-- The paper's starred specimens in one table, with those of ours for P2₁2₁2₁: the lines of crate line; records,
-- each by group, index, and the number that every record there is refused with; and records that are taken, each with
-- the numbers that it leaves.
use Rattle.std.specs.Prelude.{◌≡◌, List, [], ◌∷◌, ◌++◌, map, ℕ, ◌<◌, length, replicate}
use Rattle.numbers.specs.Value.{prime}
use Rattle.line.specs.Specimens as Lines
use Rattle.job.specs.declared.Job.{Job}
use Rattle.job.specs.declared.Reflection.{Reflection}
use Rattle.job.specs.Job.{Header, job_of, collecting, opened, open_step, done, record_step, unchanged}

pub record Specimen : Type 0 where
  pub group : ℕ
  pub at : Reflection
  pub number : ℕ

abbrev pub row : (group h k l number : ℕ) → Specimen
row g h k l n = record { group = g; at = record { 0 = h; 1 = k; 2 = l }; number = n }

-- P2₁ (0, 0, 1): 12. Pa (1, 0, 0): 12. Ours: P2₁2₁2₁ (0, 0, 1): 12.
abbrev pub records : List Specimen
records =
    row 1 0 0 1 12 ∷
    row 3 1 0 0 12 ∷
    row 4 0 0 1 12 ∷
    []

-- Whatever modulus, lengths, factor lists and volume a job of the group is opened with to collect, and whatever value a
-- + b i other than zero is recorded: the refusal has the number, and job and volume stay as the opening left them.
abbrev pub Shown : Specimen → Type 0
Shown x = (m : ℕ) (h : Header) (lent v : List ℕ) (j : Job) (a b : ℕ) →
    h.group ≡ x.group →
    open_step m h 0 lent ≡ record { answer = opened j; volume = v } →
    a < prime m → b < prime m →
    ((a ≡ 0) × (b ≡ 0) → ⊥) →
    record_step j x.at a b v ≡ unchanged j v x.number

-- A record that a volume of zeros takes under the first prime, and the numbers that it leaves.
pub record Taken : Type 0 where
  pub header : Header
  pub at : Reflection
  pub a : ℕ
  pub b : ℕ
  pub left : List ℕ

-- P2₁2₁2₁ on 4 × 2 × 2
abbrev pub small : Header
small = record { group = 4; lengths = (4, 2, 2); list1 = 2 ∷ []; list2 = []; list3 = [] }

-- Both ends of the line of (1, 1), which is stored times i, as is that of (3, 1). At l = 0 the factor is imaginary: 5 i
-- is stored as -5, and the implied -5 i at (3, 1, 0) as 5. At l = A, which is odd, it is real: 5 is stored as 5 i, by
-- its imaginary part, the second number of the pair.
abbrev pub taken_records : List Taken
taken_records =
    record {
      header = small;
      at = record { 0 = 1; 1 = 1; 2 = 0 };
      a = 0;
      b = 5;
      left = 0 ∷ 0 ∷ 0 ∷ 0 ∷ 0 ∷ 0 ∷ 86394 ∷ 0 ∷ 0 ∷ 0 ∷ 0 ∷ 0 ∷ 0 ∷ 0 ∷ 5 ∷ 0 ∷ [];
    } ∷
    record {
      header = small;
      at = record { 0 = 1; 1 = 1; 2 = 1 };
      a = 5;
      b = 0;
      left = 0 ∷ 0 ∷ 0 ∷ 0 ∷ 0 ∷ 0 ∷ 0 ∷ 5 ∷ 0 ∷ 0 ∷ 0 ∷ 0 ∷ 0 ∷ 0 ∷ 0 ∷ 5 ∷ [];
    } ∷
    []

-- The volume is opened, and the record is taken; with its two numbers exchanged it is refused 12.
abbrev pub ShownTaken : Taken → Type 0
ShownTaken x =
    let zeros : List ℕ = replicate (length x.left) 0 in
    let j = job_of 1 x.header collecting in
    (open_step 1 x.header 0 zeros ≡ record { answer = opened j; volume = zeros }) ×
    (record_step j x.at x.a x.b zeros ≡ record { answer = done; job = j; volume = x.left }) ×
    (record_step j x.at x.b x.a zeros ≡ unchanged j zeros 12)

-- the whole table
pub data Starred : Type 0 where
  transformed : Lines.Specimen → Starred
  recorded : Specimen → Starred
  taken : Taken → Starred

abbrev pub starred : List Starred
starred = map transformed Lines.specimens ++ (map recorded records ++ map taken taken_records)

abbrev pub Holds : Starred → Type 0
Holds (transformed x) = Lines.Shown x
Holds (recorded x) = Shown x
Holds (taken x) = ShownTaken x

abbrev pub AllHold : List Starred → Type 0
AllHold [] = Unit
AllHold (x ∷ l) = Holds x × AllHold l

pub record Specimens : Type 0 where
  pub hold : AllHold starred
