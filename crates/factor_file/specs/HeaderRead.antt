-- The header of a file, read by itself: what it names, or the refusal that opening the file gives before any record and
-- whatever volume is lent.
use Rattle.std.specs.Prelude.{◌≡◌, ◌∷◌, ◌++◌}
use Rattle.algebra.specs.Prelude.{ℕ, List, [], not, leb, length, replicate}
use Rattle.lengths.specs.Lengths.{octal}
use Rattle.refusals.specs.Refusals.{first, accepted, Test, ◌⇒◌}
use Rattle.refusals.specs.Orders.{numbers_of}
use Rattle.numbers.specs.Value.{is_modulus}
use Rattle.job.specs.declared.Axis.{Axis}
use Rattle.job.specs.Job.{Header, needed, axis_tests, collecting, job_of, not_opened}
use Rattle.factor_file.specs.declared.file_header.FileHeader.{FileHeader}
use Rattle.factor_file.specs.File.{modulus_in, header_in, record_count, records_in, shape_tests, feed, file_step}

-- what an opening asks of a modulus and a header: 8, 26, 3, 4, 5, 9
abbrev pub opening_tests : (modulus : ℕ) → Header → List Test
opening_tests m h = leb 5 h.group ⇒ 8 ∷ not (is_modulus m) ⇒ 26 ∷ axis_tests h

-- the shape comes first: 15, 16, 15
abbrev pub header_tests : List ℕ → List Test
header_tests file = shape_tests file ++ opening_tests (modulus_in file) (header_in file)

-- an axis with its list as octal digits, as a job has it
abbrev pub axis_of : (length : ℕ) (list : List ℕ) → Axis
axis_of n list = record { length = n; factors = octal list }

-- a modulus, a header, how many records follow, and how many numbers the volume has
abbrev pub header_named : (modulus : ℕ) → Header → (records : ℕ) → FileHeader
header_named m h records = record {
  group = h.group;
  modulus = m;
  a = axis_of h.lengths.0 h.list1;
  b = axis_of h.lengths.1 h.list2;
  c = axis_of h.lengths.2 h.list3;
  records = records;
  numbers = needed h;
}

pub data HeaderSaid : Type 0 where
  named : FileHeader → HeaderSaid
  not_named : (number : ℕ) → HeaderSaid

-- a header that was read, judged
unfoldable pub judged_header : (modulus : ℕ) → Header → (records : ℕ) → HeaderSaid
judged_header m h records = accepted (first (opening_tests m h)) (named (header_named m h records)) not_named

unfoldable pub header_step : List ℕ → HeaderSaid
header_step file =
    accepted (first (shape_tests file)) (judged_header (modulus_in file) (header_in file) (record_count file)) not_named

-- Where the header is refused, opening the file is refused alike, on every volume, and changes nothing. Where it is
-- not, opening the file on a volume of so many numbers is up to its records, on zeros, in the job of this header; there
-- are as many of them as it says. The refusals stand in the order of the file's opening.
pub record HeaderAsOpened : Type 0 where
  pub refused : (file v : List ℕ) (n : ℕ) →
      header_step file ≡ not_named n →
      file_step file v ≡ record { answer = not_opened n 0; volume = v }
  pub sound : (file v : List ℕ) (h : FileHeader) →
      header_step file ≡ named h → length v ≡ h.numbers →
      file_step file v
      ≡ feed (records_in file) (job_of (modulus_in file) (header_in file) collecting) (replicate (length v) 0)
  pub counted : (file : List ℕ) (h : FileHeader) →
      header_step file ≡ named h →
      length (records_in file) ≡ h.records
  pub first : (file : List ℕ) (n : ℕ) → header_step file ≡ not_named n → first (header_tests file) ≡ n
  pub order : (file : List ℕ) →
      numbers_of (header_tests file) ≡ 15 ∷ 16 ∷ 15 ∷ 8 ∷ 26 ∷ 3 ∷ 4 ∷ 5 ∷ 9 ∷ []
