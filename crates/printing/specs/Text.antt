-- The text of a map, as the paper shows it: "map", group and lengths; then a line for each stored plane z and each x,
-- both rising: z, x and the values by y, signed whole numbers, one blank between. Bytes are those of ASCII, and every
-- line ends with a line feed.
use Rattle.std.specs.Prelude.{◌∷◌, ◌++◌}
use Rattle.algebra.specs.Prelude.{Bool, not, cond, eqb, ltb, ℕ, List, [], length, get_or, min, replicate}
use Rattle.algebra.specs.cells.Cell.{below}
use Rattle.signed.specs.Integers.{centred}
use Rattle.output.specs.Output.{FillOutcome, filled, not_filled, decimal, signed_decimal, blank, line_feed, each}
use Rattle.refusals.specs.Refusals.{Test, ◌⇒◌, first, accepted}
use Rattle.cell.specs.Volume.{layers, map_place}
use Rattle.job.specs.declared.Job.{Job}
use Rattle.numbers.specs.Value.{prime}
use Rattle.job.specs.Job.{group_in, halves, valid_job, map_held, fits, needed, with_state, opened, not_opened}
use Rattle.job.specs.Job.{OpenOutcome, synthesised}
use Rattle.factor_file.specs.File.{header_in, file_step}

-- "map 0 2 2 2"
unfoldable pub head_line : Job → List ℕ
head_line j =
    109 ∷ 97 ∷ 112 ∷ blank ∷
    (decimal j.group ++ blank ∷
    (decimal j.a.length ++ blank ∷
    (decimal j.b.length ++ blank ∷ (decimal j.c.length ++ line_feed ∷ []))))

-- " -3": the density of a residue modulo p, behind a blank
abbrev pub value_text : (p residue : ℕ) → List ℕ
value_text p x = blank ∷ signed_decimal (centred p x)

-- "0 1 -3 -3": the row at z, x
unfoldable pub row_line : Job → List ℕ → (z x : ℕ) → List ℕ
row_line j v z x =
    decimal z ++ blank ∷
    (decimal x
    ++
    (each j.b.length
    (λ y. value_text (prime j.modulus) (get_or v (map_place (group_in j) (halves j) (x, y, z)) 0)) ++ line_feed ∷
    []))

unfoldable pub map_text : Job → List ℕ → List ℕ
map_text j v = head_line j ++ each (layers (group_in j) (halves j)) (λ z. each j.a.length (λ x. row_line j v z x))

-- "refused 12 at 0": the number, and the record's place
unfoldable pub refusal_text : (number place : ℕ) → List ℕ
refusal_text n place =
    114 ∷ 101 ∷ 102 ∷ 117 ∷ 115 ∷ 101 ∷ 100 ∷ blank ∷
    (decimal n ++ blank ∷ 97 ∷ 116 ∷ blank ∷ (decimal place ++ line_feed ∷ []))

-- ---- the call: 25, 22, 6, 7, 18, in the order of the writer

-- The numbers that are printed are residues, as those that a reading reads: each row of the stored planes, without the
-- two numbers behind it.
abbrev pub row_residues : Job → List ℕ → (z x : ℕ) → Bool
row_residues j v z x =
    below j.b.length (λ y. ltb (get_or v (map_place (group_in j) (halves j) (x, y, z)) 0) (prime j.modulus))

unfoldable pub prints_residues : Job → List ℕ → Bool
prints_residues j v = below (layers (group_in j) (halves j)) (λ z. below j.a.length (λ x. row_residues j v z x))

abbrev pub text_tests : Job → (v : List ℕ) (room : ℕ) → List Test
text_tests j v room =
    not (valid_job j) ⇒ 25 ∷
    not (eqb j.state map_held) ⇒ 22 ∷
    not (fits j v) ⇒ 6 ∷
    not (prints_residues j v) ⇒ 7 ∷
    ltb room (length (map_text j v)) ⇒ 18 ∷
    []

-- A text goes to an output that is long enough for it; another is refused 18 and left as it was.
abbrev pub put_text : (text output : List ℕ) → FillOutcome
put_text text output = cond (ltb (length output) (length text)) (not_filled output 18) (filled text output)

unfoldable pub text_step : Job → (v output : List ℕ) → FillOutcome
text_step j v output =
    accepted (first (text_tests j v (length output))) (filled (map_text j v) output) (not_filled output)

-- ---- The printer's limits: the bytes of a file that it reads, and the numbers of a volume that it lends.

abbrev pub file_limit : ℕ
file_limit = 8192

abbrev pub lent_limit : ℕ
lent_limit = 2048

-- ---- The map printer: the text that it prints for the bytes on its standard input. The file is lent a volume as long
-- as it needs, and of 2,048 numbers where it needs more: that is refused 6 in its place among the file's refusals.

-- An opened file's map, which its synthesis makes, or its refusal. No test refuses that synthesis.
abbrev pub opened_text : OpenOutcome → List ℕ
opened_text o =
    elim o.answer [
      | opened j ↦ map_text (with_state j map_held) (synthesised j o.volume)
      | not_opened n place ↦ refusal_text n place
    ]

unfoldable pub printed : List ℕ → List ℕ
printed input =
    cond (ltb file_limit (length input)) (refusal_text 15 0)
    (opened_text (file_step input (replicate (min (needed (header_in input)) lent_limit) 0)))

unfoldable pub print_step : (input output : List ℕ) → FillOutcome
print_step input output = put_text (printed input) output
