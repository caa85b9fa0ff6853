-- The records at fault of a factor file: of a file that is refused at a record, the places of the fewest records, the
-- refused one last among them, that alone are refused with the same number. It is judged by the file alone: no volume
-- is lent, so 6 does not arise.
use Rattle.std.specs.Prelude.{◌∷◌}
use Rattle.algebra.specs.Prelude.{not, ℕ, suc, List, [], get_or, map, cond, eqb, leb}
use Rattle.algebra.specs.cells.Cell.{J, Group, same_orbit}
use Rattle.refusals.specs.Refusals.{Test, ◌⇒◌, first, accepted}
use Rattle.numbers.specs.Value.{is_modulus}
use Rattle.cell.specs.Volume.{group_of}
use Rattle.header.specs.Header.{Header, half_lengths, axis_tests}
use Rattle.file_format.specs.declared.FileRecord.{FileRecord}
use Rattle.factor_file.specs.File.{index_in, judged, taken, refused_at, records_in, modulus_in, header_in, shape_tests}
use Rattle.faults.specs.declared.Faults.{Faults}
use Rattle.faults.specs.declared.Faults.TheVariants as F

-- What is refused of the header, whatever volume is lent: 8, 26, then 3, 4, 5 each over the three axes, 9.
abbrev pub header_tests : (modulus : ℕ) → Header → List Test
header_tests m h = leb 5 h.group ⇒ 8 ∷ not (is_modulus m) ⇒ 26 ∷ axis_tests h

-- the first place, from 0, of an index of j's orbit
unfoldable pub first_of_orbit : Group → (a j : J) → List J → ℕ
first_of_orbit g a j [] = 0
first_of_orbit g a j (i ∷ is) = cond (same_orbit g a i j) 0 (suc (first_of_orbit g a j is))

-- the first record of the orbit of record r
abbrev pub mate_of : (group : ℕ) (lengths : J) → List FileRecord → (r : ℕ) → ℕ
mate_of group n cs r =
    first_of_orbit (group_of group) (half_lengths n) (get_or (map index_in cs) r (0, 0, 0)) (map index_in cs)

-- A record that its own numbers refuse is at fault alone; with one that is refused by 24 the first record of its orbit
-- is.
unfoldable pub record_faults : (modulus group : ℕ) (lengths : J) → List FileRecord → List ℕ
record_faults m group n cs =
    elim (judged m group n [] cs) [
      | taken ↦ []
      | refused_at k r ↦ cond (eqb k 24) (mate_of group n cs r ∷ r ∷ []) (r ∷ [])
    ]

-- A file that its shape or its header refuses, or that is accepted, has none.
unfoldable pub faults_in : List ℕ → List ℕ
faults_in file =
    accepted (first (shape_tests file))
    (accepted (first (header_tests (modulus_in file) (header_in file)))
    (record_faults (modulus_in file) (header_in file).group (header_in file).lengths (records_in file))
    (λ n. []))
    (λ n. [])

-- the answer in these words
abbrev pub said_faults : Faults → List ℕ
said_faults F.NoFault = []
said_faults (F.One r) = r ∷ []
said_faults (F.Two i r) = i ∷ r ∷ []
