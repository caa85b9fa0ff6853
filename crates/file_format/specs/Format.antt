-- The factor file, byte by byte. Layout: count of the bytes that follow (4 bytes), version (1), group (1), in version 2
-- the modulus (1), N1, N2, N3 (2 each), three factor lists (a count byte, then a byte each), record count (4), records
-- of 14 bytes: h, k, l (2 each), a, b (4 each). Version 1 means the first prime. Numbers are big-endian; a place beyond
-- the file reads as 0.
use Rattle.std.specs.Prelude.{◌||◌, ◌+◌, ◌*◌, ◌-◌, ◌∷◌, ◌++◌}
use Rattle.algebra.specs.Prelude.{Bool, not, cond, eqb, ltb, ℕ, zero, suc, List, []}
use Rattle.algebra.specs.Prelude.{length, get_or, take, drop}
use Rattle.file_format.specs.declared.FileRecord.{FileRecord}
use Rattle.refusals.specs.Refusals.{Test, ◌⇒◌}
use Rattle.header.specs.Header.{Header}
use Rattle.output.specs.Output.{big_endian}

abbrev pub byte_at : List ℕ → ℕ → ℕ
byte_at file q = get_or file q 0

unfoldable pub two_bytes : List ℕ → ℕ → ℕ
two_bytes file q = byte_at file q * 256 + byte_at file (q + 1)

unfoldable pub four_bytes : List ℕ → ℕ → ℕ
four_bytes file q = two_bytes file q * 65536 + two_bytes file (q + 2)

-- ---- where its parts stand: the numbers of the header, three factor lists behind them, the record count behind these,
-- and the records behind that

abbrev pub version_at : ℕ
version_at = 4

abbrev pub group_at : ℕ
group_at = 5

abbrev pub modulus_at : ℕ
modulus_at = 6

-- a file of version 2 has a modulus byte
abbrev pub has_modulus : List ℕ → Bool
has_modulus file = eqb (byte_at file version_at) 2

-- the modulus that it names
unfoldable pub modulus_in : List ℕ → ℕ
modulus_in file = cond (has_modulus file) (byte_at file modulus_at) 1

-- the lengths stand behind the group, or behind the modulus
unfoldable pub lengths_at : List ℕ → ℕ
lengths_at file = cond (has_modulus file) 7 6

abbrev pub length1_at : List ℕ → ℕ
length1_at file = lengths_at file

abbrev pub length2_at : List ℕ → ℕ
length2_at file = lengths_at file + 2

abbrev pub length3_at : List ℕ → ℕ
length3_at file = lengths_at file + 4

-- the list whose count byte stands at q, and the place after it
unfoldable pub list_at : List ℕ → ℕ → List ℕ
list_at file q = take (byte_at file q) (drop (q + 1) file)

abbrev pub after_list : List ℕ → ℕ → ℕ
after_list file q = q + 1 + byte_at file q

-- the places of the three lists and of the record count
abbrev pub list1_at : List ℕ → ℕ
list1_at file = lengths_at file + 6

unfoldable pub list2_at : List ℕ → ℕ
list2_at file = after_list file (list1_at file)

unfoldable pub list3_at : List ℕ → ℕ
list3_at file = after_list file (list2_at file)

unfoldable pub count_at : List ℕ → ℕ
count_at file = after_list file (list3_at file)

-- ---- a record, and n of them

unfoldable pub record_at : List ℕ → ℕ → FileRecord
record_at file q =
    record {
      h = two_bytes file q;
      k = two_bytes file (q + 2);
      l = two_bytes file (q + 4);
      a = four_bytes file (q + 6);
      b = four_bytes file (q + 10);
    }

-- n records from place q on
unfoldable pub records_from : List ℕ → (q n : ℕ) → List FileRecord
records_from file q zero = []
records_from file q (suc n) = record_at file q ∷ records_from file (q + 14) n

-- ---- the records of a file

abbrev pub record_count : List ℕ → ℕ
record_count file = four_bytes file (count_at file)

abbrev pub records_in : List ℕ → List FileRecord
records_in file = records_from file (count_at file + 4) (record_count file)

-- ---- what is refused of its shape

-- its count is not that of the bytes that follow
abbrev pub miscounted : List ℕ → Bool
miscounted file = ltb (length file) 5 || not (eqb (four_bytes file 0) (length file - 4))

-- 15 for the rest. The places only rise, so a file that is cut off is never filled exactly. A file may have no records.
abbrev pub filling_tests : List ℕ → List Test
filling_tests file = not (eqb (count_at file + 4 + 14 * record_count file) (length file)) ⇒ 15 ∷ []

-- the versions are 1 and 2
abbrev pub is_version : ℕ → Bool
is_version v = eqb v 1 || eqb v 2

-- 15 for the count, 16, 15 for the rest
abbrev pub shape_tests : List ℕ → List Test
shape_tests file = miscounted file ⇒ 15 ∷ not (is_version (byte_at file version_at)) ⇒ 16 ∷ filling_tests file

-- ---- the header that it holds, its modulus apart

abbrev pub header_in : List ℕ → Header
header_in file = record {
  group = byte_at file group_at;
  lengths = (two_bytes file (length1_at file), two_bytes file (length2_at file), two_bytes file (length3_at file));
  list1 = list_at file (list1_at file);
  list2 = list_at file (list2_at file);
  list3 = list_at file (list3_at file);
}

-- ---- the bytes of a file, from its version, its modulus, a header and records

-- the version that the writer uses
abbrev pub version_of : (modulus : ℕ) → ℕ
version_of m = cond (eqb m 1) 1 2

-- version 1 has no byte for the modulus
abbrev pub modulus_bytes : (version modulus : ℕ) → List ℕ
modulus_bytes version m = cond (eqb version 2) (m ∷ []) []

abbrev pub list_bytes : List ℕ → List ℕ
list_bytes l = length l ∷ l

-- a record: three numbers of two bytes, and two of four, whatever they are
abbrev pub raw_bytes : FileRecord → List ℕ
raw_bytes c = big_endian 2 c.h ++ big_endian 2 c.k ++ big_endian 2 c.l ++ big_endian 4 c.a ++ big_endian 4 c.b

unfoldable pub all_bytes : List FileRecord → List ℕ
all_bytes [] = []
all_bytes (c ∷ cs) = raw_bytes c ++ all_bytes cs

-- version, group, modulus, lengths and lists; then the count of the records and the records
unfoldable pub header_bytes : (version modulus : ℕ) → Header → List ℕ
header_bytes version m h =
    version ∷ h.group ∷
    (modulus_bytes version m ++ big_endian 2 h.lengths.0 ++ big_endian 2 h.lengths.1 ++ big_endian 2 h.lengths.2
    ++ list_bytes h.list1 ++ list_bytes h.list2 ++ list_bytes h.list3)

abbrev pub body : (version modulus : ℕ) → Header → List FileRecord → List ℕ
body version m h cs = header_bytes version m h ++ big_endian 4 (length cs) ++ all_bytes cs

unfoldable pub file_of : (version modulus : ℕ) → Header → List FileRecord → List ℕ
file_of version m h cs = big_endian 4 (length (body version m h cs)) ++ body version m h cs
