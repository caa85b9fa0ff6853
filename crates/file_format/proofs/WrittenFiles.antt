-- The file of a header and records read back: its header, its records and its shape.
use mathlib.Core.Path.{◌≡◌, sym, ◌∙◌, ap}
use mathlib.Core.Logic.{⊎_elim}
use mathlib.Core.Bool.{true, ◌||◌}
use mathlib.Core.List.{List, ◌∷◌, ◌++◌}
use Prim.Native.Nat.{ℕ, ◌+◌, ◌*◌, ◌-◌, ◌<◌, ◌≤◌}
use native.Mathlib.Omega.{arith}
use lib.ListN.{length, length-drop, drop}
use borrow.Author.Tests.{eq-eqb, le-ltb}
use Rattle.algebra.proofs.ring.Laws.{along}
use Rattle.refusals.specs.Refusals.{first}
use Rattle.refusals.proofs.Tests.{pass, none, not_t}
use Rattle.header.specs.Header.{Header}
use Rattle.output.specs.Output.{big_endian}
use Rattle.file_format.specs.declared.FileRecord.{FileRecord}
use Rattle.file_format.specs.Format.{byte_at, two_bytes, four_bytes, version_at, modulus_in, lengths_at, list1_at, list2_at, list3_at, count_at, record_count, records_in, records_from, is_version, shape_tests, header_in, modulus_bytes, list_bytes, all_bytes, body, file_of}
use Rattle.file_format.specs.Parsed.{Writable, ParsesBack}
use Rattle.file_format.proofs.layout.ByteLaws.{length_all}
use Rattle.file_format.proofs.layout.FileParts.{length_body, length_file, parts_apart}
use Rattle.file_format.proofs.places.Versions.{with_modulus, without_modulus}
use Rattle.file_format.proofs.Parsing.{Stands, byte_at_lem, two_at, four_at, list_at_lem, records_at_lem}
use Rattle.file_format.proofs.Rewriting.{file_again}

module _ (version m : ℕ) (h : Header) (cs : List FileRecord) (w : Writable version m h cs) where
  abbrev file : List ℕ
  file = file_of version m h cs

  -- ---- what stands after each part

  abbrev records : List ℕ
  records = big_endian 4 (length cs) ++ all_bytes cs

  abbrev lists : List ℕ
  lists = list_bytes h.list1 ++ (list_bytes h.list2 ++ (list_bytes h.list3 ++ records))

  abbrev lengths : List ℕ
  lengths = big_endian 2 h.lengths.0 ++ (big_endian 2 h.lengths.1 ++ (big_endian 2 h.lengths.2 ++ lists))

  file_right : file ≡ big_endian 4 (length (body version m h cs)) ++ version ∷ h.group ∷ (modulus_bytes version m ++ lengths)
  file_right = parts_apart version m h cs

  count_read : (four_bytes file 0 ≡ length (body version m h cs)) × Stands file 4 (version ∷ h.group ∷ (modulus_bytes version m ++ lengths))
  count_read = four_at file 0 (length (body version m h cs)) (version ∷ h.group ∷ (modulus_bytes version m ++ lengths)) w.short file_right

  version_read : (byte_at file version_at ≡ version) × Stands file 5 (h.group ∷ (modulus_bytes version m ++ lengths))
  version_read = byte_at_lem file 4 version (h.group ∷ (modulus_bytes version m ++ lengths)) count_read.1

  group_read : (byte_at file 5 ≡ h.group) × Stands file 6 (modulus_bytes version m ++ lengths)
  group_read = byte_at_lem file 5 h.group (modulus_bytes version m ++ lengths) version_read.1

  -- ---- the modulus, by the version

  -- version 2 has a byte for it, and the lengths behind that
  second : version ≡ 2 → (modulus_in file ≡ m) × Stands file (lengths_at file) lengths
  second e =
      let read = with_modulus file (version_read.0 ∙ e) in
      let bytes = byte_at_lem file 6 m lengths (group_read.1 ∙ ap (λ (v : ℕ). modulus_bytes v m ++ lengths) e) in
      (read.0 ∙ bytes.0, ap (λ (q : ℕ). drop q file) read.1 ∙ bytes.1)

  -- version 1 has none
  only_first : version ≡ 1 → m ≡ 1 → (modulus_in file ≡ m) × Stands file (lengths_at file) lengths
  only_first e one =
      let read = without_modulus file (λ (t : byte_at file version_at ≡ 2). omega (arith, version_read.0)) in
      (read.0 ∙ sym one, ap (λ (q : ℕ). drop q file) read.1 ∙ group_read.1 ∙ ap (λ (v : ℕ). modulus_bytes v m ++ lengths) e)

  behind_group : (modulus_in file ≡ m) × Stands file (lengths_at file) lengths
  behind_group = ⊎_elim second (λ (e : (version ≡ 1) × (m ≡ 1)). only_first e.0 e.1) w.versions

  -- ---- the lengths, and what stands behind them

  length1_read : (two_bytes file (lengths_at file) ≡ h.lengths.0) × Stands file (lengths_at file + 2) (big_endian 2 h.lengths.1 ++ (big_endian 2 h.lengths.2 ++ lists))
  length1_read = two_at file (lengths_at file) h.lengths.0 _ w.lengths.h behind_group.1

  length2_read : (two_bytes file (lengths_at file + 2) ≡ h.lengths.1) × Stands file (lengths_at file + 4) (big_endian 2 h.lengths.2 ++ lists)
  length2_read =
      let r = two_at file (lengths_at file + 2) h.lengths.1 _ w.lengths.k length1_read.1 in
      (r.0, along (λ (q : ℕ). drop q file) (lengths_at file + 4) (lengths_at file + 2 + 2) (omega arith) ∙ r.1)

  length3_read : (two_bytes file (lengths_at file + 4) ≡ h.lengths.2) × Stands file (list1_at file) lists
  length3_read =
      let r = two_at file (lengths_at file + 4) h.lengths.2 lists w.lengths.l length2_read.1 in
      (r.0, along (λ (q : ℕ). drop q file) (list1_at file) (lengths_at file + 4 + 2) (omega arith) ∙ r.1)

  list2_stands : Stands file (list2_at file) (list_bytes h.list2 ++ (list_bytes h.list3 ++ records))
  unfolding list2_at
  list2_stands = (list_at_lem file (list1_at file) h.list1 (list_bytes h.list2 ++ (list_bytes h.list3 ++ records)) length3_read.1).1

  list3_stands : Stands file (list3_at file) (list_bytes h.list3 ++ records)
  unfolding list3_at
  list3_stands = (list_at_lem file (list2_at file) h.list2 (list_bytes h.list3 ++ records) list2_stands).1

  count_stands : Stands file (count_at file) records
  unfolding count_at
  count_stands = (list_at_lem file (list3_at file) h.list3 records list3_stands).1

  -- ---- the header

  header_read : header_in file ≡ h
  header_read =
      let x = length1_read.0 in
      let y = length2_read.0 in
      let z = length3_read.0 in
      let l = (list_at_lem file (list1_at file) h.list1 _ length3_read.1).0 in
      let m = (list_at_lem file (list2_at file) h.list2 _ list2_stands).0 in
      let n = (list_at_lem file (list3_at file) h.list3 _ list3_stands).0 in
      λ i. record { group = group_read.0 i; lengths = (x i, y i, z i); list1 = l i; list2 = m i; list3 = n i }

  -- ---- the records

  few : length cs < 4294967296
  few = omega (arith, w.short, length_body version m h cs)

  records_stand : (record_count file ≡ length cs) × Stands file (count_at file + 4) (all_bytes cs)
  records_stand = four_at file (count_at file) (length cs) (all_bytes cs) few count_stands

  records_read : records_in file ≡ cs
  records_read = ap (records_from file (count_at file + 4)) records_stand.0 ∙ records_at_lem file (count_at file + 4) cs w.records records_stand.1

  -- ---- the shape

  filled : count_at file + 4 + 14 * record_count file ≡ length file
  unfolding big_endian
  filled = omega (arith, records_stand.0, length-drop (count_at file) file, ap length count_stands, length_all cs)

  counted : four_bytes file 0 ≡ length file - 4
  counted = omega (arith, count_read.0, length_file version m h cs, length_body version m h cs)

  long : 5 ≤ length file
  long = omega (arith, length_file version m h cs)

  known : is_version version ≡ true
  known = ⊎_elim (λ (e : version ≡ 2). ap is_version e) (λ (e : (version ≡ 1) × (m ≡ 1)). ap is_version e.0) w.versions

  modulus_read : modulus_in file ≡ m
  modulus_read = behind_group.0

  well_shaped : 0 ≡ first (shape_tests file)
  well_shaped =
      let a = le-ltb (length file) _ long in
      let b = not_t _ (eq-eqb (four_bytes file 0) (length file - 4) counted) in
      pass 15 _ (λ i. a i || b i)
      (pass 16 _ (not_t _ (ap is_version version_read.0 ∙ known))
      (pass 15 _ (not_t _ (eq-eqb (count_at file + 4 + 14 * record_count file) (length file) filled))
      none))

pub parses_back : ParsesBack
parses_back = record { shape = well_shaped; modulus = modulus_read; header = header_read; records = records_read; again = file_again }
