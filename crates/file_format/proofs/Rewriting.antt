-- A file of sound shape whose numbers are bytes: it is the file of its version, its modulus, its header and its records; and a file of its version can hold its modulus,
-- its header, and as many short records as it has, or fewer.
use mathlib.Core.Path.{◌≡◌, refl, sym, ◌∙◌, ap}
use mathlib.Core.Bool.{cond}
use mathlib.Core.List.{List, [], ◌∷◌, ◌++◌, append_assoc}
use Prim.Native.Nat.{ℕ, zero, suc, ◌+◌, ◌*◌, ◌/◌, ◌%◌, ◌<◌, ◌≤◌}
use native.Mathlib.Omega.{arith}
use native.Mathlib.Decide.{ℕ_discrete}
use lib.ListN.{length, get_or, take, drop, length-take, length-drop, take-append-drop, drop_of_length-le}
use lib.Seq.{drop-cons, drop-drop, length-take-le}
use borrow.Author.Tests.{eq-eqb, ne_eqb}
use Rattle.algebra.specs.orbits.Orbit.{Mem}
use Rattle.algebra.proofs.ring.Laws.{along}
use Rattle.refusals.specs.Refusals.{first}
use Rattle.output.specs.Output.{big_endian}
use Rattle.output.proofs.BigEndian.{four_bytes_lem}
use Rattle.file_format.specs.declared.FileRecord.{FileRecord}
use Rattle.file_format.specs.Format.{byte_at, two_bytes, four_bytes, version_at, group_at, modulus_at, modulus_in, lengths_at, list_at, after_list, list1_at, list2_at, list3_at, count_at, record_at, records_from, record_count, records_in, shape_tests, header_in, modulus_bytes, list_bytes, raw_bytes, all_bytes, body, file_of}
use Rattle.file_format.specs.Parsed.{Bytes, ShortRecord, Writable}
use Rattle.file_format.proofs.integers.Numbers.{two_bytes_fit, four_bytes_fit}
use Rattle.file_format.proofs.layout.FileParts.{length_header, length_body, parts_apart}
use Rattle.file_format.proofs.places.Versions.{with_modulus, without_modulus, lengths_behind, lengths_low}
use Rattle.file_format.proofs.shape.Shapes.{filled_by_lem, counted_by, versions_by}
use Rattle.file_format.proofs.Parsing.{right}

pub length_from : (file : List ℕ) (q n : ℕ) → length (records_from file q n) ≡ n
unfolding records_from
length_from file q zero = refl
length_from file q (suc n) = ap suc (length_from file (q + 14) n)

-- what follows a part is another list
followed : {l t t' : List ℕ} (p : List ℕ) → l ≡ p ++ t → t ≡ t' → l ≡ p ++ t'
followed p e f = e ∙ ap (λ (t : List ℕ). p ++ t) f

module _ (file : List ℕ) (b : Bytes file) where
  -- ---- how large its numbers are

  pub record_short : (q : ℕ) → ShortRecord (record_at file q)
  unfolding record_at
  record_short q = record {
    index = record { h = two_bytes_fit file q b.each; k = two_bytes_fit file (q + 2) b.each; l = two_bytes_fit file (q + 4) b.each };
    a = four_bytes_fit file (q + 6) b.each;
    b = four_bytes_fit file (q + 10) b.each;
  }

  -- whichever of its records is asked for, d where there is none
  pub got_short : (d : FileRecord) → ShortRecord d → (q n i : ℕ) → ShortRecord (get_or (records_from file q n) i d)
  unfolding records_from
  got_short d s q zero i = s
  got_short d s q (suc n) zero = record_short q
  got_short d s q (suc n) (suc i) = got_short d s (q + 14) n i

  list_long : (q : ℕ) → length (list_at file q) ≤ byte_at file q
  unfolding list_at
  list_long q = omega (arith, length-take (byte_at file q) (drop (q + 1) file))

  module _ (shape : 0 ≡ first (shape_tests file)) (cs : List FileRecord) (few : length cs ≤ record_count file) where
    -- its body is no longer than the file's, which four bytes count
    body_short : length (body (byte_at file version_at) (modulus_in file) (header_in file) cs) < 4294967296
    unfolding list2_at list3_at count_at
    body_short =
        let v = byte_at file version_at in
        let m = modulus_in file in
        omega (arith, length_body v m (header_in file) cs, length_header v m (header_in file), lengths_behind file m, list_long (list1_at file), list_long (list2_at file), list_long (list3_at file), few, filled_by_lem file shape, counted_by file shape, four_bytes_fit file 0 b.each)

    pub writable_again : ((c : FileRecord) → Mem c cs → ShortRecord c) → Writable (byte_at file version_at) (modulus_in file) (header_in file) cs
    writable_again s = record {
      versions = versions_by file shape;
      lengths = record { h = two_bytes_fit file (lengths_at file) b.each; k = two_bytes_fit file (lengths_at file + 2) b.each; l = two_bytes_fit file (lengths_at file + 4) b.each };
      records = s;
      short = body_short;
    }

  -- ---- what stands from a place on: the bytes of the part that is read there, and what follows it

  byte_again : (q : ℕ) → q < length file → drop q file ≡ byte_at file q ∷ drop (q + 1) file
  byte_again q l = drop-cons file q 0 l ∙ along (λ n. byte_at file q ∷ drop n file) (suc q) (q + 1) (omega arith)

  two_again : (q : ℕ) → q + 2 ≤ length file → drop q file ≡ big_endian 2 (two_bytes file q) ++ drop (q + 2) file
  unfolding big_endian two_bytes
  two_again q l =
      let x = byte_at file q in
      let y = byte_at file (q + 1) in
      let high : x ≡ (x * 256 + y) / 256 % 256 = omega (arith, b.each q, b.each (q + 1)) in
      let low : y ≡ (x * 256 + y) % 256 = omega (arith, b.each (q + 1)) in
      byte_again q (omega arith) ∙ ap (λ (t : List ℕ). x ∷ t) (byte_again (q + 1) (omega arith) ∙ along (λ n. y ∷ drop n file) (q + 1 + 1) (q + 2) (omega arith)) ∙ λ i. high i ∷ low i ∷ drop (q + 2) file

  four_again : (q : ℕ) → q + 4 ≤ length file → drop q file ≡ big_endian 4 (four_bytes file q) ++ drop (q + 4) file
  unfolding four_bytes
  four_again q l =
      let x = two_bytes file q in
      let y = two_bytes file (q + 2) in
      let small = two_bytes_fit file (q + 2) b.each in
      let high : x ≡ (x * 65536 + y) / 65536 = omega (arith, small) in
      let low : y ≡ (x * 65536 + y) % 65536 = omega (arith, small) in
      let rest = two_again (q + 2) (omega arith) ∙ along (λ n. big_endian 2 y ++ drop n file) (q + 2 + 2) (q + 4) (omega arith) in
      followed (big_endian 2 x) (two_again q (omega arith)) rest
      ∙ sym (append_assoc (big_endian 2 x) (big_endian 2 y) (drop (q + 4) file))
      ∙ (λ i. (big_endian 2 (high i) ++ big_endian 2 (low i)) ++ drop (q + 4) file)
      ∙ ap (λ (l : List ℕ). l ++ drop (q + 4) file) (four_bytes_lem (x * 65536 + y))

  list_whole : (q : ℕ) → after_list file q ≤ length file → length (list_at file q) ≡ byte_at file q
  unfolding list_at
  list_whole q l = length-take-le (byte_at file q) (drop (q + 1) file) (omega (arith, length-drop (q + 1) file))

  list_again : (q : ℕ) → after_list file q ≤ length file → drop q file ≡ list_bytes (list_at file q) ++ drop (after_list file q) file
  unfolding list_at
  list_again q l =
      let n = byte_at file q in
      let rest = drop (q + 1) file in
      let whole = sym (list_whole q l) in
      byte_again q (omega arith)
      ∙ ap (λ (t : List ℕ). n ∷ t) (sym (take-append-drop n rest) ∙ ap (λ (t : List ℕ). take n rest ++ t) (drop-drop n (q + 1) file))
      ∙ λ i. whole i ∷ (take n rest ++ drop (after_list file q) file)

  record_again : (q : ℕ) → q + 14 ≤ length file → drop q file ≡ raw_bytes (record_at file q) ++ drop (q + 14) file
  unfolding record_at
  record_again q l =
      let h = big_endian 2 (two_bytes file q) in
      let k = big_endian 2 (two_bytes file (q + 2)) in
      let m = big_endian 2 (two_bytes file (q + 4)) in
      let x = big_endian 4 (four_bytes file (q + 6)) in
      let y = big_endian 4 (four_bytes file (q + 10)) in
      let e5 = four_again (q + 10) (omega arith) ∙ along (λ n. y ++ drop n file) (q + 10 + 4) (q + 14) (omega arith) in
      let e4 = followed x (four_again (q + 6) (omega arith) ∙ along (λ n. x ++ drop n file) (q + 6 + 4) (q + 10) (omega arith)) e5 in
      let e3 = followed m (two_again (q + 4) (omega arith) ∙ along (λ n. m ++ drop n file) (q + 4 + 2) (q + 6) (omega arith)) e4 in
      let e2 = followed k (two_again (q + 2) (omega arith) ∙ along (λ n. k ++ drop n file) (q + 2 + 2) (q + 4) (omega arith)) e3 in
      followed h (two_again q (omega arith)) e2 ∙ sym (right h k m x y (drop (q + 14) file))

  records_again : (q n : ℕ) → q + 14 * n ≡ length file → drop q file ≡ all_bytes (records_from file q n)
  unfolding records_from all_bytes
  records_again q zero e = let h : length file ≤ q = omega (arith, e) in drop_of_length-le file h
  records_again q (suc n) e = followed (raw_bytes (record_at file q)) (record_again q (omega (arith, e))) (records_again (q + 14) n (omega (arith, e)))

  -- ---- all of it

  module _ (shape : 0 ≡ first (shape_tests file)) where
    abbrev version : ℕ
    version = byte_at file version_at

    abbrev lengths : ℕ
    lengths = lengths_at file

    -- the lists, the count of the records and the records
    behind : List ℕ
    behind = list_bytes (list_at file (list1_at file)) ++ (list_bytes (list_at file (list2_at file)) ++ (list_bytes (list_at file (list3_at file)) ++ (big_endian 4 (record_count file) ++ all_bytes (records_in file))))

    behind_again : drop (list1_at file) file ≡ behind
    unfolding behind list2_at list3_at count_at
    behind_again =
        let end = filled_by_lem file shape in
        let records = followed (big_endian 4 (record_count file)) (four_again (count_at file) (omega (arith, end))) (records_again (count_at file + 4) (record_count file) end) in
        let third = followed (list_bytes (list_at file (list3_at file))) (list_again (list3_at file) (omega (arith, end))) records in
        let second = followed (list_bytes (list_at file (list2_at file))) (list_again (list2_at file) (omega (arith, end))) third in
        followed (list_bytes (list_at file (list1_at file))) (list_again (list1_at file) (omega (arith, end))) second

    lengths_again : drop lengths file ≡ big_endian 2 (two_bytes file lengths) ++ (big_endian 2 (two_bytes file (lengths + 2)) ++ (big_endian 2 (two_bytes file (lengths + 4)) ++ behind))
    unfolding list2_at list3_at count_at
    lengths_again =
        let end = filled_by_lem file shape in
        let x = big_endian 2 (two_bytes file lengths) in
        let y = big_endian 2 (two_bytes file (lengths + 2)) in
        let z = big_endian 2 (two_bytes file (lengths + 4)) in
        let third = followed z (two_again (lengths + 4) (omega (arith, end)) ∙ along (λ n. z ++ drop n file) (lengths + 4 + 2) (list1_at file) (omega arith)) behind_again in
        let second = followed y (two_again (lengths + 2) (omega (arith, end)) ∙ along (λ n. y ++ drop n file) (lengths + 2 + 2) (lengths + 4) (omega arith)) third in
        followed x (two_again lengths (omega (arith, end))) second

    -- the modulus byte, where there is one
    modulus_again : drop modulus_at file ≡ modulus_bytes version (modulus_in file) ++ drop lengths file
    unfolding list2_at list3_at count_at
    modulus_again = let end = filled_by_lem file shape in go (omega (arith, end, lengths_low file)) (ℕ_discrete version 2)
      where
        go : modulus_at < length file → Dec (version ≡ 2) → drop modulus_at file ≡ modulus_bytes version (modulus_in file) ++ drop lengths file
        go l (yes e) =
            let r = with_modulus file e in
            byte_again modulus_at l ∙ sym (ap (λ b. cond b (modulus_in file ∷ []) [] ++ drop lengths file) (eq-eqb version 2 e) ∙ λ i. r.0 i ∷ drop (r.1 i) file)
        go l (no n) = sym (ap (λ b. cond b (modulus_in file ∷ []) [] ++ drop lengths file) (ne_eqb version 2 n) ∙ ap (λ (q : ℕ). drop q file) (without_modulus file n).1)

    whole_again : file ≡ big_endian 4 (four_bytes file 0) ++ version ∷ byte_at file group_at ∷ (modulus_bytes version (modulus_in file) ++ (big_endian 2 (two_bytes file lengths) ++ (big_endian 2 (two_bytes file (lengths + 2)) ++ (big_endian 2 (two_bytes file (lengths + 4)) ++ behind))))
    unfolding list2_at list3_at count_at
    whole_again =
        let end = filled_by_lem file shape in
        let low = lengths_low file in
        let numbers = followed (modulus_bytes version (modulus_in file)) modulus_again lengths_again in
        let group = byte_again group_at (omega (arith, end)) ∙ ap (λ (t : List ℕ). byte_at file group_at ∷ t) numbers in
        let one = byte_again version_at (omega (arith, end)) ∙ ap (λ (t : List ℕ). version ∷ t) group in
        followed (big_endian 4 (four_bytes file 0)) (four_again 0 (omega (arith, end))) one

    -- the counts are those that stand in it
    bytes_counted : length (body version (modulus_in file) (header_in file) (records_in file)) ≡ four_bytes file 0
    unfolding list2_at list3_at count_at
    bytes_counted =
        let end = filled_by_lem file shape in
        omega (
          arith,
          end,
          counted_by file shape,
          length_body version (modulus_in file) (header_in file) (records_in file),
          length_header version (modulus_in file) (header_in file),
          lengths_behind file (modulus_in file),
          length_from file (count_at file + 4) (record_count file),
          list_whole (list1_at file) (omega (arith, end)),
          list_whole (list2_at file) (omega (arith, end)),
          list_whole (list3_at file) (omega (arith, end)),
        )

    pub file_again : file_of version (modulus_in file) (header_in file) (records_in file) ≡ file
    unfolding behind
    file_again =
        let n = length_from file (count_at file + 4) (record_count file) in
        let c = bytes_counted in
        parts_apart version (modulus_in file) (header_in file) (records_in file)
        ∙ (λ i. big_endian 4 (c i) ++ version ∷ byte_at file group_at ∷ (modulus_bytes version (modulus_in file) ++ (big_endian 2 (two_bytes file lengths) ++ (big_endian 2 (two_bytes file (lengths + 2)) ++ (big_endian 2 (two_bytes file (lengths + 4)) ++ (list_bytes (list_at file (list1_at file)) ++ (list_bytes (list_at file (list2_at file)) ++ (list_bytes (list_at file (list3_at file)) ++ (big_endian 4 (n i) ++ all_bytes (records_in file))))))))))
        ∙ sym whole_again
