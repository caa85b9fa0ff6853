-- The tests of a file's shape, where the parts of a file of sound shape stand, and that the shape does not depend on what the records say.
use mathlib.Core.Path.{◌≡◌, refl, sym, ◌∙◌, ap}
use mathlib.Core.Logic.{◌⊎◌, inl, inr}
use mathlib.Core.Bool.{Bool, true, false, ◌||◌, not}
use mathlib.Core.List.{List, [], ◌∷◌}
use Prim.Native.Nat.{ℕ, ◌+◌, ◌*◌, ◌-◌, ◌<◌, ◌≤◌}
use native.Mathlib.Omega.{arith}
use native.Mathlib.Decide.{ℕ_discrete}
use lib.ListN.{length, take, drop}
use lib.Dec.{ltb, eqb}
use borrow.Author.Tests.{le-ltb, ltb-false, eq-eqb, ne_eqb, eqb-true, not-false}
use Rattle.refusals.specs.Refusals.{◌⇒◌, first}
use Rattle.refusals.proofs.Tests.{stop, pass, none, not_t, not_f, passed}
use Rattle.file_format.proofs.integers.Numbers.{same_byte, same_four_bytes}
use Rattle.file_format.specs.declared.places.Places.{Places}
use Rattle.file_format.specs.Format.{byte_at, four_bytes, version_at, modulus_in, list_at, after_list, list1_at, list2_at, list3_at, count_at, record_count, header_in, is_version, miscounted, filling_tests, shape_tests}
use Rattle.file_format.specs.declared.places.HeaderNumbers.{HeaderNumbers}
use Rattle.file_format.specs.Places.{PlacesOf, NumbersOf}
use Rattle.file_format.proofs.places.Versions.{without_modulus, lengths_low}
use Rattle.file_format.proofs.places.Heads.{same_count}

-- ---- the count

or_left : (a b : Bool) → (a || b) ≡ false → a ≡ false
or_left true b e = e
or_left false b e = refl

or_first : (a b : Bool) → b ≡ false → (a || b) ≡ true → a ≡ true
or_first true b f e = refl
or_first false b f e = sym f ∙ e

module _ (file : List ℕ) where
  pub counted : 5 ≤ length file → not (eqb (four_bytes file 0) (length file - 4)) ≡ miscounted file
  counted h = rw (le-ltb _ _ h)

  -- a file that is not too short has a version
  pub versioned : miscounted file ≡ false → 5 ≤ length file
  versioned e = ltb-false _ _ (or_left (ltb (length file) 5) _ e)

  -- ---- the test behind the version

  abbrev end : ℕ
  end = count_at file + 4 + 14 * record_count file

  pub not_filled_lem : (end ≡ length file → ⊥) → 15 ≡ first (filling_tests file)
  not_filled_lem h = stop _ (not_f _ (ne_eqb _ _ h))

  pub sound_filling : end ≡ length file → 0 ≡ first (filling_tests file)
  sound_filling h = pass 15 _ (not_t _ (eq-eqb _ _ h)) none

-- ---- a file of sound shape

-- header, lists and records fill it
pub filled_by_lem : (file : List ℕ) → 0 ≡ first (shape_tests file) → count_at file + 4 + 14 * record_count file ≡ length file
filled_by_lem file e = eqb-true _ _ (not-false _ (passed (shape_tests file) tt e).1.1.0)

-- and its first four bytes count those that follow
pub counted_by : (file : List ℕ) → 0 ≡ first (shape_tests file) → (four_bytes file 0 ≡ length file - 4) × (5 ≤ length file)
counted_by file e =
    let m = (passed (shape_tests file) tt e).0 in
    let long = versioned file m in
    (eqb-true _ _ (not-false _ (counted file long ∙ m)), long)

-- its version is 2, or 1, whose modulus is the first
pub versions_by : (file : List ℕ) → 0 ≡ first (shape_tests file) → (byte_at file version_at ≡ 2) ⊎ ((byte_at file version_at ≡ 1) × (modulus_in file ≡ 1))
versions_by file e = go (ℕ_discrete (byte_at file version_at) 2)
  where
    go : Dec (byte_at file version_at ≡ 2) → (byte_at file version_at ≡ 2) ⊎ ((byte_at file version_at ≡ 1) × (modulus_in file ≡ 1))
    go (yes two) = inl two
    go (no n) = inr (eqb-true _ _ (or_first _ _ (ne_eqb _ _ n) (not-false _ (passed (shape_tests file) tt e).1.0)), (without_modulus file n).0)

-- the lists stand one after the other behind the lengths, and the record count behind them
pub record Ordered (file : List ℕ) (p : Places) : Type 0 where
  pub first_list : p.list1 + 1 ≤ p.list2
  pub second_list : p.list2 + 1 ≤ p.list3
  pub third_list : p.list3 + 1 ≤ p.count
  pub near : p.count < 1024
  pub inside : p.count + 4 ≤ length file

pub ordered : (file : List ℕ) (p : Places) → PlacesOf file p → 0 ≡ first (shape_tests file) → Ordered file p
unfolding list2_at list3_at count_at
ordered file p s e =
    let f = filled_by_lem file e in
    record { first_list = omega arith; second_list = omega arith; third_list = omega arith; near = s.near; inside = omega arith }

-- the part of the file from behind a list's count byte to the place after the list
part_is_list : (file : List ℕ) (q start end : ℕ) → start ≡ q + 1 → end ≡ after_list file q → take (end - start) (drop start file) ≡ list_at file q
unfolding list_at
part_is_list file q start end s e =
    let n : end - start ≡ byte_at file q = omega arith in
    λ i. take (n i) (drop (s i) file)

-- the list between two places, the first of which has its count byte
abbrev pub part : List ℕ → (q end : ℕ) → List ℕ
part file q end = take (end - (q + 1)) (drop (q + 1) file)

-- the header by the numbers and the places that the code holds
pub header_parts : (file : List ℕ) {p : Places} → PlacesOf file p → {n : HeaderNumbers} → NumbersOf file n → record {
  group = n.cell.group;
  lengths = (n.cell.n1, n.cell.n2, n.cell.n3);
  list1 = part file p.list1 p.list2;
  list2 = part file p.list2 p.list3;
  list3 = part file p.list3 p.count;
} ≡ header_in file
unfolding list2_at list3_at count_at
header_parts file s n =
    let list1 = part_is_list file (list1_at file) _ _ (ap (λ (q : ℕ). q + 1) s.first) s.second in
    let list2 = part_is_list file (list2_at file) _ _ (ap (λ (q : ℕ). q + 1) s.second) s.third in
    let list3 = part_is_list file (list3_at file) _ _ (ap (λ (q : ℕ). q + 1) s.third) s.count in
    λ i. record { group = n.group i; lengths = (n.first i, n.second i, n.third i); list1 = list1 i; list2 = list2 i; list3 = list3 i }

-- ---- the bytes before the first record

-- files of one length that agree there are refused alike for their shape
pub same_shape : (file file' : List ℕ) → length file ≡ length file' → take (count_at file + 4) file ≡ take (count_at file + 4) file' → first (shape_tests file) ≡ first (shape_tests file')
unfolding list2_at list3_at count_at
same_shape file file' long same =
    let n = count_at file + 4 in
    let low = lengths_low file in
    let bytes = same_four_bytes file file' n same 0 (omega arith) in
    let version = same_byte file file' n same 4 (omega arith) in
    let place = same_count file file' n same (omega arith) in
    let records = same_four_bytes file file' n same (count_at file) (omega arith) ∙ ap (four_bytes file') place in
    λ i. first ((ltb (long i) 5 || not (eqb (bytes i) (long i - 4))) ⇒ 15 ∷ not (is_version (version i)) ⇒ 16 ∷ not (eqb (place i + 4 + 14 * records i) (long i)) ⇒ 15 ∷ [])
