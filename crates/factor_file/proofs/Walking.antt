-- A walk over the records of a file of sound shape: how far it has come, and the records that are left.
use mathlib.Core.Path.{◌≡◌, sym, ◌∙◌, ap}
use mathlib.Core.List.{List, [], ◌∷◌}
use Prim.Native.Nat.{ℕ, suc, ◌+◌, ◌*◌, ◌-◌, ◌<◌, ◌≤◌}
use native.Mathlib.Omega.{arith}
use native.Mathlib.Numerals.{add-one}
use lib.ListN.{length}
use Rattle.refusals.specs.Refusals.{first}
use Rattle.file_format.specs.declared.FileRecord.{FileRecord}
use Rattle.std.specs.Prelude.{Some, None}
use Rattle.file_format.specs.Format.{count_at, record_count, records_from, records_in, shape_tests}
use Rattle.file_format.specs.Walk.{found_at, place_after}
use Rattle.file_format.proofs.shape.Shapes.{filled_by_lem}
use Rattle.file_format.proofs.Reading.{end_found, record_inside, record_found, record_after}

-- the walk stands behind `place` records
pub record Walked (file : List ℕ) (at place : ℕ) : Type 0 where
  pub some : place ≤ record_count file
  pub behind : at ≡ count_at file + 4 + 14 * place

abbrev pub left : List ℕ → (at place : ℕ) → List FileRecord
left file at place = records_from file at (record_count file - place)

pub walk_start : (file : List ℕ) {at : ℕ} → at ≡ count_at file + 4 → Walked file at 0 × (records_in file ≡ left file at 0)
walk_start file {at} e =
    let n : record_count file ≡ record_count file - 0 = omega arith in
    let a = sym e in
    (record { some = omega arith; behind = omega arith }, λ i. records_from file (a i) (n i))

module _ {file : List ℕ} {at place : ℕ} (w : Walked file at place) (sound : 0 ≡ first (shape_tests file)) where
  -- at the end of the file no record is left
  pub walk_end : None ≡ found_at file at → left file at place ≡ []
  unfolding records_from
  walk_end e =
      let f = filled_by_lem file sound in
      let h = end_found file at e in
      let n : record_count file - place ≡ 0 = omega (arith, w.behind, w.some) in
      ap (records_from file at) n

  -- a record that is found is the first of those left
  module _ (c : FileRecord) (found : Some c ≡ found_at file at) where
    pub record_left : place < record_count file
    record_left =
        let f = filled_by_lem file sound in
        let h = record_inside file at c found in
        omega (arith, w.behind, w.some)

    pub walk_next : {after : ℕ} → after ≡ place_after file at → Walked file after (place + 1) × (left file at place ≡ c ∷ left file after (place + 1))
    unfolding records_from
    walk_next {after} on =
        let l = record_left in
        let a : after ≡ at + 14 = on ∙ record_after file at c found in
        let n : record_count file - place ≡ suc (record_count file - (place + 1)) = omega arith in
        let r = sym (record_found file at c found) in
        (record { some = omega arith; behind = omega (arith, w.behind, a) }, ap (records_from file at) n ∙ λ i. r i ∷ records_from file (sym a i) (record_count file - (place + 1)))
