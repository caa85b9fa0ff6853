-- What a reader finds at a place and where it goes on from there; and where it stands, told by what it finds.
use mathlib.Core.Path.{◌≡◌, refl, sym, ◌∙◌}
use mathlib.Core.Bool.{true, false}
use mathlib.Core.Logic.{⊎_elim}
use mathlib.Core.List.{List}
use Prim.Native.Nat.{ℕ, ◌+◌, ◌-◌, ◌<◌, ◌≤◌}
use native.Mathlib.Omega.{arith}
use lib.ListN.{length}
use lib.Dec.{leb}
use borrow.Author.Tests.{le-leb, lt-leb, leb-true, leb-false}
use native.Mathlib.Nat.{eq-zero-or-pos}
use Rattle.file_format.specs.declared.FileRecord.{FileRecord}
use Rattle.std.specs.Prelude.{Some, None}
use Rattle.file_format.specs.Format.{record_at}
use Rattle.file_format.specs.Walk.{record_stands, found_at, place_after}

record_not_end : (c : FileRecord) → Some c ≡ None → ⊥
record_not_end c e = let z : ◌≡◌ {A = ℕ} 0 1 = cc in omega arith

same_record : (c d : FileRecord) → Some c ≡ Some d → c ≡ d
same_record c d e = cc

module _ (file : List ℕ) (at : ℕ) where
  -- ---- a record stands at the place, or does not

  pub stands : at + 14 ≤ length file → true ≡ record_stands file at
  unfolding record_stands
  stands h = sym (le-leb _ _ h)

  pub stands_not : length file < at + 14 → false ≡ record_stands file at
  unfolding record_stands
  stands_not h = sym (lt-leb _ _ h)

  pub inside : record_stands file at ≡ true → at + 14 ≤ length file
  unfolding record_stands
  inside e = leb-true _ _ e

  pub outside : record_stands file at ≡ false → length file < at + 14
  unfolding record_stands
  outside e = leb-false _ _ e

  pub stands_by : 14 ≤ length file → leb at (length file - 14) ≡ record_stands file at
  stands_by h =
      ⊎_elim
      (λ (z : at + 14 - length file ≡ 0). le-leb at (length file - 14) (omega arith) ∙ stands (omega arith))
      (λ (l : 0 < at + 14 - length file). lt-leb at (length file - 14) (omega arith) ∙ stands_not (omega arith))
      (eq-zero-or-pos (at + 14 - length file))

  -- ---- what is found there

  pub at_end : length file < at + 14 → None ≡ found_at file at
  unfolding found_at
  at_end h = rw (sym (stands_not h))

  pub at_record : (c : FileRecord) → c ≡ record_at file at → at + 14 ≤ length file → Some c ≡ found_at file at
  unfolding found_at
  at_record c e h = rw (sym (stands h), e)

  -- ---- the place one record on

  pub after_record : at + 14 ≤ length file → at + 14 ≡ place_after file at
  unfolding place_after
  after_record h = rw (sym (stands h))

  pub after_end : length file < at + 14 → at ≡ place_after file at
  unfolding place_after
  after_end h = rw (sym (stands_not h))

  -- ---- and back: where the reader stands, by what it finds

  pub end_found : None ≡ found_at file at → length file < at + 14
  end_found e =
      ⊎_elim
      (λ (z : at + 14 - length file ≡ 0). absurd (record_not_end (record_at file at) (at_record (record_at file at) refl (omega arith) ∙ sym e)))
      (λ l. omega arith)
      (eq-zero-or-pos (at + 14 - length file))

  module _ (c : FileRecord) (e : Some c ≡ found_at file at) where
    pub record_inside : at + 14 ≤ length file
    record_inside =
        ⊎_elim
        (λ z. omega arith)
        (λ (l : 0 < at + 14 - length file). absurd (record_not_end c (e ∙ sym (at_end (omega arith)))))
        (eq-zero-or-pos (at + 14 - length file))

    pub record_found : c ≡ record_at file at
    record_found = same_record c (record_at file at) (e ∙ sym (at_record (record_at file at) refl record_inside))

    pub record_after : place_after file at ≡ at + 14
    record_after = sym (after_record record_inside)
