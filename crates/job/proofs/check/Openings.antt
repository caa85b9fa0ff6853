-- The tests of an opening in their order.
use mathlib.Core.Path.{◌≡◌, ◌∙◌, sym, ap}
use mathlib.Core.Bool.{Bool, true, false, ◌&&◌, not}
use mathlib.Core.List.{List, [], ◌∷◌}
use Prim.Native.Nat.{ℕ, ◌<◌}
use lib.ListN.{length}
use lib.Dec.{eqb}
use borrow.Author.Tests.{eq-eqb, ne_eqb, lt-leb}
use Rattle.algebra.specs.cells.Cell.{J}
use Rattle.slices.specs.Pairs.{all_below}
use Rattle.refusals.specs.declared.Refusal.{Refusal}
use Rattle.refusals.specs.Refusals.{number_of, ◌⇒◌, first}
use Rattle.refusals.proofs.Tests.{pass, none, not_t, passed, append_stop, append_pass, not_zero}
use Rattle.cell.specs.Volume.{group_of, volume_length}
use Rattle.cell.specs.Consistency.{consistent_map}
use Rattle.header.specs.Header.{Header, half_lengths, axis_tests}
use Rattle.numbers.specs.Value.{prime, is_modulus}
use Rattle.job.specs.Job.{volume_tests, map_tests, open_tests}

-- ---- the tests that only a map is put to

skipped : (kind : ℕ) (b : Bool) → (kind ≡ 1 → ⊥) → (eqb kind 1 && b) ≡ false
skipped kind b h = ap (λ (x : Bool). x && b) (ne_eqb kind 1 h)

module _ (m group : ℕ) (n : J) (kind : ℕ) (v : List ℕ) (fit : eqb (length v) (volume_length (group_of group) (half_lengths n)) ≡ true) where
  abbrev below : Bool
  below = all_below (prime m) v

  abbrev consistent : Bool
  consistent = consistent_map (group_of group) (half_lengths n) v

  pub volume_collects : (kind ≡ 1 → ⊥) → 0 ≡ first (volume_tests m group n kind v)
  volume_collects k = pass 6 _ (not_t _ fit) (pass 7 _ (skipped kind (not below) k) (pass 14 _ (skipped kind (not consistent) k) none))

  -- a map is put to the tests of a map
  pub volume_held : {number : ℕ} → kind ≡ 1 → number ≡ first (map_tests m group n v) → number ≡ first (volume_tests m group n kind v)
  volume_held k e = pass 6 _ (not_t _ fit) (e ∙ ap (λ (b : Bool). first ((b && not below) ⇒ 7 ∷ (b && not consistent) ⇒ 14 ∷ [])) (sym (eq-eqb kind 1 k)))

-- ---- all tests of an opening

module _ (m : ℕ) (h : Header) (kind : ℕ) (v : List ℕ) where
  pub header_refused : (r : Refusal) → h.group < 5 → is_modulus m ≡ true → kind < 2 → number_of r ≡ first (axis_tests h) → number_of r ≡ first (open_tests m h kind v)
  header_refused r g is k e = pass 8 _ (lt-leb _ _ g) (pass 26 _ (not_t _ is) (pass 2 _ (lt-leb _ _ k) (append_stop (axis_tests h) (volume_tests m h.group h.lengths kind v) (not_zero r) e)))

  pub volume_decides : {number : ℕ} → h.group < 5 → is_modulus m ≡ true → kind < 2 → 0 ≡ first (axis_tests h) → number ≡ first (volume_tests m h.group h.lengths kind v) → number ≡ first (open_tests m h kind v)
  volume_decides g is k e f = pass 8 _ (lt-leb _ _ g) (pass 26 _ (not_t _ is) (pass 2 _ (lt-leb _ _ k) (append_pass (axis_tests h) _ (passed (axis_tests h) tt e) f)))

  pub header_passed : 0 ≡ first (open_tests m h kind v) → 0 ≡ first (axis_tests h)
  header_passed e =
      let t = (passed (open_tests m h kind v) tt e).1.1.1 in
      pass 3 _ t.0 (pass 4 _ t.1.0 (pass 5 _ t.1.1.0 (pass 9 _ t.1.1.1.0 none)))
