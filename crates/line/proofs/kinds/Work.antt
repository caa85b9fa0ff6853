-- The list by which a plain line goes is the doubled one, and what it leaves of the work slice is that of its steps.
use mathlib.Core.Path.{◌≡◌, ◌∙◌, ap, ap₂}
use mathlib.Core.List.{List, ◌++◌}
use Prim.Native.Nat.{ℕ, ◌*◌}
use native.Mathlib.Omega.{arith}
use lib.ListN.{length, take, drop}
use Rattle.algebra.proofs.ring.Laws.{along}
use Rattle.numbers.specs.Value.{Value}
use Rattle.roots.specs.Table.{table_root}
use Rattle.lengths.specs.Lengths.{octal, octal_digits, doubled_list}
use Rattle.lengths.specs.Admitted.{Factored}
use Rattle.lengths.proofs.Factors.{factors_of_lem, factors_ok_lem, octal_digits_lem}
use Rattle.lengths.proofs.stage.Doubling.{doubled_factors}
use Rattle.lengths.proofs.stage.Listing.{digits_listed}
use Rattle.plain.specs.Plain.{work_after}
use Rattle.line.specs.Tables.{root_for, LineTables}
use Rattle.line.specs.EverySplit.{list_for, plain_work}

module _ {factors n : ℕ} (list : Factored factors n) where
  doubled_digits : {r : ℕ} → r ≡ octal (doubled_list (octal_digits factors)) → octal_digits r ≡ list_for 0 (octal_digits factors)
  doubled_digits e = ap octal_digits e ∙ octal_digits_lem (doubled_list (octal_digits factors)) (factors_ok_lem (doubled_factors (factors_of_lem (octal_digits factors) (digits_listed list).each)))

  pub plain_work_lem : (a m : ℕ) {kind direction : ℕ} {re im tan : List ℕ} → LineTables m kind direction re im tan → (line work : List ℕ)
      → {r : ℕ} → r ≡ octal (doubled_list (octal_digits factors)) → {left : List ℕ}
      → left ≡ work_after m (table_root m re im) (octal_digits r) (length (octal_digits r)) line (take (2 * (2 * a)) work)
      → left ++ drop (2 * (2 * a)) work ≡ plain_work m direction a (octal_digits factors) line work
  plain_work_lem a m {direction = direction} tables line work e el =
      ap (λ l. l ++ drop (2 * (2 * a)) work) (el ∙ ap₂ (λ (v : Value m) (l : List ℕ). work_after m v l (length l) line (take (2 * (2 * a)) work)) tables.of_root (doubled_digits e))
      ∙ along (λ n. work_after m (root_for m direction) (list_for 0 (octal_digits factors)) (length (list_for 0 (octal_digits factors))) line (take n work) ++ drop n work) (2 * (2 * a)) (4 * a) (omega arith)
