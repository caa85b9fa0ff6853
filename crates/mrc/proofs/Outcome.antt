-- What follows from the tests: of a call that is refused, and of one that is not.
use borrow.Author.Tests.{leb-false, eqb-true, not-false, le-ltb}
use mathlib.Core.Path.{◌≡◌, sym, ◌∙◌, ap, subst}
use mathlib.Core.Bool.{true, ◌&&◌}
use mathlib.Core.List.{List}
use Prim.Native.Nat.{ℕ, ◌≤◌}
use lib.Dec.{leb}
use lib.IntN.{ℤ, nat_abs}
use lib.ListN.{length}
use Rattle.refusals.specs.declared.Refusal.{Refusal}
use Rattle.refusals.specs.Refusals.{number_of, first, accepted}
use Rattle.refusals.proofs.Tests.{first_append, passed, fails, passes, pass, none, not_t}
use Rattle.cell.specs.declared.operations.UnitCell.{UnitCell}
use Rattle.cell.specs.Operations.{cell_group, cell_halves, Sizes}
use Rattle.cell.specs.Volume.{volume_length}
use Rattle.header.proofs.Headers.{sizes_of}
use Rattle.output.specs.Output.{FillOutcome, filled, not_filled}
use Rattle.output.specs.Written.{Wrote}
use Rattle.output.specs.Answers.{fill_outcome}
use Rattle.std.specs.Prelude.{Ok, Err}
use Rattle.output.proofs.Writing.{wrote_filled}
use Rattle.mrc.specs.Floats.{exact_limit}
use Rattle.mrc.specs.Parameters.{of_group}
use Rattle.mrc.specs.Ranges.{lesser, greater, Spans, of_cell, of_stored}
use Rattle.mrc.specs.Mrc.{mrc_bytes, file_length, all_exact, shape_tests, fill_tests, mrc_tests, mrc_step}
use Rattle.mrc.specs.declared.parameters.CellParameters.{CellParameters}
use Rattle.mrc.specs.declared.ranges.DensityRange.{DensityRange}
use Rattle.mrc.proofs.Order.{lesser_chooses, greater_chooses}
use Rattle.mrc.proofs.Densities.{stored_same, exact_by_ends}
use Rattle.mrc.proofs.Bytes.{length_file}

-- ---- what the tests leave

module _ (cell : UnitCell) (v : List ℤ) (parameters : CellParameters) where
  -- the shape passes
  pub record Shaped : Type 0 where
    pub sizes : Sizes cell
    pub long : length v ≡ volume_length (cell_group cell) (cell_halves cell)
    pub sound : of_group cell.group parameters ≡ true

  pub shape_passed : 0 ≡ first (shape_tests cell (length v) parameters) → Shaped
  shape_passed e =
      let p = passed (shape_tests cell (length v) parameters) tt e in record {
        sizes = sizes_of {cell = cell} (leb-false 5 cell.group p.0) (not-false _ p.1.0);
        long = eqb-true _ _ (not-false _ p.1.1.1.0);
        sound = not-false _ p.1.1.1.1.0;
      }

  module _ (sizes : Sizes cell) (r : DensityRange) (spans : Spans r (of_stored cell v)) where
    -- the ends of the range are those of the cell
    pub range_low : r.least ≡ of_cell cell v lesser
    range_low = spans.low ∙ stored_same cell v sizes lesser_chooses

    pub range_high : r.greatest ≡ of_cell cell v greater
    range_high = spans.high ∙ stored_same cell v sizes greater_chooses

    pub range_exact : (leb (nat_abs r.least) exact_limit && leb (nat_abs r.greatest) exact_limit) ≡ all_exact cell v
    range_exact = (λ i. leb (nat_abs (range_low i)) exact_limit && leb (nat_abs (range_high i)) exact_limit) ∙ exact_by_ends cell v sizes

  -- ---- the outcome of the second half of the call

  abbrev outcome_of : List ℕ → FillOutcome
  outcome_of out = accepted (first (fill_tests cell v parameters (length out))) (filled (mrc_bytes cell v parameters) out) (not_filled out)

  pub fill_refused : (r : Refusal) (out : List ℕ) → number_of r ≡ first (fill_tests cell v parameters (length out)) → fill_outcome (Err r) out ≡ outcome_of out
  fill_refused r out e = fails r (first (fill_tests cell v parameters (length out))) (filled (mrc_bytes cell v parameters) out) (not_filled out) e

  pub fill_written : {e : ℕ} {out out' : List ℕ} → all_exact cell v ≡ true → file_length cell ≤ length out → Wrote 0 (mrc_bytes cell v parameters) out e out' → fill_outcome (Ok e) out' ≡ outcome_of out
  fill_written {e} {out} {out'} exact long w =
      let len = length_file cell v parameters in
      wrote_filled w (subst (λ (n : ℕ). n ≤ length out) (sym len) long)
      ∙ passes (first (fill_tests cell v parameters (length out))) (filled (mrc_bytes cell v parameters) out) (not_filled out)
      (pass 30 _ (not_t _ exact) (pass 18 _ (le-ltb _ _ (subst (λ (n : ℕ). n ≤ length out) (sym len) long)) none))

  -- ---- the whole call

  tests_appended : (room : ℕ) → first (mrc_tests cell v parameters room) ≡ accepted (first (shape_tests cell (length v) parameters)) (first (fill_tests cell v parameters room)) (λ n. n)
  tests_appended room = first_append (shape_tests cell (length v) parameters) (fill_tests cell v parameters room) tt

  pub call_refused : (r : Refusal) (out : List ℕ) → number_of r ≡ first (shape_tests cell (length v) parameters) → fill_outcome (Err r) out ≡ mrc_step cell v parameters out
  unfolding mrc_step
  call_refused r out e =
      fails r (first (mrc_tests cell v parameters (length out))) (filled (mrc_bytes cell v parameters) out) (not_filled out)
      (fails r (first (shape_tests cell (length v) parameters)) (first (fill_tests cell v parameters (length out))) (λ n. n) e ∙ sym (tests_appended (length out)))

  pub call_filled : (out : List ℕ) → 0 ≡ first (shape_tests cell (length v) parameters) → outcome_of out ≡ mrc_step cell v parameters out
  unfolding mrc_step
  call_filled out e =
      ap (λ (n : ℕ). accepted n (filled (mrc_bytes cell v parameters) out) (not_filled out))
      (ap (λ (n : ℕ). accepted n (first (fill_tests cell v parameters (length out))) (λ n. n)) e ∙ sym (tests_appended (length out)))
