-- The range decides 30, the length 18; then the file is written.
use borrow.Author.Tests.{lt-ltb}
use mathlib.Core.Path.{sym, ◌∙◌, subst}
use Prim.Native.Nat.{ℕ, ◌<◌, ◌≤◌}
use lib.ListN.{length}
use Rattle.refusals.specs.declared.Refusal.TheVariants.{FloatRange, OutputTooShort}
use Rattle.refusals.proofs.Tests.{stop, pass, not_t, not_f, by_false, by_true}
use Rattle.mrc.proofs.Bytes.{length_file}
use Rattle.mrc.proofs.Outcome.{shape_passed, range_exact, fill_refused, fill_written}
use Rattle.mrc.proofs.fill.Goals as goal

pub map_range-range-requires : goal.map_range-range-requires
map_range-range-requires c = let p = shape_passed c.args.cell c.args.map.now c.args.parameters c.requires in (p.sizes, p.long)

pub returns-then-not-is_exact : goal.returns-then-not-is_exact
returns-then-not-is_exact c =
    let a = c.args in
    let told = c.is_exact.ensures ∙ range_exact a.cell a.map.now a.parameters (shape_passed a.cell a.map.now a.parameters c.requires).sizes _ c.map_range-range.ensures in
    fill_refused a.cell a.map.now a.parameters FloatRange a.out.now (stop _ (not_f _ (by_false _ _ told c.if-not-is_exact.true)))

pub file_length-requires : goal.file_length-requires
file_length-requires c = (shape_passed c.args.cell c.args.map.now c.args.parameters c.requires).sizes

pub returns-then-out-file_length : goal.returns-then-out-file_length
returns-then-out-file_length c =
    let a = c.args in
    let told = c.is_exact.ensures ∙ range_exact a.cell a.map.now a.parameters (shape_passed a.cell a.map.now a.parameters c.requires).sizes _ c.map_range-range.ensures in
    let short = subst (λ (n : ℕ). length a.out.now < n) (c.file_length.ensures ∙ sym (length_file a.cell a.map.now a.parameters)) c.if-out-file_length.true in
    fill_refused a.cell a.map.now a.parameters OutputTooShort a.out.now (pass 30 _ (not_t _ (by_true _ _ told c.if-not-is_exact.false)) (stop _ (lt-ltb _ _ short)))

pub put_file-requires : goal.put_file-requires
put_file-requires c =
    let a = c.args in
    let p = shape_passed a.cell a.map.now a.parameters c.requires in
    let told = c.is_exact.ensures ∙ range_exact a.cell a.map.now a.parameters p.sizes _ c.map_range-range.ensures in
    (record { sizes = p.sizes; long = p.long; exact = by_true _ _ told c.if-not-is_exact.false }, p.sound, c.map_range-range.ensures)

pub returns : goal.returns
returns c =
    let a = c.args in
    let told = c.is_exact.ensures ∙ range_exact a.cell a.map.now a.parameters (shape_passed a.cell a.map.now a.parameters c.requires).sizes _ c.map_range-range.ensures in
    fill_written a.cell a.map.now a.parameters (by_true _ _ told c.if-not-is_exact.false) (subst (λ (n : ℕ). n ≤ length a.out.now) c.file_length.ensures c.if-out-file_length.false) c.put_file.ensures
