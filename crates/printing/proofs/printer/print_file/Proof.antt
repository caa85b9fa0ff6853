-- Too long, or opened with the numbers that it is lent.
use borrow.Author.Rules.{rules}
use mathlib.Core.Path.{sym, ◌∙◌}
use Rattle.job.specs.Job.{needed}
use Rattle.factor_file.specs.File.{header_in}
use Rattle.printing.specs.Text.{lent_limit}
use Rattle.printing.proofs.Files.{lent_length, lent_zeros, printed_long, printed_lent}
use Rattle.printing.proofs.printer.print_file.Statement.{statement}
use Rattle.printing.proofs.printer.print_file.Tie as tie

too_long-requires : tie.Need-too_long-requires
too_long-requires c κs = search rules

refusal_text-requires : tie.Need-refusal_text-requires
refusal_text-requires c κs = search rules

shape_of-out-then-too_long : tie.Need-shape_of-out-then-too_long
shape_of-out-then-too_long c = search rules

returns-then-too_long : tie.Need-returns-then-too_long
returns-then-too_long c =
    c.refusal_text.ensures ∙ printed_long c.args.file.now c.args.out.now (sym c.too_long.ensures ∙ c.if-too_long.true)

lent_to-count-requires : tie.Need-lent_to-count-requires
lent_to-count-requires c κs = search rules

slice_bounds-numbers-end : tie.Need-slice_bounds-numbers-end
slice_bounds-numbers-end c = search rules

slice_bounds-print_opened-end : tie.Need-slice_bounds-print_opened-end
slice_bounds-print_opened-end c = lent_length c.lent_to-count.result (needed (header_in c.args.file.now)) lent_limit c.lent_to-count.ensures

print_opened-requires : tie.Need-print_opened-requires
print_opened-requires c κs = search rules

shape_of-out : tie.Need-shape_of-out
shape_of-out c = search rules

returns : tie.Need-returns
returns c =
    c.print_opened.ensures ∙ printed_lent c.args.file.now c.args.out.now (sym c.too_long.ensures ∙ c.if-too_long.false) (lent_zeros c.lent_to-count.result (needed (header_in c.args.file.now)) lent_limit c.lent_to-count.ensures)

pub print_file_spec : {M : Type 1} → statement M
print_file_spec =
    tie.close
    (tie.spec too_long-requires refusal_text-requires shape_of-out-then-too_long returns-then-too_long lent_to-count-requires slice_bounds-numbers-end slice_bounds-print_opened-end print_opened-requires shape_of-out returns)
