-- The six numbers, read one after another.
use borrow.Author.Rules.{rules}
use mathlib.Core.Path.{refl}
use Rattle.scripts.proofs.layout.numbers_at.Statement.{statement}
use Rattle.scripts.proofs.layout.numbers_at.Tie as tie

overflow_mul-at : tie.Need-overflow_mul-at
overflow_mul-at c = search rules

offset_bounds-script-at : tie.Need-offset_bounds-script-at
offset_bounds-script-at c = search rules

bounds-script-at : tie.Need-bounds-script-at
bounds-script-at c = search rules

overflow_add-result : tie.Need-overflow_add-result
overflow_add-result c = search rules

offset_bounds-script-at-2 : tie.Need-offset_bounds-script-at-2
offset_bounds-script-at-2 c = search rules

bounds-script-at-2 : tie.Need-bounds-script-at-2
bounds-script-at-2 c = search rules

overflow_add-result-2 : tie.Need-overflow_add-result-2
overflow_add-result-2 c = search rules

offset_bounds-script-at-3 : tie.Need-offset_bounds-script-at-3
offset_bounds-script-at-3 c = search rules

bounds-script-at-3 : tie.Need-bounds-script-at-3
bounds-script-at-3 c = search rules

overflow_add-result-3 : tie.Need-overflow_add-result-3
overflow_add-result-3 c = search rules

offset_bounds-script-at-4 : tie.Need-offset_bounds-script-at-4
offset_bounds-script-at-4 c = search rules

bounds-script-at-4 : tie.Need-bounds-script-at-4
bounds-script-at-4 c = search rules

overflow_add-result-4 : tie.Need-overflow_add-result-4
overflow_add-result-4 c = search rules

offset_bounds-script-at-5 : tie.Need-offset_bounds-script-at-5
offset_bounds-script-at-5 c = search rules

bounds-script-at-5 : tie.Need-bounds-script-at-5
bounds-script-at-5 c = search rules

overflow_add-result-5 : tie.Need-overflow_add-result-5
overflow_add-result-5 c = search rules

offset_bounds-script-at-6 : tie.Need-offset_bounds-script-at-6
offset_bounds-script-at-6 c = search rules

bounds-script-at-6 : tie.Need-bounds-script-at-6
bounds-script-at-6 c = search rules

returns : tie.Need-returns
returns c = refl

pub numbers_at_spec : {M : Type 1} → statement M
numbers_at_spec =
    tie.close
    (tie.spec overflow_mul-at offset_bounds-script-at bounds-script-at overflow_add-result offset_bounds-script-at-2 bounds-script-at-2 overflow_add-result-2 offset_bounds-script-at-3 bounds-script-at-3 overflow_add-result-3 offset_bounds-script-at-4 bounds-script-at-4 overflow_add-result-4 offset_bounds-script-at-5 bounds-script-at-5 overflow_add-result-5 offset_bounds-script-at-6 bounds-script-at-6 returns)
