-- On the line, on the next line, or on the next plane.
use borrow.Author.Rules.{rules}
use Rattle.factor_file.proofs.file.Walks.{next_on_line, next_on_plane, next_in_cell}
use Rattle.factor_file.proofs.file.records.next_place.Statement.{statement}
use Rattle.factor_file.proofs.file.records.next_place.Tie as tie

overflow_add-j : tie.Need-overflow_add-j
overflow_add-j c = search rules

overflow_add-result : tie.Need-overflow_add-result
overflow_add-result c = search rules

overflow_add-j-else-j-cell : tie.Need-overflow_add-j-else-j-cell
overflow_add-j-else-j-cell c = search rules

overflow_add-result-then-j-cell-2 : tie.Need-overflow_add-result-then-j-cell-2
overflow_add-result-then-j-cell-2 c = search rules

overflow_add-result-else-j-cell-2 : tie.Need-overflow_add-result-else-j-cell-2
overflow_add-result-else-j-cell-2 c = search rules

returns-then-j-cell : tie.Need-returns-then-j-cell
returns-then-j-cell c = let s = c.before.before.before.before in let w = s.requires.1 in next_on_line s.args.cell s.args.j w.h w.k w.l c.before.if-j-cell.true

returns-then-j-cell-2 : tie.Need-returns-then-j-cell-2
returns-then-j-cell-2 c =
    let t = c.before.before.before.before in
    let s = t.before.before.before in
    let w = s.requires.1 in
    next_on_plane s.args.cell s.args.j w.h w.k w.l t.if-j-cell.false c.before.if-j-cell-2.true

returns-else-j-cell-2 : tie.Need-returns-else-j-cell-2
returns-else-j-cell-2 c =
    let t = c.before.before.before.before in
    let s = t.before.before.before in
    let w = s.requires.1 in
    next_in_cell s.args.cell s.args.j w.h w.k w.l t.if-j-cell.false c.before.if-j-cell-2.false

pub next_place_spec : {M : Type 1} → statement M
next_place_spec =
    tie.close (tie.spec overflow_add-j overflow_add-result overflow_add-j-else-j-cell overflow_add-result-then-j-cell-2 overflow_add-result-else-j-cell-2 returns-then-j-cell returns-then-j-cell-2 returns-else-j-cell-2)
