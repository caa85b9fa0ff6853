-- The numbers of the header and the parts that are its lists are those of the file.
use borrow.Author.Rules.{rules}
use native.Mathlib.Omega.{arith}
use Rattle.file_format.proofs.shape.Shapes.{Ordered, ordered, header_parts}
use Rattle.factor_file.proofs.Openings.{opened_by}
use Rattle.factor_file.proofs.open_file.open_header.Statement.{statement}
use Rattle.factor_file.proofs.open_file.open_header.Tie as tie

standing : (c : tie.After-struct_known-1) → Ordered c.before.before.before.before.before.args.file.now c.before.before.before.before.before.args.places
standing c = let s = c.before.before.before.before.before in ordered s.args.file.now s.args.places s.requires.0 s.requires.1

header_numbers-header-requires : tie.Need-header_numbers-header-requires
header_numbers-header-requires c κs = search rules

overflow_add-start1 : tie.Need-overflow_add-start1
overflow_add-start1 c = let o = standing c in omega arith

overflow_add-start2 : tie.Need-overflow_add-start2
overflow_add-start2 c = let o = standing c in omega arith

overflow_add-start3 : tie.Need-overflow_add-start3
overflow_add-start3 c = let o = standing c in omega arith

slice_bounds-open-count : tie.Need-slice_bounds-open-count
slice_bounds-open-count c = let o = standing c in omega arith

slice_bounds-open-start : tie.Need-slice_bounds-open-start
slice_bounds-open-start c = let o = standing c in omega arith

slice_bounds-open-end : tie.Need-slice_bounds-open-end
slice_bounds-open-end c = let o = standing c in omega arith

slice_bounds-open-count-2 : tie.Need-slice_bounds-open-count-2
slice_bounds-open-count-2 c = let o = standing c.before in omega arith

slice_bounds-open-start-2 : tie.Need-slice_bounds-open-start-2
slice_bounds-open-start-2 c = let o = standing c.before in omega arith

slice_bounds-open-end-2 : tie.Need-slice_bounds-open-end-2
slice_bounds-open-end-2 c = let o = standing c.before in omega arith

slice_bounds-open-count-3 : tie.Need-slice_bounds-open-count-3
slice_bounds-open-count-3 c = let o = standing c.before.before in omega arith

slice_bounds-open-start-3 : tie.Need-slice_bounds-open-start-3
slice_bounds-open-start-3 c = let o = standing c.before.before in omega arith

slice_bounds-open-end-3 : tie.Need-slice_bounds-open-end-3
slice_bounds-open-end-3 c = let o = standing c.before.before in omega arith

open-requires : tie.Need-open-requires
open-requires c κs = search rules

shape_of-volume : tie.Need-shape_of-volume
shape_of-volume c = search rules

returns : tie.Need-returns
returns c =
    let o = c.before.before in
    let p = o.before.before.before.before.before.before.before in
    let n = p.header_numbers-header.ensures in
    let start = p.before.before.before in
    let file = start.args.file.now in
    opened_by file start.args.volume.now o.«open».ensures n.modulus (header_parts file start.requires.0 n)

pub open_header_spec : {M : Type 1} → statement M
open_header_spec =
    tie.close
    (tie.spec header_numbers-header-requires overflow_add-start1 overflow_add-start2 overflow_add-start3 slice_bounds-open-count slice_bounds-open-start slice_bounds-open-end slice_bounds-open-count-2 slice_bounds-open-start-2 slice_bounds-open-end-2 slice_bounds-open-count-3 slice_bounds-open-start-3 slice_bounds-open-end-3 open-requires shape_of-volume returns)
