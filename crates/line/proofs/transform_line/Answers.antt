-- `transform_line`: the tables are those of the direction, the fold is the scratch's first part, and the line is the kind's.
use native.Mathlib.Omega.{arith}
use mathlib.Core.Path.{sym}
use Rattle.line.proofs.kinds.Dispatch.{prefix_length}
use Rattle.line.proofs.table.Directions.{tables_of_lem}
use Rattle.line.proofs.kinds.Tables.{line_tables}
use Rattle.line.proofs.Whole.{rest_of, whole_size, whole_list, whole_count, whole_result}
use Rattle.line.proofs.transform_line.Goals as goal

pub slice_bounds-fold-end-2 : goal.slice_bounds-fold-end-2
slice_bounds-fold-end-2 c = sym (prefix_length 5760 c.args.scratch.now (omega (arith, c.requires.scratch_fits)))

pub transform-requires : goal.transform-requires
transform-requires c =
    let a = c.requires in
    record {
      modulus = (a.modulus_is, a.kind_is, a.direction_is, line_tables c.args.kind (tables_of_lem a.modulus_is c.real_parts-re.ensures c.args.direction c.imaginary_parts-im.ensures c.half_tangents-tan.ensures));
      admitted_length = (whole_size a.size, whole_list a.size a.list);
      line_len = (whole_count a.size c.args.kind a.line_length, a.below);
      a_in_bounds = (omega (arith, prefix_length 5760 c.args.scratch.now (omega (arith, a.scratch_fits)), a.size.short, a.size.whole), omega (arith, a.size.short, a.size.whole));
    }

pub returns-clause-line_after : goal.returns-clause-line_after
returns-clause-line_after c = whole_result c.requires.size c.args.modulus c.args.kind c.args.direction c.args.line.now c.transform.ensures.line_after

pub returns-clause-scratch_unchanged : goal.returns-clause-scratch_unchanged
returns-clause-scratch_unchanged c = rest_of c.transform.new.fold c.args.scratch.now c.requires.scratch_fits (omega arith)
