-- The numbers of the header and the parts that are its lists are those of the file.
use borrow.Author.Rules.{rules}
use borrow.Author.Tests.{le-leb, lt-leb}
use mathlib.Core.Path.{◌≡◌, sym, ◌∙◌, ap, subst}
use mathlib.Core.Bool.{false}
use Prim.Native.Nat.{◌<◌, ◌≤◌}
use native.Mathlib.Omega.{arith}
use lib.Dec.{leb}
use Rattle.refusals.specs.Refusals.{first}
use Rattle.refusals.proofs.Tests.{stop, pass, not_t, not_f}
use Rattle.numbers.specs.Value.{is_modulus}
use Rattle.header.specs.Header.{axis_tests}
use Rattle.file_format.specs.Format.{modulus_in, header_in}
use Rattle.file_format.proofs.shape.Shapes.{Ordered, ordered, header_parts}
use Rattle.faults.proofs.check_header.Statement.{statement}
use Rattle.faults.proofs.check_header.Tie as tie

standing : (c : tie.After-struct_known-2-1) → Ordered c.args.file.now c.args.places
standing c = ordered c.args.file.now c.args.places c.requires.0 c.requires.1

header_numbers-header-requires : tie.Need-header_numbers-header-requires
header_numbers-header-requires c κs = search rules

returns-then-cell-ge5 : tie.Need-returns-then-cell-ge5
returns-then-cell-ge5 c = stop _ (le-leb _ _ (subst (λ g. 5 ≤ g) c.header_numbers-header.ensures.group c.if-cell-ge5.true))

is_modulus-requires : tie.Need-is_modulus-requires
is_modulus-requires c κs = search rules

-- the group is known, and what was found of the modulus
known : (c : tie.After-is_modulus) → let file = c.args.file.now in (leb 5 (header_in file).group ≡ false) × (is_modulus (modulus_in file) ≡ c.is_modulus.result)
known c =
    let n = c.header_numbers-header.ensures in
    (lt-leb _ _ (subst (λ g. g < 5) n.group c.if-cell-ge5.false), sym (c.is_modulus.ensures ∙ ap is_modulus n.modulus))

returns-then-not-is_modulus : tie.Need-returns-then-not-is_modulus
returns-then-not-is_modulus c = let k = known c.before in pass 8 _ k.0 (stop _ (not_f _ (k.1 ∙ c.if-not-is_modulus.true)))

overflow_add-start1 : tie.Need-overflow_add-start1
overflow_add-start1 c = let o = standing c in omega arith

overflow_add-start2 : tie.Need-overflow_add-start2
overflow_add-start2 c = let o = standing c in omega arith

overflow_add-start3 : tie.Need-overflow_add-start3
overflow_add-start3 c = let o = standing c in omega arith

slice_bounds-check_header-count : tie.Need-slice_bounds-check_header-count
slice_bounds-check_header-count c = let o = standing c in omega arith

slice_bounds-check_header-start : tie.Need-slice_bounds-check_header-start
slice_bounds-check_header-start c = let o = standing c in omega arith

slice_bounds-check_header-end : tie.Need-slice_bounds-check_header-end
slice_bounds-check_header-end c = let o = standing c in omega arith

slice_bounds-check_header-count-2 : tie.Need-slice_bounds-check_header-count-2
slice_bounds-check_header-count-2 c = let o = standing c.before in omega arith

slice_bounds-check_header-start-2 : tie.Need-slice_bounds-check_header-start-2
slice_bounds-check_header-start-2 c = let o = standing c.before in omega arith

slice_bounds-check_header-end-2 : tie.Need-slice_bounds-check_header-end-2
slice_bounds-check_header-end-2 c = let o = standing c.before in omega arith

slice_bounds-check_header-count-3 : tie.Need-slice_bounds-check_header-count-3
slice_bounds-check_header-count-3 c = let o = standing c.before.before in omega arith

slice_bounds-check_header-start-3 : tie.Need-slice_bounds-check_header-start-3
slice_bounds-check_header-start-3 c = let o = standing c.before.before in omega arith

slice_bounds-check_header-end-3 : tie.Need-slice_bounds-check_header-end-3
slice_bounds-check_header-end-3 c = let o = standing c.before.before in omega arith

check_header-requires : tie.Need-check_header-requires
check_header-requires c κs = search rules

returns : tie.Need-returns
returns c =
    let t = c.before.before.before.before.before in
    let k = known t.before in
    pass 8 _ k.0 (pass 26 _ (not_t _ (k.1 ∙ t.if-not-is_modulus.false)) (c.check_header.ensures ∙ ap (λ h. first (axis_tests h)) (header_parts t.args.file.now t.requires.0 t.header_numbers-header.ensures)))

pub check_header_spec : {M : Type 1} → statement M
check_header_spec =
    tie.close
    (tie.spec header_numbers-header-requires returns-then-cell-ge5 is_modulus-requires returns-then-not-is_modulus overflow_add-start1 overflow_add-start2 overflow_add-start3 slice_bounds-check_header-count slice_bounds-check_header-start slice_bounds-check_header-end slice_bounds-check_header-count-2 slice_bounds-check_header-start-2 slice_bounds-check_header-end-2 slice_bounds-check_header-count-3 slice_bounds-check_header-start-3 slice_bounds-check_header-end-3 check_header-requires returns)
