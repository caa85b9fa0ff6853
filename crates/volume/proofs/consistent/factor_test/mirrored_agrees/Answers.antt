-- The image is (-h, k, l), which is stored and between the ends of l as j is.
use mathlib.Core.Path.{◌≡◌, refl, sym, ◌∙◌, ap, subst}
use Prim.Native.Nat.{ℕ, ◌/◌, ◌<◌}
use native.Mathlib.Omega.{arith}
use lib.ListN.{get_or}
use Rattle.algebra.specs.cells.Cell.{J, Sym, one, full, span, image_of}
use Rattle.algebra.proofs.cells.CellTests.{stored_iff}
use Rattle.numbers.proofs.Values.{small_by}
use Rattle.cell.specs.Volume.{group_of}
use Rattle.cell.specs.declared.operations.Index.{Index}
use Rattle.cell.specs.declared.operations.UnitCell.{UnitCell}
use Rattle.cell.specs.Operations.{cell_group, cell_halves, triple_of, sym_of, Within}
use Rattle.cell.specs.TestSteps.{IsStored, image_agrees, mirrored}
use Rattle.cell.proofs.Tests.{true_iff}
use Rattle.cell.proofs.StoredFactors.{all_below_at_lem}
use Rattle.volume.proofs.consistent.TestLaws.{image_tested}
use Rattle.volume.proofs.consistent.Interior.{mirrored_k, mirrored_l}
use Rattle.volume.proofs.consistent.factor_test.mirrored_agrees.Goals as goal

-- the operation, the image by it, and that it is stored
is-mirrored : {n : ℕ} {s : Sym} → s ≡ get_or (full (group_of n)) 7 one → n ≡ 4 → s ≡ mirrored
is-mirrored e z = e ∙ ap (λ n. get_or (full (group_of n)) 7 one) z

is-image : (a j : J) {s : Sym} {i : J} → i ≡ image_of a s j → s ≡ mirrored → i ≡ image_of a mirrored j
is-image a j e f = e ∙ ap (λ s. image_of a s j) f

image-stored : (cell : UnitCell) (j i : Index) → IsStored cell j → Within cell i → triple_of i ≡ image_of (cell_halves cell) mirrored (triple_of j) → IsStored cell i
image-stored cell j i p w e =
    let k = mirrored_k (cell_halves cell) (triple_of j) e in
    record { h = w.h; k = omega (arith, k, p.k); l = subst (λ l. l < span (cell_group cell) (cell.n3 / 2)) (sym (mirrored_l (cell_halves cell) (triple_of j) e)) p.l }

pub between_value-x-requires-clause-j_value : goal.between_value-x-requires-clause-j_value
between_value-x-requires-clause-j_value c = all_below_at_lem c.args.r.now.below _

pub between_value-y-requires : goal.between_value-y-requires
between_value-y-requires c =
    let p = c.requires in
    let r = c.args.r.now in
    let i = is-image (cell_halves c.args.r.now.cell) (triple_of c.args.j) c.image-i.ensures.0 (is-mirrored c.operation_at-o.ensures c.requires.stored.1) in
    let l = mirrored_l (cell_halves c.args.r.now.cell) (triple_of c.args.j) i in
    record {
      modulus = (r.modulus, r.whole, image-stored _ c.args.j c.image-i.result p.stored.0 c.image-i.ensures.1 i, λ e. omega (arith, l, p.l_nonzero.0, e), λ e. omega (arith, l, p.l_nonzero.1, e));
      j_value = all_below_at_lem r.below _;
    }

pub implied-requires : goal.implied-requires
implied-requires c = (c.args.r.now.modulus, small_by _ _ c.between_value-x.ensures)

pub returns : goal.returns
returns c =
    let a = c.args in
    let r = a.r.now in
    let m = is-mirrored c.operation_at-o.ensures c.requires.stored.1 in
    let w = image-stored _ c.args.j c.image-i.result c.requires.stored.0 c.image-i.ensures.1 (is-image (cell_halves r.cell) (triple_of a.j) c.image-i.ensures.0 m) in
    image_tested (cell_group r.cell) (cell_halves r.cell) r.m r.volume.now (triple_of a.j) (sym_of c.operation_at-o.result) c.image-i.ensures.0 refl
    ((true_iff _).1 ((stored_iff (cell_group r.cell) (cell_halves r.cell) (triple_of c.image-i.result)).1 (w.k, w.l)))
    c.between_value-x.ensures c.between_value-y.ensures c.implied.ensures c.same.ensures
    ∙ ap (λ q. image_agrees (cell_group r.cell) (cell_halves r.cell) r.m r.volume.now (triple_of a.j) q) m
