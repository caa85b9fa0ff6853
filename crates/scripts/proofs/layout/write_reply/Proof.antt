-- Three stores, one after the other; 64 bits keep each number as it is.
use borrow.Author.Rules.{rules}
use mathlib.Core.Path.{◌≡◌, ◌∙◌}
use Prim.Native.Nat.{◌+◌, ◌*◌}
use native.Mathlib.Omega.{arith}
use lib.ListN.{set, length-set}
use mir.Syntax.{w64}
use mir.Val.{to_z, of_z}
use mir.ValLaws.{to_z-of_z, to_z_pos}
use Rattle.signed.specs.Integers.{pos}
use Rattle.scripts.proofs.layout.Placed.{placed_three}
use Rattle.scripts.proofs.layout.write_reply.Statement.{statement}
use Rattle.scripts.proofs.layout.write_reply.Tie as tie

overflow_mul-at : tie.Need-overflow_mul-at
overflow_mul-at c = search rules

overflow_cast-number : tie.Need-overflow_cast-number
overflow_cast-number c = search rules

offset_bounds-answers-at : tie.Need-offset_bounds-answers-at
offset_bounds-answers-at c = search rules

bounds-answers-at : tie.Need-bounds-answers-at
bounds-answers-at c = search rules

overflow_add-x : tie.Need-overflow_add-x
overflow_add-x c = search rules

offset_bounds-answers-at-2 : tie.Need-offset_bounds-answers-at-2
offset_bounds-answers-at-2 c = search rules

bounds-answers-at-2 : tie.Need-bounds-answers-at-2
bounds-answers-at-2 c = simp length-set (omega arith)

overflow_add-y : tie.Need-overflow_add-y
overflow_add-y c = search rules

offset_bounds-answers-at-3 : tie.Need-offset_bounds-answers-at-3
offset_bounds-answers-at-3 c = search rules

bounds-answers-at-3 : tie.Need-bounds-answers-at-3
bounds-answers-at-3 c = simp length-set (omega arith)

shape_of-answers : tie.Need-shape_of-answers
shape_of-answers c = search rules

returns : tie.Need-returns
returns c =
    let a = c.before.before.before.args in
    let l = a.answers.now in
    let k = 3 * a.i in
    let n : to_z w64 a.reply.number ≡ pos a.reply.number = to_z_pos w64 a.reply.number (omega (arith, c.before.before.struct_known-1.given.0)) in
    let x = to_z-of_z w64 a.reply.x (record { sfits = c.struct_told-2-1.given.1.0.1 }) in
    let y = to_z-of_z w64 a.reply.y (record { sfits = c.struct_told-2-1.given.1.1.0.1 }) in
    (λ i. set (set (set l k (n i)) (k + 1) (x i)) (k + 2) (y i)) ∙ placed_three l k (pos a.reply.number) a.reply.x a.reply.y (omega arith)

pub write_reply_spec : {M : Type 1} → statement M
write_reply_spec =
    tie.close
    (tie.spec overflow_mul-at overflow_cast-number offset_bounds-answers-at bounds-answers-at overflow_add-x offset_bounds-answers-at-2 bounds-answers-at-2 overflow_add-y offset_bounds-answers-at-3 bounds-answers-at-3 shape_of-answers returns)
