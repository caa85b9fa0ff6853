-- Between the ends in P2₁2₁2₁ one image is stored, tried at h or at -h; else the images are tried.
use mathlib.Core.Path.{◌≡◌, refl, sym, ap, ◌∙◌, subst}
use mathlib.Core.Bool.{Bool, true, false, ◌&&◌}
use Prim.Native.Nat.{ℕ, ◌/◌}
use native.Mathlib.Omega.{arith}
use lib.Dec.{T, eqb}
use borrow.Author.Tests.{eqb-true}
use Rattle.algebra.specs.cells.Cell.{neg_i}
use Rattle.cell.specs.Volume.{group_of}
use Rattle.cell.specs.Consistency.{line_agrees}
use Rattle.cell.specs.Operations.{cell_halves, triple_of}
use Rattle.cell.specs.TestSteps.{image_agrees, mirrored}
use Rattle.volume.proofs.consistent.Interior.{inner_4, mirror_4}
use Rattle.volume.proofs.consistent.factor_test.factor_agrees.Goals as goal

-- three tests that all hold
settled : {A : Type 0} (n : ℕ) (y z : Bool) → (eqb n 4 && (y && z)) ≡ true → (n ≡ 4 → y ≡ true → z ≡ true → A) → A
settled n y z e f = by_cases (eqb n 4) y z e (λ x u w. f (eqb-true n 4 x) u w)
  where
    by_cases : {A : Type 0} (x y z : Bool) → (x && (y && z)) ≡ true → (x ≡ true → y ≡ true → z ≡ true → A) → A
    by_cases true true true e f = f refl refl refl
    by_cases true true false e f = absurd (subst T (sym e) tt)
    by_cases true false z e f = absurd (subst T (sym e) tt)
    by_cases false y z e f = absurd (subst T (sym e) tt)

-- one image is tried
pub returns-then-j-r : goal.returns-then-j-r
returns-then-j-r c =
    let a = cell_halves c.args.r.now.cell in
    settled c.args.r.now.cell.group c.between.result c.between-2.result c.if-r-between.true
    (λ e u z. let s = c.between.ensures u in let w = c.between-2.ensures z in
    c.mirrored_agrees.ensures
    ∙ ap (λ n. image_agrees (group_of n) a c.args.r.now.m c.args.r.now.volume.now (triple_of c.args.j) mirrored) e
    ∙ sym (inner_4 a c.args.r.now.m c.args.r.now.volume.now (triple_of c.args.j) s.0 s.1 w.0 w.1)
    ∙ ap (λ n. line_agrees (group_of n) a c.args.r.now.m c.args.r.now.volume.now (triple_of c.args.j)) (sym e))

-- beyond N1/2 that image was tried at -h
pub returns-else-j-r : goal.returns-else-j-r
returns-else-j-r c =
    let a = cell_halves c.args.r.now.cell in
    let j = triple_of c.args.j in
    settled c.args.r.now.cell.group c.between.result c.between-2.result c.if-r-between.true
    (λ e u z. let s = c.between.ensures u in let w = c.between-2.ensures z in
    sym (ap (λ n. line_agrees (group_of n) a c.args.r.now.m c.args.r.now.volume.now j) e
    ∙ mirror_4 a c.args.r.now.m c.args.r.now.volume.now j (omega (arith, c.requires.stored.h, c.args.r.now.whole.sizes.first.even)) s.0 s.1 w.0 w.1
    (ap (λ n. line_agrees (group_of n) a c.args.r.now.m c.args.r.now.volume.now (neg_i (c.args.r.now.cell.n1 / 2) j.0, j.1, j.2)) (sym e) ∙ c.requires.l_value (omega (arith, c.if-j-r.false)))))
