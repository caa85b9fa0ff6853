-- The order of places: the identity leaves a place where it is; the Friedel mate comes before beyond N1/2, and later below it.
use mathlib.Core.Path.{◌≡◌, refl, ◌∙◌, ap, subst}
use mathlib.Core.Bool.{Bool, true, false, ◌&&◌, ◌||◌}
use Prim.Native.Nat.{ℕ, ◌*◌, ◌-◌, ◌<◌, ◌≤◌}
use native.Mathlib.Omega.{arith}
use lib.Dec.{T, ltb}
use borrow.Author.Tests.{lt-ltb, le-ltb, eq-eqb, ne_eqb, le-leb}
use Rattle.algebra.specs.cells.Cell.{J, Group, P1, one, friedel, full, image_of, neg_i, flip, every}
use Rattle.algebra.proofs.ring.Bool.{same_test, every_at}
use Rattle.algebra.proofs.cells.CellAxis.{neg_pos}
use Rattle.algebra.proofs.cells.CellGroup.{friedel_mem}
use Rattle.algebra.proofs.cells.CellSym.{image_one}
use Rattle.factor_file.specs.File.{no_later, is_lowest}

pub identity_no_later : (a j : J) → no_later j (image_of a one j) ≡ true
identity_no_later a j = ap (no_later j) (image_one a j) ∙ no_later_than_itself
  where
    same : (x : ℕ) → x ≤ x
    same x = omega arith

    no_later_than_itself : no_later j j ≡ true
    no_later_than_itself =
        let h = le-ltb j.0 j.0 (same j.0) in
        let h' = eq-eqb j.0 j.0 refl in
        let k = le-ltb j.1 j.1 (same j.1) in
        let k' = eq-eqb j.1 j.1 refl in
        let l = le-leb j.2 j.2 (same j.2) in
        λ i. h i || (h' i && (k i || (k' i && l i)))

pub upper_not_lowest : (g : Group) (a j : J) → a.0 < j.0 → j.0 < 2 * a.0 → is_lowest g a j ≡ false
unfolding image_of flip
upper_not_lowest g a j u v = same_test (is_lowest g a j) false (λ t. subst T mate_before (every_at (full g) (λ s. no_later j (image_of a s j)) friedel t (friedel_mem g))) (λ t. absurd t)
  where
    mate : neg_i a.0 j.0 ≡ 2 * a.0 - j.0
    mate = neg_pos a.0 j.0 (omega arith) v

    neither : (b c rest : Bool) → b ≡ false → c ≡ false → (b || (c && rest)) ≡ false
    neither b c rest e f = λ i. e i || (f i && rest)

    -- h alone decides
    mate_before : no_later j (image_of a friedel j) ≡ false
    mate_before = neither _ _ _ (le-ltb j.0 (neg_i a.0 j.0) (omega (arith, mate))) (ne_eqb j.0 (neg_i a.0 j.0) (λ e. omega (arith, mate, e)))

-- In P1 there is no other image.
pub lower_lowest : (a j : J) → 0 < j.0 → j.0 < a.0 → is_lowest P1 a j ≡ true
unfolding every image_of flip
lower_lowest a j u v = both (identity_no_later a j) (both mate_later refl)
  where
    both : {b c : Bool} → b ≡ true → c ≡ true → (b && c) ≡ true
    both e f = λ i. e i && f i

    either : (b rest : Bool) → b ≡ true → (b || rest) ≡ true
    either b rest e = λ i. e i || rest

    mate : neg_i a.0 j.0 ≡ 2 * a.0 - j.0
    mate = neg_pos a.0 j.0 u (omega arith)

    -- h alone decides
    mate_later : no_later j (image_of a friedel j) ≡ true
    mate_later = either _ _ (lt-ltb j.0 (neg_i a.0 j.0) (omega (arith, mate)))
