-- The ends are one number each of pair 0.
use mathlib.Core.Path.{◌≡◌, sym, ◌∙◌, ap, subst}
use native.Mathlib.Omega.{arith}
use native.Mathlib.Decide.{ℕ_discrete}
use mathlib.Core.List.{List}
use Prim.Native.Nat.{ℕ}
use Rattle.algebra.specs.cells.Cell.{J, Group}
use Rattle.numbers.specs.declared.Pair.{Pair}
use Rattle.slices.specs.Pairs.{at}
use Rattle.cell.specs.Volume.{pair_place}
use Rattle.cell.specs.Operations.{cell_group, cell_halves}
use Rattle.cell.specs.TestSteps.{PairInside}
use Rattle.cell.proofs.LineKinds.{alternating_half}
use Rattle.cell.proofs.StoredFactors.{screw_reads, first_inside, middle_inside, first_value, second_value_even, second_value_odd, middle_value}
use Rattle.volume.proofs.stored.alternating_factor.Goals as goal

-- the pair is inside, whether its number is 0 or l
by_number : (P : ℕ → Type 0) {l half w : ℕ} → (l ≡ half → w ≡ 0) × ((l ≡ half → ⊥) → w ≡ l) → P 0 → ((l ≡ half → ⊥) → P l) → P w
by_number P {l} {half} {w} r x y = go (ℕ_discrete l half)
  where
    go : Dec (l ≡ half) → P w
    go (yes e) = subst P (sym (r.0 e)) x
    go (no z) = subst P (sym (r.1 z)) (y z)

-- the pair, once its number is known
read : (g : Group) (a : J) (v : List ℕ) (h k : ℕ) {q w : ℕ} {x : Pair} → x ≡ at v (pair_place g a q h k) → q ≡ w → x ≡ at v (pair_place g a w h k)
read g a v h k e f = e ∙ ap (λ w. at v (pair_place g a w h k)) f

pub pair_at-x-requires : goal.pair_at-x-requires
pair_at-x-requires c =
    let a = c.args in
    by_number (λ w. PairInside a.cell a.volume.now w a.j.h a.j.k) c.alternating_pair.ensures (first_inside c.requires.0 c.requires.1 c.requires.2) (middle_inside c.requires.0 c.requires.1 c.requires.2)

pub returns-then-j-eq0 : goal.returns-then-j-eq0
returns-then-j-eq0 c m =
    let low = c.requires.0.sizes.third.low in
    let z = c.if-j-eq0.true in
    screw_reads (cell_halves c.args.cell) m _ _ (cell_group c.args.cell) c.requires.2 (first_value (cell_halves c.args.cell) (omega (arith, low)) m _ _ z (read (cell_group c.args.cell) (cell_halves c.args.cell) c.args.volume.now c.args.j.h c.args.j.k c.pair_at-x.ensures (c.alternating_pair.ensures.1 (λ e. omega (arith, low, z, e)) ∙ z)))

pub returns-then-half-eq0 : goal.returns-then-half-eq0
returns-then-half-eq0 c m =
    screw_reads (cell_halves c.args.cell) m _ _ (cell_group c.args.cell) c.requires.2 (second_value_even (cell_halves c.args.cell) (omega (arith, c.requires.0.sizes.third.low)) m _ _ c.if-j-eq0.false c.if-j-half.true (read (cell_group c.args.cell) (cell_halves c.args.cell) c.args.volume.now c.args.j.h c.args.j.k c.pair_at-x.ensures (c.alternating_pair.ensures.0 c.if-j-half.true)) c.if-half-eq0.true)

pub returns-else-half-eq0 : goal.returns-else-half-eq0
returns-else-half-eq0 c m =
    screw_reads (cell_halves c.args.cell) m _ _ (cell_group c.args.cell) c.requires.2 (second_value_odd (cell_halves c.args.cell) (omega (arith, c.requires.0.sizes.third.low)) m _ _ c.if-j-eq0.false c.if-j-half.true (read (cell_group c.args.cell) (cell_halves c.args.cell) c.args.volume.now c.args.j.h c.args.j.k c.pair_at-x.ensures (c.alternating_pair.ensures.0 c.if-j-half.true)) c.if-half-eq0.false)

pub returns-else-j-half : goal.returns-else-j-half
returns-else-j-half c m =
    screw_reads (cell_halves c.args.cell) m _ _ (cell_group c.args.cell) c.requires.2 (middle_value (cell_halves c.args.cell) (omega (arith, c.requires.0.sizes.third.low)) m _ _ c.if-j-eq0.false c.if-j-half.false (alternating_half (cell_group c.args.cell) c.args.j.h c.requires.2 c.requires.1.l) (read (cell_group c.args.cell) (cell_halves c.args.cell) c.args.volume.now c.args.j.h c.args.j.k c.pair_at-x.ensures (c.alternating_pair.ensures.1 c.if-j-half.false)))
