-- The correlation modulo each prime, both combined, the work volumes zeroed.
use borrow.Author.Rules.{rules}
use mathlib.Core.Path.{◌≡◌, sym, ◌∙◌, ap, subst}
use mathlib.Core.List.{List}
use Prim.Native.Nat.{ℕ, ◌≤◌}
use native.Mathlib.Omega.{arith}
use lib.ListN.{length}
use Rattle.algebra.specs.cells.Cell.{P1}
use Rattle.numbers.specs.Value.{prime, IsModulus}
use Rattle.numbers.proofs.Primes.{first_modulus}
use Rattle.slices.specs.Pairs.{Below}
use Rattle.lengths.specs.Lengths.{scratch_length}
use Rattle.lengths.proofs.Scratch.{cleared_long, cleared_again}
use Rattle.cell.specs.Volume.{volume_length}
use Rattle.cell.proofs.VolumeLayout.{length_map, below_map}
use Rattle.correlation.specs.Steps.{axes_halves}
use Rattle.correlation.proofs.Restored.{combined_correlation}
use Rattle.correlation.proofs.Outcome.{zeros_as}
use Rattle.correlation.proofs.correlate_sound.Statement.{statement}
use Rattle.correlation.proofs.correlate_sound.Tie as tie

-- src/lib.rt:95:5
second_modulus : IsModulus 2
second_modulus = record { low = omega arith; high = omega arith }

-- the second work volume is as long as it was, after each of the two calls
second-once : (c : tie.After-slice_known-6-1) → length c.correlate_modulo.new.second ≡ volume_length P1 (axes_halves c.args.axes)
second-once c = omega (arith, c.requires.1.1.1)

second-twice : (c : tie.After-slice_known-9-1) → length c.correlate_modulo-2.new.second ≡ volume_length P1 (axes_halves c.args.axes)
second-twice c = omega (arith, second-once c.before.before.before.before.before.before.before.before.before.before)

correlate_modulo-requires : tie.Need-correlate_modulo-requires
correlate_modulo-requires c κs =
    ((first_modulus, c.requires.0.0), ((c.requires.1.0.0, c.requires.1.0.1), ((c.requires.1.1.0, c.requires.1.1.1), c.requires.0.2)))

-- src/lib.rt:96:5
correlate_modulo-requires-2 : tie.Need-correlate_modulo-requires-2
correlate_modulo-requires-2 c κs = (
  (second_modulus, c.requires.0.0),
  (
    (c.requires.1.0.0, c.requires.1.0.1),
    ((c.requires.1.1.2, omega (arith, c.requires.1.1.1)), subst (λ (v : List ℕ). scratch_length ≤ length v) (sym c.correlate_modulo.ensures.1) (cleared_long c.args.scratch.now)),
  ),
)

-- src/lib.rt:97:5
combine_all-requires : tie.Need-combine_all-requires
unfolding prime
combine_all-requires c κs =
    let h = axes_halves c.args.axes in
    let l1 = ap length c.correlate_modulo.ensures.0 ∙ length_map P1 h 1 _ in
    let l2 = ap length c.correlate_modulo-2.ensures.0 ∙ length_map P1 h 2 _ in (
      (subst (Below 86399) (sym c.correlate_modulo.ensures.0) (below_map P1 h 1 _), subst (Below 302399) (sym c.correlate_modulo-2.ensures.0) (below_map P1 h 2 _)),
      (l2 ∙ sym l1, c.requires.1.0.2 ∙ sym l1),
    )

-- src/lib.rt:98:5
zero-requires : tie.Need-zero-requires
zero-requires c κs = search rules

-- src/lib.rt:99:5
zero-requires-2 : tie.Need-zero-requires-2
zero-requires-2 c κs = search rules

-- src/lib.rt:100:5
zero-requires-3 : tie.Need-zero-requires-3
zero-requires-3 c κs = search rules

-- src/lib.rt:78:1
shape_of-output : tie.Need-shape_of-output
shape_of-output c = search rules

-- src/lib.rt:78:1
shape_of-work1 : tie.Need-shape_of-work1
shape_of-work1 c = search rules

-- src/lib.rt:78:1
shape_of-work2 : tie.Need-shape_of-work2
shape_of-work2 c = search rules

-- src/lib.rt:78:1
shape_of-work3 : tie.Need-shape_of-work3
shape_of-work3 c = search rules

-- src/lib.rt:78:1
shape_of-scratch : tie.Need-shape_of-scratch
shape_of-scratch c = search rules

-- src/lib.rt:78:1
returns : tie.Need-returns
returns c =
    let z3 = c.before.before in
    let z2 = z3.before.before.before.before in
    let z1 = z2.before.before.before.before in
    let co = z1.before in
    let a = co.args in
    let j = co.requires.0.0 in
    let h = axes_halves a.axes in
    let l1 = ap length co.correlate_modulo.ensures.0 ∙ length_map P1 h 1 _ in
    let l2 = ap length co.correlate_modulo-2.ensures.0 ∙ length_map P1 h 2 _ in (
      co.combine_all.ensures ∙ combined_correlation h (j.first.positive, j.second.positive, j.third.positive) a.a.now a.b.now co.requires.0.1 co.correlate_modulo.ensures.0 co.correlate_modulo-2.ensures.0,
      zeros_as _ (volume_length P1 h) z1.zero.ensures l1,
      zeros_as (length co.correlate_modulo-2.new.second) (volume_length P1 h) z2.zero-2.ensures (second-twice co.before.before.before.before.before.before),
      zeros_as _ (volume_length P1 h) z3.zero-3.ensures l2,
      cleared_again a.scratch.now co.correlate_modulo.ensures.1 co.correlate_modulo-2.ensures.1,
    )

pub correlate_sound_spec : {M : Type 1} → statement M
correlate_sound_spec =
    tie.close
    (tie.spec correlate_modulo-requires correlate_modulo-requires-2 combine_all-requires zero-requires zero-requires-2 zero-requires-3 shape_of-output shape_of-work1 shape_of-work2 shape_of-work3 shape_of-scratch returns)
