-- What the turns along l leave, and those along h: the sums over l of the factors, and the sums over h of these.
use mathlib.Core.Path.{◌≡◌, sym, ◌∙◌, ap}
use mathlib.Core.List.{List}
use Prim.Native.Nat.{ℕ, ◌+◌, ◌*◌, ◌/◌, ◌<◌, ◌≤◌}
use native.Mathlib.Omega.{arith}
use Rattle.algebra.specs.ring.Ring.{dft}
use Rattle.algebra.specs.cells.Cell.{J, Group, Cell}
use Rattle.algebra.specs.cells.CellSteps.{after_l, after_h}
use Rattle.algebra.proofs.ring.Laws.{along}
use Rattle.numbers.specs.Value.{Value, field, pair_of}
use Rattle.roots.specs.Root.{root_of}
use Rattle.slices.specs.Pairs.{at}
use Rattle.line.proofs.kinds.Axes.{axis_laws}
use Rattle.cell.specs.Volume.{layers, rows, pair_place, volume_of, pack_factors, axis}
use Rattle.cell.specs.Operations.{halves_of}
use Rattle.cell.proofs.VolumeLayout.{at_volume}
use Rattle.volume_transform.specs.Axes.{along_l, along_h, job_turn}
use Rattle.volume_transform.specs.Turns.{turns}
use Rattle.volume_transform.specs.AxisSums.{sum_over_l, sum_over_hl, pair_after, Synthesised, AxisSums}
use Rattle.volume_transform.proofs.sums.PassLaws.{pass_l, pass_h}
use Rattle.volume_transform.proofs.sums.Turns.{turns_add}
use Rattle.volume_transform.proofs.sums.Whole.{run_l, run_h}

module _ (g : Group) (m n1 n2 n3 : ℕ) (F : Cell (Value m)) (s : Synthesised g m n1 n2 n3 F) where
  abbrev a : J
  a = halves_of n1 n2 n3

  abbrev over_l : Cell (Value m)
  over_l = after_l (field m) (axis m a.2) F

  abbrev over_hl : Cell (Value m)
  over_hl = after_h (field m) (axis m a.0) over_l

  abbrev start : List ℕ
  start = pack_factors g a m F

  after_l_lem : turns (job_turn g a m 0) 0 (along_l g a).count start ≡ volume_of g a (λ w h k. pair_of (over_l h k w))
  after_l_lem = run_l g a m 0 start ∙ pass_l g a m (axis_laws m s.modulus s.first) (axis_laws m s.modulus s.second) (axis_laws m s.modulus s.third) F s.obeys

  after_h_lem : turns (job_turn g a m 0) 0 ((along_l g a).count + (along_h g a).count) start ≡ volume_of g a (λ w x k. pair_of (over_hl x k w))
  after_h_lem =
      turns_add (job_turn g a m 0) 0 (along_l g a).count (along_h g a).count start
      ∙ along (λ j. turns (job_turn g a m 0) j (along_h g a).count (turns (job_turn g a m 0) 0 (along_l g a).count start)) (0 + (along_l g a).count) (along_l g a).count (omega arith)
      ∙ ap (turns (job_turn g a m 0) (along_l g a).count (along_h g a).count) after_l_lem
      ∙ run_h g a m 0 _
      ∙ pass_h g a m (axis_laws m s.modulus s.first) (axis_laws m s.modulus s.second) (axis_laws m s.modulus s.third) over_l

  -- the sums over N3 and N1 values
  sum_l : (h k w : ℕ) → over_l h k w ≡ sum_over_l g m n1 n2 n3 F h k w
  unfolding after_l dft
  sum_l h k w = ap (λ n. dft (field m) n (root_of m n) (F h k) w) s.third.whole

  sum_hl : (x k w : ℕ) → over_hl x k w ≡ sum_over_hl g m n1 n2 n3 F x k w
  unfolding after_h dft
  sum_hl x k w =
      ap (λ n. dft (field m) n (root_of m n) (λ h. over_l h k w) x) s.first.whole
      ∙ λ i. dft (field m) n1 (root_of m n1) (λ h. sum_l h k w i) x

  -- how many lines there are
  count_l : n1 * (n2 / 2 + 1) ≡ (along_l g a).count
  count_l = ap (λ n. n * (n2 / 2 + 1)) (sym s.first.whole) ∙ omega arith

  count_h : n1 * (n2 / 2 + 1) + layers g a * (n2 / 2 + 1) ≡ (along_l g a).count + (along_h g a).count
  count_h = ap (λ n. n + layers g a * (n2 / 2 + 1)) count_l ∙ omega arith

  module _ (w h k : ℕ) (lw : w < layers g a) (lh : h < n1) (lk : k ≤ n2 / 2) where
    in_row : h < rows g a
    in_row = omega (arith, s.first.whole)

    sums_l : pair_after g m n1 n2 n3 F (n1 * (n2 / 2 + 1)) w h k ≡ pair_of (sum_over_l g m n1 n2 n3 F h k w)
    sums_l =
        ap (λ n. pair_after g m n1 n2 n3 F n w h k) count_l
        ∙ ap (λ v. at v (pair_place g a w h k)) after_l_lem
        ∙ at_volume g a (λ w h k. pair_of (over_l h k w)) w h k lw in_row (omega (arith, lk))
        ∙ ap pair_of (sum_l h k w)

    sums_h : pair_after g m n1 n2 n3 F (n1 * (n2 / 2 + 1) + layers g a * (n2 / 2 + 1)) w h k ≡ pair_of (sum_over_hl g m n1 n2 n3 F h k w)
    sums_h =
        ap (λ n. pair_after g m n1 n2 n3 F n w h k) count_h
        ∙ ap (λ v. at v (pair_place g a w h k)) after_h_lem
        ∙ at_volume g a (λ w x k. pair_of (over_hl x k w)) w h k lw in_row (omega (arith, lk))
        ∙ ap pair_of (sum_hl h k w)

pub axis_sums : AxisSums
axis_sums = record {
  left = λ g m n1 n2 n3 F s. record { along_l_lem = sums_l g m n1 n2 n3 F s; along_h_lem = sums_h g m n1 n2 n3 F s };
}
