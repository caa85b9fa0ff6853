-- Nothing depends on the numbers behind the rows: the tests, and the sums at every shift, are those of any maps with the same points.
use mathlib.Core.Path.{◌≡◌, ap, ap₂}
use mathlib.Core.Bool.{Bool, not, ◌||◌}
use mathlib.Core.List.{List, [], ◌∷◌, ◌++◌}
use Prim.Native.Nat.{ℕ, ◌+◌, ◌*◌}
use lib.Dec.{ltb}
use lib.ListN.{length, replicate}
use lib.IntN.{ℤ, nat_abs, ◌*ℤ◌}
use Rattle.algebra.specs.cells.Cell.{J, Inside, P1}
use Rattle.algebra.proofs.fourier.Sums.{sum_cong}
use Rattle.signed.proofs.IntegerRing.{integer_ring}
use Rattle.refusals.specs.Refusals.{◌⇒◌, first, accepted}
use Rattle.lengths.specs.Lengths.{scratch_length, cleared}
use Rattle.cell.specs.Volume.{volume_length}
use Rattle.header.specs.Header.{Header, half_lengths, axis_tests}
use Rattle.combined.specs.CombinedMap.{limit, count_of, SamePoints, pack_signed}
use Rattle.output.specs.Output.{Filled.written, Filled.not_written}
use Rattle.correlation.specs.Correlation.{shifted_by, total_of, correlation_at, correlation, larger, over_cell, exceeds, all_long, Buffers, CorrelationOutcome, correlation_step}
use Rattle.correlation.specs.Demands.{RowEndsUnread}
use Rattle.correlation.proofs.Limits.{shifted_inside}
use Rattle.correlation.proofs.Folding.{over_cong}

module _ (h : J) where
  -- what is taken together of the magnitudes
  same_over : (op : ℕ → ℕ → ℕ) (v w : List ℤ) → SamePoints P1 h v w → over_cell op h (λ u. nat_abs (count_of P1 h v u)) ≡ over_cell op h (λ u. nat_abs (count_of P1 h w u))
  same_over op v w e = over_cong op (2 * h.2) _ _ (λ z lz. over_cong op (2 * h.0) _ _ (λ x lx. over_cong op (2 * h.1) _ _ (λ y ly. ap nat_abs (e (x, y, z) (lx, ly, lz)))))

  module _ (a a' b b' : List ℤ) (ea : SamePoints P1 h a a') (eb : SamePoints P1 h b b') where
    pub same_exceeds : exceeds h a b ≡ exceeds h a' b'
    same_exceeds = λ i. ltb limit (same_over larger a a' ea i) || (ltb limit (same_over larger b b' eb i) || ltb limit (same_over ◌+◌ a a' ea i * same_over larger b b' eb i))

    same_at : (s : J) → correlation_at h a b s ≡ correlation_at h a' b' s
    unfolding correlation_at total_of
    same_at s = sum_cong integer_ring (2 * h.0) _ _ (λ x lx. sum_cong integer_ring (2 * h.1) _ _ (λ y ly. sum_cong integer_ring (2 * h.2) _ _ (λ z lz.
        ap₂ ◌*ℤ◌ (ea (x, y, z) (lx, ly, lz)) (eb (shifted_by h (x, y, z) s) (shifted_inside h (x, y, z) s (lx, ly, lz))))))

    pub same_correlation : correlation h a b ≡ correlation h a' b'
    same_correlation = λ i. pack_signed P1 h (λ x y z. same_at (x, y, z) i)

pub row_ends_unread : RowEndsUnread
unfolding correlation_step
row_ends_unread c a a' b b' w la lb ea eb =
    let h = half_lengths c.lengths in
    let n = volume_length P1 h in
    λ i. accepted {O = CorrelationOutcome}
    (first (axis_tests c ++ (not (all_long n (la i) (lb i) (length w.output) (length w.work1) (length w.work2) (length w.work3)) ⇒ 6 ∷ ltb (length w.scratch) scratch_length ⇒ 13 ∷ same_exceeds h a a' b b' ea eb i ⇒ 28 ∷ [])))
    (record { answer = written n; buffers = record { output = same_correlation h a a' b b' ea eb i; work1 = replicate n 0; work2 = replicate n 0; work3 = replicate n 0; scratch = cleared w.scratch } })
    (λ k. record { answer = not_written k; buffers = w })
