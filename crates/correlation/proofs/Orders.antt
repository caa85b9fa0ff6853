-- The order of the refusals, and what 28 says.
use mathlib.Core.Path.{◌≡◌, refl, sym, ◌∙◌, ap, subst}
use mathlib.Core.Logic.{◌↔◌, ⊎_elim}
use mathlib.Core.Bool.{Bool, true, false, not, ◌||◌}
use mathlib.Core.List.{List, [], ◌∷◌, ◌++◌}
use Prim.Native.Nat.{ℕ, zero, suc, ◌+◌, ◌*◌, ◌<◌, ◌≤◌}
use native.Mathlib.Nat.{mul-le-mul_left}
use native.Mathlib.Omega.{arith}
use lib.Dec.{ltb}
use lib.ListN.{length}
use lib.IntN.{ℤ, pos, nat_abs, ◌+ℤ◌}
use borrow.Author.Tests.{ltb-false, le-ltb, lt-ltb}
use Rattle.algebra.specs.ring.Ring.{sum}
use Rattle.algebra.specs.cells.Cell.{J, Inside, P1}
use Rattle.algebra.proofs.fourier.Sums.{sum_cong}
use Rattle.signed.specs.IntegerRing.{integers}
use Rattle.signed.proofs.IntegerRing.{integer_ring}
use Rattle.refusals.specs.Refusals.{Test, ◌⇒◌, first}
use Rattle.refusals.proofs.Orders.{avoided, refused_unless}
use Rattle.lengths.specs.Lengths.{scratch_length}
use Rattle.slices.proofs.Pairs.{lt_or_ge}
use Rattle.cell.specs.Volume.{volume_length}
use Rattle.header.specs.Header.{Header, half_lengths, axis_tests}
use Rattle.combined.specs.CombinedMap.{limit, count_of}
use Rattle.output.specs.Output.{Filled.not_written}
use Rattle.output.proofs.Answered.{fill_says}
use Rattle.correlation.specs.Correlation.{total_of, larger, over, over_cell, magnitudes, largest, exceeds, all_long, correlation_tests, Buffers, CorrelationOutcome, correlation_step}
use Rattle.correlation.specs.Orders.{magnitude_sum, Narrow, CorrelationRefusals}
use Rattle.correlation.proofs.Scans.{larger_is}
use Rattle.correlation.proofs.Folding.{over_cong, over_swap}
use Rattle.correlation.proofs.Limits.{count_most, sum_positive}
use Rattle.correlation.proofs.Tests.{or_none}

-- ---- the largest of some numbers, times M, is at most L where each of them is

larger_most : (M L a b : ℕ) → M * a ≤ L → M * b ≤ L → M * larger a b ≤ L
larger_most M L a b p q = ⊎_elim
    (λ (l : a < b). subst (λ (k : ℕ). M * k ≤ L) (sym (larger_is a b ∙ omega arith)) q)
    (λ (g : b ≤ a). subst (λ (k : ℕ). M * k ≤ L) (sym (larger_is a b ∙ omega arith)) p)
    (lt_or_ge a b)

over_larger : (M L n : ℕ) (f : ℕ → ℕ) → ((i : ℕ) → i < n → M * f i ≤ L) → M * over larger n f ≤ L
unfolding over
over_larger M L zero f e = omega arith
over_larger M L (suc n) f e = larger_most M L (over larger n f) (f n) (over_larger M L n f (λ i l. e i (omega arith))) (e n (omega arith))

largest_most : (M L : ℕ) (h : J) (v : List ℤ) → ((u : J) → Inside h u → M * nat_abs (count_of P1 h v u) ≤ L) → M * largest h v ≤ L
largest_most M L h v e = over_larger M L (2 * h.2) _ (λ z lz. over_larger M L (2 * h.0) _ (λ x lx. over_larger M L (2 * h.1) _ (λ y ly. e (x, y, z) (lx, ly, lz))))

-- ---- the sum of the magnitudes

magnitudes_sum : (h : J) (a : List ℤ) → magnitude_sum h a ≡ magnitudes h a
unfolding total_of
magnitudes_sum h a =
    ap nat_abs (
    sum_cong integer_ring (2 * h.0) _ _ (λ x lx. sum_cong integer_ring (2 * h.1) _ _ (λ y ly. sum_positive (2 * h.2) (λ z. part x y z)) ∙ sum_positive (2 * h.1) (λ y. over ◌+◌ (2 * h.2) (λ z. part x y z)))
    ∙ sum_positive (2 * h.0) (λ x. over ◌+◌ (2 * h.1) (λ y. over ◌+◌ (2 * h.2) (λ z. part x y z)))
    )
    ∙ over_cong ◌+◌ (2 * h.0) _ _ (λ x lx. over_swap (2 * h.1) (2 * h.2) (λ y z. part x y z))
    ∙ over_swap (2 * h.0) (2 * h.2) (λ x z. over ◌+◌ (2 * h.1) (λ y. part x y z))
  where
    part : ℕ → ℕ → ℕ → ℕ
    part x y z = nat_abs (count_of P1 h a (x, y, z))

-- ---- refusal 28

narrow : (h : J) (a b : List ℤ) → (exceeds h a b ≡ false) ↔ Narrow h a b
narrow h a b = (read, told)
  where
    read : exceeds h a b ≡ false → Narrow h a b
    read e =
        let p = or_none (ltb limit (largest h a)) _ e in
        let q = or_none (ltb limit (largest h b)) _ p.1 in
        record {
          first = λ u l. omega (arith, ltb-false limit (largest h a) p.0, count_most h a u l);
          second = λ u l. omega (arith, ltb-false limit (largest h b) q.0, count_most h b u l);
          products = λ u l. omega (arith, ltb-false limit (magnitudes h a * largest h b) q.1, mul-le-mul_left (magnitudes h a) (count_most h b u l), times (nat_abs (count_of P1 h b u)));
        }
      where
        times : (k : ℕ) → magnitude_sum h a * k ≡ magnitudes h a * k
        times k = ap (λ m. m * k) (magnitudes_sum h a)

    told : Narrow h a b → exceeds h a b ≡ false
    told n = λ i. le-ltb limit (largest h a) one i || (le-ltb limit (largest h b) two i || le-ltb limit (magnitudes h a * largest h b) three i)
      where
        one : largest h a ≤ limit
        one = omega (arith, largest_most 1 limit h a (λ u l. omega (arith, n.first u l)))

        two : largest h b ≤ limit
        two = omega (arith, largest_most 1 limit h b (λ u l. omega (arith, n.second u l)))

        three : magnitudes h a * largest h b ≤ limit
        three = largest_most (magnitudes h a) limit h b (λ u l. subst (λ (m : ℕ). m * nat_abs (count_of P1 h b u) ≤ limit) (magnitudes_sum h a) (n.products u l))

module _ (c : Header) (a b : List ℤ) (w : Buffers) where
  told : (k : ℕ) →
      (first (correlation_tests c a b (length w.output) (length w.work1) (length w.work2) (length w.work3) (length w.scratch)) ≡ suc k) ↔ ((correlation_step c a b w).answer ≡ not_written (suc k))
  unfolding correlation_step
  told = fill_says (λ (o : CorrelationOutcome). o.answer) _ _ (volume_length P1 (half_lengths c.lengths)) refl (λ n. refl)
      (first (correlation_tests c a b (length w.output) (length w.work1) (length w.work2) (length w.work3) (length w.scratch)))

  abbrev before_magnitude : List Test
  before_magnitude =
      axis_tests c ++ (not (all_long (volume_length P1 (half_lengths c.lengths)) (length a) (length b) (length w.output) (length w.work1) (length w.work2) (length w.work3)) ⇒ 6 ∷
      ltb (length w.scratch) scratch_length ⇒ 13 ∷ [])

pub correlation_refusals : CorrelationRefusals
correlation_refusals = record {
  ordered = λ c a b output work1 work2 work3 scratch. refl;
  magnitude = λ c a b w none.
      refused_unless (before_magnitude c a b w) [] (exceeds (half_lengths c.lengths) a b) 27 tt
      (correlation_step c a b w).answer not_written (told c a b w) tt (avoided not_written _ (before_magnitude c a b w) none) _
      (λ e. narrow (half_lengths c.lengths) a b);
}
