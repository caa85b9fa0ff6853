-- The power of the factors over their stored pairs: a line by its kind, the columns k and -k by Friedel's rule.
use mathlib.Core.Path.{◌≡◌, refl, sym, ◌∙◌, ap, ap₂, subst}
use mathlib.Core.Bool.{Bool, true, false, cond}
use mathlib.Core.List.{List}
use Prim.Native.Nat.{ℕ, zero, suc, ◌+◌, ◌*◌, ◌-◌, ◌<◌, ◌≤◌}
use native.Mathlib.Omega.{arith}
use lib.ListN.{length}
use borrow.Author.Tests.{le-leb, lt-leb}
use Rattle.algebra.specs.ring.Ring.{sum}
use Rattle.algebra.specs.fourier.Halves.{doubled, between}
use Rattle.algebra.specs.lines.Kinds.{Kind.plain, Kind.alternating, Kind.symmetric, Kind.antisymmetric}
use Rattle.algebra.specs.cells.Cell.{J, Group, P1, P2₁, Pm, Pa, P2₁2₁2₁, planes, neg_i, flip}
use Rattle.algebra.specs.cells.CellPack.{even}
use Rattle.algebra.proofs.ring.Laws.{along}
use Rattle.algebra.proofs.fourier.Sums.{sum_cong, sum_swap, sum_blocks}
use Rattle.algebra.proofs.cells.CellAxis.{neg_pos}
use Rattle.algebra.proofs.cells.CellTests.{Positive}
use Rattle.numbers.specs.Value.{prime, Residue, Value, ring, field, value_of}
use Rattle.numbers.proofs.Residues.{res_ring}
use Rattle.slices.specs.Pairs.{at, Below, values_of}
use Rattle.cell.specs.Volume.{rotated, over_i, rows, columns, layers, pair_place, volume_length, whole_line, line_in, factors_in}
use Rattle.cell.specs.Consistency.{consistent_factors}
use Rattle.cell.proofs.LineReading.{read_line, read_plain, alternating_first, alternating_middle, alternating_low, read_symmetric, read_antisymmetric, mirror_alternating, mirror_symmetric, mirror_antisymmetric}
use Rattle.cell.proofs.Reading.{pairs_in, EmptyEnds, empty_ends_lem}
use Rattle.cell.proofs.Consistency.{consistent_read}
use Rattle.power.specs.Power.{factor_power}
use Rattle.power.specs.PowerSteps.{layer_twice, square_at, squares, row_power, layer_power, stored_power}
use Rattle.algebra.proofs.fourier.Halves.{doubled_sum, half_ends, ends_and_between, whole_ends, sum_mirror, sum_flip}
use Rattle.algebra.proofs.ring.Norms.{norm, norm_conj_product, norm_conj, norm_neg, norm_over_i, norm_signed, norm_parts}
use Rattle.power.proofs.MapPower.{sum_rotate, real_cell}

-- ---- one line, by its kind: q w is the value of its pair w

module _ (m c : ℕ) (q : ℕ → Value m) where
  abbrev normed : ℕ → Residue m
  normed w = norm (ring m) (q w)

  plain_norms : sum (ring m) (2 * c) (λ l. norm (ring m) (read_line m c plain q l)) ≡ sum (ring m) (2 * c) normed
  plain_norms = sum_cong (res_ring m) (2 * c) _ _ (λ l h. ap (norm (ring m)) (read_plain m c q l))

  symmetric_norms : 0 < c → sum (ring m) (2 * c) (λ l. norm (ring m) (read_line m c symmetric q l)) ≡ sum (ring m) (suc c) (λ w. doubled (ring m) (between c w) (normed w))
  symmetric_norms pos =
      sum_mirror (res_ring m) c _ pos (λ t u p h e. ap (norm (ring m)) (mirror_symmetric m c q u t h p e))
      ∙ sum_cong (res_ring m) (suc c) _ _ (λ w h. ap (λ x. doubled (ring m) (between c w) (norm (ring m) x)) (read_symmetric m c pos q w h))

  antisymmetric_norms : 0 < c → q 0 ≡ (field m).zer → q c ≡ (field m).zer → sum (ring m) (2 * c) (λ l. norm (ring m) (read_line m c antisymmetric q l)) ≡ sum (ring m) (suc c) (λ w. doubled (ring m) (between c w) (normed w))
  antisymmetric_norms pos e0 ec =
      sum_mirror (res_ring m) c _ pos (λ t u p h e. ap (norm (ring m)) (mirror_antisymmetric m c q u t h p e) ∙ norm_neg (res_ring m) _)
      ∙ sum_cong (res_ring m) (suc c) _ _ (λ w h. ap (λ x. doubled (ring m) (between c w) (norm (ring m) x)) (read_antisymmetric m c pos q e0 ec w h))

-- pair 0 of an alternating line holds its two ends
alternating_norms : (m c : ℕ) (q : ℕ → Value m) → 0 < c → sum (ring m) (2 * c) (λ l. norm (ring m) (read_line m c alternating q l)) ≡ sum (ring m) c (λ w. doubled (ring m) (between c w) (normed m c q w))
alternating_norms m zero q pos = absurd (omega arith)
alternating_norms m (suc n) q pos =
    whole_ends (res_ring m) n _ (λ t u p h e. ap (norm (ring m)) (mirror_alternating m (suc n) q u t h p e) ∙ norm_signed (res_ring m) t _ ∙ norm_conj (res_ring m) _)
    ∙ ap₂ (λ x y. (ring m).add x (doubled (ring m) true y))
    (ap₂ (λ x y. (ring m).add (norm (ring m) x) (norm (ring m) y)) (alternating_first m (suc n) q) (alternating_middle m (suc n) q pos) ∙ norm_parts (res_ring m) (even (suc n)) (q 0).0 (q 0).1)
    (sum_cong (res_ring m) n _ _ (λ i l. ap (norm (ring m)) (alternating_low m (suc n) q (suc i) (omega arith) (omega arith))))
    ∙ sym (half_ends (res_ring m) n (normed m (suc n) q))

-- Pa has both kinds of mirrored lines
mirrored_norms : (m c : ℕ) (q : ℕ → Value m) (b : Bool) → 0 < c → (cond b symmetric antisymmetric ≡ antisymmetric → (q 0 ≡ (field m).zer) × (q c ≡ (field m).zer))
    → sum (ring m) (2 * c) (λ l. norm (ring m) (read_line m c (cond b symmetric antisymmetric) q l)) ≡ sum (ring m) (suc c) (λ w. doubled (ring m) (between c w) (normed m c q w))
mirrored_norms m c q true pos e = symmetric_norms m c q pos
mirrored_norms m c q false pos e = antisymmetric_norms m c q pos (e refl).0 (e refl).1

-- ---- a line of a volume

norm_over : (m : ℕ) (b : Bool) (x : Value m) → norm (ring m) (over_i m b x) ≡ norm (ring m) x
norm_over m false x = refl
norm_over m true x = norm_over_i (res_ring m) x

whole_norms : (g : Group) (a : J) (m : ℕ) (v : List ℕ) (h k : ℕ) → 0 < a.2 → EmptyEnds g a m v h k
    → sum (ring m) (2 * a.2) (λ l. norm (ring m) (whole_line g a m v h k l)) ≡ sum (ring m) (layers g a) (λ w. doubled (ring m) (layer_twice false g a.2 w) (norm (ring m) (pairs_in g a m v w h k)))
unfolding planes whole_line
whole_norms P1 a m v h k pos e = plain_norms m a.2 (λ w. pairs_in P1 a m v w h k)
whole_norms P2₁ a m v h k pos e = alternating_norms m a.2 (λ w. pairs_in P2₁ a m v w h k) pos
whole_norms Pm a m v h k pos e = symmetric_norms m a.2 (λ w. pairs_in Pm a m v w h k) pos
whole_norms Pa a m v h k pos e = mirrored_norms m a.2 (λ w. pairs_in Pa a m v w h k) (even h) pos e
whole_norms P2₁2₁2₁ a m v h k pos e = alternating_norms m a.2 (λ w. pairs_in P2₁2₁2₁ a m v w h k) pos

line_norms : (g : Group) (a : J) (m : ℕ) (v : List ℕ) (h k : ℕ) → 0 < a.2 → EmptyEnds g a m v h k
    → sum (ring m) (2 * a.2) (λ l. norm (ring m) (line_in g a m v h k l)) ≡ sum (ring m) (layers g a) (λ w. doubled (ring m) (layer_twice false g a.2 w) (norm (ring m) (pairs_in g a m v w h k)))
unfolding line_in
line_norms g a m v h k pos e = sum_cong (res_ring m) (2 * a.2) _ _ (λ l b. norm_over m (rotated g h) _) ∙ whole_norms g a m v h k pos e

-- ---- the pairs of a row

-- once or twice in one way and in another
doubled_swap : (m : ℕ) (b c : Bool) (x : Residue m) → doubled (ring m) b (doubled (ring m) c x) ≡ doubled (ring m) c (doubled (ring m) b x)
doubled_swap m true true x = refl
doubled_swap m true false x = refl
doubled_swap m false c x = refl

module _ (m : ℕ) (v : List ℕ) where
  pair_squares : (j n : ℕ) → sum (ring m) n (λ i. norm (ring m) (values_of m v (j + i))) ≡ squares m v (2 * j) (2 * n)
  unfolding squares value_of at sum
  pair_squares j n =
      sum_cong (res_ring m) n _ _ (λ i l. ap₂ (ring m).add (along (square_at m v) (2 * (j + i)) (2 * j + (i * 2 + 0)) (omega arith) ∙ sym ((res_ring m).zero_add _)) (along (square_at m v) (2 * (j + i) + 1) (2 * j + (i * 2 + 1)) (omega arith)))
      ∙ sym (sum_blocks (res_ring m) n 2 (λ t. square_at m v (2 * j + t)))
      ∙ along (λ k. sum (ring m) k (λ t. square_at m v (2 * j + t))) (n * 2) (2 * n) (omega arith)

  one_pair : (j : ℕ) → norm (ring m) (values_of m v j) ≡ squares m v (2 * j) 2
  unfolding sum
  one_pair j = along (λ j. norm (ring m) (values_of m v j)) j (j + 0) (omega arith) ∙ sym ((res_ring m).zero_add _) ∙ pair_squares j 1

row_norms : (g : Group) (a : J) (m : ℕ) (v : List ℕ) (w h : ℕ) → 0 < a.1 → sum (ring m) (columns g a) (λ k. doubled (ring m) (between a.1 k) (norm (ring m) (pairs_in g a m v w h k))) ≡ row_power g a m v false w h
unfolding row_power
row_norms g a m v w h pos =
    ends_and_between (res_ring m) a.1 (λ k. norm (ring m) (pairs_in g a m v w h k)) pos
    ∙ ap₂ (λ x y. (ring m).add x (doubled (ring m) true y))
    (ap₂ (ring m).add (one_pair m v (pair_place g a w h 0)) (one_pair m v (pair_place g a w h a.1)))
    (sum_cong (res_ring m) (a.1 - 1) _ _ (λ i l. along (λ j. norm (ring m) (values_of m v j)) (pair_place g a w h (suc i)) (pair_place g a w h 1 + i) (omega arith)) ∙ pair_squares m v (pair_place g a w h 1) (a.1 - 1))

-- ---- the whole cell

module _ (g : Group) (a : J) (m : ℕ) (v : List ℕ) where
  -- the column k: over all h and l, of the cell and of its stored lines
  abbrev column : ℕ → Residue m
  column k = sum (ring m) (2 * a.0) (λ h. sum (ring m) (2 * a.2) (λ l. norm (ring m) (factors_in g a m v h k l)))

  abbrev stored_column : ℕ → Residue m
  stored_column k = sum (ring m) (2 * a.0) (λ h. sum (ring m) (2 * a.2) (λ l. norm (ring m) (line_in g a m v h k l)))

  low_column : (k : ℕ) → k ≤ a.1 → column k ≡ stored_column k
  unfolding factors_in
  low_column k l = rw (le-leb k a.1 l)

  high_column : (t u : ℕ) → 0 < t → a.1 < u → u + t ≡ 2 * a.1 → column u ≡ stored_column t
  unfolding factors_in flip
  high_column t u p h e =
      rw (lt-leb u a.1 h)
      (sum_cong (res_ring m) (2 * a.0) _ _ (λ x lx. sum_cong (res_ring m) (2 * a.2) _ _ (λ l ll. norm_conj (res_ring m) _ ∙ ap (λ k. norm (ring m) (line_in g a m v (neg_i a.0 x) k (neg_i a.2 l))) (neg_pos a.1 u (omega arith) (omega arith) ∙ back)) ∙ sum_flip (res_ring m) true a.2 (λ l. norm (ring m) (line_in g a m v (neg_i a.0 x) t l)))
      ∙ sum_flip (res_ring m) true a.0 (λ x. sum (ring m) (2 * a.2) (λ l. norm (ring m) (line_in g a m v x t l))))
    where
      back : 2 * a.1 - u ≡ t
      back = omega arith

  -- what a pair of the row w, h counts: its column, then its layer, once or twice
  abbrev counted : ℕ → ℕ → ℕ → Residue m
  counted k h w = doubled (ring m) (between a.1 k) (doubled (ring m) (layer_twice false g a.2 w) (norm (ring m) (pairs_in g a m v w h k)))

  column_pairs : (k : ℕ) → 0 < a.2 → ((h : ℕ) → h < 2 * a.0 → EmptyEnds g a m v h k) → doubled (ring m) (between a.1 k) (stored_column k) ≡ sum (ring m) (2 * a.0) (λ h. sum (ring m) (layers g a) (counted k h))
  column_pairs k pos ends =
      sym (doubled_sum (res_ring m) (between a.1 k) (2 * a.0) _)
      ∙ sum_cong (res_ring m) (2 * a.0) _ _ (λ h l. ap (doubled (ring m) (between a.1 k)) (line_norms g a m v h k pos (ends h l)) ∙ sym (doubled_sum (res_ring m) (between a.1 k) (layers g a) _))

  layer_pairs : (w : ℕ) → 0 < a.1 → sum (ring m) (columns g a) (λ k. sum (ring m) (2 * a.0) (λ h. counted k h w)) ≡ layer_power g a m v false w
  unfolding layer_power
  layer_pairs w pos =
      sum_swap (res_ring m) (columns g a) (2 * a.0) (λ k h. counted k h w)
      ∙ sum_cong (res_ring m) (2 * a.0) _ _ (λ h l.
      sum_cong (res_ring m) (columns g a) _ _ (λ k lk. doubled_swap m (between a.1 k) (layer_twice false g a.2 w) _)
      ∙ doubled_sum (res_ring m) (layer_twice false g a.2 w) (columns g a) _
      ∙ ap (doubled (ring m) (layer_twice false g a.2 w)) (row_norms g a m v w h pos))
      ∙ doubled_sum (res_ring m) (layer_twice false g a.2 w) (2 * a.0) _

  stored_norms : Positive a → ((h k : ℕ) → h < rows g a → k < columns g a → EmptyEnds g a m v h k) → sum (ring m) (2 * a.1) column ≡ stored_power g a m v false
  unfolding stored_power
  stored_norms pos ends =
      sum_mirror (res_ring m) a.1 column pos.1 (λ t u p h e. high_column t u p h e ∙ sym (low_column t (omega arith)))
      ∙ sum_cong (res_ring m) (columns g a) _ _ (λ k l. ap (doubled (ring m) (between a.1 k)) (low_column k (omega arith)) ∙ column_pairs k pos.2 (λ h lh. ends h k lh l))
      ∙ sum_rotate m (columns g a) (2 * a.0) (layers g a) counted
      ∙ sum_cong (res_ring m) (layers g a) _ _ (λ w l. layer_pairs w pos.1)

-- the power of consistent factors
pub factor_stored : (g : Group) (a : J) (m : ℕ) (v : List ℕ) → Positive a → length v ≡ volume_length g a → Below (prime m) v → consistent_factors g a m v ≡ true → factor_power g a m v ≡ (stored_power g a m v false).val
unfolding factor_power
factor_stored g a m v pos len small c =
    ap (λ x. x.val)
    (real_cell m a _
    ∙ sum_cong (res_ring m) (2 * a.0) _ _ (λ h lh. sum_cong (res_ring m) (2 * a.1) _ _ (λ k lk. sum_cong (res_ring m) (2 * a.2) _ _ (λ l ll. norm_conj_product (res_ring m) _)))
    ∙ sum_swap (res_ring m) (2 * a.0) (2 * a.1) (λ h k. sum (ring m) (2 * a.2) (λ l. norm (ring m) (factors_in g a m v h k l)))
    ∙ stored_norms g a m v pos (λ h k lh lk. subst (λ u. EmptyEnds g a m u h k) (consistent_read g a pos m v len small c).1 (empty_ends_lem g a pos.2 m (factors_in g a m v) h k lh lk)))
