-- One count changed, and a map with itself.
use mathlib.Core.Path.{◌≡◌, refl, sym, ◌∙◌, ap, subst}
use mathlib.Core.Logic.{⊎_elim}
use mathlib.Core.List.{List}
use Prim.Native.Nat.{ℕ, zero, suc, ◌+◌, ◌-◌, ◌*◌, ◌%◌, ◌<◌, ◌≤◌}
use native.Mathlib.Nat.{mod-eq_of_lt, add-mod_right, mul-le-mul_left}
use native.Mathlib.Omega.{arith}
use lib.ListN.{length}
use lib.Dec.{ltb}
use lib.IntN.{ℤ, pos, negsuc, nat_abs, ◌+ℤ◌, ◌*ℤ◌}
use borrow.Author.Tests.{ltb-false}
use Rattle.algebra.specs.cells.Cell.{J, Inside, P1, planes}
use Rattle.algebra.proofs.ring.Laws.{along}
use Rattle.algebra.proofs.ring.Paths.{triple}
use Rattle.algebra.proofs.fourier.Sums.{sum_cong, sum_one}
use Rattle.signed.specs.IntegerRing.{integers}
use Rattle.signed.proofs.IntegerRing.{right_distrib, integer_ring}
use Rattle.signed.proofs.Magnitudes.{abs_mul}
use Rattle.refusals.specs.Refusals.{first, accepted}
use Rattle.refusals.proofs.Tests.{pass, none, passed}
use Rattle.header.specs.Header.{Header, half_lengths}
use Rattle.header.proofs.Headers.{sound_axes}
use Rattle.output.specs.Output.{Filled.written, Filled.not_written}
use Rattle.slices.proofs.Pairs.{lt_or_ge}
use Rattle.combined.specs.CombinedMap.{limit, count_of}
use Rattle.combined.proofs.PackedMaps.{packs}
use Rattle.correlation.specs.Correlation.{shifted_by, total_of, correlation_at, correlation, over, magnitudes, largest, correlation_tests, Buffers, CorrelationOutcome, correlated_outcome, correlation_step}
use Rattle.correlation.specs.Demands.{OneCount, GoesRound, Sensitive, SensitiveRound, WithinRange, SelfAtZero, GreatestAtZero}
use Rattle.correlation.proofs.Limits.{count_most, shifted_inside, abs_below, sum_positive, correlation_most}
use Rattle.correlation.proofs.Folding.{over_cong, over_add, over_most, over_round}
use Rattle.correlation.proofs.Tests.{or_none}

-- ---- an accepted call has passed every test, and left the correlation

accepted_none : (k n : ℕ) (o : CorrelationOutcome) (w : Buffers) → (accepted k o (λ m. record { answer = not_written m; buffers = w })).answer ≡ written n → 0 ≡ k
accepted_none zero n o w e = refl
accepted_none (suc k) n o w e = let z : ◌≡◌ {A = ℕ} 0 1 = cc in absurd (omega arith)

module _ (c : Header) (a b : List ℤ) (w : Buffers) (n : ℕ) (e : (correlation_step c a b w).answer ≡ written n) where
  none_holds : 0 ≡ first (correlation_tests c a b (length w.output) (length w.work1) (length w.work2) (length w.work3) (length w.scratch))
  unfolding correlation_step
  none_holds = accepted_none (first (correlation_tests c a b (length w.output) (length w.work1) (length w.work2) (length w.work3) (length w.scratch))) n (correlated_outcome c.lengths a b w) w e

  left : (correlation_step c a b w).buffers.output ≡ correlation (half_lengths c.lengths) a b
  unfolding correlation_step
  left = rw (← none_holds) refl

  value_left : (s : J) → Inside (half_lengths c.lengths) s → count_of P1 (half_lengths c.lengths) (correlation_step c a b w).buffers.output s ≡ correlation_at (half_lengths c.lengths) a b s
  unfolding planes
  value_left s l =
      let h = half_lengths c.lengths in
      ap (λ v. count_of P1 h v s) left ∙ (packs P1 h (λ x y z. correlation_at h a b (x, y, z))).stored s.0 s.1 s.2 l.0 l.1 l.2

  positive : Inside (half_lengths c.lengths) (0, 0, 0)
  positive =
      let t = passed (correlation_tests c a b (length w.output) (length w.work1) (length w.work2) (length w.work3) (length w.scratch)) tt none_holds in
      let x = sound_axes c (pass 3 _ t.0 (pass 4 _ t.1.0 (pass 5 _ t.1.1.0 (pass 9 _ t.1.1.1.0 none)))) in
      (omega (arith, x.0.size.positive), omega (arith, x.1.size.positive), omega (arith, x.2.size.positive))

-- ---- one count changed

-- a sum over the cell with one term that is more by d
total_one : (h : J) (f g : J → ℤ) (u : J) (d : ℤ) → Inside h u → g u ≡ f u +ℤ d → ((x : J) → Inside h x → (x ≡ u → ⊥) → g x ≡ f x) → total_of h g ≡ total_of h f +ℤ d
unfolding total_of integers
total_one h f g u d n at others =
    sum_one integer_ring (2 * h.0) u.0 d _ _ n.0
    (sum_one integer_ring (2 * h.1) u.1 d _ _ n.1
    (sum_one integer_ring (2 * h.2) u.2 d _ _ n.2 at
    (λ z lz ne. others (u.0, u.1, z) (n.0, n.1, lz) (λ e. ne (ap (λ q. q.2) e))))
    (λ y ly ne. sum_cong integer_ring (2 * h.2) _ _ (λ z lz. others (u.0, y, z) (n.0, ly, lz) (λ e. ne (ap (λ q. q.1) e)))))
    (λ x lx ne. sum_cong integer_ring (2 * h.1) _ _ (λ y ly. sum_cong integer_ring (2 * h.2) _ _ (λ z lz. others (x, y, z) (lx, ly, lz) (λ e. ne (ap (λ q. q.0) e)))))

moved_at : (h : J) (a a' b : List ℤ) (u : J) (d : ℤ) → Inside h u → OneCount h a a' u d → (s : J) → correlation_at h a' b s ≡ correlation_at h a b s +ℤ d *ℤ count_of P1 h b (shifted_by h u s)
unfolding correlation_at
moved_at h a a' b u d n o s = total_one h (λ x. count_of P1 h a x *ℤ count_of P1 h b (shifted_by h x s)) (λ x. count_of P1 h a' x *ℤ count_of P1 h b (shifted_by h x s)) u (d *ℤ count_of P1 h b (shifted_by h u s)) n
    (ap (λ k. k *ℤ count_of P1 h b (shifted_by h u s)) o.changed ∙ right_distrib d (count_of P1 h b (shifted_by h u s)) (count_of P1 h a u))
    (λ x l ne. ap (λ k. k *ℤ count_of P1 h b (shifted_by h x s)) (o.others x l ne))

-- the value at s, by lengths that are those of the call
value_of : (c : Header) (n : J) → c.lengths ≡ n → (a b : List ℤ) (w : Buffers) (k : ℕ) → (correlation_step c a b w).answer ≡ written k → (s : J) → Inside (half_lengths n) s
    → count_of P1 (half_lengths n) (correlation_step c a b w).buffers.output s ≡ correlation_at (half_lengths n) a b s
value_of c n q a b w k e s l =
    subst (λ (n : J). Inside (half_lengths n) s → count_of P1 (half_lengths n) (correlation_step c a b w).buffers.output s ≡ correlation_at (half_lengths n) a b s) q (value_left c a b w k e s) l

-- the remainder of a sum that goes round
round_at : (N u s t : ℕ) → GoesRound N u s t → (u + s) % N ≡ t
round_at N u s t g = ⊎_elim
    (λ q. ap (λ k. k % N) q ∙ mod-eq_of_lt g.low)
    (λ q. ap (λ k. k % N) q ∙ add-mod_right t N ∙ mod-eq_of_lt g.low)
    g.sum

pub sensitive : Sensitive
sensitive c c' q a a' b w w' n n' u d e f l o s ls =
    let h = half_lengths c.lengths in
    record {
      exactly = value_of c' c.lengths (sym q) a' b w' n' f s ls ∙ moved_at h a a' b u d l o s ∙ ap (λ k. k +ℤ d *ℤ count_of P1 h b (shifted_by h u s)) (sym (value_left c a b w n e s ls));
      most = omega (arith, abs_mul d (count_of P1 h b (shifted_by h u s)), mul-le-mul_left (nat_abs d) (count_most h b (shifted_by h u s) (shifted_inside h u s l)));
    }

pub sensitive_round : SensitiveRound
sensitive_round c c' q a a' b w w' n n' u d e f l o s ls t x y z =
    let h = half_lengths c.lengths in
    (sensitive c c' q a a' b w w' n n' u d e f l o s ls).exactly
    ∙ ap (λ (k : J). count_of P1 h (correlation_step c a b w).buffers.output s +ℤ d *ℤ count_of P1 h b k) (triple (round_at (2 * h.0) u.0 s.0 t.0 x) (round_at (2 * h.1) u.1 s.1 t.1 y) (round_at (2 * h.2) u.2 s.2 t.2 z))

-- ---- the range

pub within_range : WithinRange
within_range c a b w n e s l =
    let h = half_lengths c.lengths in
    let t = passed (correlation_tests c a b (length w.output) (length w.work1) (length w.work2) (length w.work3) (length w.scratch)) tt (none_holds c a b w n e) in
    let p = or_none (ltb limit (largest h a)) _ t.1.1.1.1.1.1.0 in
    let q = or_none (ltb limit (largest h b)) _ p.1 in
    let r = ltb-false limit (magnitudes h a * largest h b) q.1 in
    omega (arith, ap nat_abs (value_left c a b w n e s l), correlation_most h a b s, r)

-- ---- a map with itself

unshifted : (x n : ℕ) → x < n → (x + 0) % n ≡ x
unshifted x n l = along (λ k. k % n) (x + 0) x (omega arith) ∙ mod-eq_of_lt l

pub self_at_zero : SelfAtZero
unfolding correlation_at total_of
self_at_zero c a w n e =
    let h = half_lengths c.lengths in
    value_left c a a w n e (0, 0, 0) (positive c a a w n e)
    ∙ sum_cong integer_ring (2 * h.0) _ _ (λ x lx. sum_cong integer_ring (2 * h.1) _ _ (λ y ly. sum_cong integer_ring (2 * h.2) _ _ (λ z lz.
    λ i. count_of P1 h a (x, y, z) *ℤ count_of P1 h a (unshifted x (2 * h.0) lx i, unshifted y (2 * h.1) ly i, unshifted z (2 * h.2) lz i))))

-- ---- no shift has a greater magnitude

-- 2 x y is at most x² + y²
twice_product : (x y : ℕ) → x * y + x * y ≤ x * x + y * y
twice_product x y = ⊎_elim
    (λ (l : x < y). apart x (y - x) y (omega arith))
    (λ (g : y ≤ x). omega (arith, apart y (x - y) x (omega arith)))
    (lt_or_ge x y)
  where
    apart : (x d y : ℕ) → y ≡ x + d → x * y + x * y ≤ x * x + y * y
    apart x d y e = rw e (omega arith)

-- the square of a number is that of its magnitude
square : (x : ℤ) → x *ℤ x ≡ pos (nat_abs x * nat_abs x)
square (pos n) = refl
square (negsuc n) = refl

module _ (h : J) (a : List ℤ) where
  -- a sum over the cell, x outermost
  abbrev over_points : (J → ℕ) → ℕ
  over_points f = over ◌+◌ (2 * h.0) (λ x. over ◌+◌ (2 * h.1) (λ y. over ◌+◌ (2 * h.2) (λ z. f (x, y, z))))

  abbrev size : J → ℕ
  size u = nat_abs (count_of P1 h a u)

  -- the sum over all points of u + s is that over all points
  all_shifted : (f : J → ℕ) (s : J) → Inside h s → over_points (λ u. f (shifted_by h u s)) ≡ over_points f
  all_shifted f s l =
      over_cong ◌+◌ (2 * h.0) _ _ (λ x lx. over_cong ◌+◌ (2 * h.1) _ _ (λ y ly. over_round (2 * h.2) s.2 (λ z. f ((x + s.0) % (2 * h.0), (y + s.1) % (2 * h.1), z)) l.2)
      ∙ over_round (2 * h.1) s.1 (λ y. over ◌+◌ (2 * h.2) (λ z. f ((x + s.0) % (2 * h.0), y, z))) l.1)
      ∙ over_round (2 * h.0) s.0 (λ x. over ◌+◌ (2 * h.1) (λ y. over ◌+◌ (2 * h.2) (λ z. f (x, y, z)))) l.0

  all_added : (f g : J → ℕ) → over_points (λ u. f u + g u) ≡ over_points f + over_points g
  all_added f g =
      over_cong ◌+◌ (2 * h.0) _ _ (λ x lx. over_cong ◌+◌ (2 * h.1) _ _ (λ y ly. over_add (2 * h.2) (λ z. f (x, y, z)) (λ z. g (x, y, z)))
      ∙ over_add (2 * h.1) (λ y. over ◌+◌ (2 * h.2) (λ z. f (x, y, z))) (λ y. over ◌+◌ (2 * h.2) (λ z. g (x, y, z))))
      ∙ over_add (2 * h.0) (λ x. over ◌+◌ (2 * h.1) (λ y. over ◌+◌ (2 * h.2) (λ z. f (x, y, z)))) (λ x. over ◌+◌ (2 * h.1) (λ y. over ◌+◌ (2 * h.2) (λ z. g (x, y, z))))

  all_most : (f g : J → ℕ) → ((u : J) → f u ≤ g u) → over_points f ≤ over_points g
  all_most f g e = over_most (2 * h.0) _ _ (λ x lx. over_most (2 * h.1) _ _ (λ y ly. over_most (2 * h.2) _ _ (λ z lz. e (x, y, z))))

  -- the sum of the products of the magnitudes
  abbrev products : J → ℕ
  products s = over_points (λ u. size u * size (shifted_by h u s))

  abbrev squares : ℕ
  squares = over_points (λ u. size u * size u)

  at_most_products : (s : J) → nat_abs (correlation_at h a a s) ≤ products s
  unfolding correlation_at total_of
  at_most_products s =
      abs_below (2 * h.0) _ _ (λ x lx. abs_below (2 * h.1) _ _ (λ y ly. abs_below (2 * h.2) _ _ (λ z lz. omega (arith, abs_mul (count_of P1 h a (x, y, z)) (count_of P1 h a (shifted_by h (x, y, z) s))))))

  twice_products : (s : J) → Inside h s → products s + products s ≤ squares + squares
  twice_products s l =
      omega (
        arith,
        all_added (λ u. size u * size (shifted_by h u s)) (λ u. size u * size (shifted_by h u s)),
        all_most (λ u. size u * size (shifted_by h u s) + size u * size (shifted_by h u s)) (λ u. size u * size u + size (shifted_by h u s) * size (shifted_by h u s)) (λ u. twice_product (size u) (size (shifted_by h u s))),
        all_added (λ u. size u * size u) (λ u. size (shifted_by h u s) * size (shifted_by h u s)),
        all_shifted (λ u. size u * size u) s l,
      )

  at_zero : nat_abs (total_of h (λ u. count_of P1 h a u *ℤ count_of P1 h a u)) ≡ squares
  unfolding total_of
  at_zero =
      ap nat_abs (
      sum_cong integer_ring (2 * h.0) _ _ (λ x lx. sum_cong integer_ring (2 * h.1) _ _ (λ y ly. sum_cong integer_ring (2 * h.2) _ _ (λ z lz. square (count_of P1 h a (x, y, z))) ∙ sum_positive (2 * h.2) _) ∙ sum_positive (2 * h.1) _)
      ∙ sum_positive (2 * h.0) _
      )

pub greatest_at_zero : GreatestAtZero
greatest_at_zero c a w n e s l =
    let h = half_lengths c.lengths in
    omega (
      arith,
      ap nat_abs (value_left c a a w n e s l),
      at_most_products h a s,
      twice_products h a s l,
      ap nat_abs (self_at_zero c a w n e),
      at_zero h a,
    )
