-- The three passes of synthesis and of analysis on a volume, for every group. After the l-lines the pair (w, h, k) is the sum over l at z = w,
-- after the h-lines the sum over h of that, after the k-lines the row of the map; and back.
use mathlib.Core.Path.{◌≡◌, refl, sym, ◌∙◌, ap, ap₂, subst}
use mathlib.Core.Logic.{◌⊎◌, inl, inr}
use mathlib.Core.Bool.{Bool, true, false, cond}
use mathlib.Core.List.{List, [], ◌∷◌}
use Prim.Native.Nat.{ℕ, zero, suc, ◌+◌, ◌*◌, ◌-◌, ◌<◌}
use native.Mathlib.Omega.{arith}
use lib.Dec.{ltb}
use borrow.Author.Tests.{lt-ltb, le-ltb}
use Rattle.algebra.specs.ring.Ring.{Ops, residues, gauss, dft}
use Rattle.algebra.specs.ring.RingLaws.{CRing}
use Rattle.algebra.specs.fourier.Axis.{AxisLaws}
use Rattle.algebra.specs.lines.Kinds.{pack_by, Kind, Kind.plain, Kind.hermitian, Kind.antisymmetric, slots, unfold_before, unfold_after, pack_before, pack_after, RuleBefore}
use Rattle.algebra.specs.cells.Cell.{J, Group, Cell, friedel, neg_i}
use Rattle.algebra.specs.cells.CellSteps.{Lawful, after_l, after_h, after_k, back_k, back_h}
use Rattle.algebra.proofs.ring.Laws.{along}
use Rattle.algebra.proofs.lines.Parts.{real_gauss, reals_in}
use Rattle.algebra.proofs.lines.Unfold.{at_zero, at_mirror}
use Rattle.algebra.proofs.fourier.Transform.{dft_cong, dft_mul, inversion}
use Rattle.algebra.proofs.lines.Rules.{transform_rule, inverse_rule, pack_before_cong, antisymmetric_ends}
use Rattle.algebra.proofs.cells.CellGroup.{friedel_mem}
use Rattle.algebra.proofs.cells.CellTests.{Positive}
use Rattle.algebra.proofs.cells.CellSteps.{synthesis, halfway_h, hermitian as hermitian-lines}
use Rattle.algebra.proofs.cells.CellLawful.{opened_lawful}
use Rattle.numbers.specs.declared.Pair.{Pair}
use Rattle.numbers.specs.Value.{Value, field, conj, i, half, real, value, value_of, pair_of}
use Rattle.numbers.specs.Value as Value
use Rattle.numbers.proofs.Primes.{prime_pos}
use Rattle.numbers.proofs.Residues.{res_ring, res_val, val_res}
use Rattle.numbers.proofs.Values.{pair_path, value_path, value_pair, field_ring, field_star, conj_real}
use Rattle.numbers.proofs.Parts.{half_residue}
use Rattle.slices.specs.Pairs.{at, values_of}
use Rattle.numbers.specs.Bounds.{zero_pair}
use Rattle.slices.specs.Sweep.{Layout, sweep, on_lists}
use Rattle.slices.proofs.Pairs.{at_tab}
use Rattle.cell.specs.Volume.{line_kind, rotated, times_i, over_i, first_pair, layers, rows, columns, volume_of, packed, pack_factors, map_pair, pack_map, axis, map_of, factors_of}
use Rattle.cell.specs.Exactly.{RealMap, ObeysGroup}
use Rattle.cell.proofs.RotatedLines.{over_times, over_zero}
use Rattle.cell.specs.Rows.{packed_row, unpacked_row}
use Rattle.volume_transform.specs.Axes.{forward_values, inverse_values, forward_row, inverse_row, along_l, along_h, along_k, turned_l, turned_h, turned_k}
use Rattle.cell.proofs.VolumeLayout.{volume_cong, by_row, map_pair_low, map_pair_end}
use Rattle.cell.proofs.LineReading.{by_half, packed_in, packed_first, packed_last}
use Rattle.cell.proofs.Maps.{layers_fit}
use Rattle.volume_transform.proofs.sums.PackedLines.{forward_packed, back_packed, placed_after, line_rule}
use Rattle.volume_transform.proofs.sums.Sweeps.{sweep_l, sweep_h, sweep_k}

-- ---- two real values in one

module _ (m : ℕ) where
  real_part : (x : Value m) → conj m x ≡ x → x.1 ≡ (Value.ring m).zer
  unfolding residues
  real_part x r = real_gauss (res_ring m) (half m) (half_residue m) x r

  packed_reals : (x y : Value m) → conj m x ≡ x → conj m y ≡ y → (field m).add x ((field m).mul (i m) y) ≡ (x.0, y.0)
  packed_reals x y rx ry = reals_in (res_ring m) (half m) (half_residue m) x y rx ry

  -- the numbers of a real value
  real_pair : (x : Value m) → conj m x ≡ x → pair_of x ≡ record { re = x.0.val; im = 0 }
  unfolding pair_of residues
  real_pair x r = pair_path refl (ap (λ y. y.val) (real_part x r) ∙ val_res m (prime_pos m))

  -- the value of two numbers that are residues
  value_numbers : (x y : Value m) → value_of m (record { re = x.0.val; im = y.0.val }) ≡ (x.0, y.0)
  unfolding value_of
  value_numbers x y = value_path (res_val m x.0) (res_val m y.0)

module _ (g : Group) (a : J) (m : ℕ) {tx ty tz : ℕ → Value m}
    (𝓧 : AxisLaws (field m) (conj m) (i m) (real m (half m)) (axis m a.0) tx) (𝓨 : AxisLaws (field m) (conj m) (i m) (real m (half m)) (axis m a.1) ty)
    (𝓩 : AxisLaws (field m) (conj m) (i m) (real m (half m)) (axis m a.2) tz) where
  -- a pass: every line of the layout in its turn
  abbrev pub pass : Layout → (ℕ → List ℕ → List ℕ) → List ℕ → List ℕ
  pass L G d = sweep L (on_lists L G) L.count d

  -- the volume of the values of a cell on the stored planes
  abbrev pub planes_of : Cell (Value m) → List ℕ
  planes_of T = volume_of g a (λ w h k. pair_of (T h k w))

  abbrev L : Cell (Value m) → Cell (Value m)
  L F = after_l (field m) (axis m a.2) F

  abbrev LH : Cell (Value m) → Cell (Value m)
  LH F = after_h (field m) (axis m a.0) (after_l (field m) (axis m a.2) F)

  inside_column : {k : ℕ} → k < columns g a → k < 2 * a.1
  inside_column l = omega (arith, 𝓨.positive)

  -- ---- along l

  long : Positive a
  long = (𝓧.positive, 𝓨.positive, 𝓩.positive)

  -- the transform of a line times i is the transform times i
  times_dft : (b : Bool) (X : ℕ → Value m) (s : ℕ) → dft (field m) (2 * a.2) (axis m a.2).w (λ l. times_i m b (X l)) s ≡ times_i m b (dft (field m) (2 * a.2) (axis m a.2).w X s)
  times_dft false X s = refl
  times_dft true X s = dft_mul (field_ring m) (2 * a.2) _ (i m) X s

  module _ (F : Cell (Value m)) (lawful : Lawful (field m) (conj m) a g F) where
    -- a line as it is stored, and its transform
    abbrev line_of : (h k : ℕ) → ℕ → Value m
    line_of h k l = times_i m (rotated g h) (F h k l)

    abbrev after : (h k : ℕ) → ℕ → Value m
    after h k s = dft (field m) (2 * a.2) (axis m a.2).w (line_of h k) s

    after_is : (h k s : ℕ) → after h k s ≡ times_i m (rotated g h) (L F h k s)
    unfolding after_l
    after_is h k s = times_dft (rotated g h) (F h k) s

    over_after : (h k s : ℕ) → over_i m (rotated g h) (after h k s) ≡ L F h k s
    over_after h k s = ap (over_i m (rotated g h)) (after_is h k s) ∙ over_times m (rotated g h) _

    abbrev boxed : ℕ → ℕ → ℕ → Value m
    boxed w h k = packed g a m (line_kind g h) (line_of h k) w

    boxed_in : (h k t : ℕ) → t < slots (line_kind g h) a.2 → boxed (first_pair (line_kind g h) + t) h k ≡ pack_before (field m) (conj m) (i m) (real m (half m)) a.2 (line_kind g h) (line_of h k) t
    boxed_in h k t lt =
        packed_in g a m (line_of h k) (line_kind g h) (first_pair (line_kind g h) + t) (omega arith) (omega (arith, lt))
        ∙ along (pack_before (field m) (conj m) (i m) (real m (half m)) a.2 (line_kind g h) (line_of h k)) (first_pair (line_kind g h) + t - first_pair (line_kind g h)) t (omega arith)

    rule : (h k : ℕ) → h < rows g a → k < columns g a → RuleBefore (field m) (conj m) (i m) (real m (half m)) a.2 (line_kind g h) (line_of h k)
    rule h k lh lk = line_rule a g long m F lawful h k lh (inside_column lk)

    -- the pairs that are no part of a line are zero before and after
    ends : (h k : ℕ) → h < rows g a → k < columns g a → line_kind g h ≡ antisymmetric → (w : ℕ) → (w ≡ 0) ⊎ (w ≡ a.2) → boxed w h k ≡ L F h k w
    unfolding gauss residues
    ends h k lh lk e w z =
        ap (λ kind. packed g a m kind (line_of h k) w) e ∙ empty w z
        ∙ sym ((over_zero m (rotated g h) (after h k w)).1 (antisymmetric_ends (field_ring m) (field_star m) 𝓩 (line_of h k) (subst (λ kind. RuleOf kind) e (rule h k lh lk)) w z))
        ∙ over_after h k w
      where
        RuleOf : Kind → Type 0
        RuleOf kind = RuleBefore (field m) (conj m) (i m) (real m (half m)) a.2 kind (line_of h k)

        empty : (w : ℕ) → (w ≡ 0) ⊎ (w ≡ a.2) → packed g a m antisymmetric (line_of h k) w ≡ value m 0 0
        empty w (inl q) = ap (packed g a m antisymmetric (line_of h k)) q ∙ packed_first g a m (line_of h k)
        empty w (inr q) = ap (packed g a m antisymmetric (line_of h k)) q ∙ packed_last g a m (line_of h k) 𝓩.positive

    pub pass_l : pass (along_l g a) (turned_l g a m 0) (pack_factors g a m F) ≡ planes_of (L F)
    unfolding pack_factors
    pass_l = sweep_l g a 𝓩.positive m (λ h X s. over_i m (rotated g h) (forward_values m a.2 (line_kind g h) X s)) boxed (λ w h k. L F h k w)
        (λ h k lh lk p e t lt.
        ap (over_i m (rotated g h))
        (forward_packed (field_ring m) (field_star m) 𝓩 (line_kind g h) (line_of h k) p (rule h k lh lk) (λ t lt. e t lt ∙ boxed_in h k t lt) t lt ∙ placed_after a m g h _ t)
        ∙ over_after h k (first_pair (line_kind g h) + t))
        ends

    pub back_l : pass (along_l g a) (turned_l g a m 1) (planes_of (L F)) ≡ pack_factors g a m F
    unfolding pack_factors
    back_l = sweep_l g a 𝓩.positive m (λ h X. inverse_values m a.2 (line_kind g h) (λ s. times_i m (rotated g h) (X s))) (λ w h k. L F h k w) boxed
        (λ h k lh lk p e t lt.
        back_packed (field_ring m) (field_star m) 𝓩 (line_kind g h) (after h k) (λ s. times_i m (rotated g h) (p s)) (transform_rule (field_ring m) (field_star m) 𝓩 (line_kind g h) (line_of h k) (rule h k lh lk))
        (λ s ls. ap (times_i m (rotated g h)) (e s ls) ∙ sym (after_is h k (first_pair (line_kind g h) + s)) ∙ sym (placed_after a m g h (after h k) s)) t lt
        ∙ pack_before_cong (field_ring m) (field_star m) 𝓩 (line_kind g h) _ _ (λ t l. inversion (field_ring m) (2 * a.2) _ _ _ 𝓩.root (line_of h k) t l) t lt
        ∙ sym (boxed_in h k t lt))
        (λ h k lh lk e w z. sym (ends h k lh lk e w z))

  -- ---- along h, of any cell

  module _ (T : Cell (Value m)) where
    pub pass_h : pass (along_h g a) (turned_h g a m 0) (planes_of T) ≡ planes_of (after_h (field m) (axis m a.0) T)
    unfolding slots unfold_before pack_after after_h
    pass_h = sweep_h g a m (forward_values m a.0 plain) (λ w h k. T h k w) (λ w h k. after_h (field m) (axis m a.0) T h k w)
        (λ w k lw lk p e t lt. dft_cong (field_ring m) (2 * a.0) _ _ _ t e)

    pub back_h_lem : pass (along_h g a) (turned_h g a m 1) (planes_of T) ≡ planes_of (back_h (field m) (conj m) (axis m a.0) T)
    unfolding slots unfold_after pack_before back_h
    back_h_lem = sweep_h g a m (inverse_values m a.0 plain) (λ w h k. T h k w) (λ w h k. back_h (field m) (conj m) (axis m a.0) T h k w)
        (λ w k lw lk p e t lt. ap (λ y. (field m).mul (axis m a.0).part y) (dft_cong (field_ring m) (2 * a.0) _ _ _ t e))

  -- ---- along k

  -- the packed half of a Hermitian line in its pairs 0 to B, and its transform in the row of a map
  module _ (X : ℕ → Value m) (rule : RuleBefore (field m) (conj m) (i m) (real m (half m)) a.1 hermitian X) where
    first_real : conj m (X 0) ≡ X 0
    first_real = sym (at_zero (field_ring m) (2 * a.1) (λ t x. conj m x) X (omega (arith, 𝓨.positive)) rule)

    last_real : conj m (X a.1) ≡ X a.1
    last_real = sym (at_mirror (field_ring m) (2 * a.1) (λ t x. conj m x) X rule a.1 a.1 𝓨.positive 𝓨.positive (omega arith))

    packed_row_values : (v : ℕ → Pair) → ((t : ℕ) → t < columns g a → v t ≡ pair_of (X t)) → (t : ℕ) → t < a.1
        → value_of m (packed_row a.1 v t) ≡ pack_before (field m) (conj m) (i m) (real m (half m)) a.1 hermitian X t
    unfolding packed_row pack_before pack_by pair_of
    packed_row_values v e zero l =
        ap₂ (λ x y. value_of m (record { re = x.re; im = y.re })) (e 0 (omega arith)) (e a.1 (omega arith))
        ∙ value_numbers m (X 0) (X a.1) ∙ sym (packed_reals m (X 0) (X a.1) first_real last_real)
    packed_row_values v e (suc t) l = ap (value_of m) (e (suc t) (omega arith)) ∙ value_pair m (X (suc t))

    unpacked_row_values : (v : ℕ → Value m) → ((t : ℕ) → t < a.1 → v t ≡ pack_before (field m) (conj m) (i m) (real m (half m)) a.1 hermitian X t)
        → (t : ℕ) → t < columns g a → unpacked_row a.1 (λ t. pair_of (v t)) t ≡ pair_of (X t)
    unfolding unpacked_row pair_of pack_before pack_by
    unpacked_row_values v e = by_half a.1 (λ t. unpacked_row a.1 (λ t. pair_of (v t)) t ≡ pair_of (X t)) first last between
      where
        both : v 0 ≡ ((X 0).0, (X a.1).0)
        both = e 0 𝓨.positive ∙ packed_reals m (X 0) (X a.1) first_real last_real

        first : unpacked_row a.1 (λ t. pair_of (v t)) 0 ≡ pair_of (X 0)
        first = ap (λ (z : Value m). record { re = z.0.val; im = 0 }) both ∙ sym (real_pair m (X 0) first_real)

        at_last : (B : ℕ) → 0 < B → unpacked_row B (λ t. pair_of (v t)) B ≡ record { re = (pair_of (v 0)).im; im = 0 }
        at_last zero p = absurd (omega arith)
        at_last (suc B) p = rw (le-ltb (suc B) (suc B) (omega arith))

        last : unpacked_row a.1 (λ t. pair_of (v t)) a.1 ≡ pair_of (X a.1)
        last = at_last a.1 𝓨.positive ∙ ap (λ (z : Value m). record { re = z.1.val; im = 0 }) both ∙ sym (real_pair m (X a.1) last_real)

        between : (t : ℕ) → 0 < t → t < a.1 → unpacked_row a.1 (λ t. pair_of (v t)) t ≡ pair_of (X t)
        between zero p l = absurd (omega arith)
        between (suc t) p l = rw (lt-ltb (suc t) a.1 l) (ap pair_of (e (suc t) l))

  -- a row of a real map
  row_pair_lem : (M : Cell (Value m)) (x z : ℕ) → ((y : ℕ) → y < 2 * a.1 → conj m (M x y z) ≡ M x y z) → (t : ℕ) → t < a.1
      → value_of m (map_pair g a M z x t) ≡ pack_after (field m) (conj m) (i m) (real m (half m)) a.1 hermitian (λ y. M x y z) t
  unfolding pack_after
  row_pair_lem M x z r t l =
      ap (value_of m) (map_pair_low g a m M z x t l) ∙ value_numbers m (M x (2 * t) z) (M x (2 * t + 1) z)
      ∙ sym (packed_reals m (M x (2 * t) z) (M x (2 * t + 1) z) (r (2 * t) (omega arith)) (r (2 * t + 1) (omega arith)))

  pair_row : (M : Cell (Value m)) (x z : ℕ) → ((y : ℕ) → y < 2 * a.1 → conj m (M x y z) ≡ M x y z) → (t : ℕ) → t < a.1
      → pair_of (pack_after (field m) (conj m) (i m) (real m (half m)) a.1 hermitian (λ y. M x y z) t) ≡ map_pair g a M z x t
  unfolding pack_after pair_of
  pair_row M x z r t l =
      ap pair_of (packed_reals m (M x (2 * t) z) (M x (2 * t + 1) z) (r (2 * t) (omega arith)) (r (2 * t + 1) (omega arith)))
      ∙ sym (map_pair_low g a m M z x t l)

  module _ (F : Cell (Value m)) (lawful : Lawful (field m) (conj m) a g F) where
    k_rule : (x z : ℕ) → x < rows g a → z < layers g a → RuleBefore (field m) (conj m) (i m) (real m (half m)) a.1 hermitian (λ k. LH F x k z)
    unfolding neg_i
    k_rule x z lx lz = λ k lk. hermitian-lines (field_ring m) (field_star m) 𝓧 𝓨 𝓩 F (lawful friedel (friedel_mem g)) x k z lx lk (layers_fit g a 𝓩.positive z lz)

    row_of_lem : (x z t : ℕ) → x < rows g a → z < layers g a → (l : List ℕ) → ((t : ℕ) → t < columns g a → at l t ≡ pair_of (LH F x t z)) → t < a.1
        → pair_of (forward_values m a.1 hermitian (λ s. value_of m (packed_row a.1 (at l) s)) t) ≡ map_pair g a (map_of m a F) z x t
    unfolding slots after_k
    row_of_lem x z t lx lz l e lt =
        ap pair_of (forward_packed (field_ring m) (field_star m) 𝓨 hermitian (λ k. LH F x k z) _ (k_rule x z lx lz) (packed_row_values (λ k. LH F x k z) (k_rule x z lx lz) (at l) e) t lt)
        ∙ pair_row (after_k (field m) (axis m a.1) (LH F)) x z real_row t lt
        ∙ mapped
      where
        real_row : (y : ℕ) → y < 2 * a.1 → conj m (after_k (field m) (axis m a.1) (LH F) x y z) ≡ after_k (field m) (axis m a.1) (LH F) x y z
        real_row y ly = transform_rule (field_ring m) (field_star m) 𝓨 hermitian (λ k. LH F x k z) (k_rule x z lx lz) y ly

        mapped : map_pair g a (after_k (field m) (axis m a.1) (LH F)) z x t ≡ map_pair g a (map_of m a F) z x t
        mapped =
            map_pair_low g a m _ z x t lt
            ∙ pair_path (ap (λ y. y.0.val) (same (2 * t))) (ap (λ y. y.0.val) (same (2 * t + 1)))
            ∙ sym (map_pair_low g a m (map_of m a F) z x t lt)
          where
            same : (y : ℕ) → after_k (field m) (axis m a.1) (LH F) x y z ≡ map_of m a F x y z
            same y = synthesis (field_ring m) (conj m) (axis m a.0) (axis m a.1) (axis m a.2) F x y z

    pub pass_k : pass (along_k g a) (turned_k g a m 0) (planes_of (LH F)) ≡ pack_map g a m (map_of m a F)
    unfolding pack_map
    pass_k = sweep_k g a (forward_row m a.1) (λ w h k. pair_of (LH F h k w)) (map_pair g a (map_of m a F)) (λ w h lw lh l e t lt.
        at_tab _ (suc a.1) t lt
        ∙ by_row g a (λ t. pair_at l t ≡ map_pair g a (map_of m a F) w h t)
        (λ t s. rw (lt-ltb t a.1 s) (row_of_lem h w t lh lw l e s))
        (rw (le-ltb a.1 a.1 (omega arith)) (sym (map_pair_end g a m (map_of m a F) w h)))
        t lt)
      where
        pair_at : List ℕ → ℕ → Pair
        pair_at l t = cond (ltb t a.1) (pair_of (forward_values m a.1 hermitian (λ s. value_of m (packed_row a.1 (at l) s)) t)) zero_pair

    -- the whole of synthesis
    pub synthesis_passes : pass (along_k g a) (turned_k g a m 0) (pass (along_h g a) (turned_h g a m 0) (pass (along_l g a) (turned_l g a m 0) (pack_factors g a m F))) ≡ pack_map g a m (map_of m a F)
    synthesis_passes = ap (λ v. pass (along_k g a) (turned_k g a m 0) (pass (along_h g a) (turned_h g a m 0) v)) (pass_l F lawful) ∙ ap (pass (along_k g a) (turned_k g a m 0)) (pass_h (L F)) ∙ pass_k

  module _ (M : Cell (Value m)) (is_real : RealMap g a m M) where
    real_at : (x y z : ℕ) → x < rows g a → y < 2 * a.1 → z < layers g a → conj m (M x y z) ≡ M x y z
    real_at x y z lx ly lz = let e = is_real (x, y, z) (lx, ly, layers_fit g a 𝓩.positive z lz) in ap (conj m) e ∙ conj_real m _ ∙ sym e

    pub back_k_lem : pass (along_k g a) (turned_k g a m 1) (pack_map g a m M) ≡ planes_of (back_k (field m) (conj m) (axis m a.1) M)
    unfolding pack_map back_k slots
    back_k_lem = sweep_k g a (inverse_row m a.1) (map_pair g a M) (λ w h k. pair_of (back_k (field m) (conj m) (axis m a.1) M h k w)) (λ w h lw lh l e t lt.
        at_tab _ (suc a.1) t lt
        ∙ unpacked_row_values (λ k. back_k (field m) (conj m) (axis m a.1) M h k w) (rule h w lh lw) (inverse_values m a.1 hermitian (values_of m l)) (unparted h w lh lw l e) t lt)
      where
        rule : (x z : ℕ) → x < rows g a → z < layers g a → RuleBefore (field m) (conj m) (i m) (real m (half m)) a.1 hermitian (λ k. back_k (field m) (conj m) (axis m a.1) M x k z)
        rule x z lx lz = inverse_rule (field_ring m) (field_star m) 𝓨 hermitian (λ y. M x y z) (λ y ly. real_at x y z lx ly lz)

        unparted : (x z : ℕ) → x < rows g a → z < layers g a → (l : List ℕ) → ((t : ℕ) → t < columns g a → at l t ≡ map_pair g a M z x t) → (t : ℕ) → t < a.1
            → inverse_values m a.1 hermitian (values_of m l) t ≡ pack_before (field m) (conj m) (i m) (real m (half m)) a.1 hermitian (λ k. back_k (field m) (conj m) (axis m a.1) M x k z) t
        unparted x z lx lz l e t lt = back_packed (field_ring m) (field_star m) 𝓨 hermitian (λ y. M x y z) (values_of m l) (λ y ly. real_at x y z lx ly lz)
            (λ s ls. ap (value_of m) (e s (omega (arith, ls))) ∙ row_pair_lem M x z (λ y ly. real_at x y z lx ly lz) s ls) t lt

    -- the whole of analysis, for a map that obeys the group
    pub analysis_passes : ObeysGroup g a m M → pass (along_l g a) (turned_l g a m 1) (pass (along_h g a) (turned_h g a m 1) (pass (along_k g a) (turned_k g a m 1) (pack_map g a m M))) ≡ pack_factors g a m (factors_of m a M)
    analysis_passes o =
        ap (λ v. pass (along_l g a) (turned_l g a m 1) (pass (along_h g a) (turned_h g a m 1) v)) back_k_lem
        ∙ ap (pass (along_l g a) (turned_l g a m 1)) (back_h_lem (back_k (field m) (conj m) (axis m a.1) M) ∙ halfway)
        ∙ back_l (factors_of m a M) lawful
      where
        lawful : Lawful (field m) (conj m) a g (factors_of m a M)
        lawful = opened_lawful (field_ring m) (field_star m) 𝓧 𝓨 𝓩 g M o (λ x n. is_real x n ∙ sym (conj_real m _) ∙ ap (conj m) (sym (is_real x n)))

        halfway : planes_of (back_h (field m) (conj m) (axis m a.0) (back_k (field m) (conj m) (axis m a.1) M)) ≡ planes_of (L (factors_of m a M))
        halfway = volume_cong g a _ _ (λ w h k lw lh lk. ap pair_of (sym (halfway_h (field_ring m) (field_star m) 𝓧 𝓨 𝓩 M h k w (layers_fit g a 𝓩.positive w lw))))
