-- Packed factors and the cell they stand for: a volume's lines are the theory's, the cell read off a volume is the theory's cell,
-- and the packed factors of a cell that obeys group and Friedel are read back as that cell.
use mathlib.Core.Path.{◌≡◌, refl, sym, ◌∙◌, ap, ap₂, subst}
use mathlib.Core.Logic.{◌↔◌}
use mathlib.Core.Bool.{Bool, true, false, not, cond}
use mathlib.Core.List.{List}
use Prim.Native.Nat.{ℕ, suc, ◌+◌, ◌*◌, ◌-◌, ◌<◌, ◌≤◌}
use native.Mathlib.Omega.{arith}
use lib.Dec.{T, eqb, eqb→eq, eqb_refl, leb, ltb, nltb→le}
use lib.ListN.{length}
use Rattle.algebra.specs.ring.Ring.{pow, residues, gauss}
use Rattle.algebra.specs.orbits.OrbitLaws.{cell_of}
use Rattle.algebra.specs.lines.Kinds.{Kind.alternating, Kind.symmetric, Kind.antisymmetric}
use Rattle.algebra.specs.cells.Cell.{J, Inside, Group, P1, P2₁, Pm, Pa, P2₁2₁2₁, one, friedel, ◌·◌, span, neg_i, image_of, flip, implied_value, sgn, star, planes, full, Cell, factor_acts}
use Rattle.algebra.specs.cells.CellPlaces.{line_sym, line_operation, factor_operation, Stored}
use Rattle.algebra.specs.cells.Cell as Cell
use Rattle.algebra.specs.cells.CellSteps.{Lawful}
use Rattle.algebra.specs.cells.CellPack as Pack
use Rattle.algebra.specs.cells.CellPack.{even, pack_alt, unpack, PackedIn}
use Rattle.algebra.proofs.ring.Bool.{and_l, and_r, and_i, split}
use Rattle.algebra.proofs.ring.Laws.{neg_one_square, neg_one_mul}
use Rattle.algebra.proofs.ring.ResidueRing.{val_path}
use Rattle.algebra.proofs.fourier.Transform.{pow_across, sign_even}
use Rattle.algebra.proofs.cells.CellAxis.{neg_zero, neg_pos}
use Rattle.algebra.proofs.cells.CellSym as S
use Rattle.algebra.proofs.orbits.Orbits as O
use Rattle.algebra.proofs.cells.CellGroup.{factor_action, closed, operation_in, operation_stored}
use Rattle.algebra.proofs.cells.CellTests.{Positive}
use Rattle.algebra.proofs.cells.CellTests as CellTests
use Rattle.algebra.proofs.cells.CellPack.{pow_even, sign_of, rotated_back, real_0, part_c, alt_1, alt_4, pack_iff}
use Rattle.algebra.proofs.cells.CellRefusals as CellRefusals
use Rattle.numbers.specs.Value.{prime, Value, field, conj, ring, half, value, value_of, pair_of}
use Rattle.numbers.proofs.Primes.{prime_pos}
use Rattle.numbers.proofs.Residues.{res_ring}
use Rattle.numbers.proofs.Values.{value_path, small_pair, value_pair, field_ring, field_star}
use Rattle.numbers.proofs.Parts.{half_residue}
use Rattle.slices.specs.Pairs.{at, Below, values_of}
use Rattle.cell.specs.Volume.{line_kind, rotated, times_i, over_i, first_pair, pair_place, rows, columns, layers, volume_length, whole_line, line_in, factors_in, packed, pack_factors}
use Rattle.cell.specs.Consistency.{same_value}
use Rattle.cell.proofs.VolumeLayout.{length_volume, at_volume, below_volume}
use Rattle.cell.proofs.RotatedLines.{times_is, over_is}
use Rattle.cell.proofs.LineReading.{read_line, read_plain, read_alternating, read_symmetric, read_antisymmetric, mirror_alternating, mirror_symmetric, mirror_antisymmetric, packed_plain, packed_alternating, packed_symmetric, packed_antisymmetric, packed_first, packed_last}

-- the test of two values
pub same_iff : (m : ℕ) (x y : Value m) → T (same_value x y) ↔ (x ≡ y)
same_iff m x y = (
  λ t. value_path (val_path (eqb→eq _ _ (and_l (eqb x.0.val y.0.val) _ t))) (val_path (eqb→eq _ _ (and_r (eqb x.0.val y.0.val) _ t))),
  λ e. subst (λ z. T (same_value x z)) e (and_i (eqb x.0.val x.0.val) _ (eqb_refl x.0.val) (eqb_refl x.1.val)),
)

-- what each line's own operation implies
module _ (m : ℕ) (j : J) (x : Value m) where
  abbrev minus : Value m
  minus = (field m).neg (field m).one

  implied_P2₁ : implied_value (field m) (conj m) (line_sym P2₁) j x ≡ (field m).mul (pow (field m) minus j.2) (conj m x)
  unfolding sgn star
  implied_P2₁ = S.implied_out (field_ring m) (field_star m) true false false true false false true j x ∙ (field_ring m).one_mul _ ∙ (field_ring m).one_mul _

  implied_4 : implied_value (field m) (conj m) (line_sym P2₁2₁2₁) j x ≡ (field m).mul (sign_of (res_ring m) (even j.0)) ((field m).mul (pow (field m) minus j.2) (conj m x))
  unfolding sgn star
  implied_4 = S.implied_out (field_ring m) (field_star m) true false false true true false true j x ∙ ap₂ (field m).mul (pow_even (res_ring m) j.0) ((field_ring m).one_mul _)

  implied_Pm : implied_value (field m) (conj m) (line_sym Pm) j x ≡ x
  unfolding implied_value sgn star
  implied_Pm = (field_ring m).one_mul _ ∙ (field_ring m).one_mul _ ∙ (field_ring m).one_mul _

  pub implied_Pa : implied_value (field m) (conj m) (line_sym Pa) j x ≡ (field m).mul (sign_of (res_ring m) (even j.0)) x
  unfolding implied_value sgn star
  implied_Pa = ap₂ (field m).mul (pow_even (res_ring m) j.0) ((field_ring m).one_mul _ ∙ (field_ring m).one_mul _)

  pub implied_friedel : implied_value (field m) (conj m) friedel j x ≡ conj m x
  unfolding sgn star
  implied_friedel = S.implied_out (field_ring m) (field_star m) true true true true false false false j x ∙ (field_ring m).one_mul _ ∙ (field_ring m).one_mul _ ∙ (field_ring m).one_mul _

-- the Friedel mate of an index
pub mate_is : (a j : J) → image_of a friedel j ≡ (neg_i a.0 j.0, neg_i a.1 j.1, neg_i a.2 j.2)
unfolding image_of flip
mate_is a j = refl

module _ (g : Group) (a : J) (m : ℕ) (v : List ℕ) where
  -- the value of the pair w of (h, k), and the value at a place that its line stands for
  abbrev pub pairs_in : (w h k : ℕ) → Value m
  pairs_in w h k = values_of m v (pair_place g a w h k)

  abbrev pub line_at : J → Value m
  line_at j = line_in g a m v j.0 j.1 j.2

  -- the pairs of Pa that are no part of a line are zero
  abbrev pub EmptyEnds : (h k : ℕ) → Type 0
  EmptyEnds h k = line_kind g h ≡ antisymmetric → (pairs_in 0 h k ≡ (field m).zer) × (pairs_in a.2 h k ≡ (field m).zer)

  -- ---- a line is the theory's

  mirror_stored : 0 < a.2 → (b : Bool) (q : ℕ → Value m) → (cond b symmetric antisymmetric ≡ antisymmetric → (q 0 ≡ (field m).zer) × (q a.2 ≡ (field m).zer)) → (l : ℕ) → l < suc a.2 → read_line m a.2 (cond b symmetric antisymmetric) q l ≡ q l
  mirror_stored pos true q e l h = read_symmetric m a.2 pos q l h
  mirror_stored pos false q e l h = read_antisymmetric m a.2 pos q (e refl).0 (e refl).1 l h

  mirror_beyond : (b : Bool) (q : ℕ → Value m) (l u : ℕ) → a.2 < l → 0 < u → l + u ≡ 2 * a.2 → read_line m a.2 (cond b symmetric antisymmetric) q l ≡ (field m).mul (sign_of (res_ring m) b) (read_line m a.2 (cond b symmetric antisymmetric) q u)
  mirror_beyond true q l u h p e = mirror_symmetric m a.2 q l u h p e ∙ sym ((field_ring m).one_mul _)
  mirror_beyond false q l u h p e = mirror_antisymmetric m a.2 q l u h p e ∙ sym (neg_one_mul (field_ring m) _)

pub line_stored : (g : Group) (a : J) → 0 < a.2 → (m : ℕ) (v : List ℕ) (h k : ℕ) → EmptyEnds g a m v h k → (l : ℕ) → l < span g a.2 → line_in g a m v h k l ≡ unpack (ring m) g a (pairs_in g a m v) (h, k, l)
unfolding line_in whole_line unpack span
line_stored P1 a pos m v h k e l s = read_plain m a.2 (λ w. pairs_in P1 a m v w h k) l
line_stored P2₁ a pos m v h k e l s = read_alternating m a.2 (λ w. pairs_in P2₁ a m v w h k) pos l s
line_stored Pm a pos m v h k e l s = read_symmetric m a.2 pos (λ w. pairs_in Pm a m v w h k) l s
line_stored Pa a pos m v h k e l s = mirror_stored Pa a m v pos (even h) (λ w. pairs_in Pa a m v w h k) e l s
line_stored P2₁2₁2₁ a pos m v h k e l s = ap (over_i m (not (even h))) (read_alternating m a.2 (λ w. pairs_in P2₁2₁2₁ a m v w h k) pos l s) ∙ over_is m (even h) _

-- beyond the stored range an alternating line, whatever the group ..
alternating_beyond : (g : Group) (a : J) (m : ℕ) (v : List ℕ) (j : J) → Inside a j → suc a.2 ≤ j.2
    → read_line m a.2 alternating (λ w. pairs_in g a m v w j.0 j.1) j.2
    ≡ (field m).mul (pow (field m) ((field m).neg (field m).one) j.2) (conj m (read_line m a.2 alternating (λ w. pairs_in g a m v w j.0 j.1) (neg_i a.2 j.2)))
alternating_beyond g a m v j n s =
    let e : neg_i a.2 j.2 ≡ 2 * a.2 - j.2 = neg_pos a.2 j.2 (omega arith) n.2 in
    mirror_alternating m a.2 (λ w. pairs_in g a m v w j.0 j.1) j.2 (neg_i a.2 j.2) (omega arith) (omega (arith, n.2)) (omega (arith, n.2))
    ∙ ap (λ y. (field m).mul y (conj m (read_line m a.2 alternating (λ w. pairs_in g a m v w j.0 j.1) (neg_i a.2 j.2)))) (pow_across (field_ring m) _ _ (2 * a.2) (neg_one_square (field_ring m)) (sign_even (field_ring m) a.2) (neg_i a.2 j.2) j.2 1 (omega (arith, n.2)))

-- .. and any line, by its own operation
pub line_beyond : (g : Group) (a : J) (m : ℕ) (v : List ℕ) (j : J) → Inside a j → span g a.2 ≤ j.2 → line_at g a m v j ≡ implied_value (field m) (conj m) (line_sym g) j (line_at g a m v (image_of a (line_sym g) j))
unfolding line_in whole_line span image_of flip
line_beyond P1 a m v j n s = absurd (omega (arith, n.2))
line_beyond P2₁ a m v j n s = alternating_beyond P2₁ a m v j n s ∙ sym (implied_P2₁ m j _)
line_beyond Pm a m v j n s =
    let e : neg_i a.2 j.2 ≡ 2 * a.2 - j.2 = neg_pos a.2 j.2 (omega arith) n.2 in
    mirror_symmetric m a.2 (λ w. pairs_in Pm a m v w j.0 j.1) j.2 (neg_i a.2 j.2) (omega arith) (omega (arith, n.2)) (omega (arith, n.2)) ∙ sym (implied_Pm m j _)
line_beyond Pa a m v j n s =
    let e : neg_i a.2 j.2 ≡ 2 * a.2 - j.2 = neg_pos a.2 j.2 (omega arith) n.2 in
    mirror_beyond Pa a m v (even j.0) (λ w. pairs_in Pa a m v w j.0 j.1) j.2 (neg_i a.2 j.2) (omega arith) (omega (arith, n.2)) (omega (arith, n.2)) ∙ sym (implied_Pa m j _)
line_beyond P2₁2₁2₁ a m v j n s =
    ap (over_i m (not (even j.0))) (alternating_beyond P2₁2₁2₁ a m v j n s) ∙ over_is m (even j.0) _
    ∙ rotated_back (res_ring m) (half m) (half_residue m) (even j.0) _ _
    ∙ ap (λ y. (field m).mul (sign_of (res_ring m) (even j.0)) ((field m).mul (pow (field m) (minus m j (value m 0 0)) j.2) (conj m y))) (sym (over_is m (even j.0) _))
    ∙ sym (implied_4 m j _)

module _ (g : Group) (a : J) (m : ℕ) where
  -- ---- the cell that is read off a volume is the theory's

  line_read : (v : List ℕ) (j : J) → Inside a j → line_at g a m v j ≡ implied_value (field m) (conj m) (line_operation g a j) j (line_at g a m v (image_of a (line_operation g a j) j))
  unfolding line_operation
  line_read v j n = split (ltb j.2 (span g a.2))
      (λ b. line_at g a m v j ≡ implied_value (field m) (conj m) (cond b one (line_sym g)) j (line_at g a m v (image_of a (cond b one (line_sym g)) j)))
      (λ t. sym (S.implied_one (field_ring m) (field_star m) j _ ∙ ap (line_at g a m v) (S.image_one a j)))
      (λ t. line_beyond g a m v j n (nltb→le _ _ t))

  mate_read : (v : List ℕ) (j : J) → Inside a j → conj m (line_at g a m v (image_of a friedel j)) ≡ implied_value (field m) (conj m) (line_operation g a (image_of a friedel j) · friedel) j (line_at g a m v (image_of a (line_operation g a (image_of a friedel j) · friedel) j))
  mate_read v j n =
      let mate = image_of a friedel j in
      let r = line_operation g a (image_of a friedel j) in
      sym (implied_friedel m j _)
      ∙ ap (implied_value (field m) (conj m) friedel j) (line_read v (image_of a friedel j) (S.image_inside a friedel j n) ∙ S.implied_image (field_ring m) (field_star m) a r friedel j _ n ∙ ap (λ y. implied_value (field m) (conj m) r j (line_at g a m v y)) (S.image_image a r friedel j n))
      ∙ S.implied_implied (field_ring m) (field_star m) friedel r j _
      ∙ ap (λ s. implied_value (field m) (conj m) s j (line_at g a m v (image_of a (r · friedel) j))) (S.comm friedel r)

  pub factors_read_lem : (v : List ℕ) (j : J) → Inside a j → Cell.at (factors_in g a m v) j ≡ cell_of (factor_acts (field m) (conj m) a) (factor_operation g a) (line_at g a m v) j
  unfolding factors_in cell_of factor_acts factor_operation
  factors_read_lem v j n = split (leb j.1 a.1)
      (λ b. cond b (line_at g a m v j) (conj m (line_at g a m v (neg_i a.0 j.0, neg_i a.1 j.1, neg_i a.2 j.2))) ≡ implied_value (field m) (conj m) (cond b (line_operation g a j) (line_operation g a (image_of a friedel j) · friedel)) j (line_at g a m v (image_of a (cond b (line_operation g a j) (line_operation g a (image_of a friedel j) · friedel)) j)))
      (λ t. line_read v j n)
      (λ t. ap (λ y. conj m (line_at g a m v y)) (sym (mate_is a j)) ∙ mate_read v j n)

-- ---- the packed factors of a cell of the group are the theory's

module _ (a : J) (long : Positive a) (m : ℕ) (F : Cell (Value m)) where
  -- an alternating line, real at l = 0 and with one part at l = A
  alternating_packed : (g : Group) (X : ℕ → Value m) → ((l : ℕ) → l < 2 * a.2 → X (neg_i a.2 l) ≡ (field m).mul (pow (field m) ((field m).neg (field m).one) l) (conj m (X l))) → (w : ℕ) → w < a.2 → packed g a m alternating X w ≡ pack_alt (ring m) a.2 X w
  alternating_packed g X al = packed_alternating g a m X (real_0 (res_ring m) (half m) (half_residue m) a.2 long.2 X al) (part_c (res_ring m) (half m) (half_residue m) a.2 long.2 X al)

  -- an odd h's line of Pa is zero at both
  mirror_packed : Lawful (field m) (conj m) a Pa F → (h k w : ℕ) → h < 2 * a.0 → k < 2 * a.1 → w < suc a.2 → (b : Bool) → even h ≡ b → packed Pa a m (cond b symmetric antisymmetric) (F h k) w ≡ F h k w
  unfolding gauss residues
  mirror_packed o h k w lh lk lw true e = packed_symmetric Pa a m (F h k) w lw
  mirror_packed o h k w lh lk lw false e = packed_antisymmetric Pa a m (F h k) long.2
      (CellRefusals.zero_pair_lem (res_ring m) (half m) (half_residue m) a long F o h k 0 lh lk (omega (arith, long.2)) e (neg_zero a.2))
      (CellRefusals.zero_pair_lem (res_ring m) (half m) (half_residue m) a long F o h k a.2 lh lk (omega (arith, long.2)) e (neg_pos a.2 a.2 long.2 (omega (arith, long.2)) ∙ omega arith))
      w lw

pub packed_is : (g : Group) (a : J) → Positive a → (m : ℕ) (F : Cell (Value m)) → Lawful (field m) (conj m) a g F
    → (w h k : ℕ) → w < layers g a → h < rows g a → k < columns g a → packed g a m (line_kind g h) (λ l. times_i m (rotated g h) (F h k l)) w ≡ Pack.pack_factors (ring m) g a F w h k
unfolding Pack.pack_factors planes
packed_is P1 a long m F o w h k lw lh lk = packed_plain P1 a m (F h k) w lw
packed_is P2₁ a long m F o w h k lw lh lk = alternating_packed a long m F P2₁ (F h k) (alt_1 (res_ring m) (half m) (half_residue m) a long F o h k lh (omega (arith, long.1))) w lw
packed_is Pm a long m F o w h k lw lh lk = packed_symmetric Pm a m (F h k) w lw
packed_is Pa a long m F o w h k lw lh lk = mirror_packed a long m F o h k w lh (omega (arith, long.1)) lw (even h) refl
packed_is P2₁2₁2₁ a long m F o w h k lw lh lk =
    ap (λ (X : ℕ → Value m). packed P2₁2₁2₁ a m alternating X w) (λ i l. times_is m (even h) (F h k l) i)
    ∙ alternating_packed a long m F P2₁2₁2₁ _ (alt_4 (res_ring m) (half m) (half_residue m) a long F o h k lh (omega (arith, long.1))) w lw

module _ (g : Group) (a : J) (m : ℕ) (F : Cell (Value m)) where
  pub length_factors : length (pack_factors g a m F) ≡ volume_length g a
  unfolding pack_factors
  length_factors = length_volume g a _

  pub below_factors : Below (prime m) (pack_factors g a m F)
  unfolding pack_factors
  below_factors = below_volume g a _ (prime m) (prime_pos m) (λ w h k lw lh lk. small_pair m _)

  pub at_factors : (w h k : ℕ) → w < layers g a → h < rows g a → k < columns g a → at (pack_factors g a m F) (pair_place g a w h k) ≡ pair_of (packed g a m (line_kind g h) (λ l. times_i m (rotated g h) (F h k l)) w)
  unfolding pack_factors
  at_factors = at_volume g a _

  pub pairs_factors : (w h k : ℕ) → w < layers g a → h < rows g a → k < columns g a → pairs_in g a m (pack_factors g a m F) w h k ≡ packed g a m (line_kind g h) (λ l. times_i m (rotated g h) (F h k l)) w
  pairs_factors w h k lw lh lk = ap (value_of m) (at_factors w h k lw lh lk) ∙ value_pair m _

-- the pairs that are no part of a line are zero in the packed factors of any cell
pub empty_ends_lem : (g : Group) (a : J) → 0 < a.2 → (m : ℕ) (F : Cell (Value m)) (h k : ℕ) → h < rows g a → k < columns g a → EmptyEnds g a m (pack_factors g a m F) h k
unfolding gauss residues planes
empty_ends_lem P1 a pos m F h k lh lk e = absurd (omega (arith, ap first_pair e))
empty_ends_lem P2₁ a pos m F h k lh lk e = absurd (omega (arith, ap first_pair e))
empty_ends_lem Pm a pos m F h k lh lk e = absurd (omega (arith, ap first_pair e))
empty_ends_lem Pa a pos m F h k lh lk e = (
  pairs_factors Pa a m F 0 h k (omega arith) lh lk ∙ ap (λ kind. packed Pa a m kind (F h k) 0) e ∙ packed_first Pa a m (F h k),
  pairs_factors Pa a m F a.2 h k (omega arith) lh lk ∙ ap (λ kind. packed Pa a m kind (F h k) a.2) e ∙ packed_last Pa a m (F h k) pos,
)
empty_ends_lem P2₁2₁2₁ a pos m F h k lh lk e = absurd (omega (arith, ap first_pair e))

module _ (g : Group) (a : J) (long : Positive a) (m : ℕ) where
  -- where the ends are empty, the value that a line stands for is the one that the theory unpacks
  pub stored_unpacked : (v : List ℕ) → ((h k : ℕ) → h < rows g a → k < columns g a → EmptyEnds g a m v h k) → (j : J) → Inside a j → Stored g a j → line_at g a m v j ≡ unpack (ring m) g a (pairs_in g a m v) j
  stored_unpacked v e j n s = line_stored g a long.2 m v j.0 j.1 (e j.0 j.1 n.0 (omega (arith, s.0))) j.2 s.1

  pub factors_unpacked : (v : List ℕ) → ((h k : ℕ) → h < rows g a → k < columns g a → EmptyEnds g a m v h k) → (j : J) → Inside a j
      → Cell.at (factors_in g a m v) j ≡ cell_of (factor_acts (field m) (conj m) a) (factor_operation g a) (unpack (ring m) g a (pairs_in g a m v)) j
  unfolding factor_acts
  factors_unpacked v e j n = factors_read_lem g a m v j n
      ∙ O.cell_cong (factor_action (field_ring m) (field_star m) a) (full g) (closed (field_ring m) (field_star m) a g) (Stored g a) (factor_operation g a) (λ j n. operation_in g a j) (λ j n. operation_stored g a j n) _ _ (stored_unpacked v e) j n

  module _ (F : Cell (Value m)) (lawful : Lawful (field m) (conj m) a g F) where
    pub packed_holds : PackedIn (ring m) g a F (pairs_in g a m (pack_factors g a m F))
    packed_holds w h k lw lh lk = sym (pairs_factors g a m F w h k lw lh (omega arith) ∙ packed_is g a long m F lawful w h k lw lh (omega arith))

    -- the packed factors of a cell of the group are read as that cell
    pub read_packed : (j : J) → Inside a j → Cell.at (factors_in g a m (pack_factors g a m F)) j ≡ Cell.at F j
    unfolding factor_acts
    read_packed j n = factors_unpacked (pack_factors g a m F) (empty_ends_lem g a long.2 m F) j n
        ∙ sym (CellTests.factors_read_lem (field_ring m) (field_star m) same_value (same_iff m) g a long (unpack (ring m) g a (pairs_in g a m (pack_factors g a m F))) (Cell.at F) lawful
        ((pack_iff (res_ring m) (half m) (half_residue m) a long g F (pairs_in g a m (pack_factors g a m F)) lawful).0 packed_holds) j n)
