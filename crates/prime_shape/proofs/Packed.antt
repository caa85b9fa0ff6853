-- The lines of packed volumes under the passes, for every prime of the shape: a line that keeps the rule of its kind, packed, is taken to what is packed of its sums, and back.
use mathlib.Core.Path.{◌≡◌, refl, sym, ◌∙◌, ap, ap₂, subst}
use mathlib.Core.Logic.{◌⊎◌, inl, inr}
use mathlib.Core.Bool.{Bool, true, false}
use mathlib.Core.List.{[], ◌∷◌}
use Prim.Native.Nat.{ℕ, zero, suc, ◌+◌, ◌*◌, ◌<◌}
use native.Mathlib.Omega.{arith}
use Rattle.algebra.specs.ring.Ring.{Ops, dft, Res, residues, gauss}
use Rattle.algebra.specs.ring.RingLaws.{CRing, Star}
use Rattle.algebra.specs.fourier.Axis.{Axis, AxisLaws}
use Rattle.algebra.specs.lines.Kinds.{Kind, plain, hermitian, alternating, symmetric, antisymmetric, slots, pack_by, pack_before, pack_after, RuleBefore, forward, inverse}
use Rattle.algebra.specs.cells.Cell.{J, Inside, neg_i, Cell, at, Group, P1, P2₁, Pm, Pa, P2₁2₁2₁, friedel, full, image_of, implied_value, factor_acts}
use Rattle.algebra.specs.cells.CellPlaces.{Stored, factor_operation}
use Rattle.algebra.specs.cells.CellPack.{even, pack_alt, pack_factors, unpack, times_i, PackedIn, FactorVolume}
use Rattle.algebra.specs.cells.CellSteps.{Obeys, after_l, after_h, after_k}
use Rattle.algebra.specs.orbits.OrbitLaws.{cell_of}
use Rattle.algebra.proofs.ring.Solver.{ring, quote}
use Rattle.algebra.proofs.fourier.Transform.{dft_cong, dft_mul, inversion}
use Rattle.algebra.proofs.fourier.Properties.{hermitian_real}
use Rattle.algebra.proofs.lines.Parts.{reals_in}
use Rattle.algebra.proofs.lines.Unfold.{at_zero, at_mirror}
use Rattle.algebra.proofs.lines.Rules.{before_pack, after_pack, transform_rule, pack_before_cong, pack_after_cong, antisymmetric_ends}
use Rattle.algebra.proofs.cells.CellAxis.{neg_zero, neg_pos}
use Rattle.algebra.proofs.cells.CellGroup.{factor_action, closed, operation_in, operation_stored, point_operation_stored}
use Rattle.algebra.proofs.cells.CellLawful.{point_read}
use Rattle.algebra.proofs.cells.CellPack.{imag_times, real_0, part_c, pack_alternating, pack_iff}
use Rattle.algebra.proofs.cells.CellRecord.{record_packed}
use Rattle.algebra.proofs.cells.CellRefusals.{zero_pair_lem}
use Rattle.algebra.proofs.cells.CellSym.{image_inside}
use Rattle.algebra.proofs.cells.CellTests.{Positive}
use Rattle.algebra.proofs.orbits.Orbits.{cell_of_obeying}
use Rattle.prime_shape.specs.Shape.{Value, field, conj, i, part, Shape}
use Rattle.prime_shape.specs.Transform.{root_of, axis_of, Of, Rule, Pass, packed_row, map_row, map_for, LineFacts, PassFacts, PackFacts}
use Rattle.prime_shape.proofs.Inverses.{ring_of}
use Rattle.prime_shape.proofs.Shapes.{field_ring, field_star, half_law}

-- over any ring: the packed line of a line that keeps its rule
module _ {R : Type 0} {𝓞 : Ops R} {conj : R → R} {i : R} (𝓡 : CRing 𝓞) (𝓢 : Star 𝓞 conj i) {half : R} {axis : Axis R} {tau : ℕ → R} (𝓐 : AxisLaws 𝓞 conj i half axis tau) where
  open 𝓞 use {mul as ◌⊗◌}
  open axis use {half as A, w, part}

  infixl 70 ◌⊗◌
  pack_pass : (k : Kind) (X : ℕ → R) → RuleBefore 𝓞 conj i half A k X → (s : ℕ) → s < slots k A →
      (forward 𝓞 conj i half A w k (pack_before 𝓞 conj i half A k X) s ≡ pack_after 𝓞 conj i half A k (dft 𝓞 (2 * A) w X) s)
      × (inverse 𝓞 conj i half A w part k (pack_after 𝓞 conj i half A k (dft 𝓞 (2 * A) w X)) s ≡ pack_before 𝓞 conj i half A k X s)
  pack_pass k X r s l = (
    pack_after_cong 𝓡 𝓢 𝓐 k _ _ (λ t lt. dft_cong 𝓡 (2 * A) w _ _ t (before_pack 𝓡 𝓢 𝓐 k X r)) s l,
    pack_before_cong 𝓡 𝓢 𝓐 k _ _ (λ t lt. ap (λ y. part ⊗ y) (dft_cong 𝓡 (2 * A) (conj w) _ _ t (after_pack 𝓡 𝓢 𝓐 k _ (transform_rule 𝓡 𝓢 𝓐 k X r))) ∙ inversion 𝓡 (2 * A) w (conj w) part 𝓐.root X t lt) s l,
  )

module _ {p c a : ℕ} {r : Value p} (S : Shape p c a r) where
  open field p use {add as ◌⊕◌, mul as ◌⊗◌, neg as ⊖◌, zer as 𝟘, one as 𝟙}

  infixl 65 ◌⊕◌
  infixl 70 ◌⊗◌
  infix 75 ⊖◌
  -- 1/2 as a residue
  abbrev half : Res p
  half = (part p 2).0

  half_two : (residues p).mul half ((residues p).add (residues p).one (residues p).one) ≡ (residues p).one
  unfolding gauss
  half_two = ring (ring_of S.is_prime) (half ∷ (part p 2).1 ∷ []) (search quote depth 40 fits 9999) refl ∙ ap (λ y. y.0) (half_law S)

  module _ (A : ℕ) (x : LineFacts p r A) where
    abbrev axis_laws : AxisLaws (field p) (conj p) (i p) (part p 2) (axis_of p r A) x.some_tangents.0
    axis_laws = x.axis x.some_tangents.0 x.some_tangents.1

    -- a pass of a packed line, which may be said in another way before and after
    pass_by : (k : Kind) (X : ℕ → Value p) → Rule p r A k X → {q z : ℕ → Value p} → pack_before (field p) (conj p) (i p) (part p 2) A k X ≡ q
        → pack_after (field p) (conj p) (i p) (part p 2) A k (dft (field p) (2 * A) (root_of p r (2 * A)) X) ≡ z → Pass p r A k q z
    pass_by k X o {q} {z} eq ez = subst (λ y. Pass p r A k y z) eq (subst (Pass p r A k (pack_before (field p) (conj p) (i p) (part p 2) A k X)) ez (pack_pass (field_ring S) (field_star S) axis_laws k X o))

  module _ (A B C : ℕ) (x : LineFacts p r A) (y : LineFacts p r B) (z : LineFacts p r C) (f : PassFacts p r A B C) where
    abbrev long : Positive (A, B, C)
    long = ((axis_laws A x).positive, (axis_laws B y).positive, (axis_laws C z).positive)

    p1_pass : (F : Cell (Value p)) (h k : ℕ) → Pass p r C plain (λ w. pack_factors (residues p) P1 (A, B, C) F w h k) (λ z. after_l (field p) (axis_of p r C) F h k z)
    unfolding pack_factors after_l pack_before pack_after
    p1_pass F h k = pass_by C z plain (F h k) tt refl refl

    -- an alternating line
    alternating_pass : (X : ℕ → Value p) → Rule p r C alternating X → Pass p r C alternating (pack_alt (residues p) C X) (dft (field p) (2 * C) (root_of p r (2 * C)) X)
    unfolding pack_after neg_i
    alternating_pass X o = pass_by C z alternating X o (λ j w. pack_alternating (ring_of S.is_prime) (part p 2) C X (real_0 (ring_of S.is_prime) half half_two C long.2 X o) (part_c (ring_of S.is_prime) half half_two C long.2 X o) w j) refl

    p21_pass : (F : Cell (Value p)) → Of p r A B C P2₁ F → (h k : ℕ) → h < 2 * A → k < 2 * B → Pass p r C alternating (λ w. pack_factors (residues p) P2₁ (A, B, C) F w h k) (λ z. after_l (field p) (axis_of p r C) F h k z)
    unfolding pack_factors after_l
    p21_pass F o h k lh lk = alternating_pass (F h k) (f.p21 F o h k lh lk)

    pm_pass : (F : Cell (Value p)) → Of p r A B C Pm F → (h k : ℕ) → h < 2 * A → k < 2 * B → Pass p r C symmetric (λ w. pack_factors (residues p) Pm (A, B, C) F w h k) (λ z. after_l (field p) (axis_of p r C) F h k z)
    unfolding pack_factors after_l pack_before pack_after
    pm_pass F o h k lh lk = pass_by C z symmetric (F h k) (f.pm F o h k lh lk) refl refl

    module _ (F : Cell (Value p)) (o : Of p r A B C Pa F) (h k : ℕ) (lh : h < 2 * A) (lk : k < 2 * B) where
      pa_even_pass : even h ≡ true → Pass p r C symmetric (λ w. pack_factors (residues p) Pa (A, B, C) F w h k) (λ z. after_l (field p) (axis_of p r C) F h k z)
      unfolding pack_factors after_l pack_before pack_after
      pa_even_pass e = pass_by C z symmetric (F h k) (f.pa_even F o h k lh lk e) refl refl

      pa_odd_pass : even h ≡ false → Pass p r C antisymmetric (λ w. pack_factors (residues p) Pa (A, B, C) F (suc w) h k) (λ z. after_l (field p) (axis_of p r C) F h k (suc z))
      unfolding pack_factors after_l pack_before pack_after
      pa_odd_pass e = pass_by C z antisymmetric (F h k) (f.pa_odd F o h k lh lk e) refl refl

      own_negative : (w : ℕ) → (w ≡ 0) ⊎ (w ≡ C) → (w < 2 * C) × (neg_i C w ≡ w)
      own_negative w (inl e) = (omega (arith, long.2), ap (neg_i C) e ∙ neg_zero C ∙ sym e)
      own_negative w (inr e) = (omega (arith, long.2), ap (neg_i C) e ∙ neg_pos C C long.2 (omega (arith, long.2)) ∙ omega arith)

      pa_ends_zero : even h ≡ false → (w : ℕ) → (w ≡ 0) ⊎ (w ≡ C) → (pack_factors (residues p) Pa (A, B, C) F w h k ≡ 𝟘) × (after_l (field p) (axis_of p r C) F h k w ≡ 𝟘)
      unfolding pack_factors after_l
      pa_ends_zero e w end =
          let n = own_negative w end in
          (zero_pair_lem (ring_of S.is_prime) half half_two (A, B, C) long F o h k w lh lk n.0 e n.1, antisymmetric_ends (field_ring S) (field_star S) (axis_laws C z) (F h k) (f.pa_odd F o h k lh lk e) w end)

    module _ (F : Cell (Value p)) (o : Of p r A B C P2₁2₁2₁ F) (h k : ℕ) (lh : h < 2 * A) (lk : k < 2 * B) where
      -- by the parity of h
      rotated_pass : (b : Bool) → even h ≡ b → {q : ℕ → Value p} → Pass p r C alternating (pack_alt (residues p) C (λ l. times_i (residues p) b (F h k l))) q
          → Pass p r C alternating (λ w. pack_factors (residues p) P2₁2₁2₁ (A, B, C) F w h k) q
      unfolding pack_factors
      rotated_pass b e {q} t = subst (λ b. Pass p r C alternating (pack_alt (residues p) C (λ l. times_i (residues p) b (F h k l))) q) (sym e) t

      even_pass : even h ≡ true → Pass p r C alternating (λ w. pack_factors (residues p) P2₁2₁2₁ (A, B, C) F w h k) (λ z. after_l (field p) (axis_of p r C) F h k z)
      unfolding after_l times_i
      even_pass e = rotated_pass true e (alternating_pass (F h k) (f.p212121_even F o h k lh lk e))

      odd_pass : even h ≡ false → Pass p r C alternating (λ w. pack_factors (residues p) P2₁2₁2₁ (A, B, C) F w h k) (λ z. i p ⊗ after_l (field p) (axis_of p r C) F h k z)
      unfolding after_l
      odd_pass e = rotated_pass false e (subst (λ (X : ℕ → Value p). Pass p r C alternating (pack_alt (residues p) C X) (λ z. i p ⊗ dft (field p) (2 * C) (root_of p r (2 * C)) (F h k) z)) (λ j l. imag_times (ring_of S.is_prime) (F h k l) j) (subst (Pass p r C alternating (pack_alt (residues p) C (λ l. i p ⊗ F h k l))) (λ j s. dft_mul (field_ring S) (2 * C) (root_of p r (2 * C)) (i p) (F h k) s j) (alternating_pass (λ l. i p ⊗ F h k l) (f.p212121_odd F o h k lh lk e))))

    h_pass : (T : Cell (Value p)) (k z : ℕ) → Pass p r A plain (λ h. T h k z) (λ x. after_h (field p) (axis_of p r A) T x k z)
    unfolding after_h pack_before pack_after
    h_pass T k z = pass_by A x plain (λ h. T h k z) tt refl refl

    -- after the pass along k stands the map
    mapped : (F : Cell (Value p)) (u v t : ℕ) → dft (field p) (2 * B) (root_of p r (2 * B)) (λ k. after_h (field p) (axis_of p r A) (after_l (field p) (axis_of p r C) F) u k v) t ≡ map_for p r A B C F u t v
    unfolding after_k
    mapped F u v t = f.passes F u t v

    -- a Hermitian line along k: real at both ends, and its sums are real
    module _ (T : Cell (Value p)) (u v : ℕ) (o : Rule p r B hermitian (λ k. T u k v)) where
      row_before : (k : ℕ) → pack_before (field p) (conj p) (i p) (part p 2) B hermitian (λ k. T u k v) k ≡ packed_row p r B T u v k
      unfolding pack_before pack_by
      row_before zero = reals_in (ring_of S.is_prime) half half_two (T u 0 v) (T u B v)
          (sym (at_zero (field_ring S) (2 * B) (λ t y. conj p y) (λ k. T u k v) (omega (arith, long.1)) o))
          (sym (at_mirror (field_ring S) (2 * B) (λ t y. conj p y) (λ k. T u k v) o B B long.1 long.1 (omega arith)))
      row_before (suc k) = refl

      row_after : (s : ℕ) → pack_after (field p) (conj p) (i p) (part p 2) B hermitian (dft (field p) (2 * B) (root_of p r (2 * B)) (λ k. T u k v)) s
          ≡ ((dft (field p) (2 * B) (root_of p r (2 * B)) (λ k. T u k v) (2 * s)).0, (dft (field p) (2 * B) (root_of p r (2 * B)) (λ k. T u k v) (2 * s + 1)).0)
      unfolding pack_after
      row_after s = reals_in (ring_of S.is_prime) half half_two _ _ (real (2 * s)) (real (2 * s + 1))
        where
          real : (t : ℕ) → conj p (dft (field p) (2 * B) (root_of p r (2 * B)) (λ k. T u k v) t) ≡ dft (field p) (2 * B) (root_of p r (2 * B)) (λ k. T u k v) t
          real t = hermitian_real (field_ring S) (field_star S) (2 * B) (root_of p r (2 * B)) (axis_laws B y).root.inverse (axis_laws B y).root.cycle (λ k. T u k v) o t

    k_pass : (F : Cell (Value p)) → Obeys (field p) (conj p) (A, B, C) friedel F → (u v : ℕ) → u < 2 * A → v < 2 * C
        → Pass p r B hermitian (packed_row p r B (after_h (field p) (axis_of p r A) (after_l (field p) (axis_of p r C) F)) u v) (map_row p r (map_for p r A B C F) u v)
    k_pass F o u v lu lv =
        let T = after_h (field p) (axis_of p r A) (after_l (field p) (axis_of p r C) F) in
        let rule = f.along_k_lem F o u v lu lv in
        pass_by B y hermitian (λ k. T u k v) rule (λ j k. row_before T u v rule k j)
        (λ j s. (row_after T u v rule s ∙ ap₂ (λ (a b : Value p). (a.0, b.0)) (mapped F u v (2 * s)) (mapped F u v (2 * s + 1))) j)

    -- what a volume stands for
    abbrev cell : J
    cell = (A, B, C)

    read_all : (g : Group) (F : Cell (Value p)) (volume : FactorVolume (Res p)) → Of p r A B C g F → PackedIn (residues p) g cell F volume → (j : J) → Inside cell j
        → at F j ≡ cell_of (factor_acts (field p) (conj p) cell) (factor_operation g cell) (λ j. unpack (residues p) g cell volume j) j
    unfolding cell_of factor_acts
    read_all g F volume o e j n =
        let s = factor_operation g cell j in
        sym (cell_of_obeying (factor_action (field_ring S) (field_star S) cell) (full g) (closed (field_ring S) (field_star S) cell g) (Stored g cell) (factor_operation g cell) (λ j n. operation_in g cell j) (λ j n. operation_stored g cell j n) (at F) o j n)
        ∙ ap (implied_value (field p) (conj p) s j) ((pack_iff (ring_of S.is_prime) half half_two cell long g F volume o).0 e (image_of cell s j) (image_inside cell s j n) (operation_stored g cell j n))

    pub pack_facts : PackFacts p r A B C
    pack_facts = record {
      p1 = p1_pass;
      p21 = p21_pass;
      pm = pm_pass;
      pa_even = pa_even_pass;
      pa_odd = pa_odd_pass;
      pa_ends = pa_ends_zero;
      p212121_even = even_pass;
      p212121_odd = odd_pass;
      along_h_lem = h_pass;
      along_k_lem = k_pass;
      read = read_all;
      record_held = λ g F volume j v o e n agrees. record_packed (ring_of S.is_prime) half half_two cell long g F volume j v o e n agrees;
      point = λ g F o u n. (point_operation_stored g cell u n, point_read (field_ring S) (field_star S) (axis_laws A x) (axis_laws B y) (axis_laws C z) g F o u n);
    }
