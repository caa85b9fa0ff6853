-- Records on the packed factors of a cell F that obeys group and Friedel: the list becomes the packed factors of F with the record and its images,
-- which obeys them too; a record agrees with itself exactly if no image falls on its own index with another value (refusal 12).
use mathlib.Core.Path.{◌≡◌, refl, sym, ◌∙◌, ap}
use mathlib.Core.Logic.{◌↔◌}
use mathlib.Core.Bool.{Bool, true, false, ◌||◌, cond}
use Prim.Native.Nat.{ℕ}
use native.Mathlib.Omega.{arith}
use lib.Dec.{T, eqb, eqb→eq}
use Rattle.algebra.specs.orbits.Orbit.{Mem}
use Rattle.algebra.specs.orbits.OrbitLaws.{AgreesWithItself}
use Rattle.algebra.specs.lines.Kinds.{Kind.symmetric, Kind.antisymmetric}
use Rattle.algebra.specs.cells.Cell.{J, Inside, Sym, Group, P1, P2₁, Pm, Pa, P2₁2₁2₁, full, image_of, flip, neg_i, Cell, factor_acts}
use Rattle.algebra.specs.cells.Cell as Cell
use Rattle.algebra.specs.cells.CellSteps.{Lawful}
use Rattle.algebra.specs.cells.CellPlaces.{line_sym}
use Rattle.algebra.specs.cells.CellPack.{even, PackedIn}
use Rattle.algebra.proofs.ring.Bool.{or_e}
use Rattle.algebra.proofs.ring.Paths.{triple}
use Rattle.algebra.proofs.ring.Laws.{self_neg, neg_one_mul}
use Rattle.algebra.proofs.orbits.OrbitStore.{image_agrees_lem}
use Rattle.algebra.proofs.cells.CellAxis.{neg_zero, neg_pos}
use Rattle.algebra.proofs.cells.CellPack.{sign_of}
use Rattle.algebra.proofs.orbits.Orbits.{record_obeys}
use Rattle.algebra.proofs.cells.CellGroup.{factor_action, closed, line_mem}
use Rattle.algebra.proofs.cells.CellTests.{Positive}
use Rattle.algebra.proofs.cells.CellTests as CellTests
use Rattle.algebra.proofs.cells.CellRecord as CellRecord
use Rattle.numbers.specs.Value.{Value, field, conj, ring, half, real}
use Rattle.numbers.proofs.Residues.{res_ring}
use Rattle.numbers.proofs.Values.{field_ring, field_star}
use Rattle.numbers.proofs.Parts.{half_residue, half_law}
use Rattle.cell.specs.Volume.{first_pair, pack_factors}
use Rattle.cell.specs.Consistency.{same_value, implied, record_on, record_in, agrees_with_itself}
use Rattle.cell.proofs.Tests.{true_iff}
use Rattle.cell.proofs.Reading.{same_iff, pairs_in, implied_Pa, empty_ends_lem, packed_holds, length_factors, below_factors}
use Rattle.cell.proofs.Consistency.{packed_list}
use Rattle.cell.proofs.Writing.{LeftOut, Empty, length_images, below_images, images_hold}

module _ (g : Group) (a : J) (long : Positive a) (m : ℕ) where
  -- refusal 12
  pub agrees_iff : (j : J) (x : Value m) → (agrees_with_itself g a m j x ≡ true) ↔ ((s : Sym) → Mem s (full g) → image_of a s j ≡ j → implied g a m s j x ≡ x)
  unfolding agrees_with_itself factor_acts
  agrees_iff j x = let c = CellTests.agrees_iff (field_ring m) (field_star m) same_value (same_iff m) g a long j x in (λ e. c.0 ((true_iff _).0 e), λ f. (true_iff _).1 (c.1 f))

  module _ (F : Cell (Value m)) (lawful : Lawful (field m) (conj m) a g F) (j : J) (inside : Inside a j) (x : Value m) (agrees : agrees_with_itself g a m j x ≡ true) where
    consistent : AgreesWithItself (factor_acts (field m) (conj m) a) (full g) j x
    unfolding factor_acts
    consistent = (agrees_iff j x).0 agrees

    -- an image whose pair is left out has the value zero: its line's own operation leads to itself, with the other sign
    left_out_zero : (g : Group) → AgreesWithItself (factor_acts (field m) (conj m) a) (full g) j x → (s : Sym) → Mem s (full g) → LeftOut g a m (image_of a s j) → implied g a m s j x ≡ (field m).zer
    unfolding factor_acts image_of flip
    left_out_zero P1 c s ms o = absurd (omega (arith, ap first_pair o.0))
    left_out_zero P2₁ c s ms o = absurd (omega (arith, ap first_pair o.0))
    left_out_zero Pm c s ms o = absurd (omega (arith, ap first_pair o.0))
    left_out_zero Pa c s ms o =
        let i = image_of a s j in
        let y = implied Pa a m s j x in
        let own = image_agrees_lem (factor_action (field_ring m) (field_star m) a) (full Pa) (closed (field_ring m) (field_star m) a Pa) s j x inside ms c (line_sym Pa) (line_mem Pa) (own_image i o.1) in
        self_neg (field_ring m) (real m (half m)) (half_law m) y (sym own ∙ implied_Pa m i y ∙ ap (λ b. (field m).mul (sign_of (res_ring m) b) y) (odd (even i.0) o.0) ∙ neg_one_mul (field_ring m) y)
      where
        odd : (b : Bool) → cond b symmetric antisymmetric ≡ antisymmetric → b ≡ false
        odd true e = absurd (omega (arith, ap first_pair e))
        odd false e = refl

        own_image : (i : J) → T (eqb i.2 0 || eqb i.2 a.2) → image_of a (line_sym Pa) i ≡ i
        own_image i t = or_e (eqb i.2 0) _ _ t
            (λ e. triple refl refl (ap (neg_i a.2) (eqb→eq _ _ e) ∙ neg_zero a.2 ∙ sym (eqb→eq _ _ e)))
            (λ e. let z : i.2 ≡ a.2 = eqb→eq _ _ e in triple refl refl (ap (neg_i a.2) z ∙ neg_pos a.2 a.2 long.2 (omega (arith, long.2)) ∙ omega arith))
    left_out_zero P2₁2₁2₁ c s ms o = absurd (omega (arith, ap first_pair o.0))

    pub record_lawful : Lawful (field m) (conj m) a g (record_in g a m j x F)
    unfolding record_in factor_acts
    record_lawful = record_obeys (factor_action (field_ring m) (field_star m) a) (full g) (closed (field_ring m) (field_star m) a g) j x (Cell.at F) inside consistent lawful

    pub record_packed : record_on g a m j x (pack_factors g a m F) ≡ pack_factors g a m (record_in g a m j x F)
    unfolding record_in
    record_packed = sym (packed_list g a long m (record_in g a m j x F) record_lawful _
        (length_images g a m j x (full g) (pack_factors g a m F) ∙ length_factors g a m F)
        (below_images g a m j x (full g) (pack_factors g a m F) (below_factors g a m F))
        holds)
      where
        empty : Empty g a m (pairs_in g a m (pack_factors g a m F))
        empty i n s o =
            let e = empty_ends_lem g a long.2 m F i.0 i.1 n.0 (omega (arith, s.0)) o.0 in
            or_e (eqb i.2 0) _ _ o.1
            (λ t. ap (λ w. pairs_in g a m (pack_factors g a m F) w i.0 i.1) (eqb→eq _ _ t) ∙ e.0)
            (λ t. ap (λ w. pairs_in g a m (pack_factors g a m F) w i.0 i.1) (eqb→eq _ _ t) ∙ e.1)

        holds : PackedIn (ring m) g a (record_in g a m j x F) (pairs_in g a m (record_on g a m j x (pack_factors g a m F)))
        holds w h k lw lh lk =
            CellRecord.record_packed (res_ring m) (half m) (half_residue m) a long g F (pairs_in g a m (pack_factors g a m F)) j x lawful (packed_holds g a long m F lawful) inside consistent w h k lw lh lk
            ∙ sym (images_hold g a m j x long.2 inside (full g) (left_out_zero g consistent) (pack_factors g a m F) (length_factors g a m F) (pairs_in g a m (pack_factors g a m F)) (λ w h k lw lh lk. refl) empty w h k lw lh (omega arith))
