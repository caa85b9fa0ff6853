-- The tests of the call in their order: those of the header, then those of the buffers; refusal 28 place by place; and what is known where no test holds.
use mathlib.Core.Path.{◌≡◌, refl, sym, ◌∙◌, ap}
use mathlib.Core.Bool.{Bool, true, false, ◌||◌, cond}
use mathlib.Core.List.{List}
use Prim.Native.Nat.{ℕ, ◌+◌, ◌*◌, ◌≤◌}
use native.Mathlib.Omega.{arith}
use lib.ListN.{length}
use lib.Dec.{ltb, eqb}
use lib.IntN.{ℤ}
use borrow.Author.Tests.{not-false, ltb-false, eqb-true}
use Rattle.algebra.specs.cells.Cell.{J, P1}
use Rattle.refusals.specs.declared.Refusal.{Refusal}
use Rattle.refusals.specs.Refusals.{number_of, first}
use Rattle.refusals.proofs.Tests.{pass, none, passed, append_stop, append_pass, not_zero, both}
use Rattle.lengths.specs.Lengths.{scratch_length}
use Rattle.cell.specs.Volume.{volume_length}
use Rattle.header.specs.Header.{Header, half_lengths, axis_tests}
use Rattle.header.proofs.Headers.{sound_axes, sound_sizes}
use Rattle.combined.specs.CombinedMap.{limit}
use Rattle.correlation.specs.Correlation.{larger, over, magnitudes, largest, exceeds, header_of, all_long, buffers_tests, correlation_tests}
use Rattle.correlation.specs.Steps.{magnitude_at, exceeds_at, axes_of, SoundAxes}
use Rattle.correlation.proofs.Folding.{sum_folds, larger_folds, over_places}

-- ---- disjunctions

pub or_first : {a : Bool} (b : Bool) → a ≡ true → true ≡ (a || b)
or_first b e = sym (ap (λ t. t || b) e)

pub or_later : {a b r : Bool} → a ≡ false → r ≡ b → r ≡ (a || b)
or_later {a} {b} e q = q ∙ sym (ap (λ t. t || b) e)

pub or_none : (a b : Bool) → (a || b) ≡ false → (a ≡ false) × (b ≡ false)
or_none true b e = absurd (true_false e)
  where
    true_false : true ≡ false → ⊥
    true_false q = let z : ◌≡◌ {A = ℕ} 1 0 = ap (λ t. cond t 1 0) q in omega arith
or_none false b e = (refl, e)

-- ---- refusal 28 by places

pub exceeds_places : (h : J) (a b : List ℤ) → length a ≡ volume_length P1 h → length b ≡ volume_length P1 h → exceeds_at h.1 a b ≡ exceeds h a b
exceeds_places h a b la lb = λ i. ltb limit (most a la i) || (ltb limit (most b lb i) || ltb limit (all i * most b lb i))
  where
    most : (v : List ℤ) → length v ≡ volume_length P1 h → over larger (length v) (magnitude_at h.1 v) ≡ largest h v
    most v e = ap (λ n. over larger n (magnitude_at h.1 v)) e ∙ over_places larger_folds h v

    all : over ◌+◌ (length a) (magnitude_at h.1 a) ≡ magnitudes h a
    all = ap (λ n. over ◌+◌ n (magnitude_at h.1 a)) la ∙ over_places sum_folds h a

-- ---- all tests

module _ (c : Header) (a b : List ℤ) (output work1 work2 work3 scratch : ℕ) where
  pub header_refused : (r : Refusal) → number_of r ≡ first (axis_tests c) → number_of r ≡ first (correlation_tests c a b output work1 work2 work3 scratch)
  header_refused r e = append_stop (axis_tests c) (buffers_tests c.lengths a b output work1 work2 work3 scratch) (not_zero r) e

  pub buffers_decide : {number : ℕ} → 0 ≡ first (axis_tests c) → number ≡ first (buffers_tests c.lengths a b output work1 work2 work3 scratch) → number ≡ first (correlation_tests c a b output work1 work2 work3 scratch)
  buffers_decide e f = append_pass (axis_tests c) _ (passed (axis_tests c) tt e) f

-- ---- the lengths

pub record Long (n a b output work1 work2 work3 : ℕ) : Type 0 where
  pub a_long : a ≡ n
  pub b_long : b ≡ n
  pub output_long : output ≡ n
  pub work1_long : work1 ≡ n
  pub work2_long : work2 ≡ n
  pub work3_long : work3 ≡ n

pub long_of : (n a b output work1 work2 work3 : ℕ) → all_long n a b output work1 work2 work3 ≡ true → Long n a b output work1 work2 work3
long_of n a b output work1 work2 work3 e =
    let p = both (eqb a n) _ e in
    let q = both (eqb b n) _ p.1 in
    let r = both (eqb output n) _ q.1 in
    let s = both (eqb work1 n) _ r.1 in
    let t = both (eqb work2 n) _ s.1 in
    record {
      a_long = eqb-true _ _ p.0;
      b_long = eqb-true _ _ q.0;
      output_long = eqb-true _ _ r.0;
      work1_long = eqb-true _ _ s.0;
      work2_long = eqb-true _ _ t.0;
      work3_long = eqb-true _ _ t.1;
    }

-- ---- no test holds

pub record Sound (n : J) (l1 l2 l3 : List ℕ) (a b : List ℤ) (output work1 work2 work3 scratch : ℕ) : Type 0 where
  pub header : 0 ≡ first (axis_tests (header_of n l1 l2 l3))
  pub axes : SoundAxes (axes_of n l1 l2 l3)
  pub long : Long (volume_length P1 (half_lengths n)) (length a) (length b) output work1 work2 work3
  pub room : scratch_length ≤ scratch
  pub within : magnitudes (half_lengths n) a * largest (half_lengths n) b ≤ limit

pub sound : (n : J) (l1 l2 l3 : List ℕ) (a b : List ℤ) (output work1 work2 work3 scratch : ℕ) → 0 ≡ first (correlation_tests (header_of n l1 l2 l3) a b output work1 work2 work3 scratch) → Sound n l1 l2 l3 a b output work1 work2 work3 scratch
sound n l1 l2 l3 a b output work1 work2 work3 scratch e =
    let c = header_of n l1 l2 l3 in
    let t = passed (correlation_tests c a b output work1 work2 work3 scratch) tt e in
    let h : 0 ≡ first (axis_tests c) = pass 3 _ t.0 (pass 4 _ t.1.0 (pass 5 _ t.1.1.0 (pass 9 _ t.1.1.1.0 none))) in
    let u = t.1.1.1.1 in
    let x = sound_axes c h in
    let beyond = or_none (ltb limit (largest (half_lengths n) a)) _ u.1.1.0 in
    let product = or_none (ltb limit (largest (half_lengths n) b)) _ beyond.1 in
    record {
      header = h;
      axes = record {
        sizes = sound_sizes c h (omega arith);
        first = x.0.size;
        second = x.1.size;
        third = x.2.size;
        first_list = x.0.list;
        second_list = x.1.list;
        third_list = x.2.list;
      };
      long = long_of _ _ _ _ _ _ _ (not-false _ u.0);
      room = ltb-false _ _ u.1.0;
      within = ltb-false _ _ product.1;
    }
