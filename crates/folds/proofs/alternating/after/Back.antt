-- What the passes of the alternating line's inverse compute, place by place.
use mathlib.Core.Path.{◌≡◌, refl, sym, ◌∙◌, ap, ap₂}
use mathlib.Core.List.{List, [], ◌∷◌}
use Prim.Native.Nat.{ℕ, zero, suc, ◌+◌, ◌*◌, ◌-◌, ◌/◌, ◌%◌}
use native.Mathlib.Omega.{arith}
use Rattle.algebra.specs.ring.Ring.{Ops}
use Rattle.algebra.specs.ring.RingLaws.{CRing}
use Rattle.algebra.specs.lines.Kinds.{re, im, unit, interleave, pack_by}
use Rattle.algebra.specs.lines.Packings.{pack_b3}
use Rattle.algebra.specs.lines.Folds.{mate, csc, cot, alternating_spectrum, twice_M, line3}
use Rattle.algebra.proofs.ring.Solver.{ring, quote, linear}
use Rattle.algebra.proofs.ring.Laws.{along}
use Rattle.algebra.proofs.lines.Unfold.{interleave_even, interleave_odd}
use Rattle.numbers.specs.declared.Pair.{Pair}
use Rattle.numbers.specs.Value.{prime, Value, field, conj, i, real, half, value_of, pair_of, on_values}
use Rattle.numbers.specs.Bounds.{res}
use Rattle.numbers.specs.Value as Value
use Rattle.numbers.proofs.Residues.{res_by, val_res}
use Rattle.numbers.proofs.Values.{field_ring, field_star, value_by}
use Rattle.slices.specs.Pairs.{at, Below, values_of}
use Rattle.slices.proofs.Bounds.{small_of}
use Rattle.fold_formulas.specs.FoldFormulas.{tangent}
use Rattle.numbers.proofs.RealValues.{real_add, real_neg, real_mul}
use Rattle.fold_formulas.proofs.alternating.Middles.{unit_even, unit_odd, real_pair}
use Rattle.folds.proofs.alternating.after.Passes.{pair_parts, read_re, read_im}

-- ---- before the transform

-- the opposite half tangents give the opposite cotangent and cosecant
opposite : {R : Type 0} {𝓞 : Ops R} (𝓡 : CRing 𝓞) (h near far u v : R)
    → 𝓞.neg (𝓞.add (𝓞.mul u (𝓞.mul h (𝓞.add far (𝓞.neg near)))) (𝓞.mul v (𝓞.mul h (𝓞.add near far))))
    ≡ 𝓞.add (𝓞.mul u (𝓞.mul h (𝓞.add (𝓞.neg far) (𝓞.neg (𝓞.neg near))))) (𝓞.mul v (𝓞.mul h (𝓞.add (𝓞.neg near) (𝓞.neg far))))
opposite 𝓡 h near far u v = ring 𝓡 (h ∷ near ∷ far ∷ u ∷ v ∷ []) (search quote depth 40 fits 9999) refl

module _ (m A : ℕ) (tan line : List ℕ) where
  -- the half tangents of the line's root, by those of its conjugate, which are lent
  abbrev tau : ℕ → Value m
  tau s = (field m).neg (tangent m A tan s)

  pub inverse_short_first : (s : ℕ) {z : Pair} → s ≡ 0 → z ≡ at line s → Below (prime m) line
      → record { re = z.re; im = 0 } ≡ pair_of (on_values m alternating_spectrum A tau (values_of m line) s)
  unfolding alternating_spectrum
  inverse_short_first zero {z} n ez b = real_pair m _ z.re (small_of line 0 ez b).re (sym (read_re m line 0 ez))
  inverse_short_first (suc s) n ez b = absurd (omega arith)

  -- c is the cotangent, d the cosecant, of the opposite angle
  pub inverse_short_rest : (s c d : ℕ) {z : Pair} {x y n r : ℕ} → (s ≡ 0 → ⊥) → z ≡ at line s → Below (prime m) line
      → real m (res m c) ≡ cot (field m) (real m (half m)) A (tangent m A tan) s → real m (res m d) ≡ csc (field m) (real m (half m)) A (tangent m A tan) s
      → x ≡ ((Value.ring m).mul (res m z.re) (res m c)).val → y ≡ ((Value.ring m).mul (res m z.im) (res m d)).val
      → n ≡ ((Value.ring m).add (res m x) (res m y)).val → r ≡ ((Value.ring m).neg (res m n)).val
      → record { re = z.re; im = r } ≡ pair_of (on_values m alternating_spectrum A tau (values_of m line) s)
  unfolding alternating_spectrum cot csc
  inverse_short_rest zero c d o ez b ec ed ex ey en er = absurd (o refl)
  inverse_short_rest (suc s) c d {z} o ez b ec ed ex ey en er =
      pair_parts m (res m z.re) _ (sym (val_res m (small_of line (suc s) ez b).re)) er
      ∙ ap₂ (λ x y. pair_of ((field m).add x ((field m).mul (i m) y)))
      (read_re m line (suc s) ez)
      (real_neg m _ ∙ ap (field m).neg
      (ap (real m) (res_by m _ en) ∙ real_add m _ _ ∙ ap₂ (field m).add
      (ap (real m) (res_by m _ ex) ∙ real_mul m _ _ ∙ ap₂ (field m).mul (read_re m line (suc s) ez) ec)
      (ap (real m) (res_by m _ ey) ∙ real_mul m _ _ ∙ ap₂ (field m).mul (read_im m line (suc s) ez) ed))
      ∙ opposite (field_ring m) _ _ _ _ _)

pub twice_by : (m : ℕ) (line : List ℕ) {z : Pair} {x r : ℕ} → z ≡ at line 0 → x ≡ ((Value.ring m).add (res m z.re) (res m z.im)).val
    → r ≡ ((Value.ring m).add (res m x) (res m x)).val → (A : ℕ) → real m (res m r) ≡ on_values m twice_M A (values_of m line)
unfolding twice_M
twice_by m line {z} {x} ez ex er A = ap (real m) (res_by m _ er) ∙ real_add m _ _ ∙ ap₂ (field m).add once once
  where
    once : real m (res m x) ≡ (field m).add (on_values m re (values_of m line 0)) (on_values m im (values_of m line 0))
    once = ap (real m) (res_by m _ ex) ∙ real_add m _ _ ∙ ap₂ (field m).add (read_re m line 0 ez) (read_im m line 0 ez)

-- ---- after the transform

pub mate_zero : (a t : ℕ) → t ≡ 0 → 0 ≡ mate a t
unfolding mate
mate_zero a zero e = refl
mate_zero a (suc t) e = absurd (omega arith)

pub mate_rest : (a t : ℕ) → (t ≡ 0 → ⊥) → a - t ≡ mate a t
unfolding mate
mate_rest a zero e = absurd (e refl)
mate_rest a (suc t) e = refl

-- the mate of the places 2t and 2t + 1
pub mate_even : (A j : ℕ) → j % 2 ≡ 0 → mate A ((j + 1) / 2) ≡ mate A (j / 2)
mate_even A j e = along (mate A) ((j + 1) / 2) (j / 2) (omega arith)

pub mate_odd : (A j : ℕ) → (j % 2 ≡ 0 → ⊥) → mate A ((j + 1) / 2) ≡ A - suc (j / 2)
unfolding mate
mate_odd A j e = along (mate A) ((j + 1) / 2) (suc (j / 2)) (omega arith)

-- the sum of one value and the conjugate of another
pub folded_by : (m : ℕ) (l : List ℕ) (j k : ℕ) {y z c r : Pair} → y ≡ at l j → z ≡ at l k → c ≡ pair_of (conj m (value_of m z)) → r ≡ pair_of ((field m).add (value_of m y) (value_of m c))
    → r ≡ pair_of ((field m).add (values_of m l j) (conj m (values_of m l k)))
folded_by m l j k ey ez ec er = er ∙ ap pair_of (ap₂ (field m).add (ap (value_of m) ey) (value_by m _ ec ∙ ap (λ v. conj m (value_of m v)) ez))

-- i times a real number less a value
pub i_times_by : (m x : ℕ) (z : Value m) {v d r : Pair} → v ≡ pair_of z → d ≡ pair_of ((field m).add (value_of m (record { re = x; im = 0 })) ((field m).neg (value_of m v)))
    → r ≡ pair_of ((field m).mul (i m) (value_of m d)) → r ≡ pair_of ((field m).mul (i m) ((field m).add (real m (res m x)) ((field m).neg z)))
unfolding value_of
i_times_by m x z ev ed er = er ∙ ap (λ y. pair_of ((field m).mul (i m) y)) (value_by m _ ed ∙ ap (λ y. (field m).add (real m (res m x)) ((field m).neg y)) (value_by m _ ev))

pub scaled_by : (m c : ℕ) (z : Value m) {v r : Pair} → v ≡ pair_of z → r ≡ pair_of ((field m).mul (real m (res m c)) (value_of m v)) → r ≡ pair_of ((field m).mul (real m (res m c)) z)
scaled_by m c z ev er = er ∙ ap (λ y. pair_of ((field m).mul (real m (res m c)) y)) (value_by m _ ev)

module _ (m A : ℕ) (part : Value m) (y : ℕ → Value m) (twice : Value m) where
  pub line_even : (j : ℕ) → j % 2 ≡ 0 → (field m).mul part ((field m).add (y (j / 2)) (conj m (y (mate A (j / 2))))) ≡ on_values m line3 A part y twice j
  unfolding line3
  line_even j h = sym (interleave_even _ _ (j / 2)) ∙ along (interleave _ _) (2 * (j / 2)) j (omega arith)

  pub line_odd : (j : ℕ) → (j % 2 ≡ 0 → ⊥) → (field m).mul part ((field m).mul (i m) ((field m).add twice ((field m).neg ((field m).add (y (j / 2)) (conj m (y (A - suc (j / 2)))))))) ≡ on_values m line3 A part y twice j
  unfolding line3
  line_odd j h = sym (interleave_odd _ _ (j / 2)) ∙ along (interleave _ _) (2 * (j / 2) + 1) j (omega arith)

i_times_back : {R : Type 0} {𝓞 : Ops R} (𝓡 : CRing 𝓞) (i x : R) → 𝓞.mul i i ≡ 𝓞.neg 𝓞.one → 𝓞.mul i (𝓞.mul (𝓞.neg i) x) ≡ x
i_times_back {𝓞 = 𝓞} 𝓡 i x h = linear 𝓡 h (𝓞.neg x) (ring 𝓡 (i ∷ x ∷ []) (search quote depth 40 fits 9999) refl)

module _ (m A : ℕ) (X : ℕ → Value m) where
  -- X(0) and the real part of X(A)
  pub pack_even : (t : ℕ) {x y u r : Pair} → t ≡ 0 → A % 2 ≡ 0 → x ≡ pair_of (X t) → y ≡ pair_of (X A) → u ≡ pair_of ((field m).mul (i m) (value_of m y))
      → r ≡ pair_of ((field m).add (value_of m x) (value_of m u)) → r ≡ pair_of (on_values m pack_b3 A X t)
  unfolding pack_by
  pack_even zero z h ex ey eu er =
      er ∙ ap pair_of (ap₂ (field m).add (value_by m _ ex) (value_by m _ eu ∙ ap ((field m).mul (i m)) (value_by m _ ey ∙ sym (ap (λ u. (field m).mul u (X A)) is_one ∙ (field_ring m).one_mul (X A)))))
    where
      is_one : conj m (on_values m unit A A) ≡ (field m).one
      is_one = ap (conj m) (unit_even (field m) (conj m) (i m) (real m (half m)) A A h) ∙ (field_star m).conj_one
  pack_even (suc t) z h ex ey eu er = absurd (omega arith)

  -- X(0) and X(A), which is imaginary
  pub pack_odd : (t : ℕ) {x y r : Pair} → t ≡ 0 → (A % 2 ≡ 0 → ⊥) → x ≡ pair_of (X t) → y ≡ pair_of (X A)
      → r ≡ pair_of ((field m).add (value_of m x) (value_of m y)) → r ≡ pair_of (on_values m pack_b3 A X t)
  unfolding pack_by
  pack_odd zero z h ex ey er =
      er ∙ ap pair_of (ap₂ (field m).add (value_by m _ ex) (value_by m _ ey ∙ sym (ap (λ u. (field m).mul (i m) ((field m).mul u (X A))) is_i ∙ i_times_back (field_ring m) (i m) (X A) (field_star m).i_square)))
    where
      is_i : conj m (on_values m unit A A) ≡ (field m).neg (i m)
      is_i = ap (conj m) (unit_odd (field m) (conj m) (i m) (real m (half m)) A A h) ∙ (field_star m).conj_i
  pack_odd (suc t) z h ex ey er = absurd (omega arith)

  pub pack_rest : (t : ℕ) {x : Pair} → (t ≡ 0 → ⊥) → x ≡ pair_of (X t) → x ≡ pair_of (on_values m pack_b3 A X t)
  unfolding pack_by
  pack_rest zero z e = absurd (z refl)
  pack_rest (suc t) z e = e
