-- What the passes of the alternating line's forward transform compute, place by place.
use mathlib.Core.Path.{◌≡◌, refl, sym, ◌∙◌, ap, ap₂}
use mathlib.Core.List.{List}
use Prim.Native.Nat.{ℕ, zero, suc, ◌*◌, ◌-◌, ◌<◌}
use native.Mathlib.Omega.{arith}
use lib.ListN.{get_or}
use Rattle.algebra.specs.lines.Kinds.{re, im}
use Rattle.algebra.specs.lines.Folds.{csc, cot, finish3}
use Rattle.numbers.specs.declared.Pair.{Pair}
use Rattle.numbers.specs.Value.{prime, Residue, Value, field, i, real, half, value_of, pair_of, on_values}
use Rattle.numbers.specs.Bounds.{res}
use Rattle.numbers.specs.Value as Value
use Rattle.numbers.proofs.Residues.{res_by, val_res}
use Rattle.numbers.proofs.Parts.{re_value, im_value}
use Rattle.numbers.proofs.Values.{pair_path, real_times}
use Rattle.slices.specs.Pairs.{at, values_of}
use Rattle.fold_formulas.specs.FoldFormulas.{stride, tangent}
use Rattle.numbers.proofs.RealValues.{real_add, real_neg, real_mul, parts_value}

-- ---- the half tangents

tau : (m A : ℕ) (tan : List ℕ) (t : ℕ) {x : ℕ} → x ≡ get_or tan (stride A * t) 0 → real m (res m x) ≡ tangent m A tan t
tau m A tan t e = ap (λ x. real m (res m x)) e

pub cot_by : (m A : ℕ) (tan : List ℕ) (s : ℕ) {x y d r : ℕ} → x ≡ get_or tan (stride A * s) 0 → y ≡ get_or tan (stride A * (A - s)) 0
    → d ≡ ((Value.ring m).add (res m y) ((Value.ring m).neg (res m x))).val → r ≡ ((Value.ring m).mul (half m) (res m d)).val
    → real m (res m r) ≡ cot (field m) (real m (half m)) A (tangent m A tan) s
unfolding cot
cot_by m A tan s ex ey ed er =
    ap (real m) (res_by m _ er) ∙ real_mul m _ _
    ∙ ap ((field m).mul (real m (half m))) (ap (real m) (res_by m _ ed) ∙ real_add m _ _ ∙ ap₂ (field m).add (tau m A tan (A - s) ey) (real_neg m _ ∙ ap (field m).neg (tau m A tan s ex)))

pub csc_by : (m A : ℕ) (tan : List ℕ) (s : ℕ) {x y d r : ℕ} → x ≡ get_or tan (stride A * s) 0 → y ≡ get_or tan (stride A * (A - s)) 0
    → d ≡ ((Value.ring m).add (res m x) (res m y)).val → r ≡ ((Value.ring m).mul (half m) (res m d)).val
    → real m (res m r) ≡ csc (field m) (real m (half m)) A (tangent m A tan) s
unfolding csc
csc_by m A tan s ex ey ed er =
    ap (real m) (res_by m _ er) ∙ real_mul m _ _
    ∙ ap ((field m).mul (real m (half m))) (ap (real m) (res_by m _ ed) ∙ real_add m _ _ ∙ ap₂ (field m).add (tau m A tan s ex) (tau m A tan (A - s) ey))

-- ---- forward, after the transform

-- a pair from two numbers that stand for its parts
pub pair_parts : (m : ℕ) (x y : Residue m) {u v : ℕ} → u ≡ x.val → v ≡ y.val → record { re = u; im = v } ≡ pair_of ((field m).add (real m x) ((field m).mul (i m) (real m y)))
unfolding pair_of
pair_parts m x y eu ev = pair_path eu ev ∙ ap pair_of (sym (parts_value m x y))

-- the parts of a pair that was read
pub read_re : (m : ℕ) (l : List ℕ) (s : ℕ) {v : Pair} → v ≡ at l s → real m (res m v.re) ≡ on_values m re (values_of m l s)
unfolding value_of
read_re m l s e = ap (λ (w : Pair). real m (res m w.re)) e ∙ sym (re_value m _)

pub read_im : (m : ℕ) (l : List ℕ) (s : ℕ) {v : Pair} → v ≡ at l s → real m (res m v.im) ≡ on_values m im (values_of m l s)
unfolding value_of
read_im m l s e = ap (λ (w : Pair). real m (res m w.im)) e ∙ sym (im_value m _)

module _ (m A : ℕ) (tan fold : List ℕ) (odd : ℕ) where
  pub finish_first : (s : ℕ) {v : Pair} {r : ℕ} → s ≡ 0 → v ≡ at fold s → odd < prime m → r ≡ ((Value.ring m).add (res m v.re) (res m odd)).val
      → record { re = r; im = odd } ≡ pair_of (on_values m finish3 A (tangent m A tan) (values_of m fold) (real m (res m odd)) s)
  unfolding finish3
  finish_first zero z ev l e =
      pair_parts m _ (res m odd) e (sym (val_res m l))
      ∙ ap (λ x. pair_of ((field m).add x ((field m).mul (i m) (real m (res m odd))))) (real_add m _ _ ∙ ap (λ x. (field m).add x (real m (res m odd))) (read_re m fold 0 ev))
  finish_first (suc s) z ev l e = absurd (omega arith)

  -- w holds the cotangent and the cosecant
  pub finish_rest : (s : ℕ) (w : Pair) {v b : Pair} {r : ℕ} → (s ≡ 0 → ⊥) → v ≡ at fold s
      → real m (res m w.re) ≡ cot (field m) (real m (half m)) A (tangent m A tan) s → real m (res m w.im) ≡ csc (field m) (real m (half m)) A (tangent m A tan) s
      → b ≡ pair_of ((field m).mul (real m (res m v.im)) (value_of m w))
      → r ≡ ((Value.ring m).add (res m v.re) (res m b.re)).val
      → record { re = r; im = b.im } ≡ pair_of (on_values m finish3 A (tangent m A tan) (values_of m fold) (real m (res m odd)) s)
  unfolding finish3 value_of pair_of
  finish_rest zero w z ev ec ed eb er = absurd (z refl)
  finish_rest (suc s) w {v} {b} z ev ec ed eb er =
      pair_parts m _ _ er (ap (λ (p : Pair). p.im) parts)
      ∙ ap₂ (λ x y. pair_of ((field m).add x ((field m).mul (i m) y)))
      (real_add m _ _ ∙ ap₂ (field m).add (read_re m fold (suc s) ev) (ap (real m) (res_by m _ (ap (λ (p : Pair). p.re) parts)) ∙ real_mul m _ _ ∙ ap₂ (field m).mul (read_im m fold (suc s) ev) ec))
      (real_mul m _ _ ∙ ap₂ (field m).mul (read_im m fold (suc s) ev) ed)
    where
      parts : b ≡ pair_of ((Value.ring m).mul (res m v.im) (res m w.re), (Value.ring m).mul (res m v.im) (res m w.im))
      parts = eb ∙ ap pair_of (real_times m (res m v.im) (value_of m w))
