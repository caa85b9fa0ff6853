-- The sizes of a frame: the half A of an admitted length, the step of the tables' places, and the plain transform of A points.
use mathlib.Core.Path.{◌≡◌, ◌∙◌, ap}
use mathlib.Core.List.{List}
use Prim.Native.Nat.{ℕ, zero, suc, ◌*◌, ◌/◌, ◌<◌, ◌≤◌}
use native.Mathlib.Nat as N
use native.Mathlib.Omega.{arith}
use Rattle.algebra.specs.ring.Ring.{pow}
use Rattle.algebra.proofs.fourier.Transform.{pow_mul}
use Rattle.numbers.specs.Value.{field}
use Rattle.roots.specs.Table.{table_root}
use Rattle.numbers.proofs.Values.{field_ring}
use Rattle.slices.proofs.Rows.{row_end, rows_wide}
use Rattle.fold_formulas.specs.FoldFormulas.{stride, line_root, Frame}

positive_part : (A k : ℕ) → A * k ≡ 1440 → 0 < k
positive_part A zero e = absurd (omega (arith, N.mul-zero A))
positive_part A (suc k) e = omega arith

-- the place of e(s/N) lies in the first half of the tables of powers, and in the table of half tangents
pub step_inside : (A step : ℕ) {s : ℕ} → A * step ≡ 1440 → s < A → step * s < 1440
step_inside A step e l = omega (arith, row_end step l, positive_part A step e)

pub stride_inside : {A step s : ℕ} → step ≡ stride A → A * stride A ≡ 1440 → s < A → step * s < 1440
stride_inside {A} {step} h e l = step_inside A step (ap (λ k. A * k) h ∙ e) l

module _ {m A : ℕ} {re im : List ℕ} (f : Frame m A re im) where
  pub half_most : A ≤ 1440
  half_most = omega (arith, rows_wide A (positive_part A (stride A) f.divides), f.divides)

  double_stride : 2880 / A ≡ stride A * 2
  double_stride = N.div-eq_of_eq-mul_right f.positive (omega (arith, f.divides))

  pub half_divides : A * (2880 / A) ≡ 2880
  half_divides = ap (λ k. A * k) double_stride ∙ twice
    where
      twice : A * (stride A * 2) ≡ 2880
      twice = omega (arith, f.divides)

  -- the root of the plain transform is e(1/A) = e(1/N)^2
  pub short_root : pow (field m) (table_root m re im) (2880 / A) ≡ pow (field m) (line_root m A re im) 2
  short_root = ap (pow (field m) (table_root m re im)) double_stride ∙ pow_mul (field_ring m) (table_root m re im) (stride A) 2
