-- What the machine does with signed numbers, as equations of whole numbers.
use mathlib.Core.Path.{◌≡◌, sym, ◌∙◌, ap, subst}
use mathlib.Core.Bool.{cond}
use Prim.Native.Nat.{ℕ, zero, suc, ◌-◌, ◌<◌}
use native.Mathlib.Nat.{not-suc-le-zero}
use native.Mathlib.Omega.{arith}
use lib.IntN.{ℤ, pos, negsuc, ◌-ℤ◌}
use borrow.Author.Tests.{lt-ltb}
use mir.Syntax.{w32, w64}
use mir.Val.{SFits, to_z, of_z}
use mir.ValLaws.{to_z_pos, to_z-of_z}

-- ---- a number of 32 bits in 64

fits_wide : (z : ℤ) → SFits w32 z → SFits w64 z
fits_wide (pos n) f = record { sfits = omega (arith, f.sfits) }
fits_wide (negsuc n) f = record { sfits = omega (arith, f.sfits) }

pub wide_fits : (z : ℤ) → SFits w32 z → SFits w64 (to_z w32 (of_z w32 z))
wide_fits z f = subst (SFits w64) (sym (to_z-of_z w32 z f)) (fits_wide z f)

pub wide_is : (z : ℤ) → SFits w32 z → to_z w64 (of_z w64 (to_z w32 (of_z w32 z))) ≡ z
wide_is z f = to_z-of_z w64 _ (wide_fits z f) ∙ to_z-of_z w32 z f

-- ---- a difference below zero

pub below_zero : (x p : ℕ) → x < p → pos x -ℤ pos p ≡ negsuc (p - suc x)
below_zero x zero l = absurd (not-suc-le-zero l)
below_zero x (suc p) l = ap (λ b. cond b (negsuc (suc p - suc x)) (pos (x - suc p))) (lt-ltb x (suc p) l)

-- x - p of two numbers of 32 bits
pub difference : (x p : ℕ) → x < p → p < 2147483648 → to_z w32 x -ℤ to_z w32 p ≡ negsuc (p - suc x)
difference x p l k = (λ i. to_z_pos w32 x (omega arith) i -ℤ to_z_pos w32 p (omega arith) i) ∙ below_zero x p l
