-- The lent scratch: cleared, it is as long as it was, and to clear it again changes nothing.
use mathlib.Core.Path.{◌≡◌, sym, ◌∙◌, ap, subst}
use mathlib.Core.List.{List, ◌++◌}
use Prim.Native.Nat.{ℕ, ◌≤◌}
use native.Mathlib.Omega.{arith}
use lib.ListN.{length, drop, replicate, length-append, length-replicate, length-drop}
use lib.Seq.{drop-append_seam}
use Rattle.lengths.specs.Lengths.{scratch_length, cleared}

-- ---- any count of zeros

length_zeros : (n : ℕ) (s : List ℕ) → n ≤ length s → length (replicate n 0 ++ drop n s) ≡ length s
length_zeros n s h = simp (length-append, length-replicate, length-drop) (omega arith)

zeros_twice : (n : ℕ) (s : List ℕ) → replicate n 0 ++ drop n (replicate n 0 ++ drop n s) ≡ replicate n 0 ++ drop n s
zeros_twice n s = ap (λ t. replicate n 0 ++ t) (ap (λ k. drop k (replicate n 0 ++ drop n s)) (sym (length-replicate n 0)) ∙ drop-append_seam (replicate n 0) (drop n s))

-- ---- those of the scratch

pub length_cleared : (s : List ℕ) → scratch_length ≤ length s → length (cleared s) ≡ length s
unfolding cleared
length_cleared s h = length_zeros scratch_length s h

-- whatever is cleared is then long enough
pub cleared_long : (s : List ℕ) → scratch_length ≤ length (cleared s)
unfolding cleared
cleared_long s = subst (λ (n : ℕ). scratch_length ≤ n) (sym (length-append (replicate scratch_length 0) (drop scratch_length s))) (omega (arith, length-replicate {A = ℕ} scratch_length 0))

pub cleared_twice : (s : List ℕ) → cleared (cleared s) ≡ cleared s
unfolding cleared
cleared_twice s = zeros_twice scratch_length s

-- what one call and the next leave
pub cleared_again : (s : List ℕ) {t u : List ℕ} → t ≡ cleared s → u ≡ cleared t → u ≡ cleared s
cleared_again s e f = f ∙ ap cleared e ∙ cleared_twice s
