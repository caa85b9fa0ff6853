-- The float of a whole number is that number, on the way out and back; whole floats compare as their numbers do.
use mathlib.Core.Path.{◌≡◌, refl, sym, ◌∙◌, ap, subst}
use mathlib.Core.Bool.{Bool, true, false, not}
use Prim.Native.Nat.{ℕ, zero, suc, ◌+◌, ◌*◌, ◌<◌, ◌≤◌}
use native.Mathlib.Nat.{mul-pos, mul_comm}
use native.Mathlib.Omega.{arith}
use lib.Dec.{T, ltb, le→leb, lt→ltb}
use lib.IntN.{ℤ, pos, negsuc, nat_abs, pred_ℤ}
use lib.Signed.{lt_z}
use lib.Ieee.{Float, nan, inf, fin, binary32, up, down, below, lt, of_int, of_bits, to_signed, in_float, is_nan}
use lib.Ieee.Exact.{HasValue}
use lib.Ieee.Back.{round_whole, positive_back, negative_back}
use lib.Ieee.Bits.{of_bits-to_bits, to_bits-lt}
use lib.Ieee.Fits.{of_int-fits, down_pos}
use mir.Syntax.{w64}
use mir.Val.{SFits}
use borrow.Author.Tests.{ltb-true, lt-ltb, le-ltb}
use Rattle.slices.proofs.Rows.{row_end}
use Rattle.output.specs.Output.{little_endian}
use Rattle.mrc.specs.Floats.{float_of, bits, exact_limit, of_little_endian, FloatsExact}

-- ---- its value

pub whole_value : (n : ℤ) → nat_abs n ≤ suc exact_limit → HasValue (float_of n) (lt_z n (pos 0)) (nat_abs n) 1
unfolding of_int
whole_value (pos n) l = subst (λ (s : Bool). HasValue (of_int binary32 (pos n)) s n 1) (sym (le-ltb n 0 (omega arith))) (round_whole binary32 false n (omega arith))
whole_value (negsuc n) l = round_whole binary32 true (suc n) (omega arith)

in_float_lem : (n : ℤ) → nat_abs n ≤ suc exact_limit → T (in_float binary32 n)
unfolding in_float
in_float_lem (pos n) l = le→leb n 16777216 (omega arith)
in_float_lem (negsuc n) l = lt→ltb n 16777216 (omega arith)

-- a float with a value is no NaN
value_number : (x : Float) (s : Bool) (a c : ℕ) → HasValue x s a c → T (not (is_nan x))
unfolding is_nan
value_number nan s a c h = absurd h
value_number (inf t) s a c h = absurd h
value_number (fin t m e) s a c h = tt

pub whole_number : (n : ℤ) → nat_abs n ≤ suc exact_limit → T (not (is_nan (float_of n)))
whole_number n l = value_number (float_of n) (lt_z n (pos 0)) (nat_abs n) 1 (whole_value n l)

-- ---- and back

signed_back : (n : ℤ) → nat_abs n ≤ suc exact_limit → to_signed 63 (float_of n) ≡ n
signed_back (pos n) l = (positive_back binary32 63 n (in_float_lem (pos n) l) (omega arith)).1
signed_back (negsuc n) l = (negative_back binary32 63 n (in_float_lem (negsuc n) l) (omega arith)).1

four_back : (x : ℕ) → x < 4294967296 → of_little_endian (little_endian 4 x) ≡ x
unfolding of_little_endian little_endian
four_back x l = omega arith

bytes_back : (n : ℤ) → of_bits binary32 (of_little_endian (little_endian 4 (bits (float_of n)))) ≡ float_of n
bytes_back n =
    ap (of_bits binary32) (four_back (bits (float_of n)) (omega (arith, to_bits-lt binary32 (float_of n) (of_int-fits binary32 n))))
    ∙ of_bits-to_bits binary32 (float_of n) (of_int-fits binary32 n)

pub floats_exact : FloatsExact
floats_exact n l = record { value = whole_value n l; back = signed_back n l; bytes = bytes_back n }

-- ---- order

-- two numbers of a common denominator compare as without it
scaled : (s t : Bool) (a b k : ℕ) → 0 < k → below s a t b ≡ true → below s (a * k) t (b * k) ≡ true
scaled false false a b k h e = lt-ltb (a * k) (b * k) (omega (arith, row_end k (ltb-true a b e)))
scaled false true a b k h e = e
scaled true false a b k h e = lt-ltb 0 (a * k + b * k) (omega (arith, row_end k (ltb-true 0 (a + b) e)))
scaled true true a b k h e = lt-ltb (b * k) (a * k) (omega (arith, row_end k (ltb-true b a e)))

pub whole_less : (x y : Float) (s t : Bool) (a b : ℕ) → HasValue x s a 1 → HasValue y t b 1 → below s a t b ≡ true → lt x y ≡ true
unfolding lt
whole_less (fin s m e) (fin t n d) s' t' a b h k l =
    let p : m * up e * down d ≡ a * (down e * down d) = over (m * up e) a (down e) (down d) h.1 in
    let q : n * up d * down e ≡ b * (down e * down d) = over (n * up d) b (down d) (down e) k.1 ∙ ap (λ (u : ℕ). b * u) (mul_comm (down d) (down e)) in
    (λ i. below (h.0 i) (p i) (k.0 i) (q i)) ∙ scaled s' t' a b (down e * down d) (mul-pos (down_pos e) (down_pos d)) l
  where
    over : (u a c d : ℕ) → u * 1 ≡ a * c → u * d ≡ a * (c * d)
    over u a c d e = omega (arith, ap (λ (v : ℕ). v * d) e)
whole_less nan y s t a b h k l = absurd h
whole_less (inf r) y s t a b h k l = absurd h
whole_less (fin s m e) nan s' t' a b h k l = absurd k
whole_less (fin s m e) (inf r) s' t' a b h k l = absurd k

-- one less than a number, as floats
pub one_less : (n : ℤ) → nat_abs n ≤ exact_limit → lt (float_of (pred_ℤ n)) (float_of n) ≡ true
one_less (pos zero) l = whole_less (float_of (negsuc 0)) (float_of (pos 0)) true false 1 0 (whole_value (negsuc 0) (omega arith)) (whole_value (pos 0) (omega arith)) refl
one_less (pos (suc n)) l = whole_less (float_of (pos n)) (float_of (pos (suc n))) false false n (suc n) (positive n (omega arith)) (positive (suc n) (omega arith)) (lt-ltb n (suc n) (omega arith))
  where
    positive : (n : ℕ) → n ≤ suc exact_limit → HasValue (float_of (pos n)) false n 1
    positive n l = subst (λ (s : Bool). HasValue (float_of (pos n)) s n 1) (le-ltb n 0 (omega arith)) (whole_value (pos n) l)
one_less (negsuc n) l = whole_less (float_of (negsuc (suc n))) (float_of (negsuc n)) true true (suc (suc n)) (suc n) (whole_value (negsuc (suc n)) (omega arith)) (whole_value (negsuc n) (omega arith)) (lt-ltb (suc n) (suc (suc n)) (omega arith))

-- the mean's number keeps within the floats that are exact
pub one_less_within : (n : ℤ) → nat_abs n ≤ exact_limit → nat_abs (pred_ℤ n) ≤ suc exact_limit
one_less_within (pos zero) l = omega arith
one_less_within (pos (suc n)) l = omega arith
one_less_within (negsuc n) l = omega arith

-- ---- in 64 bits

pub small_fits : (n : ℤ) → nat_abs n ≤ suc exact_limit → SFits w64 n
small_fits (pos n) l = record { sfits = omega arith }
small_fits (negsuc n) l = record { sfits = omega arith }
