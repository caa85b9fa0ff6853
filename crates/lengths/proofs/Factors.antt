-- Factor lists: their product, their count, and the octal number that holds one.
use mathlib.Core.Path.{◌≡◌, refl, ◌∙◌, sym, ap}
use mathlib.Core.Bool.{Bool, true, false, ◌&&◌}
use mathlib.Core.List.{List, [], ◌∷◌}
use Prim.Native.Nat.{ℕ, zero, suc, ◌+◌, ◌-◌, ◌*◌, ◌^◌, ◌/◌, ◌%◌, ◌≤◌, ◌<◌}
use native.Mathlib.Nat.{mul-le-mul, not-suc-le-zero, pow-succ', one-le-pow}
use native.Mathlib.Numerals.{add-one}
use native.Mathlib.Omega.{arith}
use lib.Dec.{leb}
use lib.ListN.{length, get_or, take, drop, drop_of_length-le, length-drop}
use lib.Seq.{drop-cons}
use borrow.Author.Tests.{leb-true, le-leb, ne_eqb}
use Rattle.lengths.specs.Lengths.{product, octal, factors_ok, digits, octal_digits}
use Rattle.lengths.specs.Admitted.{is_factor, none, one, Factors}
use Rattle.refusals.proofs.Tests.{both}

-- ---- a list taken apart

pub factor_is : (f : ℕ) → is_factor f ≡ true → (2 ≤ f) × (f ≤ 5)
factor_is f e = let h = both (leb 2 f) (leb f 5) e in (leb-true 2 f h.0, leb-true f 5 h.1)

pub factors_cons : (f : ℕ) (l : List ℕ) → factors_ok (f ∷ l) ≡ true → ((2 ≤ f) × (f ≤ 5)) × (factors_ok l ≡ true)
unfolding factors_ok
factors_cons f l e = let h = both (is_factor f) (factors_ok l) e in (factor_is f h.0, h.1)

-- the plain transform's form of the same
pub factors_of_lem : (l : List ℕ) → factors_ok l ≡ true → Factors l
factors_of_lem [] e = none
factors_of_lem (f ∷ l) e = let h = factors_cons f l e in one h.0.0 h.0.1 (factors_of_lem l h.1)

pub factors_ok_lem : {l : List ℕ} → Factors l → factors_ok l ≡ true
unfolding factors_ok
factors_ok_lem none = refl
factors_ok_lem (one {f} low high h) = rw (le-leb 2 f low, le-leb f 5 high) (factors_ok_lem h)

pub factors_drop : (l : List ℕ) (i : ℕ) → i < length l → factors_ok (drop i l) ≡ (is_factor (get_or l i 0) && factors_ok (drop (i + 1) l))
unfolding factors_ok
factors_drop l i h = rw (add-one, drop-cons l i 0)

pub factors_past : (l : List ℕ) (i : ℕ) → length l ≤ i → factors_ok (drop i l) ≡ true
unfolding factors_ok
factors_past l i h = rw (drop_of_length-le l h)

-- a list that is walked: the rest of it decides, until a number is no factor
pub factors_stop : (l : List ℕ) (i : ℕ) → i < length l → is_factor (get_or l i 0) ≡ false → factors_ok (drop i l) ≡ factors_ok l → false ≡ factors_ok l
factors_stop l i h f e = ap (λ (b : Bool). b && factors_ok (drop (i + 1) l)) (sym f) ∙ sym (factors_drop l i h) ∙ e

pub factors_next : (l : List ℕ) (i : ℕ) → i < length l → is_factor (get_or l i 0) ≡ true → factors_ok (drop i l) ≡ factors_ok l → factors_ok (drop (i + 1) l) ≡ factors_ok l
factors_next l i h f e = ap (λ (b : Bool). b && factors_ok (drop (i + 1) l)) (sym f) ∙ sym (factors_drop l i h) ∙ e

pub factors_rest : (l : List ℕ) (i : ℕ) → factors_ok l ≡ true → factors_ok (drop i l) ≡ true
unfolding factors_ok
factors_rest l zero e = e
factors_rest [] (suc i) e = e
factors_rest (f ∷ l) (suc i) e = factors_rest l i (factors_cons f l e).1

-- the factor at a place
pub factor_at_lem : (l : List ℕ) (i : ℕ) → factors_ok l ≡ true → i < length l → (2 ≤ get_or l i 0) × (get_or l i 0 ≤ 5)
factor_at_lem [] i e h = absurd (not-suc-le-zero h)
factor_at_lem (f ∷ l) zero e h = (factors_cons f l e).0
factor_at_lem (f ∷ l) (suc i) e h = factor_at_lem l i (factors_cons f l e).1 (omega arith)

-- ---- products

products_le : (a b c d : ℕ) → a ≤ c → b ≤ d → a * b ≤ c * d
products_le a b c d p q = mul-le-mul p q

pub product_drop : (l : List ℕ) (i : ℕ) → i < length l → product (drop i l) ≡ get_or l i 0 * product (drop (i + 1) l)
unfolding product
product_drop l i h = rw (add-one, drop-cons l i 0)

pub product_past : (l : List ℕ) (i : ℕ) → length l ≤ i → product (drop i l) ≡ 1
unfolding product
product_past l i h = rw (drop_of_length-le l h)

-- the first k factors, and the others
pub product_take : (l : List ℕ) (k : ℕ) → k < length l → product (take (suc k) l) ≡ product (take k l) * get_or l k 0
unfolding product
product_take [] k h = absurd (not-suc-le-zero h)
product_take (f ∷ l) zero h = omega arith
product_take (f ∷ l) (suc k) h = ap (λ (x : ℕ). f * x) (product_take l k (omega arith)) ∙ omega arith

pub product_parts : (l : List ℕ) (k : ℕ) → product (take k l) * product (drop k l) ≡ product l
unfolding product
product_parts l zero = omega arith
product_parts [] (suc k) = refl
product_parts (f ∷ l) (suc k) =
    let e : f * product (take k l) * product (drop k l) ≡ f * (product (take k l) * product (drop k l)) = omega arith in
    e ∙ ap (λ (x : ℕ). f * x) (product_parts l k)

pub product_positive : (l : List ℕ) → factors_ok l ≡ true → 1 ≤ product l
unfolding product
product_positive [] e = omega arith
product_positive (f ∷ l) e =
    let h = factors_cons f l e in
    omega (arith, products_le 1 1 f (product l) (omega (arith, h.0)) (product_positive l h.1))

-- the product so far, times that of the rest
pub product_next : (l : List ℕ) (i d f : ℕ) → i < length l → f ≡ get_or l i 0 → product l ≡ d * product (drop i l) → product l ≡ d * f * product (drop (i + 1) l)
product_next l i d f h e p = p ∙ ap (λ (x : ℕ). d * x) (product_drop l i h ∙ ap (λ (x : ℕ). x * product (drop (i + 1) l)) (sym e)) ∙ omega arith

pub product_least : (l : List ℕ) (i d : ℕ) → factors_ok l ≡ true → product l ≡ d * product (drop i l) → d ≤ product l
product_least l i d e p = omega (arith, products_le d 1 d (product (drop i l)) (omega arith) (product_positive (drop i l) (factors_rest l i e)))

pub product_done : (l : List ℕ) (i d : ℕ) → length l ≤ i → product l ≡ d * product (drop i l) → product l ≡ d
product_done l i d h p = p ∙ ap (λ (x : ℕ). d * x) (product_past l i h) ∙ omega arith

-- a product below 2^(k + 1) has at most k factors
pub few : (k : ℕ) (l : List ℕ) → factors_ok l ≡ true → product l < 2 ^ suc k → length l ≤ k
unfolding product
few k [] e h = omega arith
few zero (f ∷ l) e h =
    let c = factors_cons f l e in
    absurd (omega (arith, products_le 2 1 f (product l) c.0.0 (product_positive l c.1)))
few (suc k) (f ∷ l) e h =
    let c = factors_cons f l e in
    let g : product l < 2 ^ suc k = omega (arith, products_le 2 (product l) f (product l) c.0.0 (omega arith), pow-succ' 2 (suc k)) in
    omega (arith, few k l c.1 g)

-- ---- octal digits

pub octal_drop : (l : List ℕ) (i : ℕ) → i < length l → octal (drop i l) ≡ get_or l i 0 + 8 * octal (drop (i + 1) l)
unfolding octal
octal_drop l i h = rw (add-one, drop-cons l i 0)

pub octal_past : (l : List ℕ) (i : ℕ) → length l ≤ i → octal (drop i l) ≡ 0
unfolding octal
octal_past l i h = rw (drop_of_length-le l h)

pub octal_below : (k : ℕ) (l : List ℕ) → factors_ok l ≡ true → length l ≤ k → octal l < 8 ^ k
unfolding octal
octal_below k [] e h = one-le-pow k 8 (omega arith)
octal_below zero (f ∷ l) e h = absurd (not-suc-le-zero h)
octal_below (suc k) (f ∷ l) e h =
    let c = factors_cons f l e in
    omega (arith, c.0, octal_below k l c.1 (omega arith), pow-succ' 8 k)

-- a product of at most 1,440 has at most ten factors, and ten octal digits fit thirty bits
pub octal_small : (l : List ℕ) (i : ℕ) → factors_ok l ≡ true → product l ≤ 1440 → octal (drop i l) < 1073741824
octal_small l i e h = octal_below 10 (drop i l) (factors_rest l i e) (omega (arith, length-drop i l, few 10 l e (omega arith)))

pub octal_back : (l : List ℕ) (i : ℕ) → 0 < i → i ≤ length l → octal (drop (i - 1) l) ≡ get_or l (i - 1) 0 + 8 * octal (drop i l)
octal_back l i z h =
    let e : i - 1 + 1 ≡ i = omega arith in
    octal_drop l (i - 1) (omega arith) ∙ ap (λ (k : ℕ). get_or l (i - 1) 0 + 8 * octal (drop k l)) e

-- the first factor and the rest, as the code takes them
pub octal_head : (f : ℕ) (l : List ℕ) → f ≤ 5 → octal (f ∷ l) % 8 ≡ f
unfolding octal
octal_head f l h = omega arith

pub octal_tail : (f : ℕ) (l : List ℕ) → f ≤ 5 → octal (f ∷ l) / 8 ≡ octal l
unfolding octal
octal_tail f l h = omega arith

pub octal_empty : (l : List ℕ) → factors_ok l ≡ true → octal l ≡ 0 → l ≡ []
unfolding octal
octal_empty [] e z = refl
octal_empty (f ∷ l) e z = let c = factors_cons f l e in absurd (omega (arith, c.0))

-- the list that the number stands for
digits_zero : (c : ℕ) → digits 8 c 0 ≡ []
unfolding digits
digits_zero zero = refl
digits_zero (suc c) = refl

digits_step : (c n : ℕ) → (n ≡ 0 → ⊥) → digits 8 (suc c) n ≡ n % 8 ∷ digits 8 c (n / 8)
unfolding digits
digits_step c n h = rw (ne_eqb n 0 h)

not_empty : (f : ℕ) (l : List ℕ) → f ∷ l ≡ [] → ⊥
not_empty f l q = let z : ◌≡◌ {A = ℕ} 0 1 = cc in omega arith

pub digits_octal : (c : ℕ) (l : List ℕ) → factors_ok l ≡ true → length l ≤ c → digits 8 c (octal l) ≡ l
digits_octal c [] e h = octal_nil ∙ digits_zero c
  where
    octal_nil : digits 8 c (octal []) ≡ digits 8 c 0
    octal_nil = ap (digits 8 c) (octal_past [] 0 (omega arith))
digits_octal zero (f ∷ l) e h = absurd (not-suc-le-zero h)
digits_octal (suc c) (f ∷ l) e h =
    let k = factors_cons f l e in
    digits_step c (octal (f ∷ l)) (λ z. not_empty f l (octal_empty (f ∷ l) e z))
    ∙ rw (octal_head f l k.0.1, octal_tail f l k.0.1) (ap (λ (t : List ℕ). f ∷ t) (digits_octal c l k.1 (omega arith)))

pub length_octal : (l : List ℕ) → factors_ok l ≡ true → length l ≤ octal l
unfolding octal
length_octal [] e = omega arith
length_octal (f ∷ l) e = let c = factors_cons f l e in omega (arith, c.0, length_octal l c.1)

pub octal_digits_lem : (l : List ℕ) → factors_ok l ≡ true → octal_digits (octal l) ≡ l
octal_digits_lem l e = digits_octal (octal l) l e (length_octal l e)
