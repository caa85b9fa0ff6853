-- What the unreduced sums stand for, and how large they are.
use mathlib.Core.Path.{◌≡◌, refl, sym, ◌∙◌, ap, ap₂, subst}
use mathlib.Core.List.{[], ◌∷◌}
use Prim.Native.Nat.{ℕ, ◌+◌, ◌*◌, ◌-◌, ◌≤◌, ◌<◌}
use native.Mathlib.Nat.{mul-le-mul}
use native.Mathlib.Omega.{arith}
use Rattle.algebra.specs.ring.Ring.{residue, residues, gauss}
use Rattle.algebra.proofs.ring.Laws.{along, neg_unique}
use Rattle.algebra.proofs.ring.Solver.{ring, quote}
use Rattle.algebra.proofs.ring.ResidueRing.{val_path, residue_add, residue_mul}
use Rattle.numbers.specs.declared.Pair.{Pair}
use Rattle.numbers.specs.declared.Accumulator.{Accumulator}
use Rattle.numbers.specs.Value.{prime, IsModulus, Value, field, i, value, real, value_of}
use Rattle.numbers.specs.Bounds.{res}
use Rattle.numbers.specs.Value as Value
use Rattle.numbers.specs.Unreduced.{Accumulated, meant, Room}
use Rattle.numbers.proofs.Residues.{res_ring}
use Rattle.numbers.proofs.Values.{field_ring, value_path, value_add, i_times, real_times, whole_products}
use Rattle.numbers.proofs.ModulusCases.{by_modulus}

-- ---- how large they are

-- room for what is added to it, by the count of its products
pub room : {m n : ℕ} {a : Accumulator} {z : Value m} (most : ℕ) → 182890310402 * n ≤ most → Accumulated m n a z → Room most a
room most l h = record { re = omega (arith, h.re); im = omega (arith, h.im) }

-- a sum with room counts as so many products
pub counted : (m n : ℕ) {most : ℕ} {a : Accumulator} → most ≤ 182890310402 * n → Room most a → Accumulated m n a (meant m a)
unfolding meant
counted m n l h = record { re = omega (arith, h.re); im = omega (arith, h.im); value_is = refl }

pub counted_one : (m : ℕ) {a : Accumulator} → Room 182890310402 a → Accumulated m 1 a (meant m a)
counted_one m h = counted m 1 (omega arith) h

-- two sums that can be added or subtracted
pub rooms : {m n k : ℕ} {x y : Accumulator} {a b : Value m} → n ≤ 2733879 → k ≤ 2428551 → Accumulated m n x a → Accumulated m k y b → Room 500000000000000000 x × Room 444158510417000000 y
rooms l r hx hy = (room 500000000000000000 (omega arith) hx, room 444158510417000000 (omega arith) hy)

-- ---- a value, and a product

pub of_pair_means : (m : ℕ) (v : Pair) → meant m (record { re = v.re; im = v.im }) ≡ value_of m v
unfolding meant value_of
of_pair_means m v = refl

pub product_means : (m p : ℕ) (x y : Pair) (s t u v : ℕ) → p ≡ prime m → y.im < prime m
    → s ≡ x.re * y.re → t ≡ x.im * (p - y.im) → u ≡ x.re * y.im → v ≡ x.im * y.re
    → meant m (record { re = s + t; im = u + v }) ≡ (field m).mul (value_of m x) (value_of m y)
unfolding meant
product_means = whole_products

-- what has room for one product and stands for z
pub stands_for : {m : ℕ} {a : Accumulator} {z : Value m} → Room 182890310402 a → meant m a ≡ z → Accumulated m 1 a z
unfolding meant
stands_for h e = record { re = h.re; im = h.im; value_is = e }

-- ---- sums, and products by a residue

pub accumulated_sum : (m n k : ℕ) {x y : Accumulator} (a b : Value m) → Accumulated m n x a → Accumulated m k y b
    → Accumulated m (n + k) (record { re = x.re + y.re; im = x.im + y.im }) ((field m).add a b)
accumulated_sum m n k {x} {y} a b hx hy = record {
  re = omega (arith, hx.re, hy.re);
  im = omega (arith, hx.im, hy.im);
  value_is = value_add m x.re x.im y.re y.im ∙ ap₂ (field m).add hx.value_is hy.value_is;
}

pub accumulated_scaled : (m n : ℕ) {c : ℕ} {x : Accumulator} (a : Value m) → c ≤ 302399 → Accumulated m n x a
    → Accumulated m (302399 * n) (record { re = c * x.re; im = c * x.im }) ((field m).mul (real m (res m c)) a)
accumulated_scaled m n {c} {x} a l h = record {
  re = omega (arith, mul-le-mul l h.re);
  im = omega (arith, mul-le-mul l h.im);
  value_is = value_path (residue_mul (prime m) c x.re) (residue_mul (prime m) c x.im)
      ∙ sym (real_times m (res m c) (value m x.re x.im)) ∙ ap ((field m).mul (real m (res m c))) h.value_is;
}

-- ---- differences: multiples of the product of both primes stand for 0

record Nothing (big m : ℕ) : Type 0 where
  is : residue (prime m) big ≡ residue (prime m) 0

-- 17,000,000 times that product
large_first : Nothing 444158510417000000 1
unfolding prime residue
large_first = record { is = val_path refl }

large_second : Nothing 444158510417000000 2
unfolding prime residue
large_second = record { is = val_path refl }

-- 16 times
small_first : Nothing 418031539216 1
unfolding prime residue
small_first = record { is = val_path refl }

small_second : Nothing 418031539216 2
unfolding prime residue
small_second = record { is = val_path refl }

module _ {big m : ℕ} (none : Nothing big m) where
  residue_taken : (n : ℕ) → n ≤ big → res m (big - n) ≡ (Value.ring m).neg (res m n)
  unfolding residues
  residue_taken n l =
      neg_unique (res_ring m) (res m n) (res m (big - n))
      (sym (residue_add (prime m) n (big - n)) ∙ along (residue (prime m)) (n + (big - n)) big (omega arith) ∙ none.is)

  residue_apart : (a n : ℕ) → n ≤ big → res m (a + (big - n)) ≡ (Value.ring m).add (res m a) ((Value.ring m).neg (res m n))
  residue_apart a n l = residue_add (prime m) a (big - n) ∙ ap ((Value.ring m).add (res m a)) (residue_taken n l)

  value_apart : (a b u v : ℕ) → u ≤ big → v ≤ big → value m (a + (big - u)) (b + (big - v)) ≡ (field m).add (value m a b) ((field m).neg (value m u v))
  unfolding gauss
  value_apart a b u v lu lv = value_path (residue_apart a u lu) (residue_apart b v lv)

  value_times_i : (a b u v : ℕ) → b ≤ big → u ≤ big → value m (v + (big - b)) (a + (big - u)) ≡ (field m).mul (i m) ((field m).add (value m a b) ((field m).neg (value m u v)))
  unfolding gauss
  value_times_i a b u v lb lu =
      value_path
      (residue_apart v b lb ∙ ring (res_ring m) (res m b ∷ res m v ∷ []) (search quote depth 40 fits 9999) refl)
      (residue_apart a u lu)
      ∙ sym (i_times m ((Value.ring m).add (res m a) ((Value.ring m).neg (res m u)), (Value.ring m).add (res m b) ((Value.ring m).neg (res m v))))

pub accumulated_apart : (m n k : ℕ) {x y : Accumulator} (a b : Value m) → IsModulus m → Room 444158510417000000 y → Accumulated m n x a → Accumulated m k y b
    → Accumulated m (n + 2428552) (record { re = x.re + (444158510417000000 - y.re); im = x.im + (444158510417000000 - y.im) }) ((field m).add a ((field m).neg b))
accumulated_apart m n k {x} {y} a b is l hx hy = record {
  re = omega (arith, hx.re);
  im = omega (arith, hx.im);
  value_is = value_apart (by_modulus (Nothing 444158510417000000) large_first large_second m is) x.re x.im y.re y.im l.re l.im
      ∙ ap₂ (λ a b. (field m).add a ((field m).neg b)) hx.value_is hy.value_is;
}

pub accumulated_times_i : (m : ℕ) {x y : Accumulator} → IsModulus m → Room 182890310402 x → Room 182890310402 y
    → Accumulated m 4 (record { re = y.im + (418031539216 - x.im); im = x.re + (418031539216 - y.re) }) ((field m).mul (i m) ((field m).add (meant m x) ((field m).neg (meant m y))))
unfolding meant
accumulated_times_i m {x} {y} is hx hy = record {
  re = omega (arith, hy.im);
  im = omega (arith, hx.re);
  value_is = value_times_i (by_modulus (Nothing 418031539216) small_first small_second m is) x.re x.im y.re y.im (omega (arith, hx.im)) (omega (arith, hy.re));
}

-- ---- the quarter turn w, which is i or -i

stands : {m n : ℕ} {r : Accumulator} {a b : Value m} → a ≡ b → Accumulated m n r a → Accumulated m n r b
stands {m} {n} {r} e h = subst (Accumulated m n r) e h

pub times_i_forth : (m : ℕ) {r : Accumulator} {w : Value m} (x y : Value m) → w ≡ i m → Accumulated m 4 r ((field m).mul (i m) ((field m).add x ((field m).neg y))) → Accumulated m 4 r ((field m).mul w ((field m).add x ((field m).neg y)))
times_i_forth m x y e h = stands (ap (λ w. (field m).mul w ((field m).add x ((field m).neg y))) (sym e)) h

pub times_i_back : (m : ℕ) {r : Accumulator} {w : Value m} (x y : Value m) → w ≡ (field m).neg (i m) → Accumulated m 4 r ((field m).mul (i m) ((field m).add y ((field m).neg x))) → Accumulated m 4 r ((field m).mul w ((field m).add x ((field m).neg y)))
times_i_back m x y e h =
    stands
    (ring (field_ring m) (i m ∷ x ∷ y ∷ []) (search quote depth 40 fits 9999) refl ∙ ap (λ w. (field m).mul w ((field m).add x ((field m).neg y))) (sym e)) h
