-- Values a + b i and the pairs that hold them: each stands for the other, the values are a commutative ring with a conjugation,
-- and what the code does with the two numbers of a pair is the operation of that ring.
use mathlib.Core.Path.{◌≡◌, refl, ◌∙◌, ap, ap₂}
use mathlib.Core.List.{[], ◌∷◌}
use Prim.Native.Nat.{ℕ, ◌+◌, ◌*◌, ◌-◌, ◌<◌}
use Rattle.algebra.specs.ring.Ring.{Ops, residues, gauss, imag}
use Rattle.algebra.specs.ring.RingLaws.{CRing, Star}
use Rattle.algebra.specs.ring.Ring as Gauss
use Rattle.algebra.proofs.ring.Laws.{mul_neg}
use Rattle.algebra.proofs.ring.Solver.{ring, quote}
use Rattle.algebra.proofs.ring.ResidueRing.{residue_add, residue_mul, residue_neg}
use Rattle.algebra.proofs.ring.GaussRing.{gauss_ring, gauss_star}
use Rattle.numbers.specs.declared.Pair.{Pair}
use Rattle.numbers.specs.Value.{prime, Value, Residue, field, conj, i, value, real, value_of, pair_of}
use Rattle.numbers.specs.Bounds.{res, Small}
use Rattle.numbers.specs.Value as Value
use Rattle.numbers.proofs.Residues.{res_ring, val_small, res_val, val_res}

-- pairs, and values, are equal by their parts
pub pair_path : {v w : Pair} → v.re ≡ w.re → v.im ≡ w.im → v ≡ w
pair_path p q = λ j. record { re = p j; im = q j }

pub value_path : {A B : Type 0} {x y : A × B} → x.0 ≡ y.0 → x.1 ≡ y.1 → x ≡ y
value_path p q = λ j. (p j, q j)

pub small_pair : (m : ℕ) (z : Value m) → Small (prime m) (pair_of z)
unfolding pair_of
small_pair m z = record { re = val_small m z.0; im = val_small m z.1 }

pub value_pair : (m : ℕ) (z : Value m) → value_of m (pair_of z) ≡ z
unfolding pair_of value_of
value_pair m z = value_path (res_val m z.0) (res_val m z.1)

pub pair_value : (m : ℕ) {v : Pair} → Small (prime m) v → pair_of (value_of m v) ≡ v
unfolding pair_of value_of
pair_value m s = pair_path (val_res m s.re) (val_res m s.im)

-- a pair that the code holds for z
pub small_by : (m : ℕ) {v : Pair} (z : Value m) → v ≡ pair_of z → Small (prime m) v
small_by m z e = rw e (small_pair m z)

pub value_by : (m : ℕ) {v : Pair} (z : Value m) → v ≡ pair_of z → value_of m v ≡ z
value_by m z e = rw e (value_pair m z)

pub field_ring : (m : ℕ) → CRing (field m)
field_ring m = gauss_ring (res_ring m)

pub field_star : (m : ℕ) → Star (field m) (conj m) (i m)
field_star m = gauss_star (res_ring m)

-- the parts of a product by i, and by a residue
pub i_times : (m : ℕ) (z : Value m) → (field m).mul (i m) z ≡ ((Value.ring m).neg z.1, z.0)
unfolding gauss imag
i_times m z =
    value_path
    (ring (res_ring m) (z.0 ∷ z.1 ∷ []) (search quote depth 40 fits 9999) refl)
    (ring (res_ring m) (z.0 ∷ z.1 ∷ []) (search quote depth 40 fits 9999) refl)

real_times_in : {R : Type 0} {𝓞 : Ops R} (𝓡 : CRing 𝓞) (x : R) (z : R × R) → (gauss 𝓞).mul (x, 𝓞.zer) z ≡ (𝓞.mul x z.0, 𝓞.mul x z.1)
unfolding gauss
real_times_in 𝓡 x z =
    value_path
    (ring 𝓡 (x ∷ z.0 ∷ z.1 ∷ []) (search quote depth 40 fits 9999) refl)
    (ring 𝓡 (x ∷ z.0 ∷ z.1 ∷ []) (search quote depth 40 fits 9999) refl)

pub real_times : (m : ℕ) (x : Residue m) (z : Value m) → (field m).mul (real m x) z ≡ ((Value.ring m).mul x z.0, (Value.ring m).mul x z.1)
unfolding residues
real_times m x z = real_times_in (res_ring m) x z

-- a real value is its own conjugate
pub conj_real : (m : ℕ) (x : Residue m) → conj m (real m x) ≡ real m x
unfolding Gauss.conj residues
conj_real m x = value_path refl (ring (res_ring m) [] (search quote depth 40 fits 9999) refl)

-- the two sums of products that the code forms are the product's parts
pub value_product : (m a b u v : ℕ) → v < prime m
    → value m (a * u + b * (prime m - v)) (a * v + b * u) ≡ (field m).mul (value m a b) (value m u v)
unfolding gauss
value_product m a b u v h =
    value_path
    (residue_add (prime m) (a * u) (b * (prime m - v))
    ∙ ap₂ (Value.ring m).add (residue_mul (prime m) a u)
    (residue_mul (prime m) b (prime m - v) ∙ ap ((Value.ring m).mul (res m b)) (residue_neg (prime m) v h) ∙ mul_neg (res_ring m) (res m b) (res m v)))
    (residue_add (prime m) (a * v) (b * u) ∙ ap₂ (Value.ring m).add (residue_mul (prime m) a v) (residue_mul (prime m) b u))

pub value_add : (m a b u v : ℕ) → value m (a + u) (b + v) ≡ (field m).add (value m a b) (value m u v)
unfolding gauss
value_add m a b u v = value_path (residue_add (prime m) a u) (residue_add (prime m) b v)

-- with the four whole products as the code holds them; p - b stands for -b
pub whole_products : (m p : ℕ) (x y : Pair) (s t u v : ℕ) → p ≡ prime m → y.im < prime m
    → s ≡ x.re * y.re → t ≡ x.im * (p - y.im) → u ≡ x.re * y.im → v ≡ x.im * y.re
    → value m (s + t) (u + v) ≡ (field m).mul (value_of m x) (value_of m y)
unfolding value_of
whole_products m p x y s t u v e l hs ht hu hv = cc (value_product m x.re x.im y.re y.im l)
