-- The groups by their numbers, the members of a group's list of operations, and what the code does for an operation:
-- an index or a point is moved along one axis, a value gets a sign.
use mathlib.Core.Path.{◌≡◌, refl, sym, ◌∙◌, ap}
use mathlib.Core.Bool.{Bool, true, false, not, beq}
use mathlib.Core.List.{List, [], ◌∷◌, ◌++◌, map}
use Prim.Native.Nat.{ℕ, zero, suc, ◌+◌, ◌*◌, ◌-◌, ◌/◌, ◌%◌, ◌<◌, ◌≤◌}
use native.Mathlib.Omega.{arith}
use lib.ListN.{length, get_or, length-append, length-map, get_or-append}
use lib.Seq.{get_or-append-add}
use Rattle.algebra.specs.ring.Ring.{pow}
use Rattle.algebra.specs.cells.Cell.{Sym, one, friedel, ◌·◌, Group, P1, P2₁, Pm, Pa, P2₁2₁2₁, ops, full, flip, shifted, xor, sgn}
use Rattle.algebra.specs.cells.CellPlaces.{line_sym}
use Rattle.algebra.proofs.ring.Laws.{along, neg_one_mul}
use Rattle.algebra.proofs.fourier.Transform.{sign_even, sign_odd}
use Rattle.algebra.proofs.cells.CellAxis.{neg_zero, neg_pos, half_low, half_high}
use Rattle.numbers.specs.declared.Pair.{Pair}
use Rattle.numbers.specs.Value.{prime, Value, field, value_of, pair_of}
use Rattle.numbers.specs.Bounds.{Small}
use Rattle.numbers.proofs.Values.{field_ring, pair_value, value_by}
use Rattle.cell.specs.Volume.{group_of}
use Rattle.cell.specs.Operations.{Length}

-- ---- the groups by their numbers

-- what holds of each of the five
pub by_group : (P : Group → Type 0) → P P1 → P P2₁ → P Pm → P Pa → P P2₁2₁2₁ → (n : ℕ) → n < 5 → P (group_of n)
by_group P a b c d e zero l = a
by_group P a b c d e (suc zero) l = b
by_group P a b c d e (suc (suc zero)) l = c
by_group P a b c d e (suc (suc (suc zero))) l = d
by_group P a b c d e (suc (suc (suc (suc zero)))) l = e
by_group P a b c d e (suc (suc (suc (suc (suc n))))) l = absurd (omega arith)

pub order_two : (n : ℕ) → n < 5 → (n ≡ 0 → ⊥) → (n ≡ 4 → ⊥) → 2 ≡ length (ops (group_of n))
order_two zero l z y = absurd (z refl)
order_two (suc zero) l z y = refl
order_two (suc (suc zero)) l z y = refl
order_two (suc (suc (suc zero))) l z y = refl
order_two (suc (suc (suc (suc zero)))) l z y = absurd (y refl)
order_two (suc (suc (suc (suc (suc n))))) l z y = absurd (omega arith)

pub order_four : {n : ℕ} → n ≡ 4 → 4 ≡ length (ops (group_of n))
order_four e = rw e refl

pub order_more : (n : ℕ) → n < 5 → (n ≡ 0 → ⊥) → 2 ≤ length (ops (group_of n))
order_more zero l z = absurd (z refl)
order_more (suc zero) l z = omega arith
order_more (suc (suc zero)) l z = omega arith
order_more (suc (suc (suc zero))) l z = omega arith
order_more (suc (suc (suc (suc zero)))) l z = omega arith
order_more (suc (suc (suc (suc (suc n))))) l z = absurd (omega arith)

-- a group has at most four operations, and the identity
pub order_most : (n : ℕ) → n < 5 → length (ops (group_of n)) ≤ 4
order_most = by_group (λ g. length (ops g) ≤ 4) (omega arith) (omega arith) (omega arith) (omega arith) (omega arith)

pub order_least : (n : ℕ) → n < 5 → 1 ≤ length (ops (group_of n))
order_least = by_group (λ g. 1 ≤ length (ops g)) (omega arith) (omega arith) (omega arith) (omega arith) (omega arith)

pub first_own : (n : ℕ) → n < 5 → one ≡ get_or (ops (group_of n)) 0 one
first_own = by_group (λ g. one ≡ get_or (ops g) 0 one) refl refl refl refl refl

pub second_own : (n k : ℕ) → n < 5 → (n ≡ 4 → ⊥) → (k ≡ 0 → ⊥) → k < length (ops (group_of n)) → (k ≡ 1) × (n ≡ 0 → ⊥)
second_own n k l y z h = let other : n ≡ 0 → ⊥ = λ e. z (omega (arith, along (λ x. length (ops (group_of x))) n 0 e)) in (omega (arith, order_two n l other y), other)

pub own_at : {n n' k k' : ℕ} → n ≡ n' → k ≡ k' → get_or (ops (group_of n')) k' one ≡ get_or (ops (group_of n)) k one
own_at e f = λ i. get_or (ops (group_of (sym e i))) (sym f i) one

-- ---- with Friedel's rule

-- the identity is the first operation
pub first_full : (n : ℕ) → n < 5 → (1 ≤ length (full (group_of n))) × (one ≡ get_or (full (group_of n)) 0 one)
first_full = by_group (λ g. (1 ≤ length (full g)) × (one ≡ get_or (full g) 0 one)) (omega arith, refl) (omega arith, refl) (omega arith, refl) (omega arith, refl) (omega arith, refl)

pub full_length : (n : ℕ) → 2 * length (ops (group_of n)) ≡ length (full (group_of n))
full_length n =
    let l = ops (group_of n) in
    omega (arith, length-append l (map (λ s. friedel · s) l), length-map l (λ s. friedel · s))

get_d_map : {A B : Type 0} (f : A → B) (l : List A) (k : ℕ) (d : A) (e : B) → k < length l → get_or (map f l) k e ≡ f (get_or l k d)
get_d_map f [] k d e h = absurd (omega arith)
get_d_map f (x ∷ l) zero d e h = refl
get_d_map f (x ∷ l) (suc k) d e h = get_d_map f l k d e (omega arith)

module _ (l : List Sym) where
  abbrev twofold : List Sym
  twofold = l ++ map (λ s. friedel · s) l

  pub twofold_own : (k : ℕ) → k < length l → get_or l k one ≡ get_or twofold k one
  twofold_own k h = sym (get_or-append l (map (λ s. friedel · s) l) one k h)

  pub twofold_mate : (k : ℕ) → length l ≤ k → k < 2 * length l → friedel · get_or l (k - length l) one ≡ get_or twofold k one
  twofold_mate k g h =
      sym (along (λ q. get_or twofold q one) k (length l + (k - length l)) (omega arith)
      ∙ get_or-append-add l (map (λ s. friedel · s) l) (k - length l) one
      ∙ get_d_map (λ s. friedel · s) l (k - length l) one one (omega arith))

-- the operation along l, in each group's list
pub line_plain : {n : ℕ} → n ≡ 0 → get_or (full (group_of n)) 0 one ≡ line_sym (group_of n)
line_plain e = rw e refl

pub line_alternating : {n : ℕ} → n ≡ 1 → get_or (full (group_of n)) 3 one ≡ line_sym (group_of n)
line_alternating e = rw e refl

pub line_screw : {n : ℕ} → n ≡ 4 → get_or (full (group_of n)) 5 one ≡ line_sym (group_of n)
line_screw e = rw e refl

pub line_mirrored : (n : ℕ) → n < 5 → (n ≡ 0 → ⊥) → (n ≡ 1 → ⊥) → (n ≡ 4 → ⊥) → get_or (full (group_of n)) 1 one ≡ line_sym (group_of n)
line_mirrored zero l y z x = absurd (y refl)
line_mirrored (suc zero) l y z x = absurd (z refl)
line_mirrored (suc (suc zero)) l y z x = refl
line_mirrored (suc (suc (suc zero))) l y z x = refl
line_mirrored (suc (suc (suc (suc zero)))) l y z x = absurd (x refl)
line_mirrored (suc (suc (suc (suc (suc n))))) l y z x = absurd (omega arith)

-- ---- one axis

pub flip_none : (b : Bool) (n h : ℕ) → b ≡ false → h ≡ flip b (n / 2) h
unfolding flip
flip_none b n h e = rw e refl

pub flip_zero : (b : Bool) (n h : ℕ) → b ≡ true → h ≡ 0 → 0 ≡ flip b (n / 2) h
unfolding flip
flip_zero b n h e z = rw (e, z) (sym (neg_zero (n / 2)))

pub flip_other : (b : Bool) (n h : ℕ) → Length n → h < n → b ≡ true → (h ≡ 0 → ⊥) → n - h ≡ flip b (n / 2) h
unfolding flip
flip_other b n h c l e z = rw e (omega arith ∙ sym (neg_pos (n / 2) h (omega arith) (omega arith)))

pub shifted_none : (b : Bool) (n x : ℕ) → b ≡ false → x ≡ shifted b (n / 2) x
unfolding shifted
shifted_none b n x e = rw e refl

pub shifted_low : (b : Bool) (n x : ℕ) → b ≡ true → x < n / 2 → x + n / 2 ≡ shifted b (n / 2) x
unfolding shifted
shifted_low b n x e l = rw e (sym (half_low (n / 2) x l))

pub shifted_high : (b : Bool) (n x : ℕ) → Length n → x < n → b ≡ true → n / 2 ≤ x → x - n / 2 ≡ shifted b (n / 2) x
unfolding shifted
shifted_high b n x c l e g = rw e (sym (half_high (n / 2) x g (omega arith)))

-- the code's test that two bits differ
pub differ : (a b : Bool) → not (beq a b) ≡ xor a b
differ false false = refl
differ false true = refl
differ true false = refl
differ true true = refl

-- ---- signs

module _ (m : ℕ) {x : Pair} (s : Small (prime m) x) where
  pub signed_none : (b : Bool) (h : ℕ) → b ≡ false → x ≡ pair_of ((field m).mul (sgn (field m) b h) (value_of m x))
  unfolding sgn
  signed_none b h e = rw e (sym (ap pair_of ((field_ring m).one_mul (value_of m x)) ∙ pair_value m s))

  pub signed_even : (b : Bool) (h : ℕ) → b ≡ true → h % 2 ≡ 0 → x ≡ pair_of ((field m).mul (sgn (field m) b h) (value_of m x))
  unfolding sgn
  signed_even b h e z = rw e (sym (ap (λ y. pair_of ((field m).mul y (value_of m x))) (along (pow (field m) ((field m).neg (field m).one)) h (2 * (h / 2)) (omega arith) ∙ sign_even (field_ring m) (h / 2)) ∙ ap pair_of ((field_ring m).one_mul (value_of m x)) ∙ pair_value m s))

  pub signed_odd : {y : Pair} (b : Bool) (h : ℕ) → b ≡ true → (h % 2 ≡ 0 → ⊥) → y ≡ pair_of ((field m).neg (value_of m x)) → y ≡ pair_of ((field m).mul (sgn (field m) b h) (value_of m x))
  unfolding sgn
  signed_odd b h e z q = q ∙ rw e (sym (ap (λ y. pair_of ((field m).mul y (value_of m x))) (along (pow (field m) ((field m).neg (field m).one)) h (2 * (h / 2) + 1) (omega arith) ∙ sign_odd (field_ring m) (h / 2)) ∙ ap pair_of (neg_one_mul (field_ring m) (value_of m x))))

-- one sign after the other
pub signed_thrice : (m : ℕ) (s t u : Value m) (x : Pair) {y₁ y₂ y₃ : Pair} → y₁ ≡ pair_of ((field m).mul u (value_of m x)) → y₂ ≡ pair_of ((field m).mul t (value_of m y₁)) → y₃ ≡ pair_of ((field m).mul s (value_of m y₂))
    → y₃ ≡ pair_of ((field m).mul s ((field m).mul t ((field m).mul u (value_of m x))))
signed_thrice m s t u x e₁ e₂ e₃ = e₃ ∙ ap (λ z. pair_of ((field m).mul s z)) (value_by m _ e₂ ∙ ap ((field m).mul t) (value_by m _ e₁))
