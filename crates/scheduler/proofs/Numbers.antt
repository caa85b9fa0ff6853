-- Small laws of numbers, of lanes counted from 0 and from 1, and of truth values.
use mathlib.Core.Path.{◌≡◌, refl, ap}
use mathlib.Core.Bool.{Bool, true, false, ◌&&◌, cond}
use Prim.Native.Nat.{ℕ, suc, ◌-◌, ◌≤◌, ◌<◌}
use native.Mathlib.Omega.{arith}
use lib.Dec.{eqb}
use borrow.Author.Tests.{eqb-true, eqb-false}

-- ---- above 0

pub some : {n : ℕ} → (n ≡ 0 → ⊥) → 1 ≤ n
some h = omega arith

pub none : {n : ℕ} → 1 ≤ n → n ≡ 0 → ⊥
none h z = omega arith

pub not_zero : {n : ℕ} → 0 ≡ suc n → ⊥
not_zero e = omega arith

-- one less of a number that is not 1
pub two : {n : ℕ} → 1 ≤ n → (n ≡ 1 → ⊥) → 1 ≤ n - 1
two h q = omega arith

-- ---- the number of a lane, counted from 1, and its place

pub before : (i : ℕ) → suc i - 1 ≡ i
before i = omega arith

pub after : {d : ℕ} → 1 ≤ d → suc (d - 1) ≡ d
after h = omega arith

-- ---- below

pub lower : {i n : ℕ} → i < n → i < suc n
lower l = omega arith

pub self : (n : ℕ) → n < suc n
self n = omega arith

pub below : {i n : ℕ} → i < suc n → (i ≡ n → ⊥) → i < n
below l q = omega arith

-- by whether two numbers are the same
pub by_number : {X : Type 0} (i n : ℕ) → (i ≡ n → X) → ((i ≡ n → ⊥) → X) → X
by_number {X} i n f g = go (eqb i n) refl
  where
    go : (b : Bool) → eqb i n ≡ b → X
    go true q = f (eqb-true i n q)
    go false q = g (eqb-false i n q)

-- ---- truth values

pub and_true : {a b : Bool} → a ≡ true → b ≡ true → (a && b) ≡ true
and_true e f = λ i. e i && f i

pub never : false ≡ true → ⊥
never z = let n : ◌≡◌ {A = ℕ} 0 1 = ap (λ (b : Bool). cond b 1 0) z in omega arith
