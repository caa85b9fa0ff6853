-- Packed factor lists: taking the next factor off, and the packed form of a list.
use mathlib.Core.Path.{◌≡◌, refl, ◌∙◌, ap}
use mathlib.Core.Logic.{◌≢◌}
use mathlib.Core.List.{List, [], ◌∷◌}
use Prim.Native.Nat.{ℕ, ◌+◌, ◌*◌, ◌/◌, ◌%◌, ◌≤◌, ◌<◌}
use native.Mathlib.Nat as N
use native.Mathlib.Omega.{arith}
use Rattle.lengths.specs.Lengths.{octal, product}
use Rattle.lengths.specs.Admitted.{done, more, none, one, Factored, Factors}

-- a list of factors packs to a number that is factored by their product
pub packed : {l : List ℕ} → Factors l → Factored (octal l) (product l)
unfolding octal product
packed none = done
packed (one low high h) = more low high (packed h)

-- and every packed list is that of a list
pub record Unpacked (factors n : ℕ) : Type 0 where
  pub list : List ℕ
  pub each : Factors list
  pub packs : octal list ≡ factors
  pub product_is : product list ≡ n

pub unpacked : {factors n : ℕ} → Factored factors n → Unpacked factors n
unfolding octal product
unpacked done = record { list = []; each = none; packs = refl; product_is = refl }
unpacked (more {f} low high h) =
    let u = unpacked h in
    record { list = f ∷ u.list; each = one low high u.each; packs = ap (λ x. f + 8 * x) u.packs; product_is = ap (λ x. f * x) u.product_is }

-- the empty list
pub factored_none : {k : ℕ} → Factored 0 k → k ≡ 1
factored_none {k} h = at h refl
  where
    at : {left k : ℕ} → Factored left k → left ≡ 0 → k ≡ 1
    at done z = refl
    at (more low high h) z = absurd (omega arith)

-- the next factor of a list that is not empty, and the rest
pub record Next (left k : ℕ) : Type 0 where
  pub low : 2 ≤ left % 8
  pub high : left % 8 ≤ 5
  pub whole : left % 8 * (k / (left % 8)) ≡ k
  pub rest : Factored (left / 8) (k / (left % 8))

pub next_factor_lem : {left k : ℕ} → Factored left k → left ≢ 0 → Next left k
next_factor_lem done z = absurd (z refl)
next_factor_lem (more {f} {rest} {k} low high h) z =
    let digit : (f + 8 * rest) % 8 ≡ f = omega arith in
    let left : (f + 8 * rest) / 8 ≡ rest = omega arith in
    let shared : f * k / f ≡ k = N.mul-div_right k (omega arith) in
    record {
      low = omega arith;
      high = omega arith;
      whole = rw (digit, shared);
      rest = rw (digit, left, shared) h;
    }

pub factored_pos : {left k : ℕ} → Factored left k → 0 < k
factored_pos done = omega arith
factored_pos (more {f} {rest} {k} low high h) = N.mul-pos (omega arith) (factored_pos h)

-- the length, after factors whose product is A
module _ {left k : ℕ} (A : ℕ) (h : Factored left k) (z : left ≢ 0) where
  pub next_length : A * (left % 8) * (k / (left % 8)) ≡ A * k
  next_length = N.mul_assoc A (left % 8) (k / (left % 8)) ∙ ap (λ x. A * x) (next_factor_lem h z).whole
