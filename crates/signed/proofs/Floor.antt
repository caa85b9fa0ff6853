-- Division rounded down: the quotient times the divisor and the remainder are the number.
use mathlib.Core.Path.{◌≡◌, sym, ◌∙◌, ap}
use mathlib.Core.Bool.{cond}
use Prim.Native.Nat.{ℕ, suc, ◌+◌, ◌*◌, ◌-◌, ◌/◌, ◌%◌, ◌<◌}
use native.Mathlib.Nat.{mod-lt, div-add-mod'}
use native.Mathlib.Omega.{arith}
use lib.IntN.{pos, negsuc, neg_ℤ, ◌+ℤ◌}
use borrow.Author.Tests.{lt-ltb}
use Rattle.algebra.proofs.ring.Laws.{along}
use Rattle.signed.specs.Integers.{FloorDivision}

-- -(a + 1) is -(a + 1 + b) and b
lifted : (a b : ℕ) → negsuc a ≡ negsuc (a + b) +ℤ pos b
lifted a b =
    sym (ap (λ t. cond t (negsuc (suc (a + b) - suc b)) (pos (b - suc (a + b)))) (lt-ltb b (suc (a + b)) (omega arith))
    ∙ along negsuc (suc (a + b) - suc b) a (omega arith))

-- with t = q n + r: -(t + 1) is -(q + 1) n and n - 1 - r
negative : (t n q r : ℕ) → q * n + r ≡ t → r < n → negsuc t ≡ neg_ℤ (pos (suc q * n)) +ℤ pos (n - suc r)
negative t n q r e l =
    lifted t (n - suc r)
    ∙ along (λ k. neg_ℤ (pos k) +ℤ pos (n - suc r)) (suc (t + (n - suc r))) (suc q * n) (omega (arith, e))

pub floor_division : FloorDivision
floor_division (pos t) n l = record { whole = ap pos (sym (div-add-mod' t n)); below = mod-lt t (omega arith) }
floor_division (negsuc t) n l =
    let small : t % n < n = mod-lt t (omega arith) in
    record { whole = negative t n (t / n) (t % n) (div-add-mod' t n) small; below = omega (arith, small) }
