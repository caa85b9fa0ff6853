-- Texts in a row that are the same, one by one.
use mathlib.Core.Path.{◌≡◌, refl, ap₂}
use mathlib.Core.List.{List, ◌++◌}
use Prim.Native.Nat.{ℕ, zero, suc, ◌<◌}
use native.Mathlib.Omega.{arith}
use Rattle.output.specs.Output.{each}

pub each_cong : (n : ℕ) (f g : ℕ → List ℕ) → ((k : ℕ) → k < n → f k ≡ g k) → each n f ≡ each n g
unfolding each
each_cong zero f g e = refl
each_cong (suc n) f g e = ap₂ ◌++◌ (each_cong n f g (λ k l. e k (omega arith))) (e n (omega arith))
