-- What a test says that is true, or that compares two numbers.
use mathlib.Core.Path.{◌≡◌, refl, sym, subst}
use mathlib.Core.Logic.{◌↔◌}
use mathlib.Core.Bool.{Bool, true, false}
use Prim.Native.Nat.{ℕ}
use lib.Dec.{T, eqb, eqb_refl}

pub true_iff : (b : Bool) → (b ≡ true) ↔ T b
true_iff true = (λ e. tt, λ t. refl)
true_iff false = (λ e. subst T (sym e) tt, λ t. absurd t)

pub eq→eqb : {x y : ℕ} → x ≡ y → T (eqb x y)
eq→eqb {x} e = subst (λ z. T (eqb x z)) e (eqb_refl x)
