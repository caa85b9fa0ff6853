-- The digits of a packed factor list are the list.
use mathlib.Core.Path.{◌≡◌, sym, ◌∙◌, ap}
use mathlib.Core.Bool.{true}
use Prim.Native.Nat.{ℕ}
use Rattle.lengths.specs.Lengths.{product, factors_ok, octal_digits}
use Rattle.lengths.specs.Admitted.{Factored}
use Rattle.lengths.proofs.Factors.{octal_digits_lem, factors_ok_lem}
use Rattle.lengths.proofs.stage.Factoring.{unpacked}

pub record Listed (factors n : ℕ) : Type 0 where
  pub each : factors_ok (octal_digits factors) ≡ true
  pub product_is : product (octal_digits factors) ≡ n

pub digits_listed : {factors n : ℕ} → Factored factors n → Listed factors n
digits_listed {factors} h =
    let u = unpacked h in
    let list : octal_digits factors ≡ u.list = ap octal_digits (sym u.packs) ∙ octal_digits_lem u.list (factors_ok_lem u.each) in
    record { each = ap factors_ok list ∙ factors_ok_lem u.each; product_is = ap product list ∙ u.product_is }
