-- The lines that are stored times i: the values of specs/Volume are the theory's, i and -i undo each other, and neither hides a zero.
use mathlib.Core.Path.{◌≡◌, refl, sym, ◌∙◌, ap}
use mathlib.Core.Logic.{◌↔◌}
use mathlib.Core.Bool.{Bool, true, false, not}
use Prim.Native.Nat.{ℕ, zero, suc, ◌<◌}
use native.Mathlib.Omega.{arith}
use Rattle.algebra.specs.cells.CellPack as Pack
use Rattle.algebra.proofs.ring.Laws.{mul_zero}
use Rattle.algebra.proofs.cells.CellPack as Pack_proofs
use Rattle.numbers.specs.declared.Pair.{Pair}
use Rattle.numbers.specs.Value.{prime, Value, ring, field, i, value_of, pair_of}
use Rattle.numbers.specs.Bounds.{Small}
use Rattle.numbers.proofs.Residues.{res_ring}
use Rattle.numbers.proofs.Values.{pair_value, field_ring}
use Rattle.cell.specs.Volume.{group_of, rotated, times_i, over_i}

module _ (m : ℕ) where
  pub times_is : (b : Bool) (x : Value m) → times_i m (not b) x ≡ Pack.times_i (ring m) b x
  unfolding Pack.times_i
  times_is true x = refl
  times_is false x = Pack_proofs.imag_times (res_ring m) x

  pub over_is : (b : Bool) (x : Value m) → over_i m (not b) x ≡ Pack.over_i (ring m) b x
  unfolding Pack.over_i
  over_is true x = refl
  over_is false x = Pack_proofs.imag_over (res_ring m) x

  pub over_times : (b : Bool) (x : Value m) → over_i m b (times_i m b x) ≡ x
  unfolding Pack.times_i Pack.over_i
  over_times false x = refl
  over_times true x = ap (over_i m true) (times_is false x) ∙ over_is false _ ∙ Pack_proofs.over_times (res_ring m) false x

  pub times_over : (b : Bool) (x : Value m) → times_i m b (over_i m b x) ≡ x
  unfolding Pack.times_i Pack.over_i
  times_over false x = refl
  times_over true x = ap (times_i m true) (over_is false x) ∙ times_is false _ ∙ Pack_proofs.times_over (res_ring m) false x

  -- a pair that the code has rotated, or not
  module _ {x : Pair} (s : Small (prime m) x) {b : Bool} where
    pub times_not : b ≡ false → x ≡ pair_of (times_i m b (value_of m x))
    times_not e = sym (ap (λ b. pair_of (times_i m b (value_of m x))) e ∙ pair_value m s)

    pub times_pair : b ≡ true → {y : Pair} → y ≡ pair_of ((field m).mul (i m) (value_of m x)) → y ≡ pair_of (times_i m b (value_of m x))
    times_pair e f = f ∙ sym (ap (λ b. pair_of (times_i m b (value_of m x))) e)

    pub over_not : b ≡ false → x ≡ pair_of (over_i m b (value_of m x))
    over_not e = sym (ap (λ b. pair_of (over_i m b (value_of m x))) e ∙ pair_value m s)

    pub over_pair : b ≡ true → {y : Pair} → y ≡ pair_of ((field m).mul ((field m).neg (i m)) (value_of m x)) → y ≡ pair_of (over_i m b (value_of m x))
    over_pair e f = f ∙ sym (ap (λ b. pair_of (over_i m b (value_of m x))) e)

  times_none : (b : Bool) → times_i m b (field m).zer ≡ (field m).zer
  times_none false = refl
  times_none true = mul_zero (field_ring m) _

  pub over_none : (b : Bool) → over_i m b (field m).zer ≡ (field m).zer
  over_none false = refl
  over_none true = mul_zero (field_ring m) _

  pub over_zero : (b : Bool) (x : Value m) → (over_i m b x ≡ (field m).zer) ↔ (x ≡ (field m).zer)
  over_zero b x = (λ e. sym (times_over b x) ∙ ap (times_i m b) e ∙ times_none b, λ e. ap (over_i m b) e ∙ over_none b)

-- the one group that has lines that are stored times i
pub unrotated : (n h : ℕ) → n < 5 → (n ≡ 4 → ⊥) → rotated (group_of n) h ≡ false
unrotated zero h l z = refl
unrotated (suc zero) h l z = refl
unrotated (suc (suc zero)) h l z = refl
unrotated (suc (suc (suc zero))) h l z = refl
unrotated (suc (suc (suc (suc zero)))) h l z = absurd (z refl)
unrotated (suc (suc (suc (suc (suc n))))) h l z = absurd (omega arith)
