-- The order of the window's refusals, and refusal 34, which no test comes before.
use mathlib.Core.Path.{◌≡◌, refl, subst}
use mathlib.Core.Logic.{◌↔◌}
use mathlib.Core.Bool.{Bool, true, false}
use mathlib.Core.List.{List, [], ◌∷◌}
use Prim.Native.Nat.{ℕ, suc, ◌≤◌}
use native.Mathlib.Omega.{arith}
use lib.Dec.{T, eqb, leb, ltb}
use lib.ListN.{length}
use borrow.Author.Tests.{eqb-false, leb-false, ne_eqb, lt-leb}
use Rattle.refusals.specs.Refusals.{Test, ◌⇒◌, first}
use Rattle.refusals.proofs.Orders.{others, other_first}
use Rattle.output.proofs.Answered.{fill_says}
use Rattle.sliding_window.specs.Window.{window_count, window_tests_of, WindowOutcome, window_step}
use Rattle.sliding_window.specs.Orders.{WindowRefusals}

-- two tests of one number, and others behind them
either : (a b : Bool) (n : ℕ) (ts : List Test) → T (others (suc n) ts) → (first (a ⇒ suc n ∷ b ⇒ suc n ∷ ts) ≡ suc n) ↔ ((a ≡ false) × (b ≡ false) → ⊥)
unfolding first
either true b n ts o = (λ e q. subst T q.0 tt, λ f. refl)
either false true n ts o = (λ e q. subst T q.1 tt, λ f. refl)
either false false n ts o = (λ e q. other_first n ts o e, λ f. absurd (f (refl, refl)))

-- the window is of 1 to 64 entries
sized : (w : ℕ) → ((eqb w 0 ≡ false) × (leb 65 w ≡ false)) ↔ ((1 ≤ w) × (w ≤ 64))
sized w = (λ e. (omega (arith, eqb-false w 0 e.0), omega (arith, leb-false 65 w e.1)), λ s. (ne_eqb w 0 (λ z. omega (arith, z, s.0)), lt-leb 65 w (omega (arith, s.1))))

pub window_refusals : WindowRefusals
unfolding window_step
window_refusals = record {
  ordered = λ run w o. refl;
  size = λ run w o.
      let n = window_count run w in
      let s = fill_says (λ (r : WindowOutcome). r.answer) _ _ n refl (λ k. refl) (first (window_tests_of run w o)) 33 in
      let d = either (eqb w 0) (leb 65 w) 33 (ltb (length o.least) n ⇒ 18 ∷ ltb (length o.greatest) n ⇒ 18 ∷ ltb (length o.place_of_least) n ⇒ 18 ∷ ltb (length o.place_of_greatest) n ⇒ 18 ∷ []) tt in
      (λ e q. d.0 (s.1 e) ((sized w).1 q), λ f. s.0 (d.1 (λ q. f ((sized w).0 q))));
}
