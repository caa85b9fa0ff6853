-- That a length and a list which pass their tests are admitted in the sense of specs/Admitted.
use mathlib.Core.Path.{◌≡◌, ◌∙◌, sym, ap, subst}
use mathlib.Core.Bool.{true, ◌&&◌}
use mathlib.Core.List.{List}
use Prim.Native.Nat.{ℕ, ◌*◌, ◌/◌, ◌%◌, ◌≤◌, ◌<◌}
use native.Mathlib.Nat.{div-add-mod', div-eq_of_eq-mul_left, eq-zero-or-pos, mul-le-mul_right, mul_comm}
use native.Mathlib.Omega.{arith}
use mathlib.Core.Logic.{⊎_elim}
use lib.Dec.{ltb, eqb}
use lib.ListN.{length}
use borrow.Author.Tests.{ltb-true, eqb-true}
use Rattle.lengths.specs.Lengths.{product, octal, admitted, factors_ok}
use Rattle.lengths.specs.Admitted.{Factored, AdmittedLength, FactorList}
use Rattle.lengths.proofs.stage.Factoring.{packed}
use Rattle.refusals.proofs.Tests.{both}
use Rattle.lengths.proofs.Factors.{factors_of_lem, octal_below}
use Rattle.lengths.proofs.Divisors.{at_most_eight}

-- ---- the length: N = 2 A and q N = 2,880

half_turn_of : (N A q : ℕ) → N ≡ 2 * A → q * N ≡ 2880 → q * A ≡ 1440
half_turn_of N A q e t = let u : q * (2 * A) ≡ 2880 = subst (λ (x : ℕ). q * x ≡ 2880) e t in omega arith

short_of : (N q : ℕ) → q * N ≡ 2880 → N ≤ 2880
short_of N q t =
    ⊎_elim
    (λ (z : q ≡ 0). absurd (let u : 0 * N ≡ 2880 = subst (λ (x : ℕ). x * N ≡ 2880) z t in omega arith))
    (λ (l : 0 < q). omega (arith, mul-le-mul_right N l))
    (eq-zero-or-pos q)

quotient : (m n k : ℕ) → 1 ≤ n → m ≡ k * n → m / n ≡ k
quotient m n k z e = div-eq_of_eq-mul_left z e

pub admitted_length : (N : ℕ) → admitted N ≡ true → AdmittedLength N
unfolding admitted
admitted_length N e =
    let h = both (ltb 0 N) (eqb (N % 2) 0 && eqb (2880 % N) 0) e in
    let g = both (eqb (N % 2) 0) (eqb (2880 % N) 0) h.1 in
    let even : N % 2 ≡ 0 = eqb-true _ _ g.0 in
    let least : 0 < N = ltb-true 0 N h.0 in
    let turns : 2880 / N * N ≡ 2880 = omega (arith, div-add-mod' 2880 N, eqb-true (2880 % N) 0 g.1) in
    let half : 2880 / N * (N / 2) ≡ 1440 = half_turn_of N (N / 2) (2880 / N) (omega arith) turns in
    let step : 1440 / (N / 2) ≡ 2880 / N = quotient 1440 (N / 2) (2880 / N) (omega arith) (sym half) in
    let square : 2880 / (N / 2) ≡ 2 * (2880 / N) = quotient 2880 (N / 2) (2 * (2880 / N)) (omega arith) (omega arith) in
    record {
      positive = omega arith;
      whole = omega arith;
      short = short_of N (2880 / N) turns;
      turns = mul_comm N (2880 / N) ∙ turns;
      half_turn = half;
      half_step = step;
      half_turns = ap (λ (x : ℕ). N / 2 * x) step ∙ mul_comm (N / 2) (2880 / N) ∙ half;
      square = square;
      square_turns = ap (λ (x : ℕ). N / 2 * x) square ∙ omega (arith, half);
    }

-- ---- the list

pub factor_list : {N : ℕ} (factors : List ℕ) → AdmittedLength N → factors_ok factors ≡ true → product factors ≡ N / 2 → FactorList N (octal factors)
factor_list {N} factors size e p =
    let t = factors_of_lem factors e in
    let eight : length factors ≤ 8 = at_most_eight factors (1440 / (N / 2)) t (ap (λ (x : ℕ). x * (1440 / (N / 2))) p ∙ size.half_turns) in
    record { small = octal_below 8 factors e eight; folded = subst (Factored (octal factors)) p (packed t) }
