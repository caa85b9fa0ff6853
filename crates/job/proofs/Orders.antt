-- The order of the refusals of an opening and of a job's calls, and refusal 26 of an opening.
use mathlib.Core.Path.{◌≡◌, refl}
use mathlib.Core.Logic.{◌↔◌}
use mathlib.Core.Bool.{Bool, true, false, not, cond}
use mathlib.Core.List.{List, [], ◌∷◌, ◌++◌}
use Prim.Native.Nat.{ℕ, suc}
use lib.Dec.{leb, eqb}
use lib.ListN.{length, replicate}
use Rattle.refusals.specs.Refusals.{◌⇒◌, first}
use Rattle.refusals.proofs.Orders.{avoided, refused_unless, negated}
use Rattle.numbers.specs.Value.{is_modulus}
use Rattle.numbers.proofs.ModulusCases.{one_or_two}
use Rattle.job.specs.Job.{Header, axis_tests, volume_tests, open_tests, open_step, OpenOutcome, opened, not_opened, job_of, collecting, map_held}
use Rattle.job.specs.Orders.{JobRefusals}
use Rattle.job.proofs.SaidNumbers.{opening_number, opening_says}

told : (m : ℕ) (h : Header) (kind : ℕ) (v : List ℕ) (k : ℕ) → (first (open_tests m h kind v) ≡ suc k) ↔ ((open_step m h kind v).answer ≡ not_opened (suc k) 0)
unfolding open_step
told m h kind v = opening_says _ _ (none (eqb kind 0)) (λ n. refl) (first (open_tests m h kind v))
  where
    none : (b : Bool) → opening_number (cond {A = OpenOutcome} b (record { answer = opened (job_of m h collecting); volume = replicate (length v) 0 }) (record { answer = opened (job_of m h map_held); volume = v })).answer ≡ 0
    none true = refl
    none false = refl

pub job_refusals : JobRefusals
job_refusals = record {
  opening = λ m h kind v. refl;
  recording = λ j at x y v. refl;
  synthesis = λ j v scratch. refl;
  analysis = λ j v scratch. refl;
  point = λ j x v. refl;
  factor = λ j at v. refl;
  map_power_lem = λ j v. refl;
  factor_power_lem = λ j v. refl;
  turn = λ j n v scratch. refl;
  modulus = λ m h kind v none.
      refused_unless (leb 5 h.group ⇒ 8 ∷ []) (leb 2 kind ⇒ 2 ∷ (axis_tests h ++ volume_tests m h.group h.lengths kind v)) (not (is_modulus m)) 25 tt
      (open_step m h kind v).answer (λ n. not_opened n 0) (told m h kind v) tt (avoided (λ n. not_opened n 0) _ (leb 5 h.group ⇒ 8 ∷ []) none) _
      (λ e. negated (is_modulus m) (one_or_two m));
}
