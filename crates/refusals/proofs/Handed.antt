-- What a `?` hands on: the refusal that the call before it answered.
use mathlib.Core.Path.{◌≡◌, refl, ◌∙◌, ap}
use mathlib.Core.Bool.{true, false}
use native.Mathlib.Omega.{arith}
use Prim.Native.Nat.{ℕ}
use Rattle.std.specs.Prelude.{Result, Ok, Err}
use Rattle.std.specs.Result.{IsErrAnd, is_err}
use Rattle.refusals.specs.declared.Refusal.{Refusal}
use Rattle.refusals.specs.Refusals.{number_of}
use Rattle.refusals.specs.Checks.{checked_number}

pub handed_on : {T E : Type 0} (r : Result T E) (e : E) → IsErrAnd r (λ (x : E). x ≡ e) → r ≡ Err e
handed_on (Ok v) e h = absurd h
handed_on (Err x) e h = ap (λ y. Err y) h

-- so a check that only goes on answers the number of the check that it called
pub handed_number : (r : Result (Unit {0}) Refusal) (e : Refusal) {n : ℕ} → IsErrAnd r (λ (x : Refusal). x ≡ e) → number_of e ≡ n → checked_number r ≡ n
handed_number r e h k = ap checked_number (handed_on r e h) ∙ k

-- a check that failed says a refusal's number, and one that did not says 0
pub failed_number : (r : Result (Unit {0}) Refusal) → is_err r ≡ true → (e : Refusal) × (checked_number r ≡ number_of e)
failed_number (Ok u) h = absurd (let z : ◌≡◌ {A = ℕ} 0 1 = cc in omega arith)
failed_number (Err e) h = (e, refl)

pub passed_number : (r : Result (Unit {0}) Refusal) → is_err r ≡ false → checked_number r ≡ 0
passed_number (Ok u) h = refl
passed_number (Err e) h = absurd (let z : ◌≡◌ {A = ℕ} 0 1 = cc in omega arith)
