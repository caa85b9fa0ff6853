-- What the answer of an opening, and of a job's call, says of its tests: the number of a refusal is that of the first that holds.
use mathlib.Core.Path.{◌≡◌, refl, ap, ◌∙◌}
use mathlib.Core.Logic.{◌↔◌}
use Prim.Native.Nat.{ℕ, suc}
use Rattle.refusals.specs.Refusals.{accepted}
use Rattle.refusals.proofs.Orders.{says}
use Rattle.job.specs.Job.{Opening, opened, not_opened, OpenOutcome, Said, done, density, factor, power, refused}

abbrev pub said_number : Said → ℕ
said_number done = 0
said_number (density n) = 0
said_number (factor x y) = 0
said_number (power n) = 0
said_number (refused n) = n

abbrev pub opening_number : Opening → ℕ
opening_number (opened j) = 0
opening_number (not_opened n place) = n

pub said_says : {O : Type 0} (answer : O → Said) (o : O) (f : ℕ → O) → said_number (answer o) ≡ 0 → ((n : ℕ) → answer (f n) ≡ refused n) → (n k : ℕ) → (n ≡ suc k) ↔ (answer (accepted n o f) ≡ refused (suc k))
said_says answer o f z e = says said_number answer o f refused e (λ n. refl) z

pub opening_says : (o : OpenOutcome) (f : ℕ → OpenOutcome) → opening_number o.answer ≡ 0 → ((n : ℕ) → (f n).answer ≡ not_opened n 0) → (n k : ℕ) → (n ≡ suc k) ↔ ((accepted n o f).answer ≡ not_opened (suc k) 0)
opening_says o f z e = says opening_number (λ (o : OpenOutcome). o.answer) o f (λ n. not_opened n 0) e (λ n. refl) z
