-- What the answer of a call that fills an output says of its tests: the number of a refusal is that of the first that holds.
use mathlib.Core.Path.{◌≡◌, refl, ap}
use mathlib.Core.Logic.{◌↔◌}
use Prim.Native.Nat.{ℕ, suc}
use Rattle.refusals.specs.Refusals.{accepted}
use Rattle.refusals.proofs.Orders.{says}
use Rattle.output.specs.Output.{Filled, written, not_written}

abbrev fill_number : Filled → ℕ
fill_number (written n) = 0
fill_number (not_written n) = n

pub fill_says : {O : Type 0} (answer : O → Filled) (o : O) (f : ℕ → O) (k : ℕ) → answer o ≡ written k → ((n : ℕ) → answer (f n) ≡ not_written n) → (n k : ℕ) → (n ≡ suc k) ↔ (answer (accepted n o f) ≡ not_written (suc k))
fill_says answer o f k z e = says fill_number answer o f not_written e (λ n. refl) (ap fill_number z)
