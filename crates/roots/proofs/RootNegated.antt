-- Negated tables.
use mathlib.Core.List.{List}
use Prim.Native.Nat.{ℕ, ◌≤◌}
use native.Mathlib.Omega.{arith}
use Rattle.roots.specs.TableLaws.{NegatedTable}

-- of a whole table, its first numbers; callers know the length of their array
pub negated_first : {m n k : ℕ} {t u : List ℕ} → k ≤ n → NegatedTable m n t u → NegatedTable m k t u
negated_first h n = record { entry = λ j l. n.entry j (omega arith) }
