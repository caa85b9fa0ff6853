-- A table of the root as it is, or negated: which of the two a direction takes.
use mathlib.Core.Path.{◌≡◌, refl, sym, subst}
use mathlib.Core.List.{List}
use Prim.Native.Nat.{ℕ, zero, suc}
use lib.ListN.{length}
use Rattle.numbers.specs.Value.{IsModulus}
use Rattle.roots.specs.Table.{RealTable, ImaginaryTable}
use Rattle.roots.specs.TableLaws.{TangentTable, NegatedTable}
use Rattle.line.specs.Tables.{TablesOf, OfDirection, Directed}
use Rattle.line.proofs.kinds.Tables.{forward_tables, backward_tables}

module _ {m : ℕ} {Table : List ℕ → Type 0} {n : ℕ} {of : List ℕ} (count : length of ≡ n) (table : Table of) where
  pub as_it_is : {direction : ℕ} → direction ≡ 0 → Directed m Table n direction of
  as_it_is e = record { of = of; count = count; table = table; directed = subst (λ d. OfDirection m d of of) (sym e) refl }

  pub negated_table : (direction : ℕ) {u : List ℕ} → (direction ≡ 0 → ⊥) → NegatedTable m (length of) of u → Directed m Table n direction u
  negated_table zero e h = absurd (e refl)
  negated_table (suc d) e h = record { of = of; count = count; table = table; directed = h }

-- the tables of a direction are those that its lines are lent
module _ {m : ℕ} (is : IsModulus m) {re im tan : List ℕ} (hr : RealTable m re) where
  pub tables_of_lem : (direction : ℕ) → Directed m (ImaginaryTable m) 2880 direction im → Directed m (TangentTable m) 1440 direction tan → TablesOf m direction re im tan
  tables_of_lem zero i t = forward_tables is hr (subst (ImaginaryTable m) (sym i.directed) i.table) (subst (TangentTable m) (sym t.directed) t.table)
  tables_of_lem (suc d) i t = backward_tables is hr i.table t.table d i.count t.count i.directed t.directed
