-- The tables that a line's transform is lent: those of the root for direction 0, those of its conjugate for direction
-- 1. No reader of the promise needs this page.
use Rattle.std.specs.Prelude.{◌≡◌, List, ℕ, zero, suc, length}
use Rattle.numbers.specs.Value.{Value, conj}
use Rattle.roots.specs.Root.{root}
use Rattle.roots.specs.Table.{table_root, RootTable}
use Rattle.roots.specs.TableLaws.{TangentLaws, BackwardTangents, NegatedTable}
use Rattle.fold_formulas.specs.FoldFormulas.{Tangents}

-- the root of a direction, and its half tangents: those of the conjugate are the negated ones
abbrev pub root_for : (m direction : ℕ) → Value m
root_for m zero = root m
root_for m (suc direction) = conj m (root m)

abbrev pub TangentsFor : (m direction : ℕ) → List ℕ → Type 0
TangentsFor m zero tan = TangentLaws m tan
TangentsFor m (suc direction) tan = BackwardTangents m tan

-- the powers of the root of a direction, and its half tangents
pub record TablesOf (m direction : ℕ) (re im tan : List ℕ) : Type 0 where
  pub powers : RootTable m re im
  pub of_root : table_root m re im ≡ root_for m direction
  pub tangents : TangentsFor m direction tan
  pub small : Tangents m tan

-- the tables that a line of a kind is lent: a plain one is not folded, and needs no half tangents
pub record LineTables (m kind direction : ℕ) (re im tan : List ℕ) : Type 0 where
  pub powers : RootTable m re im
  pub of_root : table_root m re im ≡ root_for m direction
  pub folding : (kind ≡ 0 → ⊥) → TablesOf m direction re im tan

-- ---- how a call makes them

-- direction 0 takes a table as it is, direction 1 negated
abbrev pub OfDirection : (m direction : ℕ) (of u : List ℕ) → Type 0
OfDirection m zero of u = u ≡ of
OfDirection m (suc direction) of u = NegatedTable m (length of) of u

-- the n numbers of a table of the root, for a direction
pub record Directed (m : ℕ) (Table : List ℕ → Type 0) (n direction : ℕ) (u : List ℕ) : Type 0 where
  pub of : List ℕ
  pub count : length of ≡ n
  pub table : Table of
  pub directed : OfDirection m direction of u
