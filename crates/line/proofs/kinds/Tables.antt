-- The tables that a call makes are those that its line asks for.
use mathlib.Core.Path.{◌≡◌, subst}
use mathlib.Core.List.{List}
use Prim.Native.Nat.{ℕ, suc}
use lib.ListN.{length, get_or}
use Rattle.algebra.specs.ring.Ring.{Ops}
use Rattle.numbers.specs.Value.{IsModulus, ring}
use Rattle.numbers.specs.Bounds.{res}
use Rattle.roots.specs.Table.{RealTable, ImaginaryTable}
use Rattle.roots.specs.TableLaws.{TangentTable, NegatedTable}
use Rattle.numbers.proofs.Residues.{below_by}
use Rattle.roots.proofs.RootLaws.{root_laws}
use Rattle.line.specs.Tables.{TablesOf, LineTables}

module _ {m : ℕ} (is : IsModulus m) {re im tan : List ℕ} (hr : RealTable m re) (hi : ImaginaryTable m im) (ht : TangentTable m tan) where
  pub forward_tables : TablesOf m 0 re im tan
  forward_tables =
      let t = (root_laws m is).table re im hr hi in
      record { powers = t.0; of_root = t.1; tangents = (root_laws m is).tangents tan ht; small = record { below = ht.below } }

  -- with the imaginary parts and the half tangents negated
  pub backward_tables : (direction : ℕ) {im' tan' : List ℕ} → length im ≡ 2880 → length tan ≡ 1440 → NegatedTable m (length im) im im' → NegatedTable m (length tan) tan tan' → TablesOf m (suc direction) re im' tan'
  backward_tables direction {im'} {tan'} li lt ni' nt' =
      let ni = subst (λ n. NegatedTable m n im im') li ni' in
      let nt = subst (λ n. NegatedTable m n tan tan') lt nt' in
      let t = (root_laws m is).backward re im im' hr hi ni in
      record { powers = t.0; of_root = t.1; tangents = (root_laws m is).backward_tangents tan tan' ht nt; small = record { below = λ k l. below_by m ((ring m).neg (res m (get_or tan k 0))) (nt.entry k l) } }

-- all tables serve a line of any kind, and a plain one needs those of the powers only
module _ {m direction : ℕ} {re im tan : List ℕ} (kind : ℕ) where
  pub line_tables : TablesOf m direction re im tan → LineTables m kind direction re im tan
  line_tables t = record { powers = t.powers; of_root = t.of_root; folding = λ h. t }

module _ {m : ℕ} (is : IsModulus m) {re im : List ℕ} (hr : RealTable m re) (hi : ImaginaryTable m im) where
  pub plain_tables : {kind : ℕ} (tan : List ℕ) → kind ≡ 0 → LineTables m kind 0 re im tan
  plain_tables tan e = let t = (root_laws m is).table re im hr hi in record { powers = t.0; of_root = t.1; folding = λ h. absurd (h e) }
