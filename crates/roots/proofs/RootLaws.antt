-- Everything that is proved of the root, gathered for both moduli.
use Prim.Native.Nat.{ℕ}
use Rattle.numbers.specs.Value.{IsModulus}
use Rattle.roots.specs.TableLaws.{RootLaws}
use Rattle.roots.proofs.Roots.{shape, root_of_unity, half_turn, quarter_turn, root_order, conj_power}
use Rattle.roots.proofs.RootPowers.{root_table, table_root_lem, conj_root_table, conj_table_root}
use Rattle.roots.proofs.RootTangents.{tangent_laws, backward_tangents}
use Rattle.roots.proofs.RootChoice.{least_choice}

pub root_laws : (m : ℕ) → IsModulus m → RootLaws m
root_laws m is = record {
  shape = shape m;
  choice_is = least_choice m;
  unity = root_of_unity m is;
  half_turn = half_turn m is;
  quarter_turn = quarter_turn m is;
  order = root_order m is;
  conjugate = conj_power m is;
  table = λ re im hr hi. (root_table m is hr hi, table_root_lem m is hr hi);
  backward = λ re im u hr hi hu. (conj_root_table m is hr hi hu, conj_table_root m is hr hi hu);
  tangents = λ t h. tangent_laws m is h;
  backward_tangents = λ t u h n. backward_tangents m is h n;
}
