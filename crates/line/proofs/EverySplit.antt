-- Every split that an accepted factor list makes: the steps of its list, by the theorem of crate plain.
use mathlib.Core.Path.{◌≡◌, sym, ◌∙◌, ap, subst}
use mathlib.Core.Bool.{true}
use mathlib.Core.List.{List}
use Prim.Native.Nat.{ℕ, zero, suc, ◌*◌, ◌/◌}
use lib.ListN.{length}
use Rattle.algebra.specs.ring.Ring.{Ops, pow}
use Rattle.numbers.specs.Value.{prime, IsModulus, Value, field}
use Rattle.roots.proofs.Roots.{full_turn}
use Rattle.roots.proofs.RootPowers.{conj_full_turn}
use Rattle.slices.specs.Pairs.{Below}
use Rattle.lengths.specs.Lengths.{product, factors_ok}
use Rattle.lengths.specs.Admitted.{AdmittedLength}
use Rattle.lengths.proofs.Factors.{factors_of_lem, factors_ok_lem}
use Rattle.lengths.proofs.AdmittedLengths.{admitted_length}
use Rattle.lengths.proofs.stage.Doubling.{doubled_factors, product_doubled}
use Rattle.lengths.proofs.stage.Staging.{stages_split}
use Rattle.plain.proofs.EverySplit.{split_whole, parts_after, transform_after}
use Rattle.line.specs.Tables.{root_for}
use Rattle.line.specs.EverySplit.{list_for, points_for, Steps, EverySplit}

-- the steps of any list of factors whose product divides 2,880
list_steps : (m : ℕ) (W : Value m) → pow (field m) W 2880 ≡ (field m).one → (l : List ℕ) → factors_ok l ≡ true → (n : ℕ) → product l ≡ n → n * (2880 / n) ≡ 2880
    → (line : List ℕ) → length line ≡ 2 * n → Below (prime m) line → Steps m W n l line
list_steps m W cycle l each n is divides line long below =
    subst (λ k. Steps m W k l line) is (record {
      stages = stages_split l each;
      points = split_whole l each;
      parts = parts_after m W cycle l each divides' line long' below;
      whole = transform_after m W cycle l each divides' line long' below;
    })
  where
    divides' : product l * (2880 / product l) ≡ 2880
    divides' = subst (λ k. k * (2880 / k) ≡ 2880) (sym is) divides

    long' : length line ≡ 2 * product l
    long' = long ∙ ap (λ k. 2 * k) (sym is)

-- the root of a direction
root_cycle : (m direction : ℕ) → IsModulus m → pow (field m) (root_for m direction) 2880 ≡ (field m).one
root_cycle m zero is = full_turn m is
root_cycle m (suc direction) is = conj_full_turn m is

-- the list of a kind, and its points
module _ (N : ℕ) (factors : List ℕ) (each : factors_ok factors ≡ true) where
  list_ok : (kind : ℕ) → factors_ok (list_for kind factors) ≡ true
  list_ok zero = factors_ok_lem (doubled_factors (factors_of_lem factors each))
  list_ok (suc kind) = each

  module _ (size : AdmittedLength N) where
    list_points : (kind : ℕ) → product factors ≡ N / 2 → product (list_for kind factors) ≡ points_for kind N
    list_points zero is = product_doubled factors ∙ ap (λ k. 2 * k) is ∙ size.whole
    list_points (suc kind) is = is

    points_divide : (kind : ℕ) → points_for kind N * (2880 / points_for kind N) ≡ 2880
    points_divide zero = size.turns
    points_divide (suc kind) = size.square_turns

pub every_split : EverySplit
every_split = record {
  steps = λ m kind direction N factors line is fits each whole long below.
      let size = admitted_length N fits in
      list_steps m (root_for m direction) (root_cycle m direction is) (list_for kind factors) (list_ok N factors each kind) (points_for kind N)
      (list_points N factors each size kind whole) (points_divide N factors each size kind) line long below;
}
