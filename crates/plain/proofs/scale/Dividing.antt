-- A line divided by its length: by the residue 1/n, or not at all where n is 1.
use mathlib.Core.Path.{◌≡◌, sym, ◌∙◌, ap}
use mathlib.Core.List.{List}
use Prim.Native.Nat.{ℕ, ◌+◌, ◌*◌}
use native.Mathlib.Nat as N
use lib.ListN.{length}
use Rattle.algebra.specs.ring.Ring.{residue, residues, gauss}
use Rattle.numbers.specs.Value.{prime, Value, field, real, part}
use Rattle.numbers.specs.Bounds.{res}
use Rattle.numbers.proofs.Residues.{residue_above, res_val}
use Rattle.numbers.proofs.Values.{field_ring}
use Rattle.slices.specs.Pairs.{Below, values_of, list_of}
use Rattle.slices.proofs.Values.{values_list, list_cong, list_values}

part_one : (m : ℕ) → real m (part m 1) ≡ (field m).one
unfolding part gauss residues
part_one m = ap (real m) (ap (residue (prime m)) (N.div-one (prime m + 1) ∙ N.add_comm (prime m) 1) ∙ residue_above (prime m) 1)

module _ (m n : ℕ) (line : List ℕ) where
  pub divided_by_part : {c : ℕ} {after : List ℕ} → c ≡ (part m n).val → after ≡ list_of n (λ t. (field m).mul (real m (res m c)) (values_of m line t))
      → after ≡ list_of n (λ t. (field m).mul (real m (part m n)) (values_of m line t))
  divided_by_part is scaled =
      scaled ∙ list_cong m n _ _ (λ t l. ap (λ x. (field m).mul (real m x) (values_of m line t)) (ap (res m) is ∙ res_val m (part m n)))

  pub divided_by_one : n ≡ 1 → length line ≡ 2 * n → Below (prime m) line → line ≡ list_of n (λ t. (field m).mul (real m (part m n)) (values_of m line t))
  divided_by_one one long below =
      list_values m n line long below ∙ list_cong m n _ _ (λ t l.
      sym (ap (λ k. (field m).mul (real m (part m k)) (values_of m line t)) one ∙ ap (λ y. (field m).mul y (values_of m line t)) (part_one m) ∙ (field_ring m).one_mul (values_of m line t)))

-- the same of a line of the values f
pub divided_values : (m n : ℕ) (f : ℕ → Value m) {line after : List ℕ} → line ≡ list_of n f → after ≡ list_of n (λ t. (field m).mul (real m (part m n)) (values_of m line t))
    → after ≡ list_of n (λ t. (field m).mul (real m (part m n)) (f t))
divided_values m n f came divided =
    divided ∙ list_cong m n _ _ (λ t l. ap ((field m).mul (real m (part m n))) (ap (λ x. values_of m x t) came ∙ values_list m n f t l))
