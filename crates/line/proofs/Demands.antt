-- The second demand's proofs: from the theory's laws of the kinds, at the axis of the length.
use mathlib.Core.Path.{◌≡◌, refl, sym, ◌∙◌, ap, subst}
use mathlib.Core.Bool.{true}
use mathlib.Core.List.{List}
use Prim.Native.Nat.{ℕ, ◌*◌, ◌/◌, ◌<◌}
use native.Mathlib.Omega.{arith}
use lib.ListN.{length}
use Rattle.algebra.specs.ring.Ring.{Ops, pow, sum, dft}
use Rattle.algebra.specs.fourier.Axis.{AxisLaws}
use Rattle.algebra.specs.lines.Kinds.{Kind, slots, unfold_before, unfold_after, forward, inverse}
use Rattle.algebra.proofs.ring.Laws.{along}
use Rattle.algebra.proofs.lines.FoldAll.{restores, restores_after}
use Rattle.algebra.proofs.lines.Rules.{before_rule, after_rule, before_pack, after_pack, transform_rule, inverse_rule}
use Rattle.numbers.specs.Value.{prime, IsModulus, Value, field, conj, half, part, real, on_values}
use Rattle.numbers.proofs.Values.{field_ring, field_star}
use Rattle.slices.specs.Pairs.{Below, values_of, list_of}
use Rattle.slices.proofs.Values.{list_cong, list_values, values_list}
use Rattle.lengths.specs.Lengths.{kind_of, pair_count, admitted}
use Rattle.line.specs.Line.{root_of, transform, transformed}
use Rattle.lengths.specs.Admitted.{AdmittedLength}
use Rattle.line.proofs.kinds.Axes.{axis_laws}
use Rattle.line.proofs.kinds.Reading.{forward_cong, back_cong}
use Rattle.line.specs.Demands.{whole_before, whole_after, RulesKept, ForwardIsSum, BackIsSum, Restored, RestoredAfter}
use Rattle.lengths.proofs.AdmittedLengths.{admitted_length}

-- The theory at an admitted length, with A = N/2.
module _ (m : ℕ) (is : IsModulus m) (N : ℕ) (size : AdmittedLength N) where
  abbrev A : ℕ
  A = N / 2

  module _ (k : Kind) where
    back_forward : (X Y : ℕ → Value m) → ((j : ℕ) → j < slots k A → Y j ≡ transform m k 0 A X j) → (t : ℕ) → t < slots k A → transform m k 1 A Y t ≡ X t
    back_forward X Y e t l = back_cong (field_ring m) (field_star m) (axis_laws m is size) k Y _ e t l ∙ restores (field_ring m) (field_star m) (axis_laws m is size) k X t l

    forward_back : (X Y : ℕ → Value m) → ((j : ℕ) → j < slots k A → Y j ≡ transform m k 1 A X j) → (s : ℕ) → s < slots k A → transform m k 0 A Y s ≡ X s
    forward_back X Y e s l = forward_cong (field_ring m) (field_star m) (axis_laws m is size) k Y _ e s l ∙ restores_after (field_ring m) (field_star m) (axis_laws m is size) k X s l

    whole_forward : (X : ℕ → Value m) (s : ℕ) → s < N → on_values m unfold_after A k (transform m k 0 A X) s ≡ dft (field m) N (root_of m N) (on_values m unfold_before A k X) s
    whole_forward X s l =
        after_pack (field_ring m) (field_star m) (axis_laws m is size) k _ (transform_rule (field_ring m) (field_star m) (axis_laws m is size) k _ (before_rule (field_ring m) (field_star m) (axis_laws m is size) k X)) s (omega (arith, size.whole))
        ∙ ap (λ n. dft (field m) n (root_of m n) (on_values m unfold_before A k X) s) size.whole

    whole_back : (X : ℕ → Value m) (t : ℕ) → t < N → on_values m unfold_before A k (transform m k 1 A X) t ≡ (field m).mul (real m (part m N)) (dft (field m) N (conj m (root_of m N)) (on_values m unfold_after A k X) t)
    whole_back X t l =
        before_pack (field_ring m) (field_star m) (axis_laws m is size) k _ (inverse_rule (field_ring m) (field_star m) (axis_laws m is size) k _ (after_rule (field_ring m) (field_star m) (axis_laws m is size) k X)) t (omega (arith, size.whole))
        ∙ ap (λ n. (field m).mul (real m (part m n)) (dft (field m) n (conj m (root_of m n)) (on_values m unfold_after A k X) t)) size.whole

  module _ (kind : ℕ) (line : List ℕ) (len : length line ≡ 2 * pair_count kind N) (small : Below (prime m) line) where
    list_restored : transformed m kind 1 N (transformed m kind 0 N line) ≡ line
    unfolding transformed
    list_restored =
        list_cong m (pair_count kind N) _ (values_of m line) (back_forward (kind_of kind) (values_of m line) _ (values_list m (pair_count kind N) (transform m (kind_of kind) 0 A (values_of m line))))
        ∙ sym (list_values m (pair_count kind N) line len small)

    list_restored_after : transformed m kind 0 N (transformed m kind 1 N line) ≡ line
    unfolding transformed
    list_restored_after =
        list_cong m (pair_count kind N) _ (values_of m line) (forward_back (kind_of kind) (values_of m line) _ (values_list m (pair_count kind N) (transform m (kind_of kind) 1 A (values_of m line))))
        ∙ sym (list_values m (pair_count kind N) line len small)

pub rules_kept : RulesKept
rules_kept = record {
  kept_before = λ m kind N X is e. before_rule (field_ring m) (field_star m) (axis_laws m is (admitted_length N e)) (kind_of kind) X;
  kept_after = λ m kind N X is e. after_rule (field_ring m) (field_star m) (axis_laws m is (admitted_length N e)) (kind_of kind) X;
  whole_before_is = λ m kind N X is e r t l. let h = admitted_length N e in before_pack (field_ring m) (field_star m) (axis_laws m is h) (kind_of kind) X r t (omega (arith, h.whole));
  whole_after_is = λ m kind N X is e r s l. let h = admitted_length N e in after_pack (field_ring m) (field_star m) (axis_laws m is h) (kind_of kind) X r s (omega (arith, h.whole));
}

pub forward_is_sum : ForwardIsSum
unfolding dft
forward_is_sum = record { is_sum = λ m kind N X s is e l. whole_forward m is N (admitted_length N e) (kind_of kind) X s l }

pub back_is_sum : BackIsSum
unfolding dft
back_is_sum = record { is_sum = λ m kind N X t is e l. whole_back m is N (admitted_length N e) (kind_of kind) X t l }

pub restored : Restored
restored = record { restored = λ m kind N line is h e len small. list_restored m is N (admitted_length N e) kind line len small }

pub restored_after : RestoredAfter
restored_after = record { restored = λ m kind N line is h e len small. list_restored_after m is N (admitted_length N e) kind line len small }
