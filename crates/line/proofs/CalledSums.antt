-- The second demand of an accepted call: what stands in its line is the transform's list, which is read at its pairs alone; and no factor list is part of that.
use mathlib.Core.Path.{◌≡◌, sym, ◌∙◌, ap}
use mathlib.Core.Bool.{true}
use mathlib.Core.List.{List}
use Prim.Native.Nat.{ℕ, ◌/◌, ◌<◌}
use native.Mathlib.Omega.{arith}
use lib.ListN.{length}
use borrow.Author.Tests.{not-false}
use Rattle.numbers.specs.Value.{IsModulus, Value}
use Rattle.slices.specs.Pairs.{values_of}
use Rattle.slices.proofs.Values.{values_list}
use Rattle.lengths.specs.Lengths.{kind_of, pair_count, admitted}
use Rattle.lengths.specs.Admitted.{AdmittedLength}
use Rattle.lengths.proofs.AdmittedLengths.{admitted_length}
use Rattle.refusals.specs.Refusals.{first}
use Rattle.refusals.proofs.Tests.{passed}
use Rattle.line.specs.Line.{transform, transformed, line_tests, line_step}
use Rattle.line.specs.Demands.{whole_before, whole_after, forward_sum, back_sum, CallIsSum, ListFree}
use Rattle.line.proofs.kinds.Reading.{before_cong, after_cong}
use Rattle.line.proofs.Demands.{forward_is_sum, back_is_sum}
use Rattle.line.proofs.Accepted.{accepted_modulus}
use Rattle.line.proofs.Outcome.{none_held, accepted_outcome}

-- ---- the whole line of a transformed list

module _ (m kind N : ℕ) (line : List ℕ) (is : IsModulus m) (e : admitted N ≡ true) where
  size : AdmittedLength N
  size = admitted_length N e

  forward_list : (s : ℕ) → s < N → whole_after m kind N (values_of m (transformed m kind 0 N line)) s ≡ forward_sum m N (whole_before m kind N (values_of m line)) s
  unfolding transformed
  forward_list s l =
      after_cong _ _ _ _ (N / 2) size.positive (kind_of kind) _ _ (values_list m (pair_count kind N) (transform m (kind_of kind) 0 (N / 2) (values_of m line))) s (omega (arith, size.whole))
      ∙ forward_is_sum.is_sum m kind N (values_of m line) s is e l

  back_list : (t : ℕ) → t < N → whole_before m kind N (values_of m (transformed m kind 1 N line)) t ≡ back_sum m N (whole_after m kind N (values_of m line)) t
  unfolding transformed
  back_list t l =
      before_cong _ _ _ _ (N / 2) size.positive (kind_of kind) _ _ (values_list m (pair_count kind N) (transform m (kind_of kind) 1 (N / 2) (values_of m line))) t (omega (arith, size.whole))
      ∙ back_is_sum.is_sum m kind N (values_of m line) t is e l

-- ---- the call

module _ (m kind direction N : ℕ) (factors line scratch : List ℕ) (e : (line_step m kind direction N factors line scratch).answer ≡ 0) where
  none : 0 ≡ first (line_tests m kind direction N factors line (length scratch))
  none = none_held m kind direction N factors line scratch e

  size_admitted : admitted N ≡ true
  size_admitted = not-false _ (passed (line_tests m kind direction N factors line (length scratch)) tt none).1.1.1.0

  modulus_named : IsModulus m
  modulus_named = accepted_modulus m kind direction N factors line (length scratch) none

  line_left : (line_step m kind direction N factors line scratch).line ≡ transformed m kind direction N line
  line_left = ap (λ o. o.line) (accepted_outcome m kind direction N factors line scratch none)

pub call_is_sum : CallIsSum
call_is_sum = record {
  forward = λ m kind N factors line scratch e s l.
      ap (λ y. whole_after m kind N (values_of m y) s) (line_left m kind 0 N factors line scratch e) ∙ forward_list m kind N line (modulus_named m kind 0 N factors line scratch e) (size_admitted m kind 0 N factors line scratch e) s l;
  back = λ m kind N factors line scratch e t l.
      ap (λ y. whole_before m kind N (values_of m y) t) (line_left m kind 1 N factors line scratch e) ∙ back_list m kind N line (modulus_named m kind 1 N factors line scratch e) (size_admitted m kind 1 N factors line scratch e) t l;
}

pub list_free : ListFree
list_free = record {
  same = λ m kind direction N factors factors' line scratch e e'.
      accepted_outcome m kind direction N factors line scratch (none m kind direction N factors line scratch e)
      ∙ sym (accepted_outcome m kind direction N factors' line scratch (none m kind direction N factors' line scratch e'));
}
