-- The order of a line's refusals, and refusal 26, which no test comes before.
use mathlib.Core.Path.{refl}
use mathlib.Core.Bool.{not}
use mathlib.Core.List.{[], ◌∷◌}
use Prim.Native.Nat.{◌*◌, ◌/◌}
use lib.Dec.{leb, ltb, eqb}
use lib.ListN.{length}
use Rattle.refusals.specs.Refusals.{◌⇒◌, first}
use Rattle.refusals.proofs.Orders.{says, avoided, refused_unless, negated}
use Rattle.numbers.specs.Value.{prime, is_modulus}
use Rattle.numbers.proofs.ModulusCases.{one_or_two}
use Rattle.slices.specs.Pairs.{all_below}
use Rattle.lengths.specs.Lengths.{product, admitted, factors_ok, pair_count, scratch_length}
use Rattle.line.specs.Line.{line_tests, LineOutcome, line_step}
use Rattle.line.specs.Orders.{LineRefusals}

pub line_refusals : LineRefusals
unfolding line_step
line_refusals = record {
  ordered = λ m kind direction N factors line scratch. refl;
  modulus = λ m kind direction N factors line scratch.
      refused_unless []
      (leb 6 kind ⇒ 1 ∷ leb 2 direction ⇒ 2 ∷ not (admitted N) ⇒ 3 ∷ not (factors_ok factors) ⇒ 4 ∷ not (eqb (product factors) (N / 2)) ⇒ 5 ∷ not (eqb (length line) (2 * pair_count kind N)) ⇒ 6 ∷ ltb (length scratch) scratch_length ⇒ 13 ∷ not (all_below (prime m) line) ⇒ 7 ∷ [])
      (not (is_modulus m)) 25 tt (line_step m kind direction N factors line scratch).answer (λ n. n)
      (says (λ n. n) (λ (o : LineOutcome). o.answer) _ _ (λ n. n) (λ n. refl) (λ n. refl) refl (first (line_tests m kind direction N factors line (length scratch))))
      tt (avoided (λ n. n) _ [] tt) _ (λ e. negated (is_modulus m) (one_or_two m));
}
