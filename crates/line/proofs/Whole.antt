-- An accepted line, whose length N is even, as the transform of the A = N/2 asks for it; and what its scratch is left with.
use mathlib.Core.Path.{◌≡◌, ◌∙◌, sym, ap, subst}
use mathlib.Core.List.{List, ◌++◌}
use Prim.Native.Nat.{ℕ, ◌+◌, ◌*◌, ◌/◌, ◌≤◌}
use native.Mathlib.Omega.{arith}
use lib.ListN.{length, take, drop}
use lib.Seq.{drop-append-add, drop-drop}
use Rattle.algebra.proofs.ring.Laws.{along}
use Rattle.lengths.specs.Lengths.{pair_count, scratch_length}
use Rattle.line.specs.Line.{transformed}
use Rattle.lengths.specs.Admitted.{AdmittedLength, FactorList}
use Rattle.line.proofs.kinds.Dispatch.{prefix_length}

-- what follows the lent part in a scratch: the part is lent from the start, and comes back as long as it was
pub rest_of : (p s : List ℕ) → scratch_length ≤ length s → length p ≡ length (take 5760 s) → drop scratch_length (p ++ drop 5760 s) ≡ drop scratch_length s
rest_of p s h e = along (λ n. drop n (p ++ drop 5760 s)) scratch_length (length p + 5760) (omega (arith, prefix_length 5760 s (omega arith))) ∙ drop-append-add p (drop 5760 s) 5760 ∙ drop-drop 5760 5760 s

-- N = 2 (N/2), as the code has it
module _ {N : ℕ} (size : AdmittedLength N) where
  pub whole_size : AdmittedLength (2 * (N / 2))
  whole_size = subst AdmittedLength (sym size.whole) size

  pub whole_list : {factors : ℕ} → FactorList N factors → FactorList (2 * (N / 2)) factors
  whole_list {factors} l = subst (λ n. FactorList n factors) (sym size.whole) l

  pub whole_count : (kind : ℕ) {n : ℕ} → n ≡ 2 * pair_count kind N → n ≡ 2 * pair_count kind (2 * (N / 2))
  whole_count kind e = e ∙ ap (λ n. 2 * pair_count kind n) (sym size.whole)

  pub whole_result : (m kind direction : ℕ) (line : List ℕ) {l : List ℕ} → l ≡ transformed m kind direction (2 * (N / 2)) line → l ≡ transformed m kind direction N line
  whole_result m kind direction line h = h ∙ ap (λ n. transformed m kind direction n line) size.whole
