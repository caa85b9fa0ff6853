use Rattle.std.proofs.Common.{◌≡◌, Bool, true, ◌+◌, ◌-◌, ◌<◌, ◌≤◌, ◌↔◌, ℕ, List, length, get_or, take, drop, sym, ◌∙◌, subst, rules, arith, length-drop, length-take-le}
use Rattle.std.proofs.lemmas.List.{get_or-take, get_or-drop}
use Rattle.std.specs.Prelude.{IsTrue, EachIndex}
use lib.Dec.{T, ltb, ltb→lt, lt→ltb}
use Rattle.algebra.specs.cells.Cell.{below}
use Rattle.algebra.proofs.ring.Bool.{same_test, below_at, below_by}
use Rattle.printing.proofs.row_values.are_residues.Goals as goal

-- the numbers of a part of a list, which is as long as it is asked to be
part_below : (v : List ℕ) (start n m p : ℕ) {b : Bool} → m ≡ n → start + n ≤ length v →
    (IsTrue b ↔ EachIndex (take m (drop start v)) (λ k. get_or (take m (drop start v)) k 0 < p)) → b ≡ below n (λ y. ltb (get_or v (start + y) 0) p)
part_below v start n m p {b} e fits h =
    same_test b (below n P)
    (λ t. below_by n P (λ k l. lt→ltb _ _ (subst (λ x. x < p) (same k l) (h.0 (same_test b true (λ u. tt) (λ u. t)) k (omega (arith, long))))))
    (λ t. subst T (sym (h.1 (λ k l. let l' : k < n = omega (arith, long) in subst (λ x. x < p) (sym (same k l')) (ltb→lt _ _ (below_at n P k t l'))))) tt)
  where
    P : ℕ → Bool
    P y = ltb (get_or v (start + y) 0) p

    long : length (take m (drop start v)) ≡ n
    long = length-take-le m (drop start v) (omega (arith, length-drop start v)) ∙ e

    same : (k : ℕ) → k < n → get_or (take m (drop start v)) k 0 ≡ get_or v (start + k) 0
    same k l = get_or-take m (drop start v) k 0 (omega arith) ∙ get_or-drop start v k 0

pub returns : goal.returns
returns c =
    let s = take (c.args.start + c.args.n - c.args.start) (drop c.args.start c.args.volume.now) in
    let h : IsTrue c.all.result ↔ EachIndex s (λ k. get_or s k 0 < c.args.p) = search rules in
    part_below c.args.volume.now c.args.start c.args.n _ c.args.p (omega arith) c.requires h
