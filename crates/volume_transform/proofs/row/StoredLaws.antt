-- A packed line as it is stored, in the steps of the code: transformed and then taken over i, or taken times i and then transformed; n is the modulus as the code holds it.
use mathlib.Core.Path.{◌≡◌, sym, ◌∙◌, ap, subst}
use mathlib.Core.Bool.{true, false}
use mathlib.Core.List.{List}
use Prim.Native.Nat.{ℕ, ◌*◌, ◌<◌}
use native.Mathlib.Omega.{arith}
use lib.ListN.{length}
use Rattle.algebra.specs.ring.Ring.{Ops}
use Rattle.algebra.specs.lines.Kinds.{slots}
use Rattle.numbers.specs.Value.{prime, field, i}
use Rattle.slices.specs.Pairs.{Below, values_of, list_of}
use Rattle.slices.proofs.Values.{length_of_lem, below_of}
use Rattle.lengths.specs.Lengths.{kind_of}
use Rattle.volume_transform.specs.Lines.{SoundLine, turned_packed, stored_turn}
use Rattle.volume_transform.specs.declared.plan.Line.{Line}
use Rattle.volume_transform.proofs.row.TurnLaws.{length_turned, below_turned, stored_plain, stored_forward, stored_back}

back : {direction : ℕ} → direction < 2 → (direction ≡ 0 → ⊥) → direction ≡ 1
back l z = omega arith

module _ (x : Line) {n : ℕ} (same : n ≡ x.m) (counted : x.count ≡ slots (kind_of x.kind) x.half) (l : List ℕ) {r : List ℕ} where
  -- what the second step is lent
  pub turned_ready : r ≡ turned_packed x l → (length r ≡ 2 * x.count) × Below (prime n) r
  turned_ready e = (
    ap length e ∙ length_turned x.m x.half x.direction (kind_of x.kind) l ∙ ap (λ c. 2 * c) (sym counted),
    subst (λ n. Below (prime n) r) (sym same) (subst (Below (prime x.m)) (sym e) (below_turned x.m x.half x.direction (kind_of x.kind) l)),
  )

  pub times_ready : r ≡ list_of x.count (λ t. (field n).mul (i n) (values_of n l t)) → (length r ≡ 2 * slots (kind_of x.kind) x.half) × Below (prime x.m) r
  times_ready e = (length_of_lem n x.count _ e ∙ ap (λ c. 2 * c) counted, subst (λ n. Below (prime n) r) same (below_of n x.count _ e))

  -- what the line has become
  pub plain_turned : x.rotated ≡ false → r ≡ turned_packed x l → r ≡ stored_turn x l
  plain_turned b e = stored_plain x.m x.half (kind_of x.kind) counted x.direction b l e

  pub over_turned : x.rotated ≡ true → x.direction ≡ 0 → r ≡ turned_packed x l → {q : List ℕ} → q ≡ list_of x.count (λ t. (field n).mul ((field n).neg (i n)) (values_of n r t)) → q ≡ stored_turn x l
  over_turned b z e {q} f = stored_forward x.m x.half (kind_of x.kind) counted x.direction z b l e (subst (λ m. q ≡ list_of x.count (λ t. (field m).mul ((field m).neg (i m)) (values_of m r t))) same f)

  pub times_turned : SoundLine x → x.rotated ≡ true → (x.direction ≡ 0 → ⊥) → r ≡ list_of x.count (λ t. (field n).mul (i n) (values_of n l t)) → {q : List ℕ} → q ≡ turned_packed x r → q ≡ stored_turn x l
  times_turned sound b z e f = stored_back x.m x.half (kind_of x.kind) counted sound.modulus sound.size x.direction (back sound.directed z) b l (subst (λ m. r ≡ list_of x.count (λ t. (field m).mul (i m) (values_of m l t))) same e) f
