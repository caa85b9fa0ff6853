-- Two tables as the powers of one value: those of r, and, with the imaginary parts negated, those of its conjugate. Every number of a table is a residue.
use mathlib.Core.Path.{◌≡◌, sym, ◌∙◌, ap}
use mathlib.Core.Logic.{◌⊎◌, inl, inr}
use mathlib.Core.List.{List}
use Prim.Native.Nat.{ℕ, ◌<◌}
use native.Mathlib.Omega.{arith}
use lib.Dec.{lit<}
use lib.ListN.{length, get_or}
use Rattle.algebra.specs.ring.Ring.{pow}
use Rattle.algebra.specs.ring.Ring as Gauss
use Rattle.algebra.proofs.ring.Laws.{mul_one, neg_neg}
use Rattle.algebra.proofs.fourier.Transform.{pow_zero, pow_suc, inverse_cycle}
use Rattle.algebra.proofs.ring.Conj.{conj_pow}
use Rattle.numbers.specs.Value.{prime, IsModulus, Value, ring, field, conj, i, pair_of}
use Rattle.roots.specs.Root.{root}
use Rattle.roots.specs.Table.{RealTable, ImaginaryTable, entry_at, table_root, RootTable}
use Rattle.roots.specs.TableLaws.{AllBelow, NegatedTable}
use Rattle.numbers.proofs.Residues.{res_by, below_by}
use Rattle.numbers.proofs.Values.{pair_path, value_path, field_ring, field_star}
use Rattle.roots.proofs.Roots.{full_turn, root_inverse, quarter_turn, root_of_unity}

module _ (m : ℕ) where
  pow_one : (w : Value m) → pow (field m) w 1 ≡ w
  pow_one w = pow_suc (field_ring m) w 0 ∙ ap ((field m).mul w) (pow_zero (field_ring m) w) ∙ mul_one (field_ring m) w

  -- what a root of the tables is
  record Turning (w : Value m) : Type 0 where
    cycle : pow (field m) w 2880 ≡ (field m).one
    circle : (field m).mul w (conj m w) ≡ (field m).one
    quarter : (pow (field m) w 720 ≡ i m) ⊎ (pow (field m) w 720 ≡ (field m).neg (i m))

  -- two tables that hold the powers of w
  module _ (w : Value m) (turning : Turning w) (re im : List ℕ)
      (hr : (k : ℕ) → k < 2880 → get_or re k 0 ≡ (pow (field m) w k).0.val) (hi : (k : ℕ) → k < 2880 → get_or im k 0 ≡ (pow (field m) w k).1.val) where
    holds_root : table_root m re im ≡ w
    unfolding table_root
    holds_root = value_path (res_by m (pow (field m) w 1).0 (hr 1 (lit< tt))) (res_by m (pow (field m) w 1).1 (hi 1 (lit< tt))) ∙ pow_one w

    holds_entry : (k : ℕ) → k < 2880 → entry_at re im k ≡ pair_of (pow (field m) w k)
    unfolding entry_at pair_of
    holds_entry k l = pair_path (hr k l) (hi k l)

    holds_powers : RootTable m re im
    holds_powers = record {
      cycle = rw holds_root turning.cycle;
      entry = λ k l. rw holds_root (holds_entry k l);
      circle = rw holds_root turning.circle;
      quarter = rw holds_root turning.quarter;
    }

  pub imaginary_below : {t : List ℕ} → ImaginaryTable m t → length t ≡ 2880 → AllBelow (prime m) t
  imaginary_below h e = record { below = λ k l. below_by m (pow (field m) (root m) k).1 (h.entry k (omega arith)) }

module _ (m : ℕ) (is : IsModulus m) where
  root_turning : Turning m (root m)
  root_turning = record { cycle = full_turn m is; circle = root_inverse m is; quarter = inr (quarter_turn m is) }

  pub conj_full_turn : pow (field m) (conj m (root m)) 2880 ≡ (field m).one
  conj_full_turn = inverse_cycle (field_ring m) 2880 (root m) (conj m (root m)) _ (root_of_unity m is)

  -- the conjugate turns the other way
  conj_turning : Turning m (conj m (root m))
  conj_turning = record {
    cycle = conj_full_turn;
    circle = ap ((field m).mul (conj m (root m))) ((field_star m).conj_conj (root m)) ∙ (field_ring m).mul_comm (conj m (root m)) (root m) ∙ root_inverse m is;
    quarter = inl
        (sym (conj_pow (field_ring m) (field_star m) (root m) 720) ∙ ap (conj m) (quarter_turn m is) ∙ (field_star m).conj_neg (i m) ∙ ap (field m).neg (field_star m).conj_i
        ∙ neg_neg (field_ring m) (i m));
  }

module _ (m : ℕ) (is : IsModulus m) {re im : List ℕ} (hr : RealTable m re) (hi : ImaginaryTable m im) where
  pub root_table : RootTable m re im
  root_table = holds_powers m (root m) (root_turning m is) re im hr.entry hi.entry

  pub table_root_lem : table_root m re im ≡ root m
  table_root_lem = holds_root m (root m) (root_turning m is) re im hr.entry hi.entry

  module _ {u : List ℕ} (hu : NegatedTable m 2880 im u) where
    backward_re : (k : ℕ) → k < 2880 → get_or re k 0 ≡ (pow (field m) (conj m (root m)) k).0.val
    unfolding Gauss.conj
    backward_re k l = hr.entry k l ∙ ap (λ z. z.0.val) (conj_pow (field_ring m) (field_star m) (root m) k)

    backward_im : (k : ℕ) → k < 2880 → get_or u k 0 ≡ (pow (field m) (conj m (root m)) k).1.val
    unfolding Gauss.conj
    backward_im k l = hu.entry k l ∙ ap (λ x. ((ring m).neg x).val) (res_by m (pow (field m) (root m) k).1 (hi.entry k l)) ∙ ap (λ z. z.1.val) (conj_pow (field_ring m) (field_star m) (root m) k)

    pub conj_root_table : RootTable m re u
    conj_root_table = holds_powers m (conj m (root m)) (conj_turning m is) re u backward_re backward_im

    pub conj_table_root : table_root m re u ≡ conj m (root m)
    conj_table_root = holds_root m (conj m (root m)) (conj_turning m is) re u backward_re backward_im
