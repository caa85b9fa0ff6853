-- The last reduction, and tables times 2^32.
use mathlib.Core.Path.{◌≡◌, sym, ◌∙◌, ap, subst}
use mathlib.Core.Logic.{◌≢◌, ⊎_elim}
use mathlib.Core.List.{List}
use Prim.Native.Nat.{ℕ, ◌+◌, ◌*◌, ◌-◌, ◌%◌, ◌<◌, ◌≤◌}
use native.Mathlib.Omega.{arith}
use lib.ListN.{get_or, set, length-set, get_or-eq_default}
use lib.Seq.{get_or-set_same, get_or-set_other}
use Rattle.algebra.specs.ring.Ring.{residue, pow}
use Rattle.algebra.proofs.ring.Laws.{along}
use Rattle.numbers.specs.declared.Pair.{Pair}
use Rattle.numbers.specs.Value.{prime, IsModulus, Residue, ring, field, pair_of}
use Rattle.numbers.specs.Bounds.{res}
use Rattle.numbers.proofs.Primes.{prime_one, prime_two, prime_pos}
use Rattle.numbers.proofs.Residues.{res_ring, residue_above, val_res, below_by, res_by}
use Rattle.slices.proofs.Pairs.{eq_or_ne, lt_or_ge}
use Rattle.roots.specs.Table.{entry_at, table_root, RootTable}
use Rattle.batches.specs.Reduction.{Divided, Holds, ShiftedTable, ShiftedList}
use Rattle.batches.proofs.Meaning.{scaled_res}

pub shift_one : {m : ℕ} → m ≡ 1 → 73006 ≡ (res m 4294967296).val
unfolding residue
shift_one e = ap (λ p. 4294967296 % p) (sym (prime_one e))

pub shift_two : {m : ℕ} → IsModulus m → (m ≡ 1 → ⊥) → 296698 ≡ (res m 4294967296).val
unfolding residue
shift_two is n = ap (λ p. 4294967296 % p) (sym (prime_two is n))

-- 2^32 stands for 1
pub shift_holds : (m : ℕ) {c : ℕ} → c ≡ (res m 4294967296).val → Holds m c (ring m).one
shift_holds m e = record { is = res_by m (res m 4294967296) e ∙ sym ((res_ring m).mul_comm (res m 4294967296) (ring m).one ∙ (res_ring m).one_mul (res m 4294967296)) }

module _ {m : ℕ} (c x : ℕ) {p r : ℕ} (e : p ≡ prime m) (h : Divided m (c * x) r) {c₀ : Residue m} (is : Holds m c c₀) where
  pub reduced_below : r < p → r ≡ ((ring m).mul c₀ (res m x)).val
  reduced_below l = sym (val_res m (omega (arith, e))) ∙ ap (λ (y : Residue m). y.val) (scaled_res m c x h is)

  pub reduced_above : p ≤ r → r - p ≡ ((ring m).mul c₀ (res m x)).val
  reduced_above l =
      along (λ (i : ℕ). i) (r - p) (r - prime m) (omega (arith, e))
      ∙ sym (val_res m (omega (arith, h.low, e)))
      ∙ ap (λ (y : Residue m). y.val) (sym (residue_above (prime m) (r - prime m)) ∙ along (res m) (r - prime m + prime m) r (omega (arith, e)) ∙ scaled_res m c x h is)

-- ---- tables

module _ {m : ℕ} {from : List ℕ} where
  pub shifting_next : {k : ℕ} {to : List ℕ} {c x : ℕ} → ShiftedList m from k to → k < 2880 → c ≡ (res m 4294967296).val → x ≡ ((ring m).mul (res m c) (res m (get_or from k 0))).val
      → ShiftedList m from (k + 1) (set to k x)
  shifting_next {k} {to} {c} {x} h l e is = record {
    long = length-set to k x ∙ h.long;
    low = λ i li. ⊎_elim
        (λ (q : i ≡ k). subst (λ y. y < prime m) (sym (same i q)) (below_by m ((ring m).mul (res m c) (res m (get_or from k 0))) is))
        (λ (other : i ≢ k). subst (λ y. y < prime m) (sym (kept i other)) (h.low i (below i li other)))
        (eq_or_ne i k);
    is = λ i li. ⊎_elim
        (λ (q : i ≡ k). ap (res m) (same i q) ∙ res_by m ((ring m).mul (res m c) (res m (get_or from k 0))) is ∙ ap (λ y. (ring m).mul y (res m (get_or from k 0))) (res_by m (res m 4294967296) e) ∙ ap (λ j. (ring m).mul (res m 4294967296) (res m (get_or from j 0))) (sym q))
        (λ (other : i ≢ k). ap (res m) (kept i other) ∙ h.is i (below i li other))
        (eq_or_ne i k);
  }
    where
      below : (i : ℕ) → i < k + 1 → i ≢ k → i < k
      below i li other = omega (arith, other)

      same : (i : ℕ) → i ≡ k → get_or (set to k x) i 0 ≡ x
      same i q = ap (λ j. get_or (set to k x) j 0) q ∙ get_or-set_same to k x 0 (omega (arith, h.long))

      kept : (i : ℕ) → i ≢ k → get_or (set to k x) i 0 ≡ get_or to i 0
      kept i other = get_or-set_other to k i x 0 other

pub tables_shifted : {m : ℕ} {re im sre sim : List ℕ} → ShiftedList m re 2880 sre → ShiftedList m im 2880 sim → ShiftedTable m re im sre sim
tables_shifted {m} {re} {im} {sre} {sim} h k = record { low_re = low h; low_im = low k; re_is = h.is; im_is = k.is }
  where
    low : {from to : List ℕ} → ShiftedList m from 2880 to → (i : ℕ) → get_or to i 0 < prime m
    low {from} {to} h i = ⊎_elim (h.low i) (λ ge. subst (λ y. y < prime m) (sym (get_or-eq_default to 0 {n = i} (omega (arith, h.long)))) (prime_pos m)) (lt_or_ge i 2880)

module _ {m : ℕ} {re im : List ℕ} (h : RootTable m re im) (k : ℕ) (l : k < 2880) where
  pub real_low : get_or re k 0 < prime m
  unfolding entry_at pair_of
  real_low = below_by m (pow (field m) (table_root m re im) k).0 (ap (λ (v : Pair). v.re) (h.entry k l))

  pub imaginary_low : get_or im k 0 < prime m
  unfolding entry_at pair_of
  imaginary_low = below_by m (pow (field m) (table_root m re im) k).1 (ap (λ (v : Pair). v.im) (h.entry k l))
