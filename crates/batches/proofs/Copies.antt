-- Copying a block number by number, and several blocks.
use mathlib.Core.Path.{◌≡◌, refl, sym, ◌∙◌, ap}
use mathlib.Core.Logic.{◌≢◌, ⊎_elim}
use mathlib.Core.List.{List}
use Prim.Native.Nat.{ℕ, ◌+◌, ◌-◌, ◌*◌, ◌<◌, ◌≤◌}
use native.Mathlib.Nat.{not-suc-le-zero}
use native.Mathlib.Omega.{arith}
use lib.ListN.{get_or, set, length, length-set}
use lib.Seq.{get_or-set_same, get_or-set_other}
use Rattle.numbers.proofs.Values.{pair_path}
use Rattle.slices.specs.Segments.{segment, set_segment}
use Rattle.slices.proofs.Pairs.{eq_or_ne, lt_or_ge}
use Rattle.slices.proofs.Segments.{length_segment, get_or_segment, length_set_segment, get_or_before, get_or_inside, get_d_after}
use Rattle.slices.proofs.Rows.{row_end}
use Rattle.algebra.proofs.ring.Laws.{along}
use Rattle.batches.specs.Lanes.{lane_at}
use Rattle.batches.specs.Copying.{PutBlock, PutBlocks}

-- v numbers of block c are copied to block j
pub record Copying (y : List ℕ) (c j v : ℕ) (before after : List ℕ) : Type 0 where
  pub long : length after ≡ length before
  pub new : (k : ℕ) → k < v → get_or after (32 * j + k) 0 ≡ get_or y (32 * c + k) 0
  pub kept : (k : ℕ) → ((i : ℕ) → i < 32 → k ≢ 32 * j + i) → get_or after k 0 ≡ get_or before k 0

module _ {y : List ℕ} {c j : ℕ} {before : List ℕ} where
  pub copying_start : Copying y c j 0 before before
  copying_start = record { long = refl; new = λ k l. absurd (not-suc-le-zero l); kept = λ k h. refl }

  module _ {v : ℕ} {d : List ℕ} (h : Copying y c j v before d) where
    pub copying_next : v < 32 → 32 * j + 32 ≤ length before → Copying y c j (v + 1) before (set d (32 * j + v) (get_or y (32 * c + v) 0))
    copying_next lv fits = record {
      long = length-set d (32 * j + v) (get_or y (32 * c + v) 0) ∙ h.long;
      new = λ k lk. ⊎_elim
          (λ (e : k ≡ v). rw e (get_or-set_same d (32 * j + v) (get_or y (32 * c + v) 0) 0 (omega (arith, h.long))))
          (λ (other : k ≢ v). get_or-set_other d (32 * j + v) (32 * j + k) (get_or y (32 * c + v) 0) 0 (λ e. other (omega arith)) ∙ h.new k (omega (arith, other)))
          (eq_or_ne k v);
      kept = λ k away. get_or-set_other d (32 * j + v) k (get_or y (32 * c + v) 0) 0 (away v lv) ∙ h.kept k away;
    }

    pub copying_done : 32 ≤ v → PutBlock y c j before d
    unfolding lane_at
    copying_done lv = record {
      long = h.long;
      new = λ u lu. pair_path (h.new u (omega arith))
          (along (λ k. get_or d k 0) (32 * j + u + 16) (32 * j + (u + 16)) (omega arith) ∙ h.new (u + 16) (omega arith) ∙ along (λ k. get_or y k 0) (32 * c + (u + 16)) (32 * c + u + 16) (omega arith));
      kept = λ i u lu other. pair_path (h.kept (32 * i + u) (λ k lk e. other (omega arith))) (h.kept (32 * i + u + 16) (λ k lk e. other (omega arith)));
    }

-- block c is the part that was copied
pub copied : {y : List ℕ} (c j : ℕ) {before part : List ℕ} → 32 * c + 32 ≤ length y → 32 * j + 32 ≤ length before → part ≡ segment (32 * c) (32 * c + 32) y
    → PutBlock y c j before (set_segment (32 * j) (32 * j + 32) before part)
unfolding lane_at
copied {y} c j {before} {part} from_fits fits is = record {
  long = length_set_segment (32 * j) (32 * j + 32) before (omega arith) fits part long;
  new = λ v lv. pair_path (number (32 * j + v) (32 * c + v) v (omega arith) refl refl) (number (32 * j + v + 16) (32 * c + v + 16) (v + 16) (omega arith) (omega arith) (omega arith));
  kept = λ i v lv other. pair_path (outside (32 * i + v) (λ fits. other (omega arith))) (outside (32 * i + v + 16) (λ fits. other (omega arith)));
}
  where
    after : List ℕ
    after = set_segment (32 * j) (32 * j + 32) before part

    long : length part ≡ 32 * j + 32 - 32 * j
    long = ap length is ∙ length_segment (32 * c) (32 * c + 32) y (omega arith) from_fits ∙ omega arith

    number : (k i v : ℕ) → v < 32 → k ≡ 32 * j + v → i ≡ 32 * c + v → get_or after k 0 ≡ get_or y i 0
    number k i v lv ek ei = ap (λ n. get_or after n 0) ek
        ∙ get_or_inside (32 * j) (32 * j + 32) before (omega arith) fits part long v (omega arith)
        ∙ ap (λ l. get_or l v 0) is
        ∙ get_or_segment (32 * c) (32 * c + 32) y (omega arith) from_fits v (omega arith)
        ∙ ap (λ n. get_or y n 0) (sym ei)

    outside : (k : ℕ) → ((32 * j ≤ k) × (k < 32 * j + 32) → ⊥) → get_or after k 0 ≡ get_or before k 0
    outside k out = ⊎_elim
        (get_or_before (32 * j) (32 * j + 32) before (omega arith) fits part k)
        (λ from. get_d_after (32 * j) (32 * j + 32) before (omega arith) fits part long k (⊎_elim (λ below. absurd (out (from, below))) (λ past. past) (lt_or_ge k (32 * j + 32))))
        (lt_or_ge k (32 * j))

module _ {y : List ℕ} {base gap : ℕ} {before : List ℕ} where
  pub blocks_next : {n : ℕ} {d e : List ℕ} → PutBlocks y base gap n before d → 0 < gap → PutBlock y n (base + n * gap) d e → PutBlocks y base gap (n + 1) before e
  blocks_next {n} {d} {e} h pos p = record {
    long = p.long ∙ h.long;
    new = λ c v lc lv. ⊎_elim
        (λ (is : c ≡ n). rw is (p.new v lv))
        (λ (other : c ≢ n). p.kept (base + c * gap) v lv (λ q. omega (arith, row_end gap (below n c lc other))) ∙ h.new c v (below n c lc other) lv)
        (eq_or_ne c n);
    kept = λ i v lv away. p.kept i v lv (λ q. away n (omega arith) (sym q)) ∙ h.kept i v lv (λ c lc. away c (omega arith));
  }
    where
      below : (n c : ℕ) → c < n + 1 → c ≢ n → c < n
      below n c l other = omega (arith, other)
