-- Lines of a volume into the lanes of a batch, and back.
use mathlib.Core.Path.{◌≡◌, refl, sym, ◌∙◌, ap, subst}
use mathlib.Core.Bool.{cond}
use mathlib.Core.Logic.{◌≢◌, ⊎_elim}
use mathlib.Core.List.{List}
use Prim.Native.Nat.{ℕ, ◌+◌, ◌*◌, ◌<◌, ◌≤◌}
use native.Mathlib.Nat.{not-suc-le-zero}
use native.Mathlib.Omega.{arith}
use borrow.Author.Tests.{lt-ltb, le-ltb}
use lib.ListN.{get_or, length}
use Rattle.algebra.proofs.ring.Laws.{along}
use Rattle.numbers.specs.declared.Pair.{Pair}
use Rattle.numbers.specs.Value.{prime, Residue, ring, field, real, value_of, pair_of}
use Rattle.numbers.specs.Bounds.{res, zero_pair, Small}
use Rattle.numbers.proofs.Primes.{prime_pos}
use Rattle.numbers.proofs.Values.{pair_path, real_times}
use Rattle.slices.specs.Pairs.{at, puts, values_of, list_of}
use Rattle.slices.proofs.Pairs.{eq_or_ne, lt_or_ge, at_puts, at_puts_other, length_puts}
use Rattle.slices.proofs.Values.{list_cong}
use Rattle.slices.proofs.Rows.{row_end}
use Rattle.batches.specs.Reduction.{Holds}
use Rattle.batches.specs.Lanes.{lane_at, put_lane, line_in, UpTo}
use Rattle.batches.specs.Groups.{lane_pair, PutLanes, Gathered, ReducedPlace, Scattered, LinesBelow}
use Rattle.batches.proofs.LaneLists.{length_lane, lane_same, lane_other}
use Rattle.batches.proofs.PassingLanes.{up_of}

-- ---- one place

module _ (volume : List ℕ) (first : ℕ) {lanes v : ℕ} where
  pub pair_used : v < lanes → at volume (first + v) ≡ lane_pair volume first lanes v
  unfolding lane_pair
  pair_used l = sym (ap (λ b. cond b (at volume (first + v)) zero_pair) (lt-ltb v lanes l))

  pub pair_unused : lanes ≤ v → zero_pair ≡ lane_pair volume first lanes v
  unfolding lane_pair
  pair_unused l = sym (ap (λ b. cond b (at volume (first + v)) zero_pair) (le-ltb v lanes l))

below_other : {i n : ℕ} → i < n + 1 → i ≢ n → i < n
below_other l other = omega (arith, other)

module _ {f : ℕ → Pair} {j : ℕ} {before : List ℕ} where
  pub putting_start : PutLanes f j 0 before before
  putting_start = record { long = refl; new = λ v l. absurd (not-suc-le-zero l); kept = λ i v lv h. refl }

  pub putting_next : {v : ℕ} {d e : List ℕ} {x : Pair} → PutLanes f j v before d → v < 16 → 32 * j + 32 ≤ length before → e ≡ put_lane d j v x → x ≡ f v → PutLanes f j (v + 1) before e
  putting_next {v} {d} {e} {x} h lv fits is stands = record {
    long = ap length is ∙ length_lane d j v x ∙ h.long;
    new = λ u lu. ap (λ y. lane_at y j u) is ∙ ⊎_elim
        (λ (q : u ≡ v). ap (lane_at (put_lane d j v x) j) q ∙ lane_same d j v x (omega (arith, h.long)) ∙ stands ∙ ap f (sym q))
        (λ (other : u ≢ v). lane_other d j v x j u lv (omega arith) (λ q. other (omega arith)) ∙ h.new u (below_other lu other))
        (eq_or_ne u v);
    kept = λ i u lu away. ap (λ y. lane_at y i u) is
        ∙ lane_other d j v x i u lv lu (λ q. let same : i ≡ j = omega arith in omega (arith, away same))
        ∙ h.kept i u lu (λ q. omega (arith, away q));
  }

pub putting_as : {f : ℕ → Pair} {j v n : ℕ} {before after : List ℕ} → PutLanes f j v before after → v ≡ n → PutLanes f j n before after
putting_as {f} {j} {before = before} {after = after} h e = subst (λ n. PutLanes f j n before after) e h

-- ---- all places

-- the line of a lane is the line of the volume
module _ {volume : List ℕ} {start stride lanes n : ℕ} {d : List ℕ} (h : Gathered volume start stride lanes n d) (m : ℕ) where
  pub gathered_line : {v : ℕ} → lanes ≤ 16 → v < lanes → line_in m n v d ≡ list_of n (λ j. values_of m volume (start + j * stride + v))
  gathered_line {v} few lv = list_cong m n _ _ (λ j lj. ap (value_of m) (h.each j v lj (omega arith) ∙ sym (pair_used volume (start + j * stride) lv)))

  -- where the lines hold residues, the batch does
  pub gathered_low : LinesBelow m start stride n lanes volume → length d ≡ 32 * n → UpTo (8 * prime m) d
  gathered_low below long = up_of long (λ v j lv lj. let s = small v j lv lj in (omega (arith, s.re), omega (arith, s.im)))
    where
      zero_small : Small (prime m) zero_pair
      zero_small = record { re = prime_pos m; im = prime_pos m }

      small : (v j : ℕ) → v < 16 → j < n → Small (prime m) (lane_at d j v)
      small v j lv lj = subst (Small (prime m)) (sym (h.each j v lj lv)) (⊎_elim
          (λ (lt : v < lanes). subst (Small (prime m)) (along (at volume) (start + v + j * stride) (start + j * stride + v) (omega arith) ∙ pair_used volume (start + j * stride) lt) (below.each v j lt lj))
          (λ (ge : lanes ≤ v). subst (Small (prime m)) (pair_unused volume (start + j * stride) ge) zero_small)
          (lt_or_ge v lanes))

-- ---- and back

module _ {m c : ℕ} {s : List ℕ} {j : ℕ} where
  -- its pairs
  pub reduced_pair : {y : List ℕ} → ReducedPlace m c s j 32 y → (c₀ : Residue m) → Holds m c c₀ → (v : ℕ) → v < 16 → lane_at y 0 v ≡ pair_of ((field m).mul (real m c₀) (value_of m (lane_at s j v)))
  unfolding lane_at pair_of value_of
  reduced_pair {y} h c₀ e v lv =
      pair_path
      (along (λ k. get_or y k 0) (32 * 0 + v) v (omega arith) ∙ h.is c₀ e v (omega arith))
      (along (λ k. get_or y k 0) (32 * 0 + v + 16) (v + 16) (omega arith) ∙ h.is c₀ e (v + 16) (omega arith) ∙ along (λ k. ((ring m).mul c₀ (res m (get_or s k 0))).val) (32 * j + (v + 16)) (32 * j + v + 16) (omega arith))
      ∙ ap pair_of (sym (real_times m c₀ (value_of m (lane_at s j v))))

pub numbers_lane : (y : List ℕ) (v : ℕ) → record { re = get_or y v 0; im = get_or y (v + 16) 0 } ≡ lane_at y 0 v
unfolding lane_at
numbers_lane y v = pair_path (along (λ k. get_or y k 0) v (32 * 0 + v) (omega arith)) (along (λ k. get_or y k 0) (v + 16) (32 * 0 + v + 16) (omega arith))

module _ {m c : ℕ} {s : List ℕ} {start stride lanes : ℕ} {before : List ℕ} where
  pub scattering_next : {j : ℕ} (d : List ℕ) {e y : List ℕ} → Scattered m c s start stride lanes j before d → ReducedPlace m c s j 32 y → e ≡ puts (λ v. start + j * stride + v) (λ v. lane_at y 0 v) lanes d
      → lanes ≤ 16 → lanes ≤ stride → 2 * (start + j * stride + lanes) ≤ length before → Scattered m c s start stride lanes (j + 1) before e
  scattering_next {j} d {e} {y} h r is few wide inside = record {
    long = ap length is ∙ length_puts (λ v. start + j * stride + v) (λ v. lane_at y 0 v) lanes d ∙ h.long;
    new = λ c₀ q i v li lv. ap (λ x. at x (start + i * stride + v)) is ∙ ⊎_elim
        (λ (same : i ≡ j). ap (λ k. at (puts (λ v. start + j * stride + v) (λ v. lane_at y 0 v) lanes d) (start + k * stride + v)) same
        ∙ at_puts (λ v. start + j * stride + v) (λ v. lane_at y 0 v) lanes v d lv (omega (arith, h.long)) (λ u lu lt p. omega arith)
        ∙ reduced_pair r c₀ q v (omega arith)
        ∙ ap (λ k. pair_of ((field m).mul (real m c₀) (value_of m (lane_at s k v)))) (sym same))
        (λ (other : i ≢ j). at_puts_other (λ v. start + j * stride + v) (λ v. lane_at y 0 v) lanes (start + i * stride + v) d
        (λ u lu p. omega (arith, row_end stride (below_other li other)))
        ∙ h.new c₀ q i v (below_other li other) lv)
        (eq_or_ne i j);
    kept = λ k away. ap (λ x. at x k) is
        ∙ at_puts_other (λ v. start + j * stride + v) (λ v. lane_at y 0 v) lanes k d (λ u lu. away j u (omega arith) lu)
        ∙ h.kept k (λ i v li lv. away i v (omega arith) lv);
  }
