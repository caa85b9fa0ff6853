-- A group of alternating lines: gathered, transformed in lanes and scattered, they become what they become one after the other.
use mathlib.Core.Path.{◌≡◌, refl, sym, ◌∙◌, ap, ap₂, subst}
use mathlib.Core.Bool.{Bool}
use mathlib.Core.Logic.{⊎_elim}
use mathlib.Core.List.{List, ◌++◌}
use Prim.Native.Nat.{ℕ, ◌+◌, ◌*◌, ◌<◌, ◌≤◌}
use native.Mathlib.Omega.{arith}
use lib.ListN.{length, take, get_or-append}
use lib.Seq.{get_or-take}
use Rattle.algebra.specs.ring.Ring.{residues, gauss}
use Rattle.algebra.specs.lines.Kinds.{slots, Kind.alternating}
use Rattle.algebra.proofs.ring.Laws.{along}
use Rattle.numbers.specs.Value.{prime, IsModulus, Value, ring, field, real, part, value_of, pair_of}
use Rattle.numbers.specs.Bounds.{res, Small}
use Rattle.numbers.proofs.Primes.{prime_pos, prime_most}
use Rattle.numbers.proofs.Residues.{res_by}
use Rattle.numbers.proofs.Values.{pair_path, pair_value, field_ring}
use Rattle.slices.specs.Pairs.{at, values_of, tab}
use Rattle.slices.proofs.Pairs.{lt_or_ge, at_tab}
use Rattle.batches.specs.Reduction.{Holds}
use Rattle.batches.specs.Lanes.{lane_at, UpTo}
use Rattle.batches.specs.Groups.{Gathered, Scattered, LinesBelow}
use Rattle.batches.proofs.DrivingLanes.{up_as}
use Rattle.batches.proofs.GroupLaw.{group_law}
use Rattle.batches.proofs.VolumeLanes.{pair_used, pair_unused}
use Rattle.folded_batches.specs.FoldedGroups.{folded_stored, folded_lines}
use Rattle.folded_batches.specs.AlternatingLanes.{LaneIs, Packed, SynthesisLanes, AnalysisLanes}

-- a lane of a batch that is lent with more behind it
lane_front : (l r : List ℕ) {n j v : ℕ} → length l ≡ 32 * n → j < n → v < 16 → lane_at (l ++ r) j v ≡ lane_at l j v
unfolding lane_at
lane_front l r {n} {j} {v} long lj lv = pair_path (get_or-append l r 0 (32 * j + v) (omega (arith, long))) (get_or-append l r 0 (32 * j + v + 16) (omega (arith, long)))

pub reducible : {m : ℕ} {l : List ℕ} → IsModulus m → UpTo (2 * prime m) l → UpTo 2147483647 l
reducible {m} is h = up_as h (omega (arith, prime_most is))

-- with more behind it, a batch holds the same lines
pub gathered_front : {start stride lanes A : ℕ} {volume front : List ℕ} → Gathered volume start stride lanes A front → length front ≡ 32 * A → (rest : List ℕ) → Gathered volume start stride lanes A (front ++ rest)
gathered_front {front = front} came long rest = record { each = λ j v lj lv. lane_front front rest long lj lv ∙ came.each j v lj lv }

module _ {m start stride lanes A : ℕ} {volume line : List ℕ} (came : Gathered volume start stride lanes A line) (below : LinesBelow m start stride A lanes volume) where
  -- the lanes hold residues
  pub gathered_packed : Packed m A line
  gathered_packed = record {
    each = λ v j lv lj. subst (Small (prime m)) (sym (came.each j v lj lv)) (⊎_elim
        (λ (lt : v < lanes). subst (Small (prime m)) (along (at volume) (start + v + j * stride) (start + j * stride + v) (omega arith) ∙ pair_used volume (start + j * stride) lt) (below.each v j lt lj))
        (λ (ge : lanes ≤ v). subst (Small (prime m)) (pair_unused volume (start + j * stride) ge) (record { re = prime_pos m; im = prime_pos m }))
        (lt_or_ge v lanes));
  }

  -- lane v is line v
  gathered_lane : (v : ℕ) → v < lanes → lanes ≤ 16 → LaneIs m A line v (values_of m (tab A (λ i. at volume (start + v + i * stride))))
  gathered_lane v lv few = record {
    each = λ j lj.
        came.each j v lj (omega arith)
        ∙ sym (pair_used volume (start + j * stride) lv)
        ∙ along (at volume) (start + j * stride + v) (start + v + j * stride) (omega arith)
        ∙ sym (pair_value m (below.each v j lv lj))
        ∙ ap (λ x. pair_of (value_of m x)) (sym (at_tab (λ i. at volume (start + v + i * stride)) A j lj));
  }

-- ---- what is scattered

is_one : (m : ℕ) → real m (ring m).one ≡ (field m).one
unfolding gauss residues
is_one m = refl

one_times : (m : ℕ) (z : Value m) → (field m).mul (real m (ring m).one) z ≡ z
one_times m z = ap (λ x. (field m).mul x z) (is_one m) ∙ (field_ring m).one_mul z

-- a batch of which the first n places are lent
lane_taken : (l : List ℕ) (n : ℕ) {j v : ℕ} → j < n → v < 16 → lane_at (take (32 * n) l) j v ≡ lane_at l j v
unfolding lane_at
lane_taken l n {j} {v} lj lv = pair_path (get_or-take (32 * n) l (32 * j + v) 0 (omega arith)) (get_or-take (32 * n) l (32 * j + v + 16) 0 (omega arith))

module _ {m A : ℕ} {re im tan : List ℕ} {b : Bool} {c start stride lanes : ℕ} {volume line : List ℕ} (came : Gathered volume start stride lanes A line) (below : LinesBelow m start stride A lanes volume)
    (few : lanes ≤ 16) (wide : lanes ≤ stride) (fits : 2 * (start + A * stride + lanes) ≤ length volume + 2 * stride) {fold after : List ℕ} where
  pub synthesis_group : SynthesisLanes m b A re im tan line fold → Scattered m c fold start stride lanes A volume after → Holds m c (ring m).one
      → after ≡ folded_lines m 0 b A re im tan alternating start stride lanes volume
  unfolding slots
  synthesis_group h left e = group_law start A wide (folded_stored m 0 b A re im tan alternating) volume after fits left.long
      (λ v j lv lj.
      along (at after) (start + v + j * stride) (start + j * stride + v) (omega arith)
      ∙ left.new (ring m).one e j v lj lv
      ∙ ap pair_of (one_times m (value_of m (lane_at fold j v)) ∙ (h.is v (omega arith) _ (gathered_lane came below v lv few) j lj).is)
      ∙ sym (at_tab _ A j lj))
      (λ k away. left.kept k (λ j v lj lv q. away v j lv lj (omega (arith, q))))

  pub analysis_group : AnalysisLanes m b A re im tan line fold → Scattered m c (take (32 * A) fold) start stride lanes A volume after → Holds m c (part m (2 * A))
      → after ≡ folded_lines m 1 b A re im tan alternating start stride lanes volume
  unfolding slots
  analysis_group h left e = group_law start A wide (folded_stored m 1 b A re im tan alternating) volume after fits left.long
      (λ v j lv lj.
      along (at after) (start + v + j * stride) (start + j * stride + v) (omega arith)
      ∙ left.new (part m (2 * A)) e j v lj lv
      ∙ ap (λ x. pair_of ((field m).mul (real m (part m (2 * A))) (value_of m x))) (lane_taken fold A lj (omega arith))
      ∙ ap pair_of (h.is v (omega arith) _ (gathered_lane came below v lv few) j lj)
      ∙ sym (at_tab _ A j lj))
      (λ k away. left.kept k (λ j v lj lv q. away v j lv lj (omega (arith, q))))

-- 1/N, times 2^32
pub share_holds : (m N : ℕ) {one share c : ℕ} → one ≡ (res m 4294967296).val → share ≡ (part m N).val → c ≡ ((ring m).mul (res m one) (res m share)).val → Holds m c (part m N)
share_holds m N {one} {share} eo es ec = record {
  is = res_by m ((ring m).mul (res m one) (res m share)) ec ∙ ap₂ (ring m).mul (res_by m (res m 4294967296) eo) (res_by m (part m N) es);
}
