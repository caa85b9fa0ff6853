-- The second demand: what the call does to a line is the direct sum over the whole line, and each direction undoes the
-- other.
--
-- `transform` packs the sums; here the packed result is unfolded again, so that nothing is lost in the packing.
use Rattle.std.specs.Prelude.{◌≡◌, ◌*◌, ◌-◌, ◌/◌, ◌<◌}
use Rattle.algebra.specs.Prelude.{true, ℕ, List, length}
use Rattle.algebra.specs.ring.Ring.{Ops, pow, sum}
use Rattle.algebra.specs.lines.Kinds.{unfold_before, unfold_after, pack_before, pack_after, RuleBefore, RuleAfter}
use Rattle.numbers.specs.Value.{prime, IsModulus, Value, field, conj, part, real, on_values}
use Rattle.slices.specs.Pairs.{Below, values_of}
use Rattle.lengths.specs.Lengths.{kind_of, pair_count, admitted}
use Rattle.line.specs.Line.{root_of, transform, transformed, LineOutcome, line_step}

-- The whole line of a packed line X before the transform, and of one after it, by the kind's number.
abbrev pub whole_before : (m kind N : ℕ) → (ℕ → Value m) → ℕ → Value m
whole_before m kind N X = on_values m unfold_before (N / 2) (kind_of kind) X

abbrev pub whole_after : (m kind N : ℕ) → (ℕ → Value m) → ℕ → Value m
whole_after m kind N X = on_values m unfold_after (N / 2) (kind_of kind) X

-- What a packed line stands for keeps the rule of its kind, before the transform and after it; and what is packed of a
-- line that keeps the rule stands for that line. So the packing loses nothing, and the sums below are those of every
-- line of the kind.
pub record RulesKept : Type 0 where
  pub kept_before : (m kind N : ℕ) (X : ℕ → Value m) →
      IsModulus m → admitted N ≡ true →
      on_values m RuleBefore (N / 2) (kind_of kind) (whole_before m kind N X)
  pub kept_after : (m kind N : ℕ) (X : ℕ → Value m) →
      IsModulus m → admitted N ≡ true →
      on_values m RuleAfter (N / 2) (kind_of kind) (whole_after m kind N X)
  pub whole_before_is : (m kind N : ℕ) (X : ℕ → Value m) →
      IsModulus m → admitted N ≡ true →
      on_values m RuleBefore (N / 2) (kind_of kind) X →
      (t : ℕ) → t < N →
      whole_before m kind N (on_values m pack_before (N / 2) (kind_of kind) X) t ≡ X t
  pub whole_after_is : (m kind N : ℕ) (X : ℕ → Value m) →
      IsModulus m → admitted N ≡ true →
      on_values m RuleAfter (N / 2) (kind_of kind) X →
      (s : ℕ) → s < N →
      whole_after m kind N (on_values m pack_after (N / 2) (kind_of kind) X) s ≡ X s

-- The direct sum of direction 0, at s: over all t, the value at t times e(ts/N).
abbrev pub forward_sum : (m N : ℕ) → (ℕ → Value m) → ℕ → Value m
forward_sum m N X s = sum (field m) N (λ t. (field m).mul (X t) (pow (field m) (root_of m N) (t * s)))

-- That of direction 1, at t: over all s, the value at s times e(-st/N), divided by N.
abbrev pub back_sum : (m N : ℕ) → (ℕ → Value m) → ℕ → Value m
back_sum m N X t =
    (field m).mul (real m (part m N))
    (sum (field m) N (λ s. (field m).mul (X s) (pow (field m) (conj m (root_of m N)) (s * t))))

-- Direction 0 is the direct sum ..
pub record ForwardIsSum : Type 0 where
  pub is_sum : (m kind N : ℕ) (X : ℕ → Value m) (s : ℕ) → IsModulus m → admitted N ≡ true → s < N →
      whole_after m kind N (transform m (kind_of kind) 0 (N / 2) X) s ≡ forward_sum m N (whole_before m kind N X) s

-- .. and direction 1 too.
pub record BackIsSum : Type 0 where
  pub is_sum : (m kind N : ℕ) (X : ℕ → Value m) (t : ℕ) → IsModulus m → admitted N ≡ true → t < N →
      whole_before m kind N (transform m (kind_of kind) 1 (N / 2) X) t ≡ back_sum m N (whole_after m kind N X) t

-- The same of an accepted call: the whole line of the numbers that it leaves is the direct sum over the whole line of
-- the numbers that it was lent.
pub record CallIsSum : Type 0 where
  pub forward : (m kind N : ℕ) (factors line scratch : List ℕ) →
      let o = line_step m kind 0 N factors line scratch in
      o.answer ≡ 0 →
      (s : ℕ) → s < N →
      whole_after m kind N (values_of m o.line) s ≡ forward_sum m N (whole_before m kind N (values_of m line)) s
  pub back : (m kind N : ℕ) (factors line scratch : List ℕ) →
      let o = line_step m kind 1 N factors line scratch in
      o.answer ≡ 0 →
      (t : ℕ) → t < N →
      whole_before m kind N (values_of m o.line) t ≡ back_sum m N (whole_after m kind N (values_of m line)) t

-- The factor list does not show: two accepted calls that differ in their lists alone leave the same line and the same
-- scratch.
pub record ListFree : Type 0 where
  pub same : (m kind direction N : ℕ) (factors factors' line scratch : List ℕ) →
      (line_step m kind direction N factors line scratch).answer ≡ 0 →
      (line_step m kind direction N factors' line scratch).answer ≡ 0 →
      line_step m kind direction N factors line scratch ≡ line_step m kind direction N factors' line scratch

-- A line of residues is restored by direction 1 after direction 0 ..
pub record Restored : Type 0 where
  pub restored : (m kind N : ℕ) (line : List ℕ) →
      IsModulus m → kind < 6 → admitted N ≡ true →
      length line ≡ 2 * pair_count kind N →
      Below (prime m) line →
      transformed m kind 1 N (transformed m kind 0 N line) ≡ line

-- .. and by direction 0 after direction 1.
pub record RestoredAfter : Type 0 where
  pub restored : (m kind N : ℕ) (line : List ℕ) →
      IsModulus m → kind < 6 → admitted N ≡ true →
      length line ≡ 2 * pair_count kind N →
      Below (prime m) line →
      transformed m kind 0 N (transformed m kind 1 N line) ≡ line

-- An accepted call is taken back by the same call in the other direction: that is accepted too, and leaves the line as
-- it was.
pub record TakenBack : Type 0 where
  pub taken_back : (m kind direction N : ℕ) (factors line scratch : List ℕ) →
      let o = line_step m kind direction N factors line scratch in
      o.answer ≡ 0 →
      line_step m kind (1 - direction) N factors o.line o.scratch
      ≡ record { answer = 0; line = line; scratch = o.scratch }
