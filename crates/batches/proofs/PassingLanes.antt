-- The butterflies of a step over lanes, one after the other: as plain's `Passing`, for every lane.
use mathlib.Core.Path.{◌≡◌, sym, ◌∙◌, ap, subst}
use mathlib.Core.Logic.{⊎_elim}
use mathlib.Core.List.{List}
use Prim.Native.Nat.{ℕ, ◌+◌, ◌-◌, ◌*◌, ◌/◌, ◌%◌, ◌≤◌, ◌<◌}
use native.Mathlib.Nat.{mul-le-mul_left, mul-le-mul_right, div-le_self}
use native.Mathlib.Omega.{arith}
use lib.ListN.{length, get_or, get_or-eq_default}
use Rattle.algebra.specs.ring.Ring.{pow}
use Rattle.algebra.proofs.ring.Laws.{along}
use Rattle.numbers.specs.Value.{prime, Value, field, value_of}
use Rattle.numbers.proofs.Values.{field_ring}
use Rattle.slices.proofs.Pairs.{lt_or_ge, eq_or_ne}
use Rattle.slices.proofs.Rows.{row_end, rows_wide, row_inj, row_split, block_inj}
use Rattle.butterflies.specs.Equation3.{e, factor, outer}
use Rattle.butterflies.specs.declared.twiddle.Places.{Places}
use Rattle.butterflies.proofs.radix.Spreading.{outer_cong}
use Rattle.plain.specs.Plain.{stepped, Splits}
use Rattle.plain.proofs.step.Sizes.{whole_le, product_le, outer_pos, outer_share, twiddle_exponent}
use Rattle.plain.proofs.step.Passes.{outer_place}
use Rattle.batches.specs.Lanes.{lane_at, UpTo, Good, Apart, FirstStep, turned_value, SteppedLanes}
use Rattle.batches.specs.Copying.{PlacedSums}

-- what the step makes of lane v
abbrev result : (m : ℕ) (W : Value m) (x : List ℕ) (A B M v : ℕ) → ℕ → Value m
result m W x A B M v j = stepped (field m) W A B M (λ i. value_of m (lane_at x i v)) j

pub record PassingLanes (m : ℕ) (W : Value m) (x : List ℕ) (A B M first s base k : ℕ) (d : List ℕ) : Type 0 where
  pub q : ℕ
  pub col : s < A
  pub first_is : first ≡ q * A + s
  pub base_is : base ≡ q * B * A + s
  pub exponent_is : k ≡ 2880 / (A * B) * s
  pub long : length d ≡ 32 * (A * B * M)
  pub done : (X : ℕ) → UpTo X x → (i c t v : ℕ) → i * A + t < first → t < A → c < B → v < 16 → Good m (X + 32 * prime m) (lane_at d ((i * B + c) * A + t) v) (result m W x A B M v ((i * B + c) * A + t))

module _ {m : ℕ} {W : Value m} {x : List ℕ} {A B M : ℕ} where
  pub passing_start : {d : List ℕ} → 0 < A → length d ≡ 32 * (A * B * M) → PassingLanes m W x A B M 0 0 0 0 d
  passing_start pos e = record { q = 0; col = pos; first_is = omega arith; base_is = omega arith; exponent_is = omega arith; long = e; done = λ X up i c t v l. absurd (omega arith) }

  module _ {first s base k : ℕ} {d : List ℕ} (h : PassingLanes m W x A B M first s base k d) where
    abbrev here : Places
    here = record { first = first; stride = M * A; k = k; base = base; gap = A }

    module _ (l : first < M * A) where
      line : h.q < M
      line = ⊎_elim (λ lt. lt) (λ ge. absurd (omega (arith, h.first_is, mul-le-mul_right A ge))) (lt_or_ge h.q M)

      module _ (w : Splits A B M) where
        pub passing_apart : length x ≡ 32 * (A * B * M) → Apart B here x
        passing_apart e = record {
          inside = λ b hb. omega (arith, row_end (M * A) hb);
          exponents = λ b hb. subst (λ k. b * k < 2880) (sym h.exponent_is) (omega (arith, mul-le-mul_left (b * (2880 / (A * B))) (lt_le h.col), twiddle_exponent w hb));
        }
          where
            lt_le : {i n : ℕ} → i < n → i ≤ n
            lt_le lt = omega arith

        pub passing_column : s ≤ 2880
        passing_column = omega (arith, h.col, product_le w, rows_wide A (outer_pos w))

        pub passing_base : base + B * A ≤ 5760
        passing_base = omega (arith, h.base_is, h.col, row_end (B * A) line, whole_le w, product_le w, rows_wide A (outer_pos w))

        pub passing_exponent : k + 2880 / (A * B) ≤ 2880
        passing_exponent = omega (arith, h.exponent_is, row_end (2880 / (A * B)) h.col, outer_share w, div-le_self 2880 B)

      pub passing_stores : 32 * (base + B * A) + 32 ≤ length d + 32 * A
      passing_stores = omega (arith, h.base_is, h.long, h.col, row_end (B * A) line)

      -- in the first step there is one column, and its factor is 1
      pub passing_first : UpTo (8 * prime m) x → A ≡ 1 → FirstStep m here x
      passing_first low one = record { none = h.exponent_is ∙ along (λ n. 2880 / (A * B) * n) s 0 (omega (arith, h.col)) ∙ omega arith; low = low }

      module _ {d' : List ℕ} (sums : PlacedSums m W B here x d d') where
        -- what a sum stands for is what the step makes
        sum_is : (c v : ℕ) → c < B → outer (field m) W B (turned_value m W here x v) c ≡ result m W x A B M v ((h.q * B + c) * A + s)
        unfolding factor e
        sum_is c v hc =
            outer_cong (field_ring m) W B _ _ c (λ b lb. ap (λ n. (field m).mul (pow (field m) W n) (value_of m (lane_at x (b * (M * A) + first) v)))
            (ap (λ n. b * n) h.exponent_is ∙ along (λ n. n) (b * (2880 / (A * B) * s)) (2880 / (A * B) * (b * s)) (omega arith)))
            ∙ outer_place (field_ring m) W A B M (λ i. value_of m (lane_at x i v)) h.q h.col h.first_is hc

        place : (c : ℕ) → base + c * A ≡ (h.q * B + c) * A + s
        place c = omega (arith, h.base_is)

        stored : (X : ℕ) → UpTo X x → (c v : ℕ) → c < B → v < 16 → Good m (X + 32 * prime m) (lane_at d' ((h.q * B + c) * A + s) v) (result m W x A B M v ((h.q * B + c) * A + s))
        stored X up c v hc hv = subst (λ j. Good m (X + 32 * prime m) (lane_at d' j v) (result m W x A B M v ((h.q * B + c) * A + s))) (place c)
            (subst (Good m (X + 32 * prime m) (lane_at d' (base + c * A) v)) (sum_is c v hc) (sums.new X up v c hv hc))

        kept : (X : ℕ) → UpTo X x → (i c t v : ℕ) → i * A + t < first → t < A → c < B → v < 16 → Good m (X + 32 * prime m) (lane_at d' ((i * B + c) * A + t) v) (result m W x A B M v ((i * B + c) * A + t))
        kept X up i c t v lt ht hc hv = subst (λ y. Good m (X + 32 * prime m) y (result m W x A B M v ((i * B + c) * A + t)))
            (sym (sums.kept ((i * B + c) * A + t) v hv (λ j hj e.
            let same = block_inj h.q i hj hc h.col ht (sym (place j) ∙ e) in
            omega (arith, h.first_is, ap (λ y. y * A) same.0, same.2))))
            (h.done X up i c t v lt ht hc hv)

        more : (X : ℕ) → UpTo X x → (i c t v : ℕ) → i * A + t < first + 1 → t < A → c < B → v < 16 → Good m (X + 32 * prime m) (lane_at d' ((i * B + c) * A + t) v) (result m W x A B M v ((i * B + c) * A + t))
        more X up i c t v lt ht hc hv = ⊎_elim
            (λ e. let same = row_inj i h.q ht h.col (e ∙ h.first_is) in
            subst (λ j. Good m (X + 32 * prime m) (lane_at d' ((j * B + c) * A + t) v) (result m W x A B M v ((j * B + c) * A + t))) (sym same.0)
            (subst (λ j. Good m (X + 32 * prime m) (lane_at d' ((h.q * B + c) * A + j) v) (result m W x A B M v ((h.q * B + c) * A + j))) (sym same.1) (stored X up c v hc hv)))
            (λ n. kept X up i c t v (omega arith) ht hc hv)
            (eq_or_ne (i * A + t) first)

        pub passing_next : (s + 1 ≡ A → ⊥) → PassingLanes m W x A B M (first + 1) (s + 1) (base + 1) (k + 2880 / (A * B)) d'
        passing_next n = record {
          q = h.q;
          col = omega (arith, h.col);
          first_is = omega (arith, h.first_is);
          base_is = omega (arith, h.base_is);
          exponent_is = omega (arith, h.exponent_is);
          long = sums.long ∙ h.long;
          done = more;
        }

        pub passing_again : 0 < B → s + 1 ≡ A → PassingLanes m W x A B M (first + 1) 0 (base + 1 + (B * A - A)) 0 d'
        passing_again pos e = record {
          q = h.q + 1;
          col = omega (arith, h.col);
          first_is = omega (arith, h.first_is);
          base_is = omega (arith, h.base_is, rows_wide A pos);
          exponent_is = omega arith;
          long = sums.long ∙ h.long;
          done = more;
        }

    -- every place
    pub passing_all : M * A ≤ first → (X : ℕ) → UpTo X x → (v j : ℕ) → v < 16 → j < A * B * M → Good m (X + 32 * prime m) (lane_at d j v) (result m W x A B M v j)
    passing_all l X up v j hv lj =
        let row = row_split (M * B) {m = A} {p = j} (omega arith) in
        let line = row_split M {m = B} {p = j / A} row.0 in
        subst (λ y. Good m (X + 32 * prime m) (lane_at d y v) (result m W x A B M v y)) (ap (λ y. y * A + j % A) line.2 ∙ row.2)
        (h.done X up (j / A / B) (j / A % B) (j % A) v (omega (arith, row_end A line.0, row.1)) row.1 line.1 hv)

    pub passing_done : M * A ≤ first → UpTo 1073741823 x → SteppedLanes m W A B M x d
    passing_done l up = record { each = λ v j hv lj. (passing_all l 1073741823 up v j hv lj).is }

-- a bound of all lanes is one of all numbers
pub up_of : {Y n : ℕ} {d : List ℕ} → length d ≡ 32 * n → ((v j : ℕ) → v < 16 → j < n → ((lane_at d j v).re ≤ Y) × ((lane_at d j v).im ≤ Y)) → UpTo Y d
unfolding lane_at
up_of {Y} {n} {d} long h = record { each = λ k. ⊎_elim (inside k) (outside k) (lt_or_ge k (32 * n)) }
  where
    outside : (k : ℕ) → 32 * n ≤ k → get_or d k 0 ≤ Y
    outside k l = subst (λ x. x ≤ Y) (sym (get_or-eq_default d 0 {n = k} (omega (arith, long)))) (omega arith)

    inside : (k : ℕ) → k < 32 * n → get_or d k 0 ≤ Y
    inside k l = ⊎_elim
        (λ (lt : k % 32 < 16). subst (λ i. get_or d i 0 ≤ Y) (place_re k) (h (k % 32) (k / 32) lt (omega arith)).0)
        (λ (ge : 16 ≤ k % 32). subst (λ i. get_or d i 0 ≤ Y) (place_im k ge) (h (k % 32 - 16) (k / 32) (omega arith) (omega arith)).1)
        (lt_or_ge (k % 32) 16)
      where
        place_re : (k : ℕ) → 32 * (k / 32) + k % 32 ≡ k
        place_re k = omega arith

        place_im : (k : ℕ) → 16 ≤ k % 32 → 32 * (k / 32) + (k % 32 - 16) + 16 ≡ k
        place_im k ge = omega arith
