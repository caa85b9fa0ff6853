-- Two values of each lane with coefficients: the loop, and what its result stands for.
use mathlib.Core.Path.{◌≡◌, refl, sym, ◌∙◌, ap, ap₂, subst}
use mathlib.Core.Logic.{◌≢◌, ⊎_elim}
use mathlib.Core.List.{List, [], ◌∷◌}
use Prim.Native.Nat.{ℕ, ◌+◌, ◌*◌, ◌<◌, ◌≤◌}
use native.Mathlib.Omega.{arith}
use lib.ListN.{get_or, length, replicate, get_or-replicate}
use Rattle.algebra.specs.ring.Ring.{gauss}
use Rattle.algebra.specs.ring.Ring as Gauss
use Rattle.algebra.proofs.ring.Laws.{along}
use Rattle.algebra.proofs.ring.Solver.{ring, quote}
use Rattle.algebra.proofs.ring.ResidueRing.{residue_add, residue_mul}
use Rattle.numbers.specs.declared.Pair.{Pair}
use Rattle.numbers.specs.Value.{prime, Value, Residue, field, conj, value, value_of}
use Rattle.numbers.specs.Value as Value
use Rattle.numbers.specs.Bounds.{res, zero_pair}
use Rattle.numbers.proofs.Residues.{res_ring}
use Rattle.numbers.proofs.Values.{pair_path, value_path}
use Rattle.slices.specs.Segments.{set_segment}
use Rattle.slices.proofs.Pairs.{eq_or_ne, lt_or_ge}
use Rattle.slices.proofs.Segments.{get_or_before, length_set_segment, get_or_inside, get_d_after}
use Rattle.batches.specs.Reduction.{Divided, Holds}
use Rattle.batches.specs.Copying.{PutBlock}
use Rattle.batches.specs.Lanes.{lane_at, put_lane, Good}
use Rattle.batches.proofs.Meaning.{shift, cancel, divided_res, weighed_res}
use Rattle.batches.proofs.LaneLists.{length_lane, lane_same, lane_other}
use Rattle.folded_batches.specs.declared.mixing.Mix.{Mix}
use Rattle.folded_batches.specs.Mixing.{Mixed, MixedAlone, OnParts, Times, TimesConjugate}

-- ---- the loop

-- what was read is the part of the lane
pub read_re : (l : List ℕ) (i v : ℕ) {x : ℕ} → x ≡ get_or l (32 * i + v) 0 → x ≡ (lane_at l i v).re
unfolding lane_at
read_re l i v e = e

pub read_im : (l : List ℕ) (i v : ℕ) {x : ℕ} → x ≡ get_or l (32 * i + (v + 16)) 0 → x ≡ (lane_at l i v).im
unfolding lane_at
read_im l i v e = e ∙ along (λ k. get_or l k 0) (32 * i + (v + 16)) (32 * i + v + 16) (omega arith)

-- a block that is copied to place j
pub block_part : {y ys : List ℕ} (j : ℕ) (l : List ℕ) → ys ≡ y → 32 * j + 32 ≤ length l → length y ≡ 32 → PutBlock y 0 j l (set_segment (32 * j) (32 * j + 32) l ys)
unfolding lane_at
block_part {y} {ys} j l e fits long = record {
  long = length_set_segment (32 * j) (32 * j + 32) l (omega arith) fits ys (omega (arith, ap length e));
  new = λ v lv. pair_path (inside v _ _ (omega arith) refl (omega arith)) (inside (v + 16) _ _ (omega arith) (omega arith) (omega arith));
  kept = λ i v lv other. pair_path (outside i v _ other (omega arith) refl) (outside i (v + 16) _ other (omega arith) (omega arith));
}
  where
    inside : (u k n : ℕ) → u < 32 → k ≡ 32 * j + u → n ≡ u → get_or (set_segment (32 * j) (32 * j + 32) l ys) k 0 ≡ get_or y n 0
    inside u k n lu at same = rw (at, same) (get_or_inside (32 * j) (32 * j + 32) l (omega arith) fits ys (omega (arith, ap length e)) u (omega arith) ∙ ap (λ x. get_or x u 0) e)

    outside : (i u k : ℕ) → i ≢ j → u < 32 → k ≡ 32 * i + u → get_or (set_segment (32 * j) (32 * j + 32) l ys) k 0 ≡ get_or l k 0
    outside i u k other lu at = ⊎_elim
        (λ (lk : k < 32 * j). get_or_before (32 * j) (32 * j + 32) l (omega arith) fits ys k lk)
        (λ (ge : 32 * j ≤ k). get_d_after (32 * j) (32 * j + 32) l (omega arith) fits ys (omega (arith, ap length e)) k (omega (arith, other)))
        (lt_or_ge k (32 * j))

pub zero_lane : (v : ℕ) → v < 16 → lane_at (replicate 32 0) 0 v ≡ zero_pair
unfolding lane_at
zero_lane v l = pair_path (get_or-replicate 32 (32 * 0 + v) 0 0 (omega arith)) (get_or-replicate 32 (32 * 0 + v + 16) 0 0 (omega arith))

-- a block of which a lane more is written
module _ (y : List ℕ) {z : List ℕ} {v : ℕ} (a b : ℕ) (long : length y ≡ 32) (lv : v < 16) (is : z ≡ put_lane y 0 v (record { re = a; im = b })) where
  pub block_long : length z ≡ 32
  block_long = ap length is ∙ length_lane y 0 v (record { re = a; im = b }) ∙ long

  pub block_new : (P : ℕ → Pair → Type 0) → ((u : ℕ) → u < v → P u (lane_at y 0 u)) → P v (record { re = a; im = b }) → (u : ℕ) → u < v + 1 → P u (lane_at z 0 u)
  block_new P before new u lu = ⊎_elim
      (λ (e : u ≡ v). subst (λ k. P k (lane_at z 0 k)) (sym e) (subst (P v) (sym (ap (λ x. lane_at x 0 v) is ∙ lane_same y 0 v (record { re = a; im = b }) (omega (arith, long)))) new))
      (λ (other : u ≢ v). subst (P u) (sym (ap (λ x. lane_at x 0 u) is ∙ lane_other y 0 v (record { re = a; im = b }) 0 u lv (omega arith) (λ e. other (omega arith)))) (before u (omega (arith, other))))
      (eq_or_ne u v)

-- the sums of lane v
abbrev re_sum : (k : Mix) (l : List ℕ) (i j : ℕ) → ℕ → ℕ
re_sum k l i j v = k.a1 * (lane_at l i v).re + k.a2 * (lane_at l i v).im + k.b1 * (lane_at l j v).re + k.b2 * (lane_at l j v).im

abbrev im_sum : (k : Mix) (l : List ℕ) (i j : ℕ) → ℕ → ℕ
im_sum k l i j v = k.a3 * (lane_at l i v).re + k.a4 * (lane_at l i v).im + k.b3 * (lane_at l j v).re + k.b4 * (lane_at l j v).im

module _ {m : ℕ} {k : Mix} {l : List ℕ} {i j : ℕ} where
  pub mixing_next : {v : ℕ} (a b : ℕ) (y : List ℕ) {z : List ℕ} → Mixed m k l i j v y → v < 16 → z ≡ put_lane y 0 v (record { re = a; im = b }) → Divided m (re_sum k l i j v) a → Divided m (im_sum k l i j v) b → Mixed m k l i j (v + 1) z
  mixing_next a b y h lv is ha hb = record {
    long = block_long y a b h.long lv is;
    re = block_new y a b h.long lv is (λ u x. Divided m (re_sum k l i j u) x.re) h.re ha;
    im = block_new y a b h.long lv is (λ u x. Divided m (im_sum k l i j u) x.im) h.im hb;
  }

module _ {m : ℕ} {k : Mix} {l : List ℕ} {i : ℕ} where
  pub alone_next : {v : ℕ} (a b : ℕ) (y : List ℕ) {z : List ℕ} → MixedAlone m k l i v y → v < 16 → z ≡ put_lane y 0 v (record { re = a; im = b })
      → Divided m (k.a1 * (lane_at l i v).re + k.a2 * (lane_at l i v).im) a → Divided m (k.a3 * (lane_at l i v).re + k.a4 * (lane_at l i v).im) b → MixedAlone m k l i (v + 1) z
  alone_next a b y h lv is ha hb = record {
    long = block_long y a b h.long lv is;
    re = block_new y a b h.long lv is (λ u x. Divided m (k.a1 * (lane_at l i u).re + k.a2 * (lane_at l i u).im) x.re) h.re ha;
    im = block_new y a b h.long lv is (λ u x. Divided m (k.a3 * (lane_at l i u).re + k.a4 * (lane_at l i u).im) x.im) h.im hb;
  }

-- ---- what the result stands for

module _ (m : ℕ) where
  open Value.ring m use {add as ◌⊞◌, mul as ◌⊠◌, neg as ⊟◌}

  infixl 65 ◌⊞◌
  infixl 70 ◌⊠◌
  infix 75 ⊟◌
  pub four_res : (c1 x1 c2 x2 c3 x3 c4 x4 : ℕ) {r : ℕ} {r₁ r₂ r₃ r₄ : Residue m} → Divided m (c1 * x1 + c2 * x2 + c3 * x3 + c4 * x4) r → Holds m c1 r₁ → Holds m c2 r₂ → Holds m c3 r₃ → Holds m c4 r₄
      → res m r ≡ r₁ ⊠ res m x1 ⊞ r₂ ⊠ res m x2 ⊞ r₃ ⊠ res m x3 ⊞ r₄ ⊠ res m x4
  four_res c1 x1 c2 x2 c3 x3 c4 x4 {r} {r₁} {r₂} {r₃} {r₄} h h1 h2 h3 h4 = cancel m
      (divided_res m h
      ∙ residue_add (prime m) (c1 * x1 + c2 * x2 + c3 * x3) (c4 * x4)
      ∙ ap₂ ◌⊞◌ (residue_add (prime m) (c1 * x1 + c2 * x2) (c3 * x3) ∙ ap₂ ◌⊞◌ (residue_add (prime m) (c1 * x1) (c2 * x2) ∙ ap₂ ◌⊞◌ (one c1 x1 h1) (one c2 x2 h2)) (one c3 x3 h3)) (one c4 x4 h4)
      ∙ ring (res_ring m) (shift m ∷ r₁ ∷ r₂ ∷ r₃ ∷ r₄ ∷ res m x1 ∷ res m x2 ∷ res m x3 ∷ res m x4 ∷ []) (search quote depth 40 fits 9999) refl)
    where
      one : (c x : ℕ) {r : Residue m} → Holds m c r → res m (c * x) ≡ shift m ⊠ r ⊠ res m x
      one c x h = residue_mul (prime m) c x ∙ ap (λ y. y ⊠ res m x) h.is

  -- four residues on the parts of a value
  abbrev pub on_parts : (r₁ r₂ r₃ r₄ : Residue m) → Value m → Value m
  on_parts r₁ r₂ r₃ r₄ z = (r₁ ⊠ z.0 ⊞ r₂ ⊠ z.1, r₃ ⊠ z.0 ⊞ r₄ ⊠ z.1)

  pub times_parts : (z x : Value m) → on_parts z.0 (⊟ z.1) z.1 z.0 x ≡ (field m).mul z x
  unfolding gauss
  times_parts z x = value_path
      (ring (res_ring m) (z.0 ∷ z.1 ∷ x.0 ∷ x.1 ∷ []) (search quote depth 40 fits 9999) refl)
      (ring (res_ring m) (z.0 ∷ z.1 ∷ x.0 ∷ x.1 ∷ []) (search quote depth 40 fits 9999) refl)

  pub times_conjugate_parts : (z x : Value m) → on_parts z.0 z.1 z.1 (⊟ z.0) x ≡ (field m).mul z (conj m x)
  unfolding gauss Gauss.conj
  times_conjugate_parts z x = value_path
      (ring (res_ring m) (z.0 ∷ z.1 ∷ x.0 ∷ x.1 ∷ []) (search quote depth 40 fits 9999) refl)
      (ring (res_ring m) (z.0 ∷ z.1 ∷ x.0 ∷ x.1 ∷ []) (search quote depth 40 fits 9999) refl)

module _ {m : ℕ} {k : Mix} {l : List ℕ} {i j : ℕ} {y : List ℕ} (h : Mixed m k l i j 16 y) {v : ℕ} (lv : v < 16) where
  open Value.ring m use {add as ◌⊞◌, mul as ◌⊠◌}

  infixl 65 ◌⊞◌
  infixl 70 ◌⊠◌
  -- real combinations of the parts
  pub mixed_parts : {r₁ r₂ r₃ r₄ s₁ s₂ s₃ s₄ : Residue m} → OnParts m k.a1 k.a2 k.a3 k.a4 r₁ r₂ r₃ r₄ → OnParts m k.b1 k.b2 k.b3 k.b4 s₁ s₂ s₃ s₄
      → Good m (2 * prime m) (lane_at y 0 v) ((field m).add (on_parts m r₁ r₂ r₃ r₄ (value_of m (lane_at l i v))) (on_parts m s₁ s₂ s₃ s₄ (value_of m (lane_at l j v))))
  unfolding value_of gauss
  mixed_parts {r₁} {r₂} {r₃} {r₄} {s₁} {s₂} {s₃} {s₄} a b = record {
    re = omega (arith, (h.re v lv).low);
    im = omega (arith, (h.im v lv).low);
    is = value_path
        (four_res m k.a1 x k.a2 x' k.b1 w k.b2 w' (h.re v lv) a.first a.second b.first b.second ∙ halves r₁ r₂ s₁ s₂)
        (four_res m k.a3 x k.a4 x' k.b3 w k.b4 w' (h.im v lv) a.third a.fourth b.third b.fourth ∙ halves r₃ r₄ s₃ s₄);
  }
    where
      x : ℕ
      x = (lane_at l i v).re

      x' : ℕ
      x' = (lane_at l i v).im

      w : ℕ
      w = (lane_at l j v).re

      w' : ℕ
      w' = (lane_at l j v).im

      halves : (a b c d : Residue m) → a ⊠ res m x ⊞ b ⊠ res m x' ⊞ c ⊠ res m w ⊞ d ⊠ res m w' ≡ (a ⊠ res m x ⊞ b ⊠ res m x') ⊞ (c ⊠ res m w ⊞ d ⊠ res m w')
      halves a b c d = (res_ring m).add_assoc (a ⊠ res m x ⊞ b ⊠ res m x') (c ⊠ res m w) (d ⊠ res m w')

  module _ {α β : Value m} (a : Times m k.a1 k.a2 k.a3 k.a4 α) where
    -- α z + β w
    pub mixed_good : Times m k.b1 k.b2 k.b3 k.b4 β
        → Good m (2 * prime m) (lane_at y 0 v) ((field m).add ((field m).mul α (value_of m (lane_at l i v))) ((field m).mul β (value_of m (lane_at l j v))))
    mixed_good b = subst (Good m (2 * prime m) (lane_at y 0 v)) (ap₂ (field m).add (times_parts m α (value_of m (lane_at l i v))) (times_parts m β (value_of m (lane_at l j v)))) (mixed_parts a b)

    -- α z + β conj w
    pub mixed_conjugate_good : TimesConjugate m k.b1 k.b2 k.b3 k.b4 β
        → Good m (2 * prime m) (lane_at y 0 v) ((field m).add ((field m).mul α (value_of m (lane_at l i v))) ((field m).mul β (conj m (value_of m (lane_at l j v)))))
    mixed_conjugate_good b = subst (Good m (2 * prime m) (lane_at y 0 v)) (ap₂ (field m).add (times_parts m α (value_of m (lane_at l i v))) (times_conjugate_parts m β (value_of m (lane_at l j v)))) (mixed_parts a b)

module _ {m : ℕ} {k : Mix} {l : List ℕ} {i : ℕ} {y : List ℕ} (h : MixedAlone m k l i 16 y) {v : ℕ} (lv : v < 16) where
  pub alone_parts : {r₁ r₂ r₃ r₄ : Residue m} → OnParts m k.a1 k.a2 k.a3 k.a4 r₁ r₂ r₃ r₄ → Good m (2 * prime m) (lane_at y 0 v) (on_parts m r₁ r₂ r₃ r₄ (value_of m (lane_at l i v)))
  unfolding value_of
  alone_parts a = record {
    re = omega (arith, (h.re v lv).low);
    im = omega (arith, (h.im v lv).low);
    is = value_path
        (weighed_res m k.a1 (lane_at l i v).re k.a2 (lane_at l i v).im (h.re v lv) a.first a.second)
        (weighed_res m k.a3 (lane_at l i v).re k.a4 (lane_at l i v).im (h.im v lv) a.third a.fourth);
  }
