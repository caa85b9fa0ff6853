-- Lanes in a list: what is stored in one is read there, and every other is as it was.
use mathlib.Core.Path.{◌≡◌, refl, sym, ◌∙◌, ap, ap₂, subst}
use mathlib.Core.Logic.{◌≢◌, ⊎_elim}
use mathlib.Core.Bool.{Bool, true, false}
use mathlib.Core.List.{List}
use Rattle.std.specs.Prelude.{IsTrue, IsFalse}
use Prim.Native.Nat.{ℕ, zero, suc, ◌+◌, ◌*◌, ◌<◌, ◌≤◌}
use native.Mathlib.Nat.{not-suc-le-zero}
use native.Mathlib.Omega.{arith}
use lib.ListN.{get_or, set, length, length-set}
use lib.Seq.{get_or-set_same, get_or-set_other}
use Rattle.algebra.specs.ring.Ring.{pow}
use Rattle.algebra.proofs.ring.Laws.{along}
use Rattle.algebra.proofs.fourier.Transform.{pow_zero}
use Rattle.numbers.specs.declared.Pair.{Pair}
use Rattle.numbers.specs.Value.{prime, IsModulus, Value, field, value, value_of}
use Rattle.numbers.proofs.Values.{pair_path, field_ring}
use Rattle.slices.proofs.Pairs.{eq_or_ne}
use Rattle.butterflies.specs.Equation3.{outer}
use Rattle.butterflies.specs.declared.twiddle.Places.{Places}
use Rattle.numbers.specs.Bounds.{res}
use Rattle.roots.specs.Table.{entry_at, table_root, RootTable}
use Rattle.batches.specs.declared.lane.Factor.{Factor}
use Rattle.batches.specs.Reduction.{Divided, Held, Shifted, ShiftedTable, factor_at}
use Rattle.batches.proofs.Meaning.{turned_value_lem, shifted_power, shifted_at, held_at}
use Rattle.batches.specs.declared.lane.Three.{Three}
use Rattle.batches.specs.declared.lane.Five.{Five}
use Rattle.batches.specs.Formulas.{ThreeOf, FiveOf}
use Rattle.batches.specs.Lanes.{lane_at, put_lane, spread_lane, UpTo, Good, Apart, FirstStep, Summed, turned_value}

pub length_lane : (l : List ℕ) (j v : ℕ) (x : Pair) → length (put_lane l j v x) ≡ length l
unfolding put_lane
length_lane l j v x = length-set (set l (32 * j + v) x.re) (32 * j + v + 16) x.im ∙ length-set l (32 * j + v) x.re

pub lane_same : (l : List ℕ) (j v : ℕ) (x : Pair) → 32 * j + v + 16 < length l → lane_at (put_lane l j v x) j v ≡ x
unfolding lane_at put_lane
lane_same l j v x h = pair_path
    (get_or-set_other (set l (32 * j + v) x.re) (32 * j + v + 16) (32 * j + v) x.im 0 (λ e. omega arith) ∙ get_or-set_same l (32 * j + v) x.re 0 (omega arith))
    (get_or-set_same (set l (32 * j + v) x.re) (32 * j + v + 16) x.im 0 (omega (arith, length-set l (32 * j + v) x.re)))

-- another place, or another lane of it
pub lane_other : (l : List ℕ) (j v : ℕ) (x : Pair) (i u : ℕ) → v < 16 → u < 16 → (32 * j + v ≡ 32 * i + u → ⊥) → lane_at (put_lane l j v x) i u ≡ lane_at l i u
unfolding lane_at put_lane
lane_other l j v x i u lv lu n = pair_path
    (get_or-set_other (set l (32 * j + v) x.re) (32 * j + v + 16) (32 * i + u) x.im 0 (λ e. omega arith) ∙ get_or-set_other l (32 * j + v) (32 * i + u) x.re 0 (λ e. n (sym e)))
    (get_or-set_other (set l (32 * j + v) x.re) (32 * j + v + 16) (32 * i + u + 16) x.im 0 (λ e. n (omega arith)) ∙ get_or-set_other l (32 * j + v) (32 * i + u + 16) x.re 0 (λ e. omega arith))

module _ (f : ℕ → Pair) (v : ℕ) (lv : v < 16) where
  pub length_spread : (n : ℕ) (l : List ℕ) → length (spread_lane f n v l) ≡ length l
  unfolding spread_lane
  length_spread zero l = refl
  length_spread (suc n) l = length_lane (spread_lane f n v l) n v (f n) ∙ length_spread n l

  pub spread_other : (n : ℕ) (l : List ℕ) (c u : ℕ) → u < 16 → (u ≡ v → ⊥) → lane_at (spread_lane f n v l) c u ≡ lane_at l c u
  unfolding spread_lane
  spread_other zero l c u lu other = refl
  spread_other (suc n) l c u lu other = lane_other (spread_lane f n v l) n v (f n) c u lv lu (λ e. other (omega arith)) ∙ spread_other n l c u lu other

  pub spread_same : (n : ℕ) (l : List ℕ) (c : ℕ) → 32 * n ≤ length l → c < n → lane_at (spread_lane f n v l) c v ≡ f c
  unfolding spread_lane
  spread_same zero l c h lc = absurd (not-suc-le-zero lc)
  spread_same (suc n) l c h lc = ⊎_elim
      (λ (e : c ≡ n). rw e (lane_same (spread_lane f n v l) n v (f n) (omega (arith, length_spread n l))))
      (λ (other : c ≢ n). lane_other (spread_lane f n v l) n v (f n) c v lv lv (λ e. other (omega arith)) ∙ spread_same n l c (omega arith) (below n c lc other))
      (eq_or_ne c n)
    where
      below : (n c : ℕ) → c < suc n → c ≢ n → c < n
      below n c l other = omega (arith, other)

module _ {m : ℕ} {W : Value m} {B : ℕ} {p : Places} {l : List ℕ} where
  pub summed_start : {y : List ℕ} → length y ≡ 160 → Summed m W B p l 0 y
  summed_start e = record { long = e; lanes = λ X h v c lv lc. absurd (not-suc-le-zero lv) }

  pub summed_next : {v : ℕ} {y z : List ℕ} (f : ℕ → Pair) → Summed m W B p l v y → v < 16 → B ≤ 5 → z ≡ spread_lane f B v y
      → ((X : ℕ) → UpTo X l → (c : ℕ) → c < B → Good m (X + 32 * prime m) (f c) (outer (field m) W B (turned_value m W p l v) c)) → Summed m W B p l (v + 1) z
  summed_next {v} {y} {z} f s lv few is new = record { long = ap length is ∙ length_spread f v lv B y ∙ s.long; lanes = lanes }
    where
      lanes : (X : ℕ) → UpTo X l → (u c : ℕ) → u < v + 1 → c < B → Good m (X + 32 * prime m) (lane_at z c u) (outer (field m) W B (turned_value m W p l u) c)
      lanes X up u c lu lc = ⊎_elim
          (λ (e : u ≡ v). rw (is, e) (subst (λ x. Good m (X + 32 * prime m) x (outer (field m) W B (turned_value m W p l v) c)) (sym (spread_same f v lv B y c (omega (arith, s.long)) lc)) (new X up c lc)))
          (λ (other : u ≢ v). rw is (subst (λ x. Good m (X + 32 * prime m) x (outer (field m) W B (turned_value m W p l u) c)) (sym (spread_other f v lv B y c u (omega arith) other)) (s.lanes X up u c (omega (arith, other)) lc)))
          (eq_or_ne u v)

-- what a lane holds, by its numbers
pub lane_is : (m : ℕ) (l : List ℕ) (j v : ℕ) {a b : ℕ} → a ≡ get_or l (32 * j + v) 0 → b ≡ get_or l (32 * j + (v + 16)) 0 → value m a b ≡ value_of m (lane_at l j v)
unfolding lane_at value_of
lane_is m l j v ea eb = ap₂ (value m) ea (eb ∙ along (λ k. get_or l k 0) (32 * j + (v + 16)) (32 * j + v + 16) (omega arith))

pub lane_low : {X : ℕ} {l : List ℕ} → UpTo X l → (j v : ℕ) → ((lane_at l j v).re ≤ X) × ((lane_at l j v).im ≤ X)
unfolding lane_at
lane_low {X} {l} h j v = (h.each (32 * j + v), h.each (32 * j + v + 16))

-- times the factor 1
pub one_turn : (m : ℕ) (W : Value m) (k : ℕ) (z : Value m) → k ≡ 0 → z ≡ (field m).mul (pow (field m) W k) z
one_turn m W k z e = sym (ap (λ n. (field m).mul (pow (field m) W n) z) e ∙ ap (λ y. (field m).mul y z) (pow_zero (field_ring m) W) ∙ (field_ring m).one_mul z)

-- the first value of a butterfly, and every value of the first step
pub plain_lane : (m : ℕ) (W : Value m) (p : Places) (l : List ℕ) (v b : ℕ) {x y : ℕ} → b * p.k ≡ 0 → x ≡ get_or l (32 * (b * p.stride + p.first) + v) 0 → y ≡ get_or l (32 * (b * p.stride + p.first) + (v + 16)) 0
    → value m x y ≡ turned_value m W p l v b
plain_lane m W p l v b none ex ey = lane_is m l (b * p.stride + p.first) v ex ey ∙ one_turn m W (b * p.k) _ none

-- a value times its factor
pub turned_lane : {m : ℕ} {re im sre sim : List ℕ} (h : RootTable m re im) (t : ShiftedTable m re im sre sim) (p : Places) (l : List ℕ) (v b k : ℕ) {w : Factor} {x y : ℕ}
    → k ≡ b * p.k → k < 2880 → w ≡ factor_at m sre sim k
    → Divided m (w.re * (lane_at l (b * p.stride + p.first) v).re + w.minus * (lane_at l (b * p.stride + p.first) v).im) x
    → Divided m (w.re * (lane_at l (b * p.stride + p.first) v).im + w.im * (lane_at l (b * p.stride + p.first) v).re) y
    → value m x y ≡ turned_value m (table_root m re im) p l v b
unfolding value_of
turned_lane {m} {re} {im} {sre} {sim} h t p l v b k {w} e lt is hx hy =
    turned_value_lem m (lane_at l (b * p.stride + p.first) v).re (lane_at l (b * p.stride + p.first) v).im
    (subst (λ w. Shifted m w (pow (field m) (table_root m re im) k)) (sym is) (shifted_power t k h lt)) hx hy
    ∙ ap (λ n. (field m).mul (pow (field m) (table_root m re im) n) (value_of m (lane_at l (b * p.stride + p.first) v))) e

-- a value with its factor, or in the first step without
pub lane_value : (first : Bool) {m : ℕ} {re im sre sim : List ℕ} (h : RootTable m re im) (t : ShiftedTable m re im sre sim) {B : ℕ} {p : Places} {l : List ℕ} (near : Apart B p l) (v b : ℕ) {k : ℕ} {w : Factor} {x y : ℕ}
    → (IsTrue first → FirstStep m p l) → b < B → k ≡ b * p.k → w ≡ factor_at m sre sim k
    → (IsTrue first → x ≡ (lane_at l (b * p.stride + p.first) v).re)
    → (IsFalse first → Divided m (w.re * (lane_at l (b * p.stride + p.first) v).re + w.minus * (lane_at l (b * p.stride + p.first) v).im) x)
    → (IsTrue first → y ≡ (lane_at l (b * p.stride + p.first) v).im)
    → (IsFalse first → Divided m (w.re * (lane_at l (b * p.stride + p.first) v).im + w.im * (lane_at l (b * p.stride + p.first) v).re) y)
    → value m x y ≡ turned_value m (table_root m re im) p l v b
unfolding value_of
lane_value true {m} h t {p = p} near v b start lb e is x_is x_turned y_is y_turned =
    ap₂ (value m) (x_is refl) (y_is refl) ∙ one_turn m _ (b * p.k) _ (rw (start refl).none (omega arith))
lane_value false h t {p = p} {l = l} near v b start lb e is x_is x_turned y_is y_turned = turned_lane h t p l v b _ e (omega (arith, near.exponents b lb)) is (x_turned refl) (y_turned refl)

pub held_by : {m : ℕ} {re im sre sim : List ℕ} (t : ShiftedTable m re im sre sim) (k : ℕ) {w : Factor} → w ≡ factor_at m sre sim k → Held m w
held_by {m} t k e = subst (Held m) (sym e) (held_at t k)

-- what a value's parts ask
pub turned_asks : {m : ℕ} {re im sre sim : List ℕ} {B : ℕ} {p : Places} {l : List ℕ} → IsModulus m × RootTable m re im × ShiftedTable m re im sre sim → Apart B p l → UpTo 1073741823 l
    → (v b k : ℕ) {w : Factor} → v < 16 → b < B → B ≤ 5 → w ≡ factor_at m sre sim k
    → IsModulus m × Held m w × (b < 5) × (v < 16) × (32 * (b * p.stride + p.first) + 32 ≤ length l) × UpTo 1073741823 l
turned_asks modulus near up v b k lv lb few is = (modulus.0, held_by modulus.2 k is, omega arith, lv, near.inside b lb, up)

pub low_by : {X : ℕ} {l : List ℕ} → UpTo X l → (k : ℕ) {x : ℕ} → x ≡ get_or l k 0 → x ≤ X
low_by {X} h k e = subst (λ y. y ≤ X) (sym e) (h.each k)

pub shifted_by : {m : ℕ} {re im sre sim : List ℕ} (t : ShiftedTable m re im sre sim) (k : ℕ) {w : Factor} → k < 2880 → w ≡ factor_at m sre sim k
    → Shifted m w (res m (entry_at re im k).re, res m (entry_at re im k).im)
unfolding entry_at
shifted_by {m} {re} {im} t k lt e = subst (λ w. Shifted m w (res m (get_or re k 0), res m (get_or im k 0))) (sym e) (shifted_at t k lt)

-- with the turn as it was computed
pub three_as : {m : ℕ} {z : Factor} {o a b c t u : ℕ} {r : Three} → t ≡ u → ThreeOf m z o a b c t r → ThreeOf m z o a b c u r
three_as {m} {z} {o} {a} {b} {c} {r = r} e h = subst (λ t. ThreeOf m z o a b c t r) e h

pub five_as : {m : ℕ} {w z : Factor} {o a b c d e t u t' u' : ℕ} {r : Five} → t ≡ t' → u ≡ u' → FiveOf m w z o a b c d e t u r → FiveOf m w z o a b c d e t' u' r
five_as {m} {w} {z} {o} {a} {b} {c} {d} {e} {t} {u} {t'} {u'} {r} p q h = subst (λ t. FiveOf m w z o a b c d e t u' r) p (subst (λ u. FiveOf m w z o a b c d e t u r) q h)
