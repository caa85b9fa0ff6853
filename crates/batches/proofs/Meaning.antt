-- What the numbers of a lane stand for: a number divided by 2^32, a factor times a value, and the sums of a butterfly.
use mathlib.Core.Path.{◌≡◌, refl, sym, ◌∙◌, ap, ap₂, subst}
use mathlib.Core.Bool.{Bool, true, false, cond}
use mathlib.Core.List.{List, [], ◌∷◌}
use Prim.Native.Nat.{ℕ, ◌+◌, ◌*◌, ◌-◌, ◌%◌, ◌<◌, ◌≤◌}
use native.Mathlib.Nat as N
use native.Mathlib.Omega.{arith}
use lib.Dec.{eqb}
use lib.ListN.{get_or}
use Rattle.algebra.specs.ring.Ring.{pow, residue, residues, gauss}
use Rattle.algebra.proofs.ring.Laws.{along, mul_neg, neg_unique}
use Rattle.algebra.proofs.ring.Solver.{ring, quote}
use Rattle.algebra.proofs.ring.ResidueRing.{val_path, residue_add, residue_mul, residue_neg}
use Rattle.numbers.specs.declared.Pair.{Pair}
use Rattle.numbers.specs.Value.{prime, IsModulus, Value, Residue, field, i, value, real, value_of, pair_of}
use Rattle.numbers.specs.Value as Value
use Rattle.numbers.specs.Bounds.{res}
use Rattle.numbers.proofs.Residues.{res_ring, res_val}
use Rattle.numbers.proofs.Values.{value_path, i_times, real_times}
use Rattle.roots.specs.Table.{entry_at, table_root, RootTable}
use Rattle.batches.specs.declared.lane.Factor.{Factor}
use Rattle.batches.specs.Reduction.{Divided, Held, Holds, Shifted, ShiftedTable, Zero, factor_at}

-- ---- 2^32 has a reciprocal, so it can be cancelled

abbrev back_number : ℕ → ℕ
back_number m = cond (eqb m 1) 14960 175785

back_mod : (b : Bool) → 4294967296 * cond b 14960 175785 % cond b 86399 302399 ≡ 1 % cond b 86399 302399
back_mod true = refl
back_mod false = refl

module _ (m : ℕ) where
  open Value.ring m use {add as ◌⊞◌, mul as ◌⊠◌, neg as ⊟◌, one as 𝟏, zer as 𝟎}

  infixl 65 ◌⊞◌
  infixl 70 ◌⊠◌
  infix 75 ⊟◌
  abbrev pub shift : Residue m
  shift = res m 4294967296

  abbrev back : Residue m
  back = res m (back_number m)

  back_is : back ⊠ shift ≡ 𝟏
  unfolding residues residue prime
  back_is = (res_ring m).mul_comm back shift ∙ sym (residue_mul (prime m) 4294967296 (back_number m)) ∙ val_path (back_mod (eqb m 1))

  pub cancel : {a b : Residue m} → shift ⊠ a ≡ shift ⊠ b → a ≡ b
  cancel {a} {b} e = sym (undo a) ∙ ap (λ x. back ⊠ x) e ∙ undo b
    where
      undo : (x : Residue m) → back ⊠ (shift ⊠ x) ≡ x
      undo x = sym ((res_ring m).mul_assoc back shift x) ∙ ap (λ y. y ⊠ x) back_is ∙ (res_ring m).one_mul x

  multiple_none : (x k : ℕ) → res m (x + prime m * k) ≡ res m x
  unfolding residue
  multiple_none x k = val_path (N.add-mul-mod_self_left x (prime m) k)

  pub divided_res : {x r : ℕ} → Divided m x r → shift ⊠ res m r ≡ res m x
  divided_res {x} {r} h = sym (residue_mul (prime m) 4294967296 r) ∙ ap (res m) h.is ∙ multiple_none x h.times

  pub weighed_res : (c a d b : ℕ) {r : ℕ} {c₀ d₀ : Residue m} → Divided m (c * a + d * b) r → Holds m c c₀ → Holds m d d₀ → res m r ≡ c₀ ⊠ res m a ⊞ d₀ ⊠ res m b
  weighed_res c a d b {r} {c₀} {d₀} h e f = cancel
      (divided_res h ∙ residue_add (prime m) (c * a) (d * b) ∙ ap₂ ◌⊞◌ (residue_mul (prime m) c a) (residue_mul (prime m) d b)
      ∙ ap₂ (λ x y. x ⊠ res m a ⊞ y ⊠ res m b) e.is f.is
      ∙ ring (res_ring m) (shift ∷ c₀ ∷ d₀ ∷ res m a ∷ res m b ∷ []) (search quote depth 40 fits 9999) refl)

  pub scaled_res : (c a : ℕ) {r : ℕ} {c₀ : Residue m} → Divided m (c * a) r → Holds m c c₀ → res m r ≡ c₀ ⊠ res m a
  scaled_res c a {r} {c₀} h e = cancel
      (divided_res h ∙ residue_mul (prime m) c a ∙ ap (λ x. x ⊠ res m a) e.is ∙ (res_ring m).mul_assoc shift c₀ (res m a))

  -- a factor times a value
  pub turned_value_lem : {w : Factor} {z : Value m} (a b : ℕ) {r s : ℕ} → Shifted m w z → Divided m (w.re * a + w.minus * b) r → Divided m (w.re * b + w.im * a) s
      → value m r s ≡ (field m).mul z (value m a b)
  unfolding gauss
  turned_value_lem {w} {z} a b h hr hs = value_path
      (weighed_res w.re a w.minus b hr h.re h.minus ∙ ring (res_ring m) (z.0 ∷ z.1 ∷ res m a ∷ res m b ∷ []) (search quote depth 40 fits 9999) refl)
      (weighed_res w.re b w.im a hs h.re h.im ∙ ring (res_ring m) (z.0 ∷ z.1 ∷ res m a ∷ res m b ∷ []) (search quote depth 40 fits 9999) refl)

  -- ---- differences: a multiple of the prime stands for 0

  module _ {o : ℕ} (none : Zero m o) where
    res_none : res m o ≡ 𝟎
    unfolding residues
    res_none = along (res m) o (0 + prime m * none.times) (omega (arith, none.is)) ∙ multiple_none 0 none.times

    res_taken : (n : ℕ) → n ≤ o → res m (o - n) ≡ ⊟ res m n
    unfolding residues
    res_taken n l = neg_unique (res_ring m) (res m n) (res m (o - n))
        (sym (residue_add (prime m) n (o - n)) ∙ along (residue (prime m)) (n + (o - n)) o (omega arith) ∙ res_none)

    res_apart : (a n : ℕ) → n ≤ o → res m (a + (o - n)) ≡ res m a ⊞ ⊟ res m n
    res_apart a n l = residue_add (prime m) a (o - n) ∙ ap (λ x. res m a ⊞ x) (res_taken n l)

    pub apart_value : (a b u v : ℕ) → u ≤ o → v ≤ o → value m (a + (o - u)) (b + (o - v)) ≡ (field m).add (value m a b) ((field m).neg (value m u v))
    unfolding gauss
    apart_value a b u v lu lv = value_path (res_apart a u lu) (res_apart b v lv)

    pub times_i_value : (a b u v : ℕ) → b ≤ o → u ≤ o → value m (v + (o - b)) (a + (o - u)) ≡ (field m).mul (i m) ((field m).add (value m a b) ((field m).neg (value m u v)))
    unfolding gauss
    times_i_value a b u v lb lu =
        value_path
        (res_apart v b lb ∙ ring (res_ring m) (res m b ∷ res m v ∷ []) (search quote depth 40 fits 9999) refl)
        (res_apart a u lu)
        ∙ sym (i_times m (res m a ⊞ ⊟ res m u, res m b ⊞ ⊟ res m v))

  -- ---- real factors of a value: both parts by one number

  pub scaled_value : (c x y : ℕ) {r s : ℕ} {c₀ : Residue m} → Divided m (c * x) r → Divided m (c * y) s → Holds m c c₀ → value m r s ≡ (field m).mul (real m c₀) (value m x y)
  scaled_value c x y {c₀ = c₀} hr hs e = value_path (scaled_res c x hr e) (scaled_res c y hs e) ∙ sym (real_times m c₀ (value m x y))

  pub weighed_value : (c x y d u v : ℕ) {r s : ℕ} {c₀ d₀ : Residue m} → Divided m (c * x + d * u) r → Divided m (c * y + d * v) s → Holds m c c₀ → Holds m d d₀
      → value m r s ≡ (field m).add ((field m).mul (real m c₀) (value m x y)) ((field m).mul (real m d₀) (value m u v))
  unfolding gauss
  weighed_value c x y d u v {c₀ = c₀} {d₀ = d₀} hr hs e f =
      value_path (weighed_res c x d u hr e f) (weighed_res c y d v hs e f) ∙ sym (ap₂ (field m).add (real_times m c₀ (value m x y)) (real_times m d₀ (value m u v)))

-- ---- a factor of the tables

module _ {m : ℕ} {re im sre sim : List ℕ} (t : ShiftedTable m re im sre sim) (k : ℕ) where
  pub held_at : Held m (factor_at m sre sim k)
  held_at = record { re = omega (arith, t.low_re k); im = omega (arith, t.low_im k); minus = omega (arith, t.low_im k) }

  pub shifted_at : k < 2880 → Shifted m (factor_at m sre sim k) (res m (get_or re k 0), res m (get_or im k 0))
  shifted_at l = record {
    re = record { is = t.re_is k l };
    im = record { is = t.im_is k l };
    minus = record { is = residue_neg (prime m) (get_or sim k 0) (t.low_im k) ∙ ap (Value.ring m).neg (t.im_is k l) ∙ sym (mul_neg (res_ring m) (shift m) (res m (get_or im k 0))) };
  }

  pub shifted_power : RootTable m re im → k < 2880 → Shifted m (factor_at m sre sim k) (pow (field m) (table_root m re im) k)
  unfolding entry_at pair_of
  shifted_power h l = subst (Shifted m (factor_at m sre sim k)) (value_path (entry_re ∙ res_val m _) (entry_im ∙ res_val m _)) (shifted_at l)
    where
      entry_re : res m (get_or re k 0) ≡ res m (pow (field m) (table_root m re im) k).0.val
      entry_re = ap (λ (v : Pair). res m v.re) (h.entry k l)

      entry_im : res m (get_or im k 0) ≡ res m (pow (field m) (table_root m re im) k).1.val
      entry_im = ap (λ (v : Pair). res m v.im) (h.entry k l)
