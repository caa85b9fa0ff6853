-- Alternating lines in lanes: the coefficients of each place, by the angle of e(s/N), and the places one after the other.
use mathlib.Core.Path.{◌≡◌, refl, sym, ◌∙◌, ap, ap₂, subst}
use mathlib.Core.Bool.{Bool, true, false}
use mathlib.Core.Logic.{◌≢◌, ⊎_elim}
use mathlib.Core.List.{List, [], ◌∷◌}
use Prim.Native.Nat.{ℕ, zero, suc, ◌+◌, ◌*◌, ◌-◌, ◌<◌, ◌≤◌}
use native.Mathlib.Omega.{arith}
use lib.ListN.{get_or, length}
use Rattle.algebra.specs.ring.Ring.{residues, gauss}
use Rattle.algebra.specs.lines.Folds.{csc, cot}
use Rattle.algebra.proofs.ring.Laws.{neg_neg}
use Rattle.algebra.proofs.ring.Solver.{ring, quote}
use Rattle.numbers.specs.declared.Pair.{Pair}
use Rattle.numbers.specs.Value.{prime, IsModulus, Value, Residue, field, i, real, half, value_of}
use Rattle.numbers.specs.Value as Value
use Rattle.numbers.specs.Bounds.{res}
use Rattle.numbers.proofs.Primes.{prime_pos, prime_most}
use Rattle.numbers.proofs.Residues.{res_ring, res_by, below_by}
use Rattle.numbers.proofs.RealValues.{real_add, real_neg, real_mul}
use Rattle.numbers.proofs.Values.{value_path, field_ring, i_times}
use Rattle.slices.proofs.Pairs.{eq_or_ne}
use Rattle.fold_formulas.specs.FoldFormulas.{stride, tangent}
use Rattle.batches.specs.Reduction.{Holds}
use Rattle.batches.specs.Lanes.{lane_at, UpTo, Good}
use Rattle.batches.specs.Copying.{PutBlock}
use Rattle.batches.proofs.Meaning.{shift}
use Rattle.batches.proofs.LastReduction.{shift_holds}
use Rattle.batches.proofs.LaneLists.{lane_low}
use Rattle.batches.proofs.PassingLanes.{up_of}
use Rattle.folded_batches.specs.declared.mixing.Mix.{Mix}
use Rattle.folded_batches.specs.Mixing.{MixedAlone}
use Rattle.folded_batches.specs.AlternatingLanes.{Filled, cotangent, cosecant, Angle, angled, of_one, Coefficients, Angled}
use Rattle.folded_batches.proofs.MixedLanes.{on_parts, alone_parts}
use Rattle.folded_batches.proofs.HeldNumbers.{held_negative, held_product, residue_most}
use Rattle.folded_batches.proofs.AlternatingBlocks.{filled_start, filled_next}

-- ---- the angle of a place, times 2^32

module _ (m : ℕ) where
  open Value.ring m use {add as ◌⊞◌, mul as ◌⊠◌, neg as ⊟◌, zer as 𝟎, one as 𝟏}

  infixl 65 ◌⊞◌
  infixl 70 ◌⊠◌
  infix 75 ⊟◌
  pub zero_res : res m 0 ≡ 𝟎
  unfolding residues
  zero_res = refl

  pub zero_holds : Holds m 0 𝟎
  zero_holds = record { is = zero_res ∙ ring (res_ring m) (shift m ∷ []) (search quote depth 40 fits 9999) refl }

  held_as : {c : ℕ} {x y : Residue m} → Holds m c x → x ≡ y → Holds m c y
  held_as h e = record { is = h.is ∙ ap (λ z. shift m ⊠ z) e }

  -- half of a number that is held
  half_holds : {one h : ℕ} → one ≡ (res m 4294967296).val → h ≡ (half m ⊠ res m one).val → Holds m h (half m)
  half_holds {one} e eh = record { is = res_by m (half m ⊠ res m one) eh ∙ ap (λ z. half m ⊠ z) (res_by m (shift m) e) ∙ (res_ring m).mul_comm (half m) (shift m) }

  module _ (A : ℕ) (tan : List ℕ) where
    pub angle_zero : (s : ℕ) {one : ℕ} → s ≡ 0 → one ≡ (res m 4294967296).val → Angle m A tan s (record { re = 0; im = one })
    unfolding cotangent cosecant
    angle_zero zero z e = record { low = record { re = prime_pos m; im = below_by m (res m 4294967296) e }; cot = zero_holds; csc = shift_holds m e }
    angle_zero (suc s) z e = absurd (omega arith)

    pub angle_rest : (s : ℕ) {one h near far d e r r' : ℕ} → (s ≡ 0 → ⊥) → one ≡ (res m 4294967296).val → h ≡ (half m ⊠ res m one).val
        → near ≡ get_or tan (stride A * s) 0 → far ≡ get_or tan (stride A * (A - s)) 0
        → d ≡ (res m far ⊞ ⊟ res m near).val → r ≡ (res m h ⊠ res m d).val → e ≡ (res m near ⊞ res m far).val → r' ≡ (res m h ⊠ res m e).val
        → Angle m A tan s (record { re = r; im = r' })
    unfolding cotangent cosecant
    angle_rest zero z eo eh en ef ed er ee es = absurd (z refl)
    angle_rest (suc s) {h = h} {near} {far} {d} {e} z eo eh en ef ed er ee es = record {
      low = record { re = below_by m (res m h ⊠ res m d) er; im = below_by m (res m h ⊠ res m e) es };
      cot = held_as (held_product m h d er (half_holds eo eh)) (ap (λ x. half m ⊠ x) (res_by m (res m far ⊞ ⊟ res m near) ed ∙ ap₂ (λ x y. res m x ⊞ ⊟ res m y) ef en));
      csc = held_as (held_product m h e es (half_holds eo eh)) (ap (λ x. half m ⊠ x) (res_by m (res m near ⊞ res m far) ee ∙ ap₂ (λ x y. res m x ⊞ res m y) en ef));
    }

    -- ---- the coefficients

    abbrev together_of : (c d : Residue m) → Value m → Value m
    together_of c d z = (z.0, ⊟ (z.0 ⊠ c ⊞ z.1 ⊠ d))

    over_i_lem : (x : Value m) → (field m).mul ((field m).neg (i m)) x ≡ (x.1, ⊟ x.0)
    unfolding gauss
    over_i_lem x = turn (i m) x ∙ ap (field m).neg (i_times m x) ∙ value_path (neg_neg (res_ring m) x.1) refl
      where
        turn : (a b : Value m) → (field m).mul ((field m).neg a) b ≡ (field m).neg ((field m).mul a b)
        turn a b = ring (field_ring m) (a ∷ b ∷ []) (search quote depth 40 fits 9999) refl

    plain_parts : (c d : Residue m) (z : Value m) → on_parts m 𝟏 c 𝟎 d z ≡ (z.0 ⊞ z.1 ⊠ c, z.1 ⊠ d)
    plain_parts c d z = value_path
        (ring (res_ring m) (c ∷ z.0 ∷ z.1 ∷ []) (search quote depth 40 fits 9999) refl)
        (ring (res_ring m) (d ∷ z.0 ∷ z.1 ∷ []) (search quote depth 40 fits 9999) refl)

    over_parts : (c d : Residue m) (z : Value m) → on_parts m 𝟎 d (⊟ 𝟏) (⊟ c) z ≡ (field m).mul ((field m).neg (i m)) (z.0 ⊞ z.1 ⊠ c, z.1 ⊠ d)
    over_parts c d z = value_path
        (ring (res_ring m) (d ∷ z.0 ∷ z.1 ∷ []) (search quote depth 40 fits 9999) refl)
        (ring (res_ring m) (c ∷ z.0 ∷ z.1 ∷ []) (search quote depth 40 fits 9999) refl)
        ∙ sym (over_i_lem (z.0 ⊞ z.1 ⊠ c, z.1 ⊠ d))

    back_parts : (c d : Residue m) (z : Value m) → on_parts m 𝟏 𝟎 (⊟ c) (⊟ d) z ≡ (z.0, ⊟ (z.0 ⊠ c ⊞ z.1 ⊠ d))
    back_parts c d z = value_path
        (ring (res_ring m) (z.0 ∷ z.1 ∷ []) (search quote depth 40 fits 9999) refl)
        (ring (res_ring m) (c ∷ d ∷ z.0 ∷ z.1 ∷ []) (search quote depth 40 fits 9999) refl)

    times_parts : (c d : Residue m) (z : Value m) → on_parts m 𝟎 (⊟ 𝟏) (⊟ d) c z ≡ together_of c d ((field m).mul (i m) z)
    times_parts c d z = value_path
        (ring (res_ring m) (z.0 ∷ z.1 ∷ []) (search quote depth 40 fits 9999) refl)
        (ring (res_ring m) (c ∷ d ∷ z.0 ∷ z.1 ∷ []) (search quote depth 40 fits 9999) refl)
        ∙ ap (together_of c d) (sym (i_times m z))

    module _ {s : ℕ} {w : Pair} {one : ℕ} (a : Angle m A tan s w) (e : one ≡ (res m 4294967296).val) where
      one_most : one ≤ prime m
      one_most = residue_most m (res m 4294967296) e

      pub coefficients_plain : Coefficients m 0 false A tan s (of_one one w.re 0 w.im)
      coefficients_plain = record {
        held = record { a1 = one_most; a2 = omega (arith, a.low.re); a3 = omega arith; a4 = omega (arith, a.low.im); b1 = omega arith; b2 = omega arith; b3 = omega arith; b4 = omega arith };
        is = λ l y h v lv. subst (Good m (2 * prime m) (lane_at y 0 v)) (plain_parts (cotangent m A tan s) (cosecant m A tan s) (value_of m (lane_at l s v)))
            (alone_parts h lv (record { first = shift_holds m e; second = a.cot; third = zero_holds; fourth = a.csc }));
      }

      pub coefficients_over : {n k : ℕ} → n ≡ (⊟ res m one).val → k ≡ (⊟ res m w.re).val
          → Coefficients m 0 true A tan s (of_one 0 w.im n k)
      coefficients_over en ek = record {
        held = record { a1 = omega arith; a2 = omega (arith, a.low.im); a3 = residue_most m (⊟ res m one) en; a4 = residue_most m (⊟ res m w.re) ek; b1 = omega arith; b2 = omega arith; b3 = omega arith; b4 = omega arith };
        is = λ l y h v lv. subst (Good m (2 * prime m) (lane_at y 0 v)) (over_parts (cotangent m A tan s) (cosecant m A tan s) (value_of m (lane_at l s v)))
            (alone_parts h lv (record { first = zero_holds; second = a.csc; third = held_negative m one en (shift_holds m e); fourth = held_negative m w.re ek a.cot }));
      }

      pub coefficients_back : {n k : ℕ} → n ≡ (⊟ res m w.re).val → k ≡ (⊟ res m w.im).val → Coefficients m 1 false A tan s (of_one one 0 n k)
      coefficients_back en ek = record {
        held = record { a1 = one_most; a2 = omega arith; a3 = residue_most m (⊟ res m w.re) en; a4 = residue_most m (⊟ res m w.im) ek; b1 = omega arith; b2 = omega arith; b3 = omega arith; b4 = omega arith };
        is = λ l y h v lv. subst (Good m (2 * prime m) (lane_at y 0 v)) (back_parts (cotangent m A tan s) (cosecant m A tan s) (value_of m (lane_at l s v)))
            (alone_parts h lv (record { first = shift_holds m e; second = zero_holds; third = held_negative m w.re en a.cot; fourth = held_negative m w.im ek a.csc }));
      }

      pub coefficients_times : {n k : ℕ} → n ≡ (⊟ res m one).val → k ≡ (⊟ res m w.im).val → Coefficients m 1 true A tan s (of_one 0 n k w.re)
      coefficients_times en ek = record {
        held = record { a1 = omega arith; a2 = residue_most m (⊟ res m one) en; a3 = residue_most m (⊟ res m w.im) ek; a4 = omega (arith, a.low.re); b1 = omega arith; b2 = omega arith; b3 = omega arith; b4 = omega arith };
        is = λ l y h v lv. subst (Good m (2 * prime m) (lane_at y 0 v)) (times_parts (cotangent m A tan s) (cosecant m A tan s) (value_of m (lane_at l s v)))
            (alone_parts h lv (record { first = zero_holds; second = held_negative m one en (shift_holds m e); third = held_negative m w.im ek a.csc; fourth = a.cot }));
      }

    -- ---- the cotangent and the cosecant as values

    pub cot_is : (s : ℕ) → real m (cotangent m A tan (suc s)) ≡ cot (field m) (real m (half m)) A (tangent m A tan) (suc s)
    unfolding cotangent cot
    cot_is s = real_mul m _ _ ∙ ap ((field m).mul (real m (half m))) (real_add m _ _ ∙ ap ((field m).add (tangent m A tan (A - suc s))) (real_neg m _))

    pub csc_is : (s : ℕ) → real m (cosecant m A tan (suc s)) ≡ csc (field m) (real m (half m)) A (tangent m A tan) (suc s)
    unfolding cosecant csc
    csc_is s = real_mul m _ _ ∙ ap ((field m).mul (real m (half m))) (real_add m _ _)

-- as the code has them
pub coefficients_at : {m direction A s : ℕ} {tan : List ℕ} {k l : Mix} {b c : Bool} → direction ≡ 0 → b ≡ c → k ≡ l → Coefficients m 0 c A tan s l → Coefficients m direction b A tan s k
coefficients_at {m} {direction} {A} {s} {tan} {k} {l} {b} {c} z e f h = subst (λ k. Coefficients m direction b A tan s k) (sym f) (subst (λ b. Coefficients m direction b A tan s l) (sym e) (subst (λ d. Coefficients m d c A tan s l) (sym z) h))

pub coefficients_of : {m direction A s : ℕ} {tan : List ℕ} {k l : Mix} {b c : Bool} → (direction ≡ 0 → ⊥) → b ≡ c → k ≡ l → Coefficients m 1 c A tan s l → Coefficients m direction b A tan s k
coefficients_of {m} {direction} {A} {s} {tan} {k} {l} {b} {c} z e f h = subst (λ k. Coefficients m direction b A tan s k) (sym f) (subst (λ b. Coefficients m direction b A tan s l) (sym e) (later direction z h))
  where
    later : (d : ℕ) → (d ≡ 0 → ⊥) → Coefficients m 1 c A tan s l → Coefficients m d c A tan s l
    later zero z h = absurd (z refl)
    later (suc d) z h = record { held = h.held; is = h.is }

-- ---- the numbers stay low

up_put : (n : ℕ) {X j : ℕ} {y d e : List ℕ} → length d ≡ 32 * n → UpTo X d → PutBlock y 0 j d e → ((v : ℕ) → v < 16 → ((lane_at y 0 v).re ≤ X) × ((lane_at y 0 v).im ≤ X)) → UpTo X e
up_put n {X} {j} {e = e} long up h low = up_of (h.long ∙ long) (λ v i lv li. ⊎_elim
    (λ (q : i ≡ j). subst (λ k. ((lane_at e k v).re ≤ X) × ((lane_at e k v).im ≤ X)) (sym q) (subst (λ (x : Pair). (x.re ≤ X) × (x.im ≤ X)) (sym (h.new v lv)) (low v lv)))
    (λ (other : i ≢ j). subst (λ (x : Pair). (x.re ≤ X) × (x.im ≤ X)) (sym (h.kept i v lv other)) (lane_low up i v))
    (eq_or_ne i j))

-- ---- the loop: places below s are turned, the others as they were

pub record Turning (m direction : ℕ) (b : Bool) (A : ℕ) (tan before : List ℕ) (s : ℕ) (d y : List ℕ) : Type 0 where
  pub filled : Filled (Angled m direction b A tan before) s d
  pub kept : (j v : ℕ) → s ≤ j → v < 16 → lane_at d j v ≡ lane_at before j v
  pub long : length d ≡ 32 * A
  pub low : UpTo 1073741823 d
  pub block : length y ≡ 32

module _ {m direction : ℕ} {b : Bool} {A : ℕ} {tan before : List ℕ} where
  pub turning_start : {y : List ℕ} → length before ≡ 32 * A → UpTo 1073741823 before → length y ≡ 32 → Turning m direction b A tan before 0 before y
  turning_start long low e = record { filled = filled_start; kept = λ j v l lv. refl; long = long; low = low; block = e }

  pub turning_next : {s : ℕ} {d y e y' : List ℕ} {k : Mix} → IsModulus m → Turning m direction b A tan before s d y → Coefficients m direction b A tan s k → MixedAlone m k d s 16 y' → PutBlock y' 0 s d e → Turning m direction b A tan before (s + 1) e y'
  turning_next {s} {d} {y' = y'} is h k mixed put = record {
    filled = filled_next h.filled put (λ v lv. subst (λ (x : Pair). Good m (2 * prime m) (lane_at y' 0 v) (angled m direction b A tan s (value_of m x))) (h.kept s v (omega arith) lv) (good v lv));
    kept = λ j v l lv. put.kept j v lv (λ q. omega arith) ∙ h.kept j v (omega arith) lv;
    long = put.long ∙ h.long;
    low = up_put A h.long h.low put (λ v lv. (omega (arith, (good v lv).re, prime_most is), omega (arith, (good v lv).im, prime_most is)));
    block = mixed.long;
  }
    where
      good : (v : ℕ) → v < 16 → Good m (2 * prime m) (lane_at y' 0 v) (angled m direction b A tan s (value_of m (lane_at d s v)))
      good v lv = k.is d y' mixed v lv
