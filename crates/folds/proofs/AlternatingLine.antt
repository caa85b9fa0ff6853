-- The passes and the plain transform between them make up the alternating line's transform, as algebra's FoldKinds has it.
use mathlib.Core.Path.{◌≡◌, sym, ◌∙◌, ap, ap₂}
use mathlib.Core.List.{List}
use Prim.Native.Nat.{ℕ, zero, suc, ◌+◌, ◌*◌, ◌-◌, ◌/◌, ◌%◌, ◌<◌}
use native.Mathlib.Omega.{arith}
use Rattle.algebra.specs.ring.Ring.{Ops, pow, sum, dft}
use Rattle.algebra.specs.lines.Kinds.{re, im, unit, interleave, pack_by, Kind.alternating, slots}
use Rattle.algebra.specs.lines.Packings.{unfold_b3, pack_b3}
use Rattle.algebra.specs.lines.Folds.{mate, csc, cot, alternating_point, finish3, alternating_spectrum, twice_M, line3}
use Rattle.algebra.specs.lines.FoldKinds.{fold_forward, fold_back}
use Rattle.numbers.specs.Value.{Residue, Value, field, conj, i, real, half, on_values}
use Rattle.numbers.specs.Bounds.{res}
use Rattle.roots.specs.Table.{table_root}
use Rattle.numbers.proofs.Residues.{res_by}
use Rattle.numbers.proofs.Values.{field_star}
use Rattle.slices.specs.Pairs.{values_of, list_of}
use Rattle.slices.proofs.Values.{list_cong}
use Rattle.fold_formulas.specs.FoldFormulas.{line_root, Frame}
use Rattle.fold_formulas.proofs.ShortTransform.{short_transform}

-- ---- each form reads the short transform at places below A

module _ {R : Type 0} (𝓞 : Ops R) (conj : R → R) (i half : R) (A : ℕ) where
  finish3_cong : (tau y z : ℕ → R) (m n : R) (s : ℕ) → y s ≡ z s → m ≡ n → finish3 𝓞 conj i half A tau y m s ≡ finish3 𝓞 conj i half A tau z n s
  unfolding finish3
  finish3_cong tau y z m n zero e h = ap₂ (λ y m. 𝓞.add (𝓞.add (re 𝓞 conj i half y) m) (𝓞.mul i m)) e h
  finish3_cong tau y z m n (suc s) e h =
      ap (λ y. 𝓞.add (𝓞.add (re 𝓞 conj i half y) (𝓞.mul (im 𝓞 conj i half y) (cot 𝓞 half A tau (suc s)))) (𝓞.mul i (𝓞.mul (im 𝓞 conj i half y) (csc 𝓞 half A tau (suc s))))) e

  interleave_cong : (f g f' g' : ℕ → R) (s : ℕ) → f (s / 2) ≡ f' (s / 2) → g (s / 2) ≡ g' (s / 2) → interleave f g s ≡ interleave f' g' s
  unfolding interleave
  interleave_cong f g f' g' s a b = go (s % 2)
    where
      go : (k : ℕ) → ◌≡◌ {A = R} (elim k as (λ k. R) [ zero ↦ f (s / 2) | suc k ↦ g (s / 2) ]) (elim k as (λ k. R) [ zero ↦ f' (s / 2) | suc k ↦ g' (s / 2) ])
      go zero = a
      go (suc k) = b

  mate_below : (t : ℕ) → t < A → mate A t < A
  unfolding mate
  mate_below zero l = l
  mate_below (suc t) l = omega arith

  line3_cong : (part : R) (y z : ℕ → R) (m : R) → ((t : ℕ) → t < A → y t ≡ z t) → (j : ℕ) → j < 2 * A → line3 𝓞 conj i half A part y m j ≡ line3 𝓞 conj i half A part z m j
  unfolding line3
  line3_cong part y z m e j l = interleave_cong _ _ _ _ j
      (ap₂ (λ a b. 𝓞.mul part (𝓞.add a (conj b))) (e (j / 2) (omega arith)) (e (mate A (j / 2)) (mate_below (j / 2) (omega arith))))
      (ap₂ (λ a b. 𝓞.mul part (𝓞.mul i (𝓞.add m (𝓞.neg (𝓞.add a (conj b)))))) (e (j / 2) (omega arith)) (e (A - suc (j / 2)) (omega arith)))

  packed_cong : (part : R) (y z : ℕ → R) (m : R) → ((t : ℕ) → t < A → y t ≡ z t) → (t : ℕ) → t < A
      → pack_b3 𝓞 conj i half A (line3 𝓞 conj i half A part y m) t ≡ pack_b3 𝓞 conj i half A (line3 𝓞 conj i half A part z m) t
  unfolding pack_by
  packed_cong part y z m e zero l = ap₂ (λ x y. 𝓞.add x (𝓞.mul i (𝓞.mul (conj (unit 𝓞 conj i half A A)) y))) (line3_cong part y z m e 0 (omega arith)) (line3_cong part y z m e A (omega arith))
  packed_cong part y z m e (suc t) l = line3_cong part y z m e (suc t) (omega arith)

-- ---- the two directions

module _ (m A : ℕ) {reals imags : List ℕ} (f : Frame m A reals imags) (tau p : ℕ → Value m) where
  abbrev v : Value m
  v = line_root m A reals imags

  pub forward_by : (odd share : Value m) {d e l : List ℕ}
      → odd ≡ sum (field m) A (λ t. on_values m im (on_values m unfold_b3 A p (2 * t + 1)))
      → d ≡ list_of A (alternating_point (field m) (i m) (on_values m unfold_b3 A p))
      → e ≡ list_of A (dft (field m) A (pow (field m) (table_root m reals imags) (2880 / A)) (values_of m d))
      → l ≡ list_of A (on_values m finish3 A tau (values_of m e) odd)
      → l ≡ list_of (slots alternating A) (on_values m fold_forward A v share tau alternating p)
  unfolding slots fold_forward
  forward_by odd share eo ed ee el =
      el ∙ list_cong m A _ _ (λ s h. finish3_cong (field m) (conj m) (i m) (real m (half m)) A tau _ _ _ _ s (short_transform f _ ed ee s h) eo)

  -- what the last pass leaves comes first: x, twice and e are then as its call has them
  pub back_by : (share : Residue m) {x : ℕ} {twice : Value m} {d e l : List ℕ}
      → l ≡ list_of A (on_values m pack_b3 A (on_values m line3 A (real m (res m x)) (values_of m e) twice))
      → x ≡ share.val
      → twice ≡ on_values m twice_M A p
      → d ≡ list_of A (on_values m alternating_spectrum A tau p)
      → e ≡ list_of A (dft (field m) A (pow (field m) (table_root m reals imags) (2880 / A)) (values_of m d))
      → l ≡ list_of (slots alternating A) (on_values m fold_back A (conj m v) (real m share) tau alternating p)
  unfolding slots fold_back
  back_by share {x} {twice} {d} {e} el ex et ed ee =
      el
      ∙ list_cong m A _ _ (λ t h. packed_cong (field m) (conj m) (i m) (real m (half m)) A (real m (res m x)) (values_of m e) _ twice short t h)
      ∙ ap₂ (λ u n. list_of A (on_values m pack_b3 A (on_values m line3 A (real m u) (dft (field m) A (pow (field m) (conj m (conj m v)) 2) (on_values m alternating_spectrum A tau p)) n))) (res_by m share ex) et
    where
      short : (s : ℕ) → s < A → values_of m e s ≡ dft (field m) A (pow (field m) (conj m (conj m v)) 2) (on_values m alternating_spectrum A tau p) s
      short s k = short_transform f _ ed ee s k ∙ ap (λ w. dft (field m) A (pow (field m) w 2) (on_values m alternating_spectrum A tau p) s) (sym ((field_star m).conj_conj v))
