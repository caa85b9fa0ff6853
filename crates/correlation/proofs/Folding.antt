-- Numbers taken together by an operation: in blocks, reordered, and of two runs that agree; the sum and the largest of a map by its places.
use mathlib.Core.Path.{◌≡◌, refl, sym, ◌∙◌, ap, ap₂}
use mathlib.Core.Bool.{cond}
use mathlib.Core.List.{List}
use Prim.Native.Nat.{ℕ, zero, suc, ◌+◌, ◌-◌, ◌*◌, ◌%◌, ◌<◌, ◌≤◌}
use native.Mathlib.Nat.{mod-eq_of_lt, add-mod_right}
use native.Mathlib.Omega.{arith}
use lib.Dec.{ltb}
use lib.ListN.{get_or}
use lib.IntN.{ℤ, pos, nat_abs}
use borrow.Author.Tests.{lt-ltb, le-ltb}
use Rattle.algebra.specs.cells.Cell.{J, P1, planes}
use Rattle.algebra.proofs.ring.Laws.{along}
use Rattle.slices.proofs.Rows.{row_col}
use Rattle.cell.specs.Volume.{layers, rows, columns, volume_length, map_place}
use Rattle.combined.specs.CombinedMap.{count_of}
use Rattle.combined.proofs.PackedMaps.{count_stored}
use Rattle.correlation.specs.Correlation.{larger, over, over_cell}
use Rattle.correlation.specs.Steps.{magnitude_at}
use Rattle.correlation.proofs.Scans.{larger_is}

pub over_cong : (op : ℕ → ℕ → ℕ) (n : ℕ) (f g : ℕ → ℕ) → ((i : ℕ) → i < n → f i ≡ g i) → over op n f ≡ over op n g
unfolding over
over_cong op zero f g e = refl
over_cong op (suc n) f g e = ap₂ op (over_cong op n f g (λ i l. e i (omega arith))) (e n (omega arith))

-- ---- an operation whose order of taking together does not matter, with 0 as neutral number

pub record Folds (op : ℕ → ℕ → ℕ) : Type 0 where
  pub assoc : (a b c : ℕ) → op (op a b) c ≡ op a (op b c)
  pub right_zero : (a : ℕ) → op a 0 ≡ a

pub sum_folds : Folds ◌+◌
sum_folds = record { assoc = λ a b c. omega arith; right_zero = λ a. omega arith }

pub larger_folds : Folds larger
larger_folds = record {
  assoc = λ a b c. omega (arith, larger_is a b, larger_is b c, larger_is (larger a b) c, larger_is a (larger b c));
  right_zero = λ a. omega (arith, larger_is a 0);
}

module _ {op : ℕ → ℕ → ℕ} (𝓕 : Folds op) where
  pub over_append : (m n : ℕ) (f : ℕ → ℕ) → over op (m + n) f ≡ op (over op m f) (over op n (λ i. f (m + i)))
  unfolding over
  over_append m zero f = along (λ k. over op k f) (m + 0) m (omega arith) ∙ sym (𝓕.right_zero _)
  over_append m (suc n) f = along (λ k. over op k f) (m + suc n) (suc (m + n)) (omega arith) ∙ ap (λ k. op k (f (m + n))) (over_append m n f) ∙ 𝓕.assoc _ _ _

  over_blocks : (a b : ℕ) (f : ℕ → ℕ) → over op (a * b) f ≡ over op a (λ i. over op b (λ j. f (i * b + j)))
  unfolding over
  over_blocks zero b f = along (λ k. over op k f) (0 * b) 0 (omega arith)
  over_blocks (suc a) b f = along (λ k. over op k f) (suc a * b) (a * b + b) (omega arith) ∙ over_append (a * b) b f ∙ ap (λ k. op k (over op b (λ j. f (a * b + j)))) (over_blocks a b f)

  -- a row's last two places have nothing
  over_two : (f : ℕ → ℕ) → f 0 ≡ 0 → f 1 ≡ 0 → over op 2 f ≡ 0
  unfolding over
  over_two f p q = ap₂ (λ x y. op (op 0 x) y) p q ∙ 𝓕.right_zero _ ∙ 𝓕.right_zero 0

  over_row : (B : ℕ) (f g : ℕ → ℕ) → ((y : ℕ) → y < 2 * B → f y ≡ g y) → f (2 * B) ≡ 0 → f (2 * B + 1) ≡ 0 → over op (2 * suc B) f ≡ over op (2 * B) g
  over_row B f g e p q =
      along (λ k. over op k f) (2 * suc B) (2 * B + 2) (omega arith) ∙ over_append (2 * B) 2 f
      ∙ ap₂ op (over_cong op (2 * B) f g e) (over_two (λ i. f (2 * B + i)) (along f (2 * B + 0) (2 * B) (omega arith) ∙ p) q)
      ∙ 𝓕.right_zero _

  -- place by place as point by point
  pub over_places : (h : J) (v : List ℤ) → over op (volume_length P1 h) (magnitude_at h.1 v) ≡ over_cell op h (λ u. nat_abs (count_of P1 h v u))
  unfolding planes
  over_places h v =
      along (λ k. over op k f) (volume_length P1 h) (layers P1 h * rows P1 h * (2 * columns P1 h)) (omega arith)
      ∙ over_blocks (layers P1 h * rows P1 h) (2 * columns P1 h) f
      ∙ over_blocks (layers P1 h) (rows P1 h) (λ r. over op (2 * columns P1 h) (λ y. f (r * (2 * columns P1 h) + y)))
      ∙ over_cong op (layers P1 h) _ _ (λ z lz. over_cong op (rows P1 h) _ _ (λ x lx. over_row h.1 _ _ (λ y ly. point x y z ly lz) (end x (2 * h.1) z (omega arith) (omega arith)) (end x (2 * h.1 + 1) z (omega arith) (omega arith))))
    where
      f : ℕ → ℕ
      f = magnitude_at h.1 v

      at_column : (x y z : ℕ) → y < 2 * suc h.1 → f (map_place P1 h (x, y, z)) ≡ cond (ltb y (2 * h.1)) (nat_abs (get_or v (map_place P1 h (x, y, z)) (pos 0))) 0
      at_column x y z l = ap (λ k. cond (ltb k (2 * h.1)) (nat_abs (get_or v (map_place P1 h (x, y, z)) (pos 0))) 0) (row_col (z * rows P1 h + x) l).1

      point : (x y z : ℕ) → y < 2 * h.1 → z < layers P1 h → f (map_place P1 h (x, y, z)) ≡ nat_abs (count_of P1 h v (x, y, z))
      point x y z ly lz =
          at_column x y z (omega arith) ∙ ap (λ t. cond t (nat_abs (get_or v (map_place P1 h (x, y, z)) (pos 0))) 0) (lt-ltb y (2 * h.1) ly)
          ∙ ap nat_abs (sym (count_stored P1 h v x y z lz))

      end : (x y z : ℕ) → 2 * h.1 ≤ y → y < 2 * suc h.1 → f (map_place P1 h (x, y, z)) ≡ 0
      end x y z ge l = at_column x y z l ∙ ap (λ t. cond t (nat_abs (get_or v (map_place P1 h (x, y, z)) (pos 0))) 0) (le-ltb y (2 * h.1) ge)

-- ---- sums

over_zero : (n : ℕ) → over ◌+◌ n (λ i. 0) ≡ 0
unfolding over
over_zero zero = refl
over_zero (suc n) = omega (arith, over_zero n)

pub over_add : (n : ℕ) (f g : ℕ → ℕ) → over ◌+◌ n (λ i. f i + g i) ≡ over ◌+◌ n f + over ◌+◌ n g
unfolding over
over_add zero f g = refl
over_add (suc n) f g = omega (arith, over_add n f g)

pub over_swap : (m n : ℕ) (f : ℕ → ℕ → ℕ) → over ◌+◌ m (λ i. over ◌+◌ n (λ j. f i j)) ≡ over ◌+◌ n (λ j. over ◌+◌ m (λ i. f i j))
unfolding over
over_swap zero n f = sym (over_zero n)
over_swap (suc m) n f = ap (λ k. k + over ◌+◌ n (λ j. f m j)) (over_swap m n f) ∙ sym (over_add n (λ j. over ◌+◌ m (λ i. f i j)) (λ j. f m j))

pub over_mul : (n L : ℕ) (f : ℕ → ℕ) → over ◌+◌ n (λ i. f i * L) ≡ over ◌+◌ n f * L
unfolding over
over_mul zero L f = omega arith
over_mul (suc n) L f = omega (arith, over_mul n L f)

pub over_most : (n : ℕ) (f g : ℕ → ℕ) → ((i : ℕ) → i < n → f i ≤ g i) → over ◌+◌ n f ≤ over ◌+◌ n g
unfolding over
over_most zero f g e = omega arith
over_most (suc n) f g e = omega (arith, over_most n f g (λ i l. e i (omega arith)), e n (omega arith))

-- a sum over a whole line does not depend on where it starts
pub over_round : (n s : ℕ) (f : ℕ → ℕ) → s < n → over ◌+◌ n (λ x. f ((x + s) % n)) ≡ over ◌+◌ n f
over_round n s f l =
    along (λ k. over ◌+◌ k (λ x. f ((x + s) % n))) n (n - s + s) (omega arith)
    ∙ over_append sum_folds (n - s) s (λ x. f ((x + s) % n))
    ∙ ap₂ ◌+◌ (over_cong ◌+◌ (n - s) _ _ (λ x lx. low x lx)) (over_cong ◌+◌ s _ _ (λ x lx. high x lx))
    ∙ omega arith
    ∙ sym (over_append sum_folds s (n - s) f)
    ∙ along (λ k. over ◌+◌ k f) (s + (n - s)) n (omega arith)
  where
    low : (x : ℕ) → x < n - s → f ((x + s) % n) ≡ f (s + x)
    low x lx = ap f (mod-eq_of_lt (omega arith)) ∙ along f (x + s) (s + x) (omega arith)

    high : (x : ℕ) → x < s → f ((n - s + x + s) % n) ≡ f x
    high x lx = along (λ k. f (k % n)) (n - s + x + s) (x + n) (omega arith) ∙ ap f (add-mod_right x n ∙ mod-eq_of_lt (omega arith))
