-- Which line a number stands for, and in which order analysis takes the lines; the turn of a line whose places the code says in another way than the layout.
use mathlib.Core.Path.{◌≡◌, refl, ◌∙◌, ap}
use mathlib.Core.List.{List}
use Prim.Native.Nat.{ℕ, zero, suc, ◌+◌, ◌-◌, ◌<◌}
use native.Mathlib.Omega.{arith}
use borrow.Author.Tests.{lt-ltb, le-ltb}
use Rattle.algebra.specs.cells.Cell.{J, Group}
use Rattle.algebra.proofs.ring.Laws.{along}
use Rattle.slices.specs.Pairs.{at, tab, puts}
use Rattle.slices.specs.Sweep.{Layout, line_of}
use Rattle.slices.proofs.Pairs.{puts_same, tab_cong}
use Rattle.lengths.specs.Lengths.{kind_of}
use Rattle.cell.specs.Volume.{first_pair}
use Rattle.volume_transform.specs.Axes.{turn_of, along_l, along_h, along_k, line_of_turn, turned_l, turned_h, turned_k, job_turn, numbers_of, line_numbers}

-- where the code says the places of a line in another way than the layout
pub by_places : (L : Layout) (G : ℕ → List ℕ → List ℕ) (y n : ℕ) (p : ℕ → ℕ) (F : List ℕ → List ℕ) (v v' : List ℕ) → n ≡ L.size y → ((j : ℕ) → j < L.size y → p j ≡ L.place y j) → ((l : List ℕ) → F l ≡ G y l)
    → v' ≡ puts p (at (F (tab n (λ j. at v (p j))))) n v → v' ≡ turn_of L G y v
by_places L G y n p F v v' e q f h =
    h ∙ ap (λ n. puts p (at (F (tab n (λ j. at v (p j))))) n v) e
    ∙ puts_same p (L.place y) _ _ (L.size y) v q (λ j l. ap (λ x. at x j) (f _ ∙ ap (G y) (tab_cong (L.size y) _ (line_of L y v) (λ j l. ap (at v) (q j l)))))

pub numbers_at_lem : (L : Layout) (y n : ℕ) (p : ℕ → ℕ) (v : List ℕ) → n ≡ L.size y → ((j : ℕ) → j < L.size y → p j ≡ L.place y j) → tab n (λ j. at v (p j)) ≡ numbers_of L y v
numbers_at_lem L y n p v e q = ap (λ n. tab n (λ j. at v (p j))) e ∙ tab_cong (L.size y) _ (line_of L y v) (λ j l. ap (at v) (q j l))

-- ---- the order of the lines

module _ (g : Group) (a : J) where
  -- the order of analysis
  pub order_k : (y : ℕ) → y < (along_k g a).count → line_of_turn g a 1 (0 + y) ≡ (along_l g a).count + (along_h g a).count + y
  unfolding line_of_turn
  order_k y l = along (λ q. line_of_turn g a 1 q) (0 + y) y (omega arith) ∙ rw (lt-ltb y (along_k g a).count l) refl

  pub order_h : (y : ℕ) → y < (along_h g a).count → line_of_turn g a 1 ((along_k g a).count + y) ≡ (along_l g a).count + y
  unfolding line_of_turn
  order_h y l =
      rw (le-ltb ((along_k g a).count + y) (along_k g a).count (omega arith), lt-ltb ((along_k g a).count + y) ((along_k g a).count + (along_h g a).count) (omega arith))
      (along (λ q. (along_l g a).count + q) ((along_k g a).count + y - (along_k g a).count) y (omega arith))

  pub order_l : (y : ℕ) → y < (along_l g a).count → line_of_turn g a 1 ((along_k g a).count + (along_h g a).count + y) ≡ 0 + y
  unfolding line_of_turn
  order_l y l =
      rw (le-ltb ((along_k g a).count + (along_h g a).count + y) (along_k g a).count (omega arith), le-ltb ((along_k g a).count + (along_h g a).count + y) ((along_k g a).count + (along_h g a).count) (omega arith))
      (omega arith)

module _ (g : Group) (a : J) (m direction : ℕ) where
  -- which turn a number stands for
  pub turn_l : (y : ℕ) → y < (along_l g a).count → (d : List ℕ) → job_turn g a m direction (0 + y) d ≡ turn_of (along_l g a) (turned_l g a m direction) y d
  unfolding job_turn
  turn_l y l d = along (λ q. job_turn g a m direction q d) (0 + y) y (omega arith) ∙ rw (lt-ltb y (along_l g a).count l) refl

  pub turn_h : (y : ℕ) → y < (along_h g a).count → (d : List ℕ) → job_turn g a m direction ((along_l g a).count + y) d ≡ turn_of (along_h g a) (turned_h g a m direction) y d
  unfolding job_turn
  turn_h y l d =
      rw (le-ltb ((along_l g a).count + y) (along_l g a).count (omega arith), lt-ltb ((along_l g a).count + y) ((along_l g a).count + (along_h g a).count) (omega arith))
      (along (λ y. turn_of (along_h g a) (turned_h g a m direction) y d) ((along_l g a).count + y - (along_l g a).count) y (omega arith))

  pub turn_k : (y : ℕ) → (d : List ℕ) → job_turn g a m direction ((along_l g a).count + (along_h g a).count + y) d ≡ turn_of (along_k g a) (turned_k g a m direction) y d
  unfolding job_turn
  turn_k y d =
      rw (le-ltb ((along_l g a).count + (along_h g a).count + y) (along_l g a).count (omega arith), le-ltb ((along_l g a).count + (along_h g a).count + y) ((along_l g a).count + (along_h g a).count) (omega arith))
      (along (λ y. turn_of (along_k g a) (turned_k g a m direction) y d) ((along_l g a).count + (along_h g a).count + y - ((along_l g a).count + (along_h g a).count)) y (omega arith))

-- and which numbers
module _ (g : Group) (a : J) where
  pub numbers_of_l : (y : ℕ) → y < (along_l g a).count → (d : List ℕ) → line_numbers g a (0 + y) d ≡ numbers_of (along_l g a) y d
  unfolding line_numbers
  numbers_of_l y l d = along (λ q. line_numbers g a q d) (0 + y) y (omega arith) ∙ rw (lt-ltb y (along_l g a).count l) refl

  pub numbers_of_h : (y : ℕ) → y < (along_h g a).count → (d : List ℕ) → line_numbers g a ((along_l g a).count + y) d ≡ numbers_of (along_h g a) y d
  unfolding line_numbers
  numbers_of_h y l d =
      rw (le-ltb ((along_l g a).count + y) (along_l g a).count (omega arith), lt-ltb ((along_l g a).count + y) ((along_l g a).count + (along_h g a).count) (omega arith))
      (along (λ y. numbers_of (along_h g a) y d) ((along_l g a).count + y - (along_l g a).count) y (omega arith))

  pub numbers_of_k : (y : ℕ) → (d : List ℕ) → line_numbers g a ((along_l g a).count + (along_h g a).count + y) d ≡ numbers_of (along_k g a) y d
  unfolding line_numbers
  numbers_of_k y d =
      rw (le-ltb ((along_l g a).count + (along_h g a).count + y) (along_l g a).count (omega arith), le-ltb ((along_l g a).count + (along_h g a).count + y) ((along_l g a).count + (along_h g a).count) (omega arith))
      (along (λ y. numbers_of (along_k g a) y d) ((along_l g a).count + (along_h g a).count + y - ((along_l g a).count + (along_h g a).count)) y (omega arith))

-- ---- kinds by their numbers

pub first_of : (kind : ℕ) → kind ≡ 5 → 1 ≡ first_pair (kind_of kind)
first_of kind e = rw (ap kind_of e) refl

pub first_other : (kind : ℕ) → kind < 6 → (kind ≡ 5 → ⊥) → 0 ≡ first_pair (kind_of kind)
first_other zero l n = refl
first_other (suc zero) l n = refl
first_other (suc (suc zero)) l n = refl
first_other (suc (suc (suc zero))) l n = refl
first_other (suc (suc (suc (suc zero)))) l n = refl
first_other (suc (suc (suc (suc (suc zero))))) l n = absurd (n refl)
first_other (suc (suc (suc (suc (suc (suc k)))))) l n = absurd (omega arith)

-- ---- directions

pub other_direction : (direction : ℕ) → direction < 2 → (direction ≡ 0 → ⊥) → direction ≡ 1
other_direction direction l e = omega arith
