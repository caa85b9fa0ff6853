-- The sweep law: where the lines have no place in common and each turn makes its line of that line alone, every place ends
-- with its line's result on the pairs that the list held at the START, and a place on no line is as it was.
use mathlib.Core.Path.{◌≡◌, refl, ap, ◌∙◌, subst}
use mathlib.Core.Logic.{◌≢◌, ⊎_elim}
use mathlib.Core.List.{List}
use Prim.Native.Nat.{ℕ, zero, suc, ◌<◌, ◌≤◌}
use native.Mathlib.Nat.{not-suc-le-zero, eq-or-lt_of_le, le_of_suc-le-suc}
use native.Mathlib.Omega.{arith}
use lib.ListN.{length}
use Rattle.numbers.specs.declared.Pair.{Pair}
use Rattle.slices.specs.Pairs.{at}
use Rattle.slices.specs.Sweep.{Layout, line_of, set_line, sweep, Disjoint, Local, on_lists}
use Rattle.slices.proofs.Pairs.{length_puts, at_puts, at_puts_other, tab_cong}

module _ (L : Layout) (g : ℕ → (ℕ → Pair) → ℕ → Pair) where
  pub length_sweep : (y : ℕ) (d : List ℕ) → length (sweep L g y d) ≡ length d
  unfolding sweep
  length_sweep zero d = refl
  length_sweep (suc y) d = length_puts (L.place y) (g y (line_of L y (sweep L g y d))) (L.size y) (sweep L g y d) ∙ length_sweep y d

  -- a place on no line that has had its turn
  pub at_sweep_other : (y k : ℕ) (d : List ℕ) → ((z i : ℕ) → z < y → i < L.size z → L.place z i ≢ k) → at (sweep L g y d) k ≡ at d k
  unfolding sweep
  at_sweep_other zero k d h = refl
  at_sweep_other (suc y) k d h =
      at_puts_other (L.place y) (g y (line_of L y (sweep L g y d))) (L.size y) k (sweep L g y d) (λ i l. h y i (omega arith) l)
      ∙ at_sweep_other y k d (λ z i lz li. h z i (omega arith) li)

  module _ {len : ℕ} (apart : Disjoint L len) where
    -- a line that has not had its turn is as it was
    pub at_sweep_later : (y z i : ℕ) (d : List ℕ) → y ≤ z → z < L.count → i < L.size z → at (sweep L g y d) (L.place z i) ≡ at d (L.place z i)
    at_sweep_later y z i d l lz li = at_sweep_other y (L.place z i) d
        (λ x j lx lj e. let w = apart.apart x z j i (omega arith) lz lj li e in omega (arith, w.0))

    -- the turn of line y: all its places still hold what they held at the start
    turn : Local L g → (y i : ℕ) (d : List ℕ) → length d ≡ len → y < L.count → i < L.size y
        → at (set_line L y (g y (line_of L y (sweep L g y d))) (sweep L g y d)) (L.place y i) ≡ g y (line_of L y d) i
    turn own y i d long ly li =
        let m : List ℕ = sweep L g y d in
        at_puts (L.place y) (g y (line_of L y m)) (L.size y) i m li
        (omega (arith, length_sweep y d, apart.inside y i ly li))
        (λ j l lj q. let w = apart.apart y y j i ly ly lj li q in omega (arith, w.1))
        ∙ own.same y (line_of L y m) (line_of L y d) ly (λ j lj. at_sweep_later y y j d (omega arith) ly lj) i li

    -- the law: a line that has had its turn is g of what it was at the start
    pub at_sweep : Local L g → (y z i : ℕ) (d : List ℕ) → length d ≡ len → z < y → y ≤ L.count → i < L.size z → at (sweep L g y d) (L.place z i) ≡ g z (line_of L z d) i
    unfolding sweep
    at_sweep own zero z i d long lz ly li = absurd (not-suc-le-zero lz)
    at_sweep own (suc y) z i d long lz ly li = ⊎_elim
        (λ (e : z ≡ y). rw e (turn own y i d long (omega arith) (subst (λ (x : ℕ). i < L.size x) e li)))
        (λ (l : z < y).
        at_puts_other (L.place y) (g y (line_of L y (sweep L g y d))) (L.size y) (L.place z i) (sweep L g y d)
        (λ j lj q. let w = apart.apart y z j i (omega arith) (omega arith) lj li q in omega (arith, w.0))
        ∙ at_sweep own y z i d long l (omega arith) li)
        (eq-or-lt_of_le (le_of_suc-le-suc lz))

-- a function of lists reads no more than the line
pub local_lists : (L : Layout) (G : ℕ → List ℕ → List ℕ) → Local L (on_lists L G)
local_lists L G = record { same = λ y v w ly h i li. ap (λ (l : List ℕ). at (G y l) i) (tab_cong (L.size y) v w h) }
