-- The invariant `Filling` of a loop that fills a list: how it starts, goes on and ends; and the same of a loop that stores pairs.
use mathlib.Core.Path.{◌≡◌, refl, sym, ap, ◌∙◌, subst}
use mathlib.Core.Logic.{◌≢◌}
use mathlib.Core.List.{List}
use Prim.Native.Nat.{ℕ, ◌+◌, ◌*◌, ◌<◌, ◌≤◌}
use native.Mathlib.Omega.{arith}
use native.Mathlib.Numerals.{add-one}
use lib.ListN.{length, set, length-set}
use Rattle.numbers.specs.declared.Pair.{Pair}
use Rattle.slices.specs.Pairs.{at, put, puts, tab}
use Rattle.slices.specs.Filling.{Filling, stores, FillingPairs}
use Rattle.slices.proofs.Pairs.{length_put, puts_next, at_puts_other, fills_tab}

-- ---- a list of any elements

module _ {E S : Type 0} {run : (ℕ → ℕ) → (ℕ → S) → ℕ → List E → List E} {p : ℕ → ℕ} {f : ℕ → S} {n : ℕ} {d₀ : List E} where
  pub filled_none : d₀ ≡ run p f 0 d₀ → Filling run p f n 0 d₀ d₀
  filled_none e = record { le = omega arith; len = refl; is = e }

  -- a store leaves the list as long as it was, and is the next one of the run
  pub filled_more : {j : ℕ} {d : List E} (store : List E → List E) → Filling run p f n j d₀ d → j < n → length (store d) ≡ length d → store (run p f j d₀) ≡ run p f (j + 1) d₀ → Filling run p f n (j + 1) d₀ (store d)
  filled_more store h l e t = record { le = omega arith; len = e ∙ h.len; is = ap store h.is ∙ t }

  pub filled_all : {j : ℕ} {d : List E} → Filling run p f n j d₀ d → n ≤ j → d ≡ run p f n d₀
  filled_all {j} {d} h l = subst (λ (k : ℕ). d ≡ run p f k d₀) (omega (arith, h.le)) h.is

-- ---- elements, one at a time

pub stores_next : {E : Type 0} (p : ℕ → ℕ) (f : ℕ → E) (n : ℕ) (d : List E) → set (stores p f n d) (p n) (f n) ≡ stores p f (n + 1) d
unfolding stores
stores_next p f n d = rw (add-one) refl

module _ {E : Type 0} {p : ℕ → ℕ} {f : ℕ → E} {n : ℕ} {d₀ : List E} where
  pub storing_start : Filling stores p f n 0 d₀ d₀
  unfolding stores
  storing_start = filled_none refl

  pub storing_next : {j : ℕ} {d : List E} → Filling stores p f n j d₀ d → j < n → Filling stores p f n (j + 1) d₀ (set d (p j) (f j))
  storing_next {j} {d} h l = filled_more (λ x. set x (p j) (f j)) h l (length-set d (p j) (f j)) (stores_next p f j d₀)

-- ---- pairs: turn j stores f j at place p j

module _ {p : ℕ → ℕ} {f : ℕ → Pair} {n : ℕ} {d₀ : List ℕ} where
  pub filling_start : FillingPairs p f n 0 d₀ d₀
  unfolding puts
  filling_start = filled_none refl

  pub filling_next : {j : ℕ} {d e : List ℕ} {v : Pair} → FillingPairs p f n j d₀ d → j < n → e ≡ put d (p j) v → v ≡ f j → FillingPairs p f n (j + 1) d₀ e
  filling_next {j} {d} {e} {v} h l s w =
      subst (FillingPairs p f n (j + 1) d₀) (sym s)
      (filled_more (λ x. put x (p j) v) h l (length_put d (p j) v) (ap (put (puts p f j d₀) (p j)) w ∙ sym (puts_next p f j d₀)))

  pub filling_done : {j : ℕ} {d : List ℕ} → FillingPairs p f n j d₀ d → n ≤ j → d ≡ puts p f n d₀
  filling_done h l = filled_all h l

  -- what stands at a place that no turn has stored to yet
  pub filling_kept : {j : ℕ} {d : List ℕ} (k : ℕ) → FillingPairs p f n j d₀ d → ((i : ℕ) → i < j → p i ≢ k) → at d k ≡ at d₀ k
  filling_kept {j} {d} k h o = ap (λ (x : List ℕ). at x k) h.is ∙ at_puts_other p f j k d₀ o

-- ---- a loop that goes up from place 0

module _ {f : ℕ → Pair} {n j : ℕ} {d₀ d : List ℕ} where
  -- place j and all above are as they were
  pub filling_ahead : (k : ℕ) → FillingPairs (λ i. i) f n j d₀ d → j ≤ k → at d k ≡ at d₀ k
  filling_ahead k h l = filling_kept k h (λ i li e. omega arith)

  -- the pair that the turn reads, in place, is still the one that came in
  pub filling_read : {v : Pair} → FillingPairs (λ i. i) f n j d₀ d → v ≡ at d j → v ≡ at d₀ j
  filling_read h e = e ∙ filling_ahead j h (omega arith)

  -- the loop went over all of the list
  pub filling_whole : FillingPairs (λ i. i) f n j d₀ d → n ≤ j → length d₀ ≡ 2 * n → d ≡ tab n f
  filling_whole h l e = filling_done h l ∙ fills_tab f n d₀ e
