-- Runs of stores of any elements: the list is as long as it was, what stands at a place, one run after the other; and loops that make such runs.
use mathlib.Core.Path.{◌≡◌, refl, sym, ◌∙◌, ap, subst}
use mathlib.Core.Logic.{⊎_elim}
use mathlib.Core.List.{List}
use Prim.Native.Nat.{ℕ, zero, suc, ◌+◌, ◌≤◌, ◌<◌}
use native.Mathlib.Nat.{eq-or-lt_of_le, suc_inj}
use native.Mathlib.Omega.{arith}
use lib.ListN.{length, get_or, set, length-set}
use lib.Seq.{get_or-set_same, get_or-set_other}
use Rattle.algebra.proofs.ring.Laws.{along}
use Rattle.slices.specs.Filling.{Filling, stores}
use Rattle.slices.proofs.Filling.{storing_next}

module _ {E : Type 0} where
  pub length_stores : (p : ℕ → ℕ) (f : ℕ → E) (n : ℕ) (d : List E) → length (stores p f n d) ≡ length d
  unfolding stores
  length_stores p f zero d = refl
  length_stores p f (suc n) d = length-set (stores p f n d) (p n) (f n) ∙ length_stores p f n d

  -- n stores more, from place s on
  pub stores_append : (f : ℕ → E) (s n : ℕ) (d : List E) → stores (λ j. s + j) (λ j. f (s + j)) n (stores (λ j. j) f s d) ≡ stores (λ j. j) f (s + n) d
  unfolding stores
  stores_append f s zero d = along (λ (k : ℕ). stores (λ j. j) f k d) s (s + 0) (omega arith)
  stores_append f s (suc n) d = ap (λ l. set l (s + n) (f (s + n))) (stores_append f s n d) ∙ along (λ (k : ℕ). stores (λ j. j) f k d) (suc (s + n)) (s + suc n) (omega arith)

  pub get_or_stores : (f : ℕ → E) (n j : ℕ) (z : E) (d : List E) → j < n → n ≤ length d → get_or (stores (λ j. j) f n d) j z ≡ f j
  unfolding stores
  get_or_stores f zero j z d l h = absurd (omega arith)
  get_or_stores f (suc n) j z d l h = ⊎_elim
      (λ (e : suc j ≡ suc n). subst (λ (k : ℕ). get_or (set (stores (λ j. j) f n d) n (f n)) k z ≡ f k) (sym (suc_inj e)) (get_or-set_same (stores (λ j. j) f n d) n (f n) z (omega (arith, length_stores (λ j. j) f n d))))
      (λ (m : suc j < suc n). get_or-set_other (stores (λ j. j) f n d) n j (f n) z (λ q. omega arith) ∙ get_or_stores f n j z d (omega arith) (omega arith))
      (eq-or-lt_of_le l)

  -- a turn that stores what is known to be the next element
  pub storing_value : {p : ℕ → ℕ} {f : ℕ → E} {n j : ℕ} {d₀ d : List E} {v : E} → Filling stores p f n j d₀ d → j < n → v ≡ f j → Filling stores p f n (j + 1) d₀ (set d (p j) v)
  storing_value {p} {f} {n} {j} {d₀} {d} h l e = subst (λ (x : E). Filling stores p f n (j + 1) d₀ (set d (p j) x)) (sym e) (storing_next h l)

  -- a loop whose turn stores k elements
  pub storing_more : {f : ℕ → E} {n s : ℕ} (k : ℕ) {d₀ d e : List E} → Filling stores (λ j. j) f n s d₀ d → s + k ≤ n → e ≡ stores (λ j. s + j) (λ j. f (s + j)) k d → Filling stores (λ j. j) f n (s + k) d₀ e
  storing_more {f} {n} {s} k {d₀} {d} {e} h l q = record {
    le = l;
    len = ap length q ∙ length_stores (λ j. s + j) (λ j. f (s + j)) k d ∙ h.len;
    is = q ∙ ap (stores (λ j. s + j) (λ j. f (s + j)) k) h.is ∙ stores_append f s k d₀;
  }
