-- The first best of a stretch of the run: there is one only, and of two stretches that meet or overlap it is the better of theirs. Every step of the work, and of
-- the definition, is such a join.
use mathlib.Core.Path.{◌≡◌, refl, sym, ◌∙◌, subst}
use mathlib.Core.Bool.{Bool, true, false, cond}
use mathlib.Core.List.{List}
use Prim.Native.Nat.{ℕ, zero, suc, ◌+◌, ◌≤◌, ◌<◌}
use native.Mathlib.Omega.{arith}
use lib.Dec.{ltb}
use lib.IntN.{ℤ}
use borrow.Author.Tests.{ltb-true, ltb-false}
use Rattle.sliding_window.specs.Window.{beats, score, better_of, best_of}
use Rattle.sliding_window.specs.FirstBest.{BestAmong, FirstBest}
use Rattle.sliding_window.proofs.Scores.{never, beats_past, beats_itself, beaten_not, beaten_less}

module _ {g : Bool} {run : List ℤ} where
  -- of a single entry
  pub best_one : (s : ℕ) {e : ℕ} → e ≡ s + 1 → BestAmong g run s e s
  best_one s {e} q = record {
    from = omega arith;
    before = omega arith;
    unbeaten = λ k a b. subst (λ (i : ℕ). beats g (score run i) (score run s) ≡ false) (only k a b) (beats_itself g (score run s));
    earlier = λ k a b. absurd (none k a b);
  }
    where
      only : (k : ℕ) → s ≤ k → k < e → s ≡ k
      only k a b = omega arith

      none : (k : ℕ) → s ≤ k → k < s → ⊥
      none k a b = omega arith

  -- a is the first best from s to e, b from m to f, where m lies in the first stretch or just behind it
  module _ {s e m f a b : ℕ} (h : BestAmong g run s e a) (k : BestAmong g run m f b) (starts : s ≤ m) (meet : m ≤ e) (ends : e ≤ f) where
    by : (t : Bool) → beats g (score run b) (score run a) ≡ t → BestAmong g run s f (cond t b a)
    by true t = record {
      from = omega (arith, k.from);
      before = k.before;
      unbeaten = λ i l u. at i l u (ltb i e) refl;
      earlier = λ i l u. under i l u (ltb i e) refl;
    }
      where
        at : (i : ℕ) → s ≤ i → i < f → (q : Bool) → ltb i e ≡ q → beats g (score run i) (score run b) ≡ false
        at i l u true q = beaten_less g (score run i) (score run b) (score run a) (h.unbeaten i l (ltb-true i e q)) t
        at i l u false q = k.unbeaten i (omega (arith, ltb-false i e q)) u

        under : (i : ℕ) → s ≤ i → i < b → (q : Bool) → ltb i e ≡ q → beats g (score run b) (score run i) ≡ true
        under i l u true q = beats_past g (score run b) (score run a) (score run i) t (h.unbeaten i l (ltb-true i e q))
        under i l u false q = k.earlier i (omega (arith, ltb-false i e q)) u
    by false t = record {
      from = h.from;
      before = omega (arith, h.before);
      unbeaten = λ i l u. at i l u (ltb i e) refl;
      earlier = h.earlier;
    }
      where
        at : (i : ℕ) → s ≤ i → i < f → (q : Bool) → ltb i e ≡ q → beats g (score run i) (score run a) ≡ false
        at i l u true q = h.unbeaten i l (ltb-true i e q)
        at i l u false q = beaten_not g (score run i) (score run b) (score run a) (k.unbeaten i (omega (arith, ltb-false i e q)) u) t

    pub best_joined : BestAmong g run s f (better_of g run a b)
    best_joined = by (beats g (score run b) (score run a)) refl

  -- a later place beats an earlier one, which nothing beats
  not_later : {s e a b : ℕ} → BestAmong g run s e a → BestAmong g run s e b → a < b → ⊥
  not_later {a = a} {b} h k l = never (sym (h.unbeaten b k.from k.before) ∙ k.earlier a h.from l)

  pub best_only : {s e a b : ℕ} → BestAmong g run s e a → BestAmong g run s e b → a ≡ b
  best_only {a = a} {b} h k = by_order a b (not_later h k) (not_later k h)
    where
      by_order : (a b : ℕ) → (a < b → ⊥) → (b < a → ⊥) → a ≡ b
      by_order a b p q = omega (arith, p, q)

-- the definition joins one entry more at each step; the first is joined with itself
best_from : (g : Bool) (run : List ℤ) (s w : ℕ) → BestAmong g run s (s + suc w) (best_of g run s (suc w))
unfolding best_of
best_from g run s zero = best_joined (best_one s {e = s + 1} refl) (best_one _ {e = s + 1} (omega arith)) (omega arith) (omega arith) (omega arith)
best_from g run s (suc w) = best_joined (best_from g run s w) (best_one _ {e = s + suc (suc w)} (omega arith)) (omega arith) (omega arith) (omega arith)

pub first_best : FirstBest
first_best g run s zero l = absurd (omega arith)
first_best g run s (suc w) l = best_from g run s w

-- whatever is the first best of w entries is what the definition says
pub best_is : {g : Bool} {run : List ℤ} {s e b : ℕ} (w : ℕ) → 1 ≤ w → e ≡ s + w → BestAmong g run s e b → b ≡ best_of g run s w
best_is {g} {run} {s} {e} {b} w l q h = best_only (subst (λ (x : ℕ). BestAmong g run s x b) q h) (first_best g run s w l)
