-- The list as it is written: the factors so far, and what is left of n, which the rest of the list still multiplies to.
use mathlib.Core.Path.{◌≡◌, refl, sym, ◌∙◌, ap, subst}
use mathlib.Core.List.{List, [], ◌∷◌, ◌++◌, append_assoc, append-nil}
use Prim.Native.Nat.{ℕ, zero, suc, ◌+◌, ◌*◌, ◌/◌, ◌≤◌, ◌<◌}
use native.Mathlib.Nat.{mul-div_right}
use native.Mathlib.Omega.{arith}
use lib.ListN.{length, length-append}
use borrow.Author.Tests.{le-leb, lt-leb}
use Rattle.lengths.specs.Lengths.{product}
use Rattle.output.specs.Written.{Wrote, Ends}
use Rattle.output.proofs.Writing.{wrote_none, wrote_append, wrote_as}
use Rattle.factor_lists.specs.Chosen.{next_factor, factored}

pub record Choosing (n : ℕ) (before : List ℕ) (rest at : ℕ) (after : List ℕ) : Type 0 where
  pub left : ℕ
  pub done : List ℕ
  pub count : left + length done ≡ 8
  pub whole : factored 8 n ≡ done ++ factored left rest
  pub enough : product (factored left rest) ≡ rest
  pub wrote : Wrote 0 done before at after

pub choosing_start : (n : ℕ) (before : List ℕ) → product (factored 8 n) ≡ n → Choosing n before n 0 before
choosing_start n before e = record { left = 8; done = []; count = refl; whole = refl; enough = e; wrote = wrote_none 0 before }

-- 1 is left, or nothing: no factor more
none_left : (c n : ℕ) → n ≤ 1 → factored c n ≡ []
unfolding factored
none_left zero n h = refl
none_left (suc c) n h = rw (le-leb n 1 h)

-- more is left: a factor more
one_more : (c n : ℕ) → 1 < n → factored (suc c) n ≡ next_factor n ∷ factored c (n / next_factor n)
unfolding factored
one_more c n h = rw (lt-leb n 1 h)

quotient : (f p n : ℕ) → 2 ≤ f → f * p ≡ n → p ≡ n / f
quotient f p n z e = sym (subst (λ (x : ℕ). x / f ≡ p) e (mul-div_right p (omega arith)))

module _ {n : ℕ} {before : List ℕ} {rest at : ℕ} {after : List ℕ} (s : Choosing n before rest at after) where
  pub choosing_ends : (f : ℕ) → Ends at (f ∷ [])
  choosing_ends f = record { low = omega (arith, s.wrote.place, s.count) }

  pub choosing_next : 1 < rest → {f : ℕ} → f ≡ next_factor rest → 2 ≤ f → {r : ℕ} {m : List ℕ} → Wrote at (f ∷ []) after r m → Choosing n before (rest / f) r m
  unfolding product factored
  choosing_next h {f} e z {r} {m} o = by s.left refl
    where
      by : (c : ℕ) → s.left ≡ c → Choosing n before (rest / f) r m
      by zero q = let p : product (factored 0 rest) ≡ rest = subst (λ (c : ℕ). product (factored c rest) ≡ rest) q s.enough in absurd (omega (arith, p))
      by (suc c) q =
          let list : factored s.left rest ≡ f ∷ factored c (rest / f) = ap (λ (c : ℕ). factored c rest) q ∙ one_more c rest h ∙ ap (λ (f : ℕ). f ∷ factored c (rest / f)) (sym e) in
          let p : f * product (factored c (rest / f)) ≡ rest = ap product (sym list) ∙ s.enough in
          record {
            left = c;
            done = s.done ++ f ∷ [];
            count = omega (arith, s.count, q, length-append s.done (f ∷ []));
            whole = s.whole ∙ ap (λ (l : List ℕ). s.done ++ l) list ∙ sym (append_assoc s.done (f ∷ []) (factored c (rest / f)));
            enough = quotient f _ rest z p;
            wrote = wrote_append s.wrote o;
          }

  pub choosing_done : rest ≤ 1 → Wrote 0 (factored 8 n) before at after
  choosing_done h = wrote_as s.wrote (sym (s.whole ∙ ap (λ (l : List ℕ). s.done ++ l) (none_left s.left rest h) ∙ append-nil s.done))
