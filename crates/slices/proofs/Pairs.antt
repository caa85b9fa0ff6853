-- The pair at each place after a run of stores, and lists that are equal by their pairs.
use mathlib.Core.Path.{◌≡◌, refl, sym, ap, ◌∙◌, subst}
use mathlib.Core.Logic.{◌≢◌, ◌⊎◌, inl, inr, ⊎_elim}
use mathlib.Core.List.{List}
use Prim.Native.Nat.{ℕ, zero, suc, ◌+◌, ◌-◌, ◌*◌, ◌/◌, ◌%◌, ◌<◌, ◌≤◌}
use native.Mathlib.Nat.{eq-or-lt_of_le, le_of_suc-le-suc, not-suc-le-zero, eq-zero-or-pos}
use native.Mathlib.Numerals.{add-one}
use native.Mathlib.Omega.{arith}
use lib.ListN.{length, get_or, set, replicate, length-set, length-replicate}
use lib.Seq.{get_or-set_same, get_or-set_other, ext_get_or}
use Rattle.numbers.specs.declared.Pair.{Pair}
use Rattle.slices.specs.Pairs.{at, put, puts, fills, tab}

-- which of two numbers is less, and whether they are the same
pub lt_or_ge : (a b : ℕ) → (a < b) ⊎ (b ≤ a)
lt_or_ge a b = ⊎_elim (λ e. inr (omega arith)) (λ l. inl (omega arith)) (eq-zero-or-pos (b - a))

pub eq_or_ne : (a b : ℕ) → (a ≡ b) ⊎ (a ≢ b)
eq_or_ne a b = ⊎_elim
    (λ l. inr (λ e. omega arith))
    (λ g. ⊎_elim (λ l. inr (λ e. omega arith)) (λ h. inl (omega arith)) (lt_or_ge b a))
    (lt_or_ge a b)

-- a fact of both numbers of each pair is a fact of each number
pub by_pairs : (P : ℕ → Type 0) (n : ℕ) → ((j : ℕ) → j < n → P (2 * j)) → ((j : ℕ) → j < n → P (2 * j + 1)) → (i : ℕ) → i < 2 * n → P i
by_pairs P n even odd i l = ⊎_elim
    (λ (z : i % 2 ≡ 0). subst P {x = 2 * (i / 2)} {y = i} (omega arith) (even (i / 2) (omega arith)))
    (λ (z : 0 < i % 2). subst P {x = 2 * (i / 2) + 1} {y = i} (omega arith) (odd (i / 2) (omega arith)))
    (eq-zero-or-pos (i % 2))

-- two lists of n pairs are equal by their pairs
pub ext_at : (n : ℕ) (a b : List ℕ) → length a ≡ 2 * n → length b ≡ 2 * n → ((k : ℕ) → k < n → at a k ≡ at b k) → a ≡ b
unfolding at
ext_at n a b ea eb h = ext_get_or 0 a b (omega arith) (λ i l. by_pairs
    (λ k. get_or a k 0 ≡ get_or b k 0) n
    (λ j lj. ap (λ (q : Pair). q.re) (h j lj))
    (λ j lj. ap (λ (q : Pair). q.im) (h j lj))
    i (omega arith))

-- the same of two lists of any one length, by all pairs, those past the end too
pub ext_pairs : (a b : List ℕ) → length a ≡ length b → ((k : ℕ) → at a k ≡ at b k) → a ≡ b
unfolding at
ext_pairs a b e h = ext_get_or 0 a b e (λ i l. by_pairs
    (λ k. get_or a k 0 ≡ get_or b k 0) (length a)
    (λ j lj. ap (λ (q : Pair). q.re) (h j))
    (λ j lj. ap (λ (q : Pair). q.im) (h j))
    i (omega arith))

-- ---- one store

pub length_put : (l : List ℕ) (j : ℕ) (v : Pair) → length (put l j v) ≡ length l
unfolding put
length_put l j v = simp length-set

pub at_put_same : (l : List ℕ) (j : ℕ) (v : Pair) → 2 * j + 1 < length l → at (put l j v) j ≡ v
unfolding put at
at_put_same l j v h = λ i. record {
  re = (get_or-set_other (set l (2 * j) v.re) (2 * j + 1) (2 * j) v.im 0 (λ e. omega arith) ∙ get_or-set_same l (2 * j) v.re 0 (omega arith)) i;
  im = get_or-set_same (set l (2 * j) v.re) (2 * j + 1) v.im 0 (simp length-set h) i;
}

pub at_put_other : (l : List ℕ) (j k : ℕ) (v : Pair) → k ≢ j → at (put l j v) k ≡ at l k
unfolding put at
at_put_other l j k v n = λ i. record {
  re = (get_or-set_other (set l (2 * j) v.re) (2 * j + 1) (2 * k) v.im 0 (λ e. omega arith) ∙ get_or-set_other l (2 * j) (2 * k) v.re 0 (λ e. n (omega arith))) i;
  im = (get_or-set_other (set l (2 * j) v.re) (2 * j + 1) (2 * k + 1) v.im 0 (λ e. n (omega arith)) ∙ get_or-set_other l (2 * j) (2 * k + 1) v.re 0 (λ e. omega arith)) i;
}

-- ---- a run of stores

module _ (p : ℕ → ℕ) (f : ℕ → Pair) where
  pub puts_next : (n : ℕ) (d : List ℕ) → puts p f (n + 1) d ≡ put (puts p f n d) (p n) (f n)
  unfolding puts
  puts_next n d = rw add-one

  pub length_puts : (n : ℕ) (d : List ℕ) → length (puts p f n d) ≡ length d
  unfolding puts
  length_puts zero d = refl
  length_puts (suc n) d = length_put (puts p f n d) (p n) (f n) ∙ length_puts n d

  -- a place that no store goes to is as it was
  pub at_puts_other : (n k : ℕ) (d : List ℕ) → ((j : ℕ) → j < n → p j ≢ k) → at (puts p f n d) k ≡ at d k
  unfolding puts
  at_puts_other zero k d h = refl
  at_puts_other (suc n) k d h =
      at_put_other (puts p f n d) (p n) k (f n) (λ e. h n (omega arith) (sym e))
      ∙ at_puts_other n k d (λ j l. h j (omega arith))

  -- a place that a store goes to, and no later one
  pub at_puts : (n j : ℕ) (d : List ℕ) → j < n → 2 * p j + 1 < length d → ((i : ℕ) → j < i → i < n → p i ≢ p j) → at (puts p f n d) (p j) ≡ f j
  unfolding puts
  at_puts zero j d l b h = absurd (not-suc-le-zero l)
  at_puts (suc n) j d l b h =
      ⊎_elim
      (λ (e : j ≡ n). rw e (at_put_same (puts p f n d) (p n) (f n) (omega (arith, length_puts n d, ap p e))))
      (λ (m : j < n). at_put_other (puts p f n d) (p n) (p j) (f n) (λ e. h n m (omega arith) (sym e)) ∙ at_puts n j d m b (λ i li ln. h i li (omega arith)))
      (eq-or-lt_of_le (le_of_suc-le-suc l))

-- the same stores, said in another way
pub puts_same : (p q : ℕ → ℕ) (f g : ℕ → Pair) (n : ℕ) (d : List ℕ) → ((k : ℕ) → k < n → p k ≡ q k) → ((k : ℕ) → k < n → f k ≡ g k) → puts p f n d ≡ puts q g n d
unfolding puts
puts_same p q f g zero d e h = refl
puts_same p q f g (suc n) d e h = λ i. put (puts_same p q f g n d (λ k l. e k (omega arith)) (λ k l. h k (omega arith)) i) (e n (omega arith) i) (h n (omega arith) i)

pub puts_ext : (p : ℕ → ℕ) (f g : ℕ → Pair) (n : ℕ) (d : List ℕ) → ((k : ℕ) → k < n → f k ≡ g k) → puts p f n d ≡ puts p g n d
puts_ext p f g n d h = puts_same p p f g n d (λ k l. refl) h

-- ---- a fill, and a whole list by a formula

module _ (f : ℕ → Pair) where
  pub at_fills : (n k : ℕ) (d : List ℕ) → k < n → 2 * n ≤ length d → at (fills f n d) k ≡ f k
  at_fills n k d l b = at_puts (λ j. j) f n k d l (omega arith) (λ i li ln e. omega arith)

  pub past_fills : (n k : ℕ) (d : List ℕ) → n ≤ k → at (fills f n d) k ≡ at d k
  past_fills n k d l = at_puts_other (λ j. j) f n k d (λ j lj e. omega arith)

  pub length_fills : (n : ℕ) (d : List ℕ) → length (fills f n d) ≡ length d
  length_fills n d = length_puts (λ j. j) f n d

  pub length_tab : (n : ℕ) → length (tab n f) ≡ 2 * n
  length_tab n = length_fills n (replicate (2 * n) 0) ∙ length-replicate (2 * n) 0

  pub at_tab : (n k : ℕ) → k < n → at (tab n f) k ≡ f k
  at_tab n k l = at_fills n k (replicate (2 * n) 0) l (omega (arith, length-replicate {A = ℕ} (2 * n) 0))

  -- a fill of the whole: what was there does not matter
  pub fills_tab : (n : ℕ) (d : List ℕ) → length d ≡ 2 * n → fills f n d ≡ tab n f
  fills_tab n d e = ext_at n (fills f n d) (tab n f) (length_fills n d ∙ e) (length_tab n)
      (λ k l. at_fills n k d l (omega arith) ∙ sym (at_tab n k l))

pub tab_cong : (n : ℕ) (f g : ℕ → Pair) → ((k : ℕ) → k < n → f k ≡ g k) → tab n f ≡ tab n g
tab_cong n f g h = puts_ext (λ j. j) f g n (replicate (2 * n) 0) h

-- a list is the table of its own pairs
pub tab_at : (n : ℕ) (d : List ℕ) → length d ≡ 2 * n → d ≡ tab n (at d)
tab_at n d e = ext_at n d (tab n (at d)) e (length_tab (at d) n) (λ k l. sym (at_tab (at d) n k l))

-- a table by its pairs
pub is_tab : (n : ℕ) (d : List ℕ) (f : ℕ → Pair) → length d ≡ 2 * n → ((k : ℕ) → k < n → at d k ≡ f k) → d ≡ tab n f
is_tab n d f e h = tab_at n d e ∙ tab_cong n (at d) f h

-- a copy of the whole
pub fills_whole : (n : ℕ) (s d : List ℕ) → length s ≡ 2 * n → length d ≡ 2 * n → fills (at s) n d ≡ s
fills_whole n s d es ed = fills_tab (at s) n d ed ∙ sym (tab_at n s es)
