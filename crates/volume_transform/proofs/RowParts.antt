-- Rows that were lent as a part of the volume and turned there: the volume with the part in its place has had their turns.
use mathlib.Core.Path.{◌≡◌, refl, sym, ◌∙◌, ap, subst}
use mathlib.Core.Logic.{◌≢◌, ⊎_elim}
use mathlib.Core.List.{List}
use Prim.Native.Nat.{ℕ, zero, suc, ◌+◌, ◌*◌, ◌-◌, ◌<◌, ◌≤◌}
use native.Mathlib.Omega.{arith}
use lib.ListN.{length}
use Rattle.algebra.proofs.ring.Laws.{along}
use Rattle.numbers.specs.declared.Pair.{Pair}
use Rattle.numbers.specs.Value.{prime}
use Rattle.slices.specs.Pairs.{at, put, puts, tab, Below}
use Rattle.slices.specs.Segments.{segment, set_segment, WholePairs}
use Rattle.slices.specs.Sweep.{sweep, on_lists, along_last}
use Rattle.slices.proofs.Pairs.{lt_or_ge, eq_or_ne, ext_pairs, length_put, length_puts, at_put_same, at_put_other, puts_same, tab_cong}
use Rattle.slices.proofs.Rows.{row_end}
use Rattle.slices.proofs.Bounds.{below_segment}
use Rattle.slices.proofs.Segments.{length_pairs, length_set_pairs, at_segment, at_before, at_inside, at_after}
use Rattle.slices.proofs.Sweep.{length_sweep}
use Rattle.volume_transform.specs.Axes.{turn_of, turned_row}
use Rattle.volume_transform.specs.Groups.{RowLines, rows_from, rows_turned, rows_turn}
use Rattle.volume_transform.specs.declared.plan.Line.{Line}

-- the part of v with the pairs k, k + 1, .., N of them
module _ {k N a e : ℕ} {v : List ℕ} (w : WholePairs k N a e v) where
  abbrev back : List ℕ → List ℕ
  back d = set_segment a e v d

  back_same : back (segment a e v) ≡ v
  back_same = ext_pairs (back (segment a e v)) v (length_set_pairs w (segment a e v) (length_pairs w)) (λ j. ⊎_elim
      (λ (b : j < k). at_before w (segment a e v) j b)
      (λ (g : k ≤ j). ⊎_elim
      (λ (b : j - k < N).
      let q : k + (j - k) ≡ j = omega arith in
      subst (λ i. at (back (segment a e v)) i ≡ at v i) q (at_inside w (segment a e v) (length_pairs w) (j - k) b ∙ at_segment w (j - k) b))
      (λ (b : N ≤ j - k). at_after w (segment a e v) (length_pairs w) j (omega arith))
      (lt_or_ge (j - k) N))
      (lt_or_ge j k))

  module _ (d : List ℕ) (long : length d ≡ 2 * N) where
    -- a pair stored in the part
    back_put : (q : ℕ) (x : Pair) → q < N → back (put d q x) ≡ put (back d) (k + q) x
    back_put q x lq = ext_pairs (back (put d q x)) (put (back d) (k + q) x)
        (length_set_pairs w (put d q x) put_long ∙ sym (length_put (back d) (k + q) x ∙ length_set_pairs w d long))
        (λ j. ⊎_elim
        (λ (same : k + q ≡ j). subst (λ i. at (back (put d q x)) i ≡ at (put (back d) (k + q) x) i) same
        (at_inside w (put d q x) put_long q lq ∙ at_put_same d q x (omega arith) ∙ sym (at_put_same (back d) (k + q) x (omega (arith, length_set_pairs w d long, w.end, w.inside)))))
        (λ (other : k + q ≢ j). kept j other ∙ sym (at_put_other (back d) (k + q) j x (λ eq. other (sym eq))))
        (eq_or_ne (k + q) j))
      where
        put_long : length (put d q x) ≡ 2 * N
        put_long = length_put d q x ∙ long

        kept : (j : ℕ) → k + q ≢ j → at (back (put d q x)) j ≡ at (back d) j
        kept j other = ⊎_elim
            (λ (b : j < k). at_before w (put d q x) j b ∙ sym (at_before w d j b))
            (λ (g : k ≤ j). ⊎_elim
            (λ (b : j - k < N).
            let q' : k + (j - k) ≡ j = omega arith in
            subst (λ i. at (back (put d q x)) i ≡ at (back d) i) q'
            (at_inside w (put d q x) put_long (j - k) b ∙ at_put_other d q (j - k) x (λ eq. other (omega (arith, eq))) ∙ sym (at_inside w d long (j - k) b)))
            (λ (b : N ≤ j - k). at_after w (put d q x) put_long j (omega arith) ∙ sym (at_after w d long j (omega arith)))
            (lt_or_ge (j - k) N))
            (lt_or_ge j k)

  -- a run of stores
  back_puts : (p : ℕ → ℕ) (f : ℕ → Pair) (n : ℕ) (d : List ℕ) → length d ≡ 2 * N → ((j : ℕ) → j < n → p j < N) → back (puts p f n d) ≡ puts (λ j. k + p j) f n (back d)
  unfolding puts
  back_puts p f zero d long inside = refl
  back_puts p f (suc n) d long inside =
      back_put (puts p f n d) (length_puts p f n d ∙ long) (p n) (f n) (inside n (omega arith))
      ∙ ap (λ t. put t (k + p n) (f n)) (back_puts p f n d long (λ j l. inside j (omega arith)))

-- rows of n pairs, from pair k of v on
module _ (n lanes : ℕ) {k a e : ℕ} {v : List ℕ} (w : WholePairs k (lanes * n) a e v) (G : ℕ → List ℕ → List ℕ) where
  -- row y of the part d, which in its place makes u of v
  back_next : (y : ℕ) (d u : List ℕ) → y < lanes → length d ≡ 2 * (lanes * n) → set_segment a e v d ≡ u → set_segment a e v (turn_of (along_last n lanes) G y d) ≡ turn_of (rows_from k n lanes) G y u
  back_next y d u l long same =
      back_puts w (λ j. y * n + j) _ n d long inside
      ∙ ap (puts (λ j. k + (y * n + j)) (at (G y (tab n (λ j. at d (y * n + j))))) n) same
      ∙ puts_same (λ j. k + (y * n + j)) (λ j. k + y * n + j) _ _ n u (λ j lj. omega arith)
      (λ j lj. ap (λ r. at (G y r) j) (tab_cong n _ _ (λ i li. sym (at_inside w d long (y * n + i) (inside i li)) ∙ ap (λ t. at t (k + (y * n + i))) same ∙ along (at u) (k + (y * n + i)) (k + y * n + i) (omega arith))))
    where
      inside : (j : ℕ) → j < n → y * n + j < lanes * n
      inside j lj = omega (arith, row_end n l)

  pub back_rows : (y : ℕ) → y ≤ lanes → set_segment a e v (sweep (along_last n lanes) (on_lists (along_last n lanes) G) y (segment a e v)) ≡ sweep (rows_from k n lanes) (on_lists (rows_from k n lanes) G) y v
  unfolding sweep
  back_rows zero l = back_same w
  back_rows (suc y) l =
      back_next y _ _ l (length_sweep (along_last n lanes) (on_lists (along_last n lanes) G) y (segment a e v) ∙ length_pairs w) (back_rows y (omega arith))

-- the rows of a group
module _ (x : Line) {lanes : ℕ} {v : List ℕ} (h : RowLines x lanes v) where
  pub rows_pairs : WholePairs x.start (lanes * x.count) (2 * x.start) (2 * x.start + 2 * (lanes * x.count)) v
  rows_pairs = record { start = refl; end = omega arith; inside = h.fits }

  abbrev part : List ℕ
  part = segment (2 * x.start) (2 * x.start + 2 * (lanes * x.count)) v

  pub rows_long : length part ≡ 2 * (lanes * x.count)
  rows_long = length_pairs rows_pairs

  pub rows_below : (q : ℕ) → q ≡ x.m → Below (prime q) part
  rows_below q e = below_segment (2 * x.start) (2 * x.start + 2 * (lanes * x.count)) (subst (λ m. Below (prime m) v) (sym e) h.below)

  module _ (r : List ℕ) (turned : r ≡ rows_turned x lanes part) where
    pub rows_placed : set_segment (2 * x.start) (2 * x.start + 2 * (lanes * x.count)) v r ≡ rows_turn x lanes v
    rows_placed =
        ap (set_segment (2 * x.start) (2 * x.start + 2 * (lanes * x.count)) v) turned
        ∙ back_rows x.count lanes rows_pairs (λ y. turned_row x.m x.half x.direction) lanes (omega arith)

    pub rows_same : length (set_segment (2 * x.start) (2 * x.start + 2 * (lanes * x.count)) v r) ≡ length v
    rows_same = ap length rows_placed ∙ length_sweep (rows_from x.start x.count lanes) _ lanes v
