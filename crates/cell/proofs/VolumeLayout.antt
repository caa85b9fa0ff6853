-- The layout of a volume: which pair stands at a place, and that a list of the volume's length is known by its pairs, a map by its numbers.
use mathlib.Core.Path.{◌≡◌, sym, ◌∙◌, ap, subst}
use mathlib.Core.Logic.{⊎_elim}
use mathlib.Core.List.{List}
use Prim.Native.Nat.{ℕ, ◌+◌, ◌*◌, ◌/◌, ◌%◌, ◌<◌}
use native.Mathlib.Omega.{arith}
use lib.ListN.{length, get_or}
use borrow.Author.Tests.{lt-ltb, le-ltb}
use Rattle.algebra.specs.cells.Cell.{J, Group, Cell}
use Rattle.numbers.specs.declared.Pair.{Pair}
use Rattle.numbers.specs.Value.{prime, Value}
use Rattle.numbers.specs.Bounds.{Small}
use Rattle.numbers.proofs.Primes.{prime_pos}
use Rattle.numbers.proofs.Residues.{val_small}
use Rattle.numbers.proofs.Values.{pair_path}
use Rattle.slices.specs.Pairs.{at, Below}
use Rattle.slices.proofs.Pairs.{lt_or_ge, by_pairs, ext_at, length_tab, at_tab}
use Rattle.slices.proofs.Rows.{row_col, row_split, block_end}
use Rattle.slices.proofs.Bounds.{below_at}
use Rattle.cell.specs.Volume.{layers, rows, columns, volume_pairs, volume_length, pair_place, volume_of, map_pair, map_place, pack_map}

module _ (g : Group) (a : J) where
  -- ---- pairs

  pub place_inside : {w h k : ℕ} → w < layers g a → h < rows g a → k < columns g a → pair_place g a w h k < volume_pairs g a
  place_inside lw lh lk = block_end lw lh lk

  -- every pair of the volume has such a place
  pub by_place : (P : ℕ → Type 0) → ((w h k : ℕ) → w < layers g a → h < rows g a → k < columns g a → P (pair_place g a w h k)) → (j : ℕ) → j < volume_pairs g a → P j
  by_place P f j l =
      let outer = row_split (layers g a * rows g a) l in
      let inner = row_split (layers g a) outer.0 in
      subst P (ap (λ q. q * columns g a + j % columns g a) inner.2 ∙ outer.2) (f (j / columns g a / rows g a) (j / columns g a % rows g a) (j % columns g a) inner.0 inner.1 outer.1)

  -- two lists of the volume's length are equal by their pairs
  pub ext_volume : (u v : List ℕ) → length u ≡ volume_length g a → length v ≡ volume_length g a
      → ((w h k : ℕ) → w < layers g a → h < rows g a → k < columns g a → at u (pair_place g a w h k) ≡ at v (pair_place g a w h k)) → u ≡ v
  ext_volume u v eu ev e = ext_at (volume_pairs g a) u v eu ev (by_place (λ j. at u j ≡ at v j) e)

  module _ (f : ℕ → ℕ → ℕ → Pair) where
    pub length_volume : length (volume_of g a f) ≡ volume_length g a
    unfolding volume_of
    length_volume = length_tab _ (volume_pairs g a)

    pub at_volume : (w h k : ℕ) → w < layers g a → h < rows g a → k < columns g a → at (volume_of g a f) (pair_place g a w h k) ≡ f w h k
    unfolding volume_of
    at_volume w h k lw lh lk =
        let outer = row_col (w * rows g a + h) lk in
        let inner = row_col w lh in
        at_tab _ (volume_pairs g a) (pair_place g a w h k) (place_inside lw lh lk)
        ∙ λ i. f ((ap (λ q. q / rows g a) outer.0 ∙ inner.0) i) ((ap (λ q. q % rows g a) outer.0 ∙ inner.1) i) (outer.1 i)

    -- a list with these pairs
    pub is_volume : (v : List ℕ) → length v ≡ volume_length g a
        → ((w h k : ℕ) → w < layers g a → h < rows g a → k < columns g a → at v (pair_place g a w h k) ≡ f w h k) → v ≡ volume_of g a f
    is_volume v ev e = ext_volume v (volume_of g a f) ev length_volume (λ w h k lw lh lk. e w h k lw lh lk ∙ sym (at_volume w h k lw lh lk))

    pub below_volume : (p : ℕ) → 0 < p → ((w h k : ℕ) → w < layers g a → h < rows g a → k < columns g a → Small p (f w h k)) → Below p (volume_of g a f)
    below_volume p z s = below_at p (volume_pairs g a) (volume_of g a f) length_volume z (by_place (λ j. Small p (at (volume_of g a f) j)) (λ w h k lw lh lk. subst (Small p) (sym (at_volume w h k lw lh lk)) (s w h k lw lh lk)))

  pub volume_cong : (f f' : ℕ → ℕ → ℕ → Pair) → ((w h k : ℕ) → w < layers g a → h < rows g a → k < columns g a → f w h k ≡ f' w h k) → volume_of g a f ≡ volume_of g a f'
  volume_cong f f' e = is_volume f' (volume_of g a f) (length_volume f) (λ w h k lw lh lk. at_volume f w h k lw lh lk ∙ e w h k lw lh lk)

  -- ---- the numbers of a map

  -- the numbers y = 2 k and y = 2 k + 1 of a row are its pair k
  pub number_even : (v : List ℕ) (x k z : ℕ) → get_or v (map_place g a (x, 2 * k, z)) 0 ≡ (at v (pair_place g a z x k)).re
  unfolding at
  number_even v x k z = ap (λ q. get_or v q 0) (place (z * rows g a + x) k)
    where
      place : (r k : ℕ) → r * (2 * columns g a) + 2 * k ≡ 2 * (r * columns g a + k)
      place r k = omega arith

  pub number_odd : (v : List ℕ) (x k z : ℕ) → get_or v (map_place g a (x, 2 * k + 1, z)) 0 ≡ (at v (pair_place g a z x k)).im
  unfolding at
  number_odd v x k z = ap (λ q. get_or v q 0) (place (z * rows g a + x) k)
    where
      place : (r k : ℕ) → r * (2 * columns g a) + (2 * k + 1) ≡ 2 * (r * columns g a + k) + 1
      place r k = omega arith

  -- a pair by the two numbers of its row
  pub pair_numbers_lem : (v : List ℕ) (x k z : ℕ) → at v (pair_place g a z x k) ≡ record { re = get_or v (map_place g a (x, 2 * k, z)) 0; im = get_or v (map_place g a (x, 2 * k + 1, z)) 0 }
  pair_numbers_lem v x k z = pair_path (sym (number_even v x k z)) (sym (number_odd v x k z))

  -- the pairs of a row are pairs of points, and the two zeros
  pub by_row : (P : ℕ → Type 0) → ((k : ℕ) → k < a.1 → P k) → P a.1 → (k : ℕ) → k < columns g a → P k
  by_row P f e k l = ⊎_elim (λ s. f k s) (λ s. subst P {x = a.1} {y = k} (omega arith) e) (lt_or_ge k a.1)

  module _ (m : ℕ) (M : Cell (Value m)) where
    pub map_pair_low : (z x k : ℕ) → k < a.1 → map_pair g a M z x k ≡ record { re = (M x (2 * k) z).0.val; im = (M x (2 * k + 1) z).0.val }
    unfolding map_pair
    map_pair_low z x k l = rw (lt-ltb k a.1 l)

    pub map_pair_end : (z x : ℕ) → map_pair g a M z x a.1 ≡ record { re = 0; im = 0 }
    unfolding map_pair
    map_pair_end z x = rw (le-ltb a.1 a.1 (omega arith))

    pub length_map : length (pack_map g a m M) ≡ volume_length g a
    unfolding pack_map
    length_map = length_volume (map_pair g a M)

    at_map : (z x k : ℕ) → z < layers g a → x < rows g a → k < columns g a → at (pack_map g a m M) (pair_place g a z x k) ≡ map_pair g a M z x k
    unfolding pack_map
    at_map = at_volume (map_pair g a M)

    -- the number at a point of a stored plane
    pub map_number : (x y z : ℕ) → x < rows g a → y < 2 * a.1 → z < layers g a → get_or (pack_map g a m M) (map_place g a (x, y, z)) 0 ≡ (M x y z).0.val
    map_number x y z lx ly lz = by_pairs
        (λ y. get_or (pack_map g a m M) (map_place g a (x, y, z)) 0 ≡ (M x y z).0.val) a.1
        (λ k lk. number_even (pack_map g a m M) x k z ∙ ap (λ q. q.re) (at_map z x k lz lx (omega arith) ∙ map_pair_low z x k lk))
        (λ k lk. number_odd (pack_map g a m M) x k z ∙ ap (λ q. q.im) (at_map z x k lz lx (omega arith) ∙ map_pair_low z x k lk))
        y ly

    -- and the two zeros at the end of a row
    pub map_end : (x z : ℕ) → x < rows g a → z < layers g a → (get_or (pack_map g a m M) (map_place g a (x, 2 * a.1, z)) 0 ≡ 0) × (get_or (pack_map g a m M) (map_place g a (x, 2 * a.1 + 1, z)) 0 ≡ 0)
    map_end x z lx lz =
        let e = at_map z x a.1 lz lx (omega arith) ∙ map_pair_end z x in
        (number_even (pack_map g a m M) x a.1 z ∙ ap (λ q. q.re) e, number_odd (pack_map g a m M) x a.1 z ∙ ap (λ q. q.im) e)

    -- a list with these numbers
    pub is_map : (v : List ℕ) → length v ≡ volume_length g a
        → ((x y z : ℕ) → x < rows g a → y < 2 * a.1 → z < layers g a → get_or v (map_place g a (x, y, z)) 0 ≡ (M x y z).0.val)
        → ((x z : ℕ) → x < rows g a → z < layers g a → (get_or v (map_place g a (x, 2 * a.1, z)) 0 ≡ 0) × (get_or v (map_place g a (x, 2 * a.1 + 1, z)) 0 ≡ 0))
        → v ≡ pack_map g a m M
    unfolding pack_map
    is_map v ev e o = is_volume (map_pair g a M) v ev (λ z x k lz lx lk. by_row (λ k. at v (pair_place g a z x k) ≡ map_pair g a M z x k)
        (λ k l. pair_numbers_lem v x k z ∙ pair_path (e x (2 * k) z lx (omega arith) lz) (e x (2 * k + 1) z lx (omega arith) lz) ∙ sym (map_pair_low z x k l))
        (pair_numbers_lem v x a.1 z ∙ pair_path (o x z lx lz).0 (o x z lx lz).1 ∙ sym (map_pair_end z x))
        k lk)

    pub below_map : Below (prime m) (pack_map g a m M)
    unfolding pack_map
    below_map = below_volume (map_pair g a M) (prime m) (prime_pos m) (λ z x k lz lx lk. by_row (λ k. Small (prime m) (map_pair g a M z x k))
        (λ k l. subst (Small (prime m)) (sym (map_pair_low z x k l)) (record { re = val_small m (M x (2 * k) z).0; im = val_small m (M x (2 * k + 1) z).0 }))
        (subst (Small (prime m)) (sym (map_pair_end z x)) (record { re = prime_pos m; im = prime_pos m }))
        k lk)
