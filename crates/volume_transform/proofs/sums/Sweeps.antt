-- A sweep along each axis of a volume of values: what every pair becomes, where each line's result is known by the values of that line.
use mathlib.Core.Path.{◌≡◌, sym, ◌∙◌, ap, subst}
use mathlib.Core.Logic.{◌⊎◌}
use mathlib.Core.List.{List}
use Prim.Native.Nat.{ℕ, ◌+◌, ◌*◌, ◌-◌, ◌/◌, ◌%◌, ◌<◌, ◌≤◌}
use native.Mathlib.Omega.{arith}
use lib.ListN.{length}
use Rattle.algebra.specs.lines.Kinds.{Kind.antisymmetric, slots}
use Rattle.algebra.specs.cells.Cell.{J, Group}
use Rattle.numbers.specs.declared.Pair.{Pair}
use Rattle.numbers.specs.Value.{Value, value_of, pair_of}
use Rattle.numbers.proofs.Values.{value_pair}
use Rattle.slices.specs.Pairs.{at, tab, values_of, list_of}
use Rattle.slices.specs.Sweep.{Layout, line_of, sweep, Disjoint, on_lists}
use Rattle.slices.proofs.Pairs.{at_tab}
use Rattle.slices.proofs.Rows.{row_end, row_col, row_inj, row_split}
use Rattle.slices.proofs.Sweep.{length_sweep, at_sweep, at_sweep_other, local_lists}
use Rattle.slices.proofs.Layouts.{disjoint_second, disjoint_last, place_second}
use Rattle.cell.specs.Volume.{line_kind, first_pair, layers, rows, columns, volume_length, pair_place, volume_of}
use Rattle.volume_transform.specs.Axes.{along_l, along_h, along_k, kind_at}
use Rattle.cell.proofs.VolumeLayout.{length_volume, at_volume, is_volume}
use Rattle.volume_transform.proofs.sums.PackedLines.{by_line, off_line}
use Rattle.volume_transform.proofs.plan.JobTurns.{line_fits}

-- what a line has become
swept : (L : Layout) (G : ℕ → List ℕ → List ℕ) {len : ℕ} → Disjoint L len → (y t : ℕ) (d : List ℕ) → length d ≡ len → y < L.count → t < L.size y
    → at (sweep L (on_lists L G) L.count d) (L.place y t) ≡ at (G y (tab (L.size y) (line_of L y d))) t
swept L G apart y t d len ly lt = at_sweep L (on_lists L G) apart (local_lists L G) L.count y t d len ly (omega arith) lt

module _ (g : Group) (a : J) where
  -- the place of a line's pair, by the index of the line
  place_l : (y h k W R C : ℕ) → h * C + k ≡ y → y + W * (R * C) ≡ (W * R + h) * C + k
  place_l y h k W R C e = omega arith

  apart_l : (z y f W R C h k : ℕ) → z + f * (R * C) ≡ (W * R + h) * C + k → h * C + k ≡ y → f * (R * C) + z ≡ W * (R * C) + y
  apart_l z y f W R C h k q e = omega arith

  module _ (pos : 0 < a.2) where
    -- the lines along l have no place in common
    pub disjoint_l : Disjoint (along_l g a) (volume_length g a)
    disjoint_l = record {
      inside = λ y t ly lt. inside (first_pair (kind_at g a y)) (slots (kind_at g a y) a.2) y t ly lt (line_fits a g pos (y / columns g a));
      apart = λ y z s t ly lz ls lt e. let w = row_inj {m = rows g a * columns g a} (first_pair (kind_at g a y) + s) (first_pair (kind_at g a z) + t) ly lz (omega (arith, e)) in
          (w.1, same y z s t w.1 w.0);
    }
      where
        inside : (f n y t : ℕ) → y < rows g a * columns g a → t < n → f + n ≤ layers g a → 2 * (y + (f + t) * (rows g a * columns g a)) + 1 < volume_length g a
        inside f n y t ly lt fit = let l : f + t < layers g a = omega arith in omega (arith, row_end (rows g a * columns g a) l)

        same : (y z s t : ℕ) → y ≡ z → first_pair (kind_at g a y) + s ≡ first_pair (kind_at g a z) + t → s ≡ t
        same y z s t e q = omega (arith, ap (λ y. first_pair (kind_at g a y)) e)

    module _ (m : ℕ) (φ : ℕ → (ℕ → Value m) → ℕ → Value m) (U Y' : ℕ → ℕ → ℕ → Value m)
        (on : (h k : ℕ) → h < rows g a → k < columns g a → (p : ℕ → Value m) → ((t : ℕ) → t < slots (line_kind g h) a.2 → p t ≡ U (first_pair (line_kind g h) + t) h k)
        → (t : ℕ) → t < slots (line_kind g h) a.2 → φ h p t ≡ Y' (first_pair (line_kind g h) + t) h k)
        (off : (h k : ℕ) → h < rows g a → k < columns g a → line_kind g h ≡ antisymmetric → (w : ℕ) → (w ≡ 0) ⊎ (w ≡ a.2) → U w h k ≡ Y' w h k) where
      abbrev lines_l : ℕ → List ℕ → List ℕ
      lines_l y l = list_of (slots (kind_at g a y) a.2) (φ (y / columns g a) (values_of m l))

      abbrev d : List ℕ
      d = volume_of g a (λ w h k. pair_of (U w h k))

      abbrev s : List ℕ
      s = sweep (along_l g a) (on_lists (along_l g a) lines_l) (rows g a * columns g a) d

      -- line y is that of h = y / (B + 1) and k = y % (B + 1)
      module _ (y : ℕ) (ly : y < rows g a * columns g a) where
        abbrev h : ℕ
        h = y / columns g a

        abbrev k : ℕ
        k = y % columns g a

        lh : h < rows g a
        lh = (row_split (rows g a) ly).0

        lk : k < columns g a
        lk = (row_split (rows g a) ly).1

        place_is : (W : ℕ) → y + W * (rows g a * columns g a) ≡ pair_place g a W h k
        place_is W = place_l y h k W (rows g a) (columns g a) (row_split (rows g a) ly).2

        was : (w : ℕ) → w < layers g a → at d (pair_place g a w h k) ≡ pair_of (U w h k)
        was w lw = at_volume g a _ w h k lw lh lk

        on_line : (t : ℕ) → t < slots (line_kind g h) a.2 → at s (pair_place g a (first_pair (line_kind g h) + t) h k) ≡ pair_of (Y' (first_pair (line_kind g h) + t) h k)
        on_line t lt =
            ap (at s) (sym (place_is (first_pair (line_kind g h) + t)))
            ∙ swept (along_l g a) lines_l disjoint_l y t d (length_volume g a _) ly lt
            ∙ at_tab _ (slots (line_kind g h) a.2) t lt
            ∙ ap pair_of (on h k lh lk (values_of m (tab (slots (line_kind g h) a.2) (line_of (along_l g a) y d)))
            (λ t lt. ap (value_of m) (at_tab _ (slots (line_kind g h) a.2) t lt ∙ ap (at d) (place_is (first_pair (line_kind g h) + t)) ∙ was (first_pair (line_kind g h) + t) (omega (arith, lt, line_fits a g pos h))) ∙ value_pair m _)
            t lt)

        off_lines : line_kind g h ≡ antisymmetric → (w : ℕ) → w < layers g a → (w ≡ 0) ⊎ (w ≡ a.2) → at s (pair_place g a w h k) ≡ pair_of (Y' w h k)
        off_lines e w lw z =
            at_sweep_other (along_l g a) (on_lists (along_l g a) lines_l) (rows g a * columns g a) (pair_place g a w h k) d (λ x t lx lt q. other x t lx lt q)
            ∙ was w lw ∙ ap pair_of (off h k lh lk e w z)
          where
            other : (x t : ℕ) → x < rows g a * columns g a → t < slots (kind_at g a x) a.2 → x + (first_pair (kind_at g a x) + t) * (rows g a * columns g a) ≡ pair_place g a w h k → ⊥
            other x t lx lt q =
                let c = row_inj {m = rows g a * columns g a} (first_pair (kind_at g a x) + t) w lx ly (apart_l x y (first_pair (kind_at g a x) + t) w (rows g a) (columns g a) h k q (row_split (rows g a) ly).2) in
                off_line a pos (ap (kind_at g a) c.1 ∙ e) w z t lt c.0

        at_line : (w : ℕ) → w < layers g a → at s (pair_place g a w h k) ≡ pair_of (Y' w h k)
        at_line w lw = by_line a g pos h w lw {P = at s (pair_place g a w h k) ≡ pair_of (Y' w h k)}
            (λ lo hi. subst (λ w. at s (pair_place g a w h k) ≡ pair_of (Y' w h k)) {x = first_pair (line_kind g h) + (w - first_pair (line_kind g h))} {y = w} (omega (arith, lo)) (on_line (w - first_pair (line_kind g h)) (omega (arith, lo, hi))))
            (λ e z. off_lines e w lw z)

      pub sweep_l : s ≡ volume_of g a (λ w h k. pair_of (Y' w h k))
      sweep_l = is_volume g a _ s (length_sweep (along_l g a) (on_lists (along_l g a) lines_l) (rows g a * columns g a) d ∙ length_volume g a _) (λ w h k lw lh lk.
          let e = row_col h lk in
          subst (λ (q : ℕ × ℕ). at s (pair_place g a w q.0 q.1) ≡ pair_of (Y' w q.0 q.1)) (λ i. (e.0 i, e.1 i)) (at_line (h * columns g a + k) (omega (arith, row_end (columns g a) lh, lk)) w lw))

  -- along h
  module _ (m : ℕ) (φ : (ℕ → Value m) → ℕ → Value m) (U Y' : ℕ → ℕ → ℕ → Value m)
      (on : (w k : ℕ) → w < layers g a → k < columns g a → (p : ℕ → Value m) → ((t : ℕ) → t < rows g a → p t ≡ U w t k) → (t : ℕ) → t < rows g a → φ p t ≡ Y' w t k) where
    abbrev lines_h : ℕ → List ℕ → List ℕ
    lines_h y l = list_of (rows g a) (φ (values_of m l))

    pub sweep_h : sweep (along_h g a) (on_lists (along_h g a) lines_h) (along_h g a).count (volume_of g a (λ w h k. pair_of (U w h k))) ≡ volume_of g a (λ w h k. pair_of (Y' w h k))
    sweep_h = is_volume g a _ s (length_sweep (along_h g a) (on_lists (along_h g a) lines_h) (along_h g a).count d ∙ length_volume g a _) at_line
      where
        d : List ℕ
        d = volume_of g a (λ w h k. pair_of (U w h k))

        s : List ℕ
        s = sweep (along_h g a) (on_lists (along_h g a) lines_h) (along_h g a).count d

        place_is : (w h k : ℕ) → k < columns g a → (along_h g a).place (w * columns g a + k) h ≡ pair_place g a w h k
        place_is w h k lk = place_second (layers g a) (rows g a) (columns g a) w k lk h

        at_line : (w h k : ℕ) → w < layers g a → h < rows g a → k < columns g a → at s (pair_place g a w h k) ≡ pair_of (Y' w h k)
        at_line w h k lw lh lk =
            ap (at s) (sym (place_is w h k lk))
            ∙ swept (along_h g a) lines_h {len = volume_length g a} (disjoint_second (layers g a) (rows g a) (columns g a) (omega arith)) (w * columns g a + k) h d (length_volume g a _) (omega (arith, row_end (columns g a) lw, lk)) lh
            ∙ at_tab _ (rows g a) h lh
            ∙ ap pair_of (on w k lw lk (values_of m (tab (rows g a) (line_of (along_h g a) (w * columns g a + k) d)))
            (λ t lt. ap (value_of m) (at_tab _ (rows g a) t lt ∙ ap (at d) (place_is w t k lk) ∙ at_volume g a _ w t k lw lt lk) ∙ value_pair m _)
            h lh)

  -- along k, by the numbers of a row
  module _ (G : List ℕ → List ℕ) (U Y' : ℕ → ℕ → ℕ → Pair)
      (on : (w h : ℕ) → w < layers g a → h < rows g a → (l : List ℕ) → ((t : ℕ) → t < columns g a → at l t ≡ U w h t) → (t : ℕ) → t < columns g a → at (G l) t ≡ Y' w h t) where
    pub sweep_k : sweep (along_k g a) (on_lists (along_k g a) (λ y l. G l)) (along_k g a).count (volume_of g a U) ≡ volume_of g a Y'
    sweep_k = is_volume g a Y' s (length_sweep (along_k g a) (on_lists (along_k g a) (λ y l. G l)) (along_k g a).count (volume_of g a U) ∙ length_volume g a _) at_line
      where
        s : List ℕ
        s = sweep (along_k g a) (on_lists (along_k g a) (λ y l. G l)) (along_k g a).count (volume_of g a U)

        at_line : (w h k : ℕ) → w < layers g a → h < rows g a → k < columns g a → at s (pair_place g a w h k) ≡ Y' w h k
        at_line w h k lw lh lk =
            swept (along_k g a) (λ y l. G l) {len = volume_length g a} (disjoint_last (columns g a) (layers g a * rows g a) (omega arith)) (w * rows g a + h) k (volume_of g a U) (length_volume g a _) (omega (arith, row_end (rows g a) lw, lh)) lk
            ∙ on w h lw lh (tab (columns g a) (line_of (along_k g a) (w * rows g a + h) (volume_of g a U))) (λ t lt. at_tab _ (columns g a) t lt ∙ at_volume g a U w h t lw lh lt) k lk
