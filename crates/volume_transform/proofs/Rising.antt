-- The places of the lines' pairs, and of those at index 0.
use mathlib.Core.Path.{◌≡◌, sym, ap, ◌∙◌}
use mathlib.Core.Logic.{⊎_elim}
use Prim.Native.Nat.{ℕ, ◌+◌, ◌*◌, ◌/◌, ◌%◌, ◌<◌, ◌≤◌}
use native.Mathlib.Nat.{mul-le-mul_right}
use native.Mathlib.Omega.{arith}
use Rattle.slices.proofs.Pairs.{lt_or_ge}
use Rattle.slices.proofs.Rows.{row_end, row_split}
use Rattle.cell.specs.Volume.{first_pair, layers, rows, columns}
use Rattle.volume_transform.specs.Axes.{kind_at}
use Rattle.volume_transform.specs.RisingPlaces.{RisingPlaces}

-- block q, column r, against block q', column r'
rising : (q r q' r' n C : ℕ) → 0 < n → r < C → r' < C → q * C + r < q' * C + r' → (q * n + 0) * C + r < (q' * n + 0) * C + r'
rising q r q' r' n C pos lr lr' l = ⊎_elim
    (λ (h : q < q'). omega (arith, row_end (n * C) h, mul-le-mul_right C pos))
    (λ (h : q' ≤ q). ⊎_elim
    (λ (k : q' < q). absurd (omega (arith, row_end C k)))
    (λ (k : q ≤ q'). let e : q ≡ q' = omega arith in rw e (omega (arith, l, ap_at e)))
    (lt_or_ge q' q))
    (lt_or_ge q q')
  where
    ap_at : q ≡ q' → q * C ≡ q' * C
    ap_at e = rw e

-- layer w of line y, whose row is h and whose column is k
layer : (R C w h k y : ℕ) → h * C + k ≡ y → y + w * (R * C) ≡ (w * R + h) * C + k
layer R C w h k y e = omega arith

-- the pairs at index 0 of two lines along l
first_layer : (R C h k h' k' y z : ℕ) → h * C + k ≡ y → h' * C + k' ≡ z → y < z → (0 * R + h) * C + k < (0 * R + h') * C + k'
first_layer R C h k h' k' y z e f l = omega arith

-- row h of layer w
row : (q R C j r : ℕ) → (q * R + j) * C + r ≡ (q * R + (0 + j)) * C + r
row q R C j r = omega arith

-- pair j of row y
in_row : (C j p y : ℕ) → p ≡ y → y * C + j ≡ p * C + (0 + j)
in_row C j p y e = ap (λ p. p * C + j) (sym e) ∙ omega arith

first_in_row : (C p q y z : ℕ) → 0 < C → p ≡ y → q ≡ z → y < z → p * C + 0 < q * C + 0
first_in_row C p q y z pos e f l = let h : p < q = omega arith in omega (arith, row_end C h)

below : (y z n : ℕ) → y < z → z < n → y < n
below y z n l h = omega arith

pub rising_places : RisingPlaces
rising_places = record {
  along_l_lem = λ g a. record {
    pairs = λ y j l. layer (rows g a) (columns g a) (first_pair (kind_at g a y) + j) _ _ y (row_split (rows g a) l).2;
    rises = λ y z l h.
        first_layer (rows g a) (columns g a) _ _ _ _ y z (row_split (rows g a) (below y z (rows g a * columns g a) l h)).2 (row_split (rows g a) h).2 l;
  };
  along_h_lem = λ g a pos. record {
    pairs = λ y j l. row (y / columns g a) (rows g a) (columns g a) j (y % columns g a);
    rises = λ y z l h.
        let s = row_split (layers g a) (below y z (layers g a * columns g a) l h) in
        let t = row_split (layers g a) h in
        rising (y / columns g a) (y % columns g a) (z / columns g a) (z % columns g a) (rows g a) (columns g a) pos s.1 t.1 (omega (arith, s.2, t.2, l));
  };
  along_k_lem = λ g a. record {
    pairs = λ y j l. in_row (columns g a) j _ y (row_split (layers g a) l).2;
    rises = λ y z l h.
        first_in_row (columns g a) _ _ y z (omega arith) (row_split (layers g a) (below y z (layers g a * rows g a) l h)).2 (row_split (layers g a) h).2 l;
  };
}
