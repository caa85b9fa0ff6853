-- What one operation of an orbit writes, and one after the other, as the code writes it.
use mathlib.Core.Path.{◌≡◌, refl, sym, ◌∙◌, ap, ap₂}
use mathlib.Core.Bool.{Bool, true, false}
use mathlib.Core.List.{List, [], ◌∷◌}
use Prim.Native.Nat.{ℕ, ◌+◌, ◌<◌, ◌≤◌}
use lib.Dec.{leb, leb→le, ltb→lt}
use lib.ListN.{length, get_or, drop}
use Rattle.algebra.specs.cells.Cell.{J, Sym, one, Group, image_of, implied_value, span, stored_t}
use Rattle.algebra.proofs.ring.Bool.{and_l, and_r}
use Rattle.numbers.specs.declared.Pair.{Pair}
use Rattle.numbers.specs.Value.{Value, field, conj, value_of, pair_of}
use Rattle.numbers.proofs.Values.{value_by}
use Rattle.cell.specs.Volume.{rotated, times_i}
use Rattle.cell.specs.Consistency.{write, write_images}
use Rattle.cell.proofs.Tests.{true_iff}
use Rattle.cell.proofs.Scans.{rest_opens, rest_ends}

-- what the test of a stored index says
pub stored_bounds : (g : Group) (a i : J) {t : Bool} → t ≡ stored_t g a i → t ≡ true → (i.1 ≤ a.1) × (i.2 < span g a.2)
stored_bounds g a i e f =
    let t = (true_iff (stored_t g a i)).0 (sym e ∙ f) in
    (leb→le _ _ (and_l (leb i.1 a.1) _ t), ltb→lt _ _ (and_r (leb i.1 a.1) _ t))

-- ---- an image written, and one after the other

module _ (g : Group) (a : J) (m : ℕ) (j : J) (x : Value m) where
  -- what one operation leaves
  abbrev pub written : List ℕ → Sym → List ℕ
  written v s = write_images g a m (s ∷ []) j x v

  module _ (v : List ℕ) (s : Sym) {i : J} (e : i ≡ image_of a s j) {t : Bool} (f : t ≡ stored_t g a i) where
    stored_as : (b : Bool) → t ≡ b → stored_t g a (image_of a s j) ≡ b
    stored_as b q = sym (f ∙ ap (stored_t g a) e) ∙ q

    pub image_written : t ≡ true → {y z : Pair} {w : List ℕ} → y ≡ pair_of (implied_value (field m) (conj m) s j x) → z ≡ pair_of (times_i m (rotated g i.0) (value_of m y)) → w ≡ write g a v i z → w ≡ written v s
    unfolding write_images
    image_written q p u r = rw (stored_as true q) (r ∙ ap₂ (λ i y. write g a v i y) e (u ∙ ap₂ (λ (i : J) y. pair_of (times_i m (rotated g i.0) y)) e (value_by m _ p)))

    pub image_skipped : t ≡ false → v ≡ written v s
    unfolding write_images
    image_skipped q = rw (stored_as false q) refl

  -- a loop that writes: in its turn i the images of the rest are still to be written
  module _ (l : List Sym) {count : ℕ} (size : count ≡ length l) (i : ℕ) (v : List ℕ) {r : List ℕ} (done : r ≡ write_images g a m (drop i l) j x v) where
    pub images_next : {s : Sym} {w : List ℕ} → i < count → s ≡ get_or l i one → w ≡ written v s → r ≡ write_images g a m (drop (i + 1) l) j x w
    unfolding write_images
    images_next b e f = done ∙ ap (λ k. write_images g a m k j x v) (rest_opens l size i one b) ∙ ap (write_images g a m (drop (i + 1) l) j x) (sym (f ∙ ap (written v) e))

    pub images_end : count ≤ i → v ≡ r
    unfolding write_images
    images_end b = sym (done ∙ ap (λ k. write_images g a m k j x v) (rest_ends l size i b))
