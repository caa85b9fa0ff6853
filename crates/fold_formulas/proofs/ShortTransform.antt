-- The plain transform between the two passes of a fold: what it has at each place, by the line's own root.
use mathlib.Core.Path.{◌≡◌, ◌∙◌, ap}
use mathlib.Core.List.{List}
use Prim.Native.Nat.{ℕ, ◌/◌, ◌<◌}
use Rattle.algebra.specs.ring.Ring.{pow, dft}
use Rattle.algebra.proofs.fourier.Transform.{dft_cong}
use Rattle.numbers.specs.Value.{Value, field}
use Rattle.roots.specs.Table.{table_root}
use Rattle.numbers.proofs.Values.{field_ring}
use Rattle.slices.specs.Pairs.{values_of, list_of}
use Rattle.slices.proofs.Values.{values_list}
use Rattle.fold_formulas.specs.FoldFormulas.{line_root, Frame}
use Rattle.fold_formulas.proofs.Frames.{short_root}

module _ {m A : ℕ} {re im : List ℕ} (f : Frame m A re im) (g : ℕ → Value m) where
  -- d holds the values g below A, and e its transform
  pub short_values : (d : List ℕ) {e : List ℕ} → ((t : ℕ) → t < A → values_of m d t ≡ g t) → e ≡ list_of A (dft (field m) A (pow (field m) (table_root m re im) (2880 / A)) (values_of m d))
      → (s : ℕ) → s < A → values_of m e s ≡ dft (field m) A (pow (field m) (line_root m A re im) 2) g s
  short_values d hd he s l =
      ap (λ l. values_of m l s) he
      ∙ values_list m A _ s l
      ∙ ap (λ w. dft (field m) A w (values_of m d) s) (short_root f)
      ∙ dft_cong (field_ring m) A _ _ _ s hd

  -- d is the list that the pass before made
  pub short_transform : {d e : List ℕ} → d ≡ list_of A g → e ≡ list_of A (dft (field m) A (pow (field m) (table_root m re im) (2880 / A)) (values_of m d))
      → (s : ℕ) → s < A → values_of m e s ≡ dft (field m) A (pow (field m) (line_root m A re im) 2) g s
  short_transform {d} hd = short_values d (λ t h. ap (λ l. values_of m l t) hd ∙ values_list m A g t h)
