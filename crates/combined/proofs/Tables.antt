-- A table of whole numbers: its length, what stands at a place, and that a list with these numbers is the table.
use mathlib.Core.Path.{◌≡◌, sym, ◌∙◌}
use mathlib.Core.List.{List}
use Prim.Native.Nat.{ℕ, ◌<◌}
use native.Mathlib.Omega.{arith}
use lib.ListN.{length, get_or, replicate, length-replicate}
use lib.IntN.{ℤ, pos}
use lib.Seq.{ext_get_or}
use Rattle.slices.specs.Filling.{stores}
use Rattle.slices.proofs.Stores.{length_stores, get_or_stores}
use Rattle.combined.specs.Chinese.{tabulate}

module _ (n : ℕ) (f : ℕ → ℤ) where
  pub length_tabulate : length (tabulate n f) ≡ n
  length_tabulate = length_stores (λ j. j) f n (replicate n (pos 0)) ∙ length-replicate n (pos 0)

  pub get_d_tabulate : (j : ℕ) → j < n → get_or (tabulate n f) j (pos 0) ≡ f j
  get_d_tabulate j l = get_or_stores f n j (pos 0) (replicate n (pos 0)) l (omega (arith, length-replicate {A = ℤ} n (pos 0)))

  pub is_tabulate : (d : List ℤ) → length d ≡ n → ((j : ℕ) → j < n → get_or d j (pos 0) ≡ f j) → d ≡ tabulate n f
  is_tabulate d e h = ext_get_or (pos 0) d (tabulate n f) (e ∙ sym length_tabulate) (λ j l. h j (omega arith) ∙ sym (get_d_tabulate j (omega arith)))

  -- a list of n numbers with f j stored at each place j
  pub stores_whole : (d : List ℤ) → length d ≡ n → stores (λ j. j) f n d ≡ tabulate n f
  stores_whole d e = is_tabulate (stores (λ j. j) f n d) (length_stores (λ j. j) f n d ∙ e) (λ j l. get_or_stores f n j (pos 0) d l (omega arith))
