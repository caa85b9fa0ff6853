-- Loops over the operations of an orbit. In its turn i such a loop has the rest of the list before it: a scan goes on past a test that holds and stops at one that does
-- not. Each law takes what the loop knows: the count, the turn's test t, and how far the loop has come.
use mathlib.Core.Path.{◌≡◌, sym, ◌∙◌, ap}
use mathlib.Core.Bool.{Bool, true, false, ◌&&◌}
use mathlib.Core.List.{List, [], ◌∷◌}
use Prim.Native.Nat.{ℕ, ◌+◌, ◌<◌, ◌≤◌}
use native.Mathlib.Numerals.{add-one}
use native.Mathlib.Omega.{arith}
use lib.ListN.{length, get_or, drop, drop_of_length-le}
use lib.Seq.{drop-cons}
use Rattle.algebra.specs.cells.Cell.{every}

-- ---- the members of a list

module _ {S : Type 0} (l : List S) {count : ℕ} (size : count ≡ length l) (i : ℕ) where
  -- the rest begins with member i
  pub rest_opens : (d : S) → i < count → drop i l ≡ get_or l i d ∷ drop (i + 1) l
  rest_opens d b = drop-cons l i d (omega arith) ∙ ap (λ k. get_or l i d ∷ drop k l) (sym (add-one i))

  pub rest_ends : count ≤ i → drop i l ≡ []
  rest_ends b = drop_of_length-le l {i = i} (omega arith)

  module _ (P : S → Bool) {r : Bool} (done : r ≡ every (drop i l) P) where
    tested : (d : S) {s : S} {t : Bool} → i < count → s ≡ get_or l i d → t ≡ P s → r ≡ (t && every (drop (i + 1) l) P)
    unfolding every
    tested d b e f = done ∙ ap (λ k. every k P) (rest_opens d b) ∙ ap (λ t. t && every (drop (i + 1) l) P) (sym (f ∙ ap P e))

    pub every_next : (d : S) {s : S} {t : Bool} → i < count → s ≡ get_or l i d → t ≡ P s → t ≡ true → r ≡ every (drop (i + 1) l) P
    every_next d b e f q = tested d b e f ∙ ap (λ t. t && every (drop (i + 1) l) P) q

    pub every_stop : (d : S) {s : S} {t : Bool} → i < count → s ≡ get_or l i d → t ≡ P s → t ≡ false → false ≡ r
    every_stop d b e f q = sym (tested d b e f ∙ ap (λ t. t && every (drop (i + 1) l) P) q)

    pub every_end : count ≤ i → true ≡ r
    unfolding every
    every_end b = sym (done ∙ ap (λ k. every k P) (rest_ends b))
