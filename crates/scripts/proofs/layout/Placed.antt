-- Things written into a list, one after another: what stands before them, and what behind.
use mathlib.Core.Path.{◌≡◌, ◌∙◌, ap}
use mathlib.Core.List.{List, [], ◌∷◌, ◌++◌}
use Prim.Native.Nat.{ℕ, suc, ◌+◌, ◌-◌, ◌≤◌}
use native.Mathlib.Omega.{arith}
use lib.ListN.{length, set, take, drop, length-append}
use lib.Seq.{length-take-le, take_at, drop-append-add, drop-drop, sets-eq}

-- w from place k on
abbrev pub placed : {X : Type 0} → (out : List X) (k : ℕ) (w : List X) → List X
placed out k w = take k out ++ w ++ drop (k + length w) out

pub placed_three : {X : Type 0} (l : List X) (k : ℕ) (a b c : X) → k + 3 ≤ length l → set (set (set l k a) (k + 1) b) (k + 2) c ≡ placed l k (a ∷ b ∷ c ∷ [])
placed_three l k a b c h =
    let one : k + 1 ≡ suc k = omega arith in
    let two : k + 2 ≡ suc (suc k) = omega arith in
    rw (one, two) (sets-eq (a ∷ b ∷ c ∷ []) l k h)

module _ {X : Type 0} (out : List X) (k : ℕ) (w : List X) (fits : k + length w ≤ length out) where
  length_front : length (take k out ++ w) ≡ k + length w
  length_front = length-append (take k out) w ∙ ap (λ (n : ℕ). n + length w) (length-take-le k out (omega arith))

  pub take_placed : take (k + length w) (placed out k w) ≡ take k out ++ w
  take_placed = take_at (take k out ++ w) (drop (k + length w) out) (k + length w) length_front

  pub drop_placed : (m : ℕ) → k + length w ≤ m → drop m (placed out k w) ≡ drop m out
  drop_placed m h =
      let e : m ≡ length (take k out ++ w) + (m - (k + length w)) = omega (arith, length_front) in
      let f : k + length w + (m - (k + length w)) ≡ m = omega arith in
      ap (λ (n : ℕ). drop n (placed out k w)) e
      ∙ drop-append-add (take k out ++ w) (drop (k + length w) out) (m - (k + length w))
      ∙ drop-drop (m - (k + length w)) (k + length w) out
      ∙ ap (λ (n : ℕ). drop n out) f
