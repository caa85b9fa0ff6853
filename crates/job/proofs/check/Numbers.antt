-- The number at a place of the volume, against the modulus.
use mathlib.Core.Path.{◌≡◌, ◌∙◌, sym}
use mathlib.Core.Bool.{true, false}
use mathlib.Core.List.{List}
use Prim.Native.Nat.{ℕ, ◌≤◌, ◌<◌}
use lib.ListN.{get_or}
use lib.Dec.{ltb}
use borrow.Author.Tests.{lt-ltb, le-ltb}

pub number_above : (v : List ℕ) {q r m p : ℕ} → q ≡ r → m ≡ p → m ≤ get_or v q 0 → ltb (get_or v r 0) p ≡ false
number_above v e f h =
    let x = sym e in
    let y = sym f in
    (λ i. ltb (get_or v (x i) 0) (y i)) ∙ le-ltb _ _ h

pub number_below : (v : List ℕ) {q r m p : ℕ} → q ≡ r → m ≡ p → get_or v q 0 < m → ltb (get_or v r 0) p ≡ true
number_below v e f h =
    let x = sym e in
    let y = sym f in
    (λ i. ltb (get_or v (x i) 0) (y i)) ∙ lt-ltb _ _ h
