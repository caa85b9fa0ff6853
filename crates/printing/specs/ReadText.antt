-- The text of a map as it is read: numerals with one blank between them, and a line feed behind the last.
use Rattle.std.specs.Prelude.{◌≡◌, ◌<◌, ◌∷◌, ◌++◌}
use Rattle.algebra.specs.Prelude.{ℕ, zero, suc, List, [], get_or}
use Rattle.signed.specs.Integers.{ℤ, pos, centred}
use Rattle.numbers.specs.Value.{prime}
use Rattle.output.specs.Numerals.{Numeral, SignedNumeral}
use Rattle.cell.specs.Volume.{layers, map_place}
use Rattle.job.specs.declared.Job.{Job}
use Rattle.job.specs.Job.{group_in, halves}
use Rattle.printing.specs.Text.{head_line, row_line, refusal_text}
use Rattle.printing.specs.Printable.{Fitting}

-- what follows in a line: for each of some whole numbers a blank and its numeral, then the line feed
pub data Behind : List ℕ → List ℤ → Type 0 where
  feed : Behind (10 ∷ []) []
  field :
      {text rest : List ℕ} {k : ℤ} {ks : List ℤ} →
      SignedNumeral text k → Behind rest ks →
      Behind (32 ∷ (text ++ rest)) (k ∷ ks)

-- a line of numerals
pub data Line : List ℕ → List ℤ → Type 0 where
  begins :
      {text rest : List ℕ} {k : ℤ} {ks : List ℤ} →
      SignedNumeral text k → Behind rest ks →
      Line (text ++ rest) (k ∷ ks)

-- f 0, f 1, .., f (n - 1)
unfoldable pub listed : (n : ℕ) → (ℕ → ℤ) → List ℤ
listed zero f = []
listed (suc n) f = listed n f ++ f n ∷ []

-- the density at z, x, y
abbrev pub density_at : Job → List ℕ → (z x y : ℕ) → ℤ
density_at j v z x y = centred (prime j.modulus) (get_or v (map_place (group_in j) (halves j) (x, y, z)) 0)

-- the lines of a map: "map", the group and the lengths; and for each z and x, these and the densities by y
pub record MapRead (j : Job) (v : List ℕ) : Type 0 where
  pub numbers : List ℕ
  pub named : head_line j ≡ 109 ∷ 97 ∷ 112 ∷ numbers
  pub head : Behind numbers (pos j.group ∷ pos j.a.length ∷ pos j.b.length ∷ pos j.c.length ∷ [])
  pub row :
      (z x : ℕ) → z < layers (group_in j) (halves j) → x < j.a.length →
      Line (row_line j v z x) (pos z ∷ pos x ∷ listed j.b.length (density_at j v z x))

-- "refused", the number, "at", the place
pub record RefusalRead (number place : ℕ) : Type 0 where
  pub first : List ℕ
  pub second : List ℕ
  pub named :
      refusal_text number place
      ≡ 114 ∷ 101 ∷ 102 ∷ 117 ∷ 115 ∷ 101 ∷ 100 ∷ 32 ∷
      (first ++ 32 ∷ 97 ∷ 116 ∷ 32 ∷ (second ++ 10 ∷ []))
  pub is_number : Numeral first number
  pub is_place : Numeral second place

pub record TextReads : Type 0 where
  pub map : (j : Job) (v : List ℕ) → Fitting j v → MapRead j v
  pub refusal :
      (number place : ℕ) → number < 18446744073709551616 → place < 18446744073709551616 →
      RefusalRead number place
