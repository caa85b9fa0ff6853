-- The paper's number of each refusal.
use Rattle.std.specs.Prelude.{ℕ, zero, suc, Bool, cond, List, [], ◌∷◌}
use Rattle.refusals.specs.declared.Refusal.{Refusal}
use Rattle.refusals.specs.declared.Refusal.TheVariants.{LineKind, Direction, Length, Factor, Product}
use Rattle.refusals.specs.declared.Refusal.TheVariants.{BufferLength, NotResidue, Group, VolumeTooLarge, Index}
use Rattle.refusals.specs.declared.Refusal.TheVariants.{Contradiction, ScratchTooShort, Inconsistent}
use Rattle.refusals.specs.declared.Refusal.TheVariants.{FileShape, FileVersion, OutputTooShort, NotCollecting}
use Rattle.refusals.specs.declared.Refusal.TheVariants.{NoMap, NoFactors, Occupied, ImpossibleJob, Modulus}
use Rattle.refusals.specs.declared.Refusal.TheVariants.{DifferentCells, Magnitude, UnitCell, FloatRange, Lane}
use Rattle.refusals.specs.declared.Refusal.TheVariants.{Capacity, NothingRuns, Window}

abbrev pub number_of : Refusal → ℕ
number_of LineKind = 1
number_of Direction = 2
number_of Length = 3
number_of Factor = 4
number_of Product = 5
number_of BufferLength = 6
number_of NotResidue = 7
number_of Group = 8
number_of VolumeTooLarge = 9
number_of Index = 10
number_of Contradiction = 12
number_of ScratchTooShort = 13
number_of Inconsistent = 14
number_of FileShape = 15
number_of FileVersion = 16
number_of OutputTooShort = 18
number_of NotCollecting = 21
number_of NoMap = 22
number_of NoFactors = 23
number_of Occupied = 24
number_of ImpossibleJob = 25
number_of Modulus = 26
number_of DifferentCells = 27
number_of Magnitude = 28
number_of UnitCell = 29
number_of FloatRange = 30
number_of Lane = 31
number_of Capacity = 32
number_of NothingRuns = 33
number_of Window = 34

-- ---- Tests in the paper's order, each with the number that it refuses with, and what a call makes of the first that
-- holds.

pub record Test : Type 0 where
  pub fails : Bool
  pub number : ℕ

abbrev pub ◌⇒◌ : Bool → ℕ → Test
b ⇒ n = record { fails = b; number = n }

infix 90 ◌⇒◌
-- the number of the first test that holds, 0 where none does
unfoldable pub first : List Test → ℕ
first [] = 0
first (t ∷ ts) = cond t.fails t.number (first ts)

-- the first outcome for number 0, the second for a refusal's number
abbrev pub accepted : {O : Type 0} → ℕ → O → (ℕ → O) → O
accepted zero o refused = o
accepted (suc n) o refused = refused (suc n)
