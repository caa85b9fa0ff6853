-- The header of a file that is written, read as a reader of the format does: each word by its number in the table of
-- MRC2014, which counts them from 1, out of the four bytes where it stands. Every byte of the header is named.
use Rattle.algebra.specs.Prelude.{ℕ, List, get_or}
use Rattle.signed.specs.Integers.{ℤ, pos, negsuc, nat_abs}
use Rattle.std.specs.Prelude.{◌-ℤ◌, ◌≡◌, ◌+◌, ◌*◌, ◌-◌, ◌<◌, ◌≤◌}
use Rattle.std.specs.Int.Signed.{lt_z}
use Rattle.std.specs.Float.Ieee.Exact.{HasValue}
use Rattle.output.specs.Output.{little_endian}
use Rattle.refusals.specs.Refusals.{first}
use Rattle.cell.specs.declared.operations.UnitCell.{UnitCell}
use Rattle.mrc.specs.Floats.{Float, binary32, to_bits, of_bits}
use Rattle.mrc.specs.Ranges.{lesser, greater, of_cell}
use Rattle.mrc.specs.Mrc.{mrc_bytes, mrc_tests}
use Rattle.mrc.specs.declared.parameters.CellParameters.{CellParameters}
use Rattle.mrc.specs.declared.parameters.CellParameters.TheVariants.{Triclinic, Monoclinic}

-- word k of a file, the least significant of its bytes first, and the float of these bits
abbrev pub word_in : List ℕ → (k : ℕ) → ℕ
word_in file k =
    get_or file (4 * k - 4) 0 +
    256 * (get_or file (4 * k - 3) 0 + 256 * (get_or file (4 * k - 2) 0 + 256 * get_or file (4 * k - 1) 0))

abbrev pub float_in : List ℕ → (k : ℕ) → Float
float_in file k = of_bits binary32 (word_in file k)

-- the float at word k is a whole number
pub record Whole (file : List ℕ) (k : ℕ) (n : ℤ) : Type 0 where
  pub value : HasValue (float_in file k) (lt_z n (pos 0)) (nat_abs n) 1

-- the four bytes of word k are those of a float that was given
pub record Given (file : List ℕ) (k : ℕ) (x : Float) : Type 0 where
  pub byte : (i : ℕ) → i < 4 → get_or file (4 * k - 4 + i) 0 ≡ get_or (little_endian 4 (to_bits binary32 x)) i 0

-- the words that do not depend on edges and angles
pub record Words (cell : UnitCell) (file : List ℕ) (least greatest : ℤ) : Type 0 where
  pub nx : word_in file 1 ≡ cell.n1
  pub ny : word_in file 2 ≡ cell.n2
  pub nz : word_in file 3 ≡ cell.n3
  pub mode : word_in file 4 ≡ 2
  pub nxstart : word_in file 5 ≡ 0
  pub nystart : word_in file 6 ≡ 0
  pub nzstart : word_in file 7 ≡ 0
  pub mx : word_in file 8 ≡ cell.n1
  pub my : word_in file 9 ≡ cell.n2
  pub mz : word_in file 10 ≡ cell.n3
  pub mapc : word_in file 17 ≡ 1
  pub mapr : word_in file 18 ≡ 2
  pub maps : word_in file 19 ≡ 3
  pub dmin : Whole file 20 least
  pub dmax : Whole file 21 greatest
  pub dmean : Whole file 22 (least -ℤ pos 1)
  pub ispg : word_in file 23 ≡ 1
  -- NSYMBT, two words of EXTRA and EXTTYP
  pub extended : (k : ℕ) → 24 ≤ k → k ≤ 27 → word_in file k ≡ 0
  pub nversion : word_in file 28 ≡ 20140
  -- EXTRA and ORIGIN
  pub extra : (k : ℕ) → 29 ≤ k → k ≤ 52 → word_in file k ≡ 0
  -- 53, MAP: the letters M, A, P and a blank
  pub letter_m : get_or file 208 0 ≡ 77
  pub letter_a : get_or file 209 0 ≡ 65
  pub letter_p : get_or file 210 0 ≡ 80
  pub blank : get_or file 211 0 ≡ 32
  -- 54, MACHST: hexadecimal 44 44 00 00
  pub stamp1 : get_or file 212 0 ≡ 68
  pub stamp2 : get_or file 213 0 ≡ 68
  pub stamp3 : get_or file 214 0 ≡ 0
  pub stamp4 : get_or file 215 0 ≡ 0
  pub rms : Whole file 55 (negsuc 0)
  -- NLABL and the labels
  pub labels : (k : ℕ) → 56 ≤ k → k ≤ 256 → word_in file k ≡ 0

-- CELLA and CELLB of a cell given with three angles, and with gamma alone
pub record ThreeAngles (file : List ℕ) (a b c alpha beta gamma : Float) : Type 0 where
  pub first : Given file 11 a
  pub second : Given file 12 b
  pub third : Given file 13 c
  pub angle1 : Given file 14 alpha
  pub angle2 : Given file 15 beta
  pub angle3 : Given file 16 gamma

pub record OneAngle (file : List ℕ) (a b c gamma : Float) : Type 0 where
  pub first : Given file 11 a
  pub second : Given file 12 b
  pub third : Given file 13 c
  pub angle1 : Whole file 14 (pos 90)
  pub angle2 : Whole file 15 (pos 90)
  pub angle3 : Given file 16 gamma

pub record HeaderRead : Type 0 where
  -- of every call that is accepted
  pub words :
      (cell : UnitCell) (v : List ℤ) (parameters : CellParameters) (room : ℕ) →
      0 ≡ first (mrc_tests cell v parameters room) →
      Words cell (mrc_bytes cell v parameters) (of_cell cell v lesser) (of_cell cell v greater)
  pub three :
      (cell : UnitCell) (v : List ℤ) (a b c alpha beta gamma : Float) →
      ThreeAngles (mrc_bytes cell v (Triclinic a b c alpha beta gamma)) a b c alpha beta gamma
  pub one :
      (cell : UnitCell) (v : List ℤ) (a b c gamma : Float) →
      OneAngle (mrc_bytes cell v (Monoclinic a b c gamma)) a b c gamma
