-- The header of an MRC2014 file: the record of numbers and floats, and the words of its bytes.
use Rattle.algebra.specs.Prelude.{true, not, ℕ, List, [], replicate}
use Rattle.algebra.specs.cells.Cell.{J}
use Rattle.signed.specs.Integers.{ℤ, pos, negsuc, nat_abs}
use Rattle.std.specs.Prelude.{◌-ℤ◌, T, ◌≡◌, ◌≤◌, ◌∷◌, ◌++◌}
use Rattle.mrc.specs.Floats.{Float, float_of, bits, lt, is_nan, exact_limit}
use Rattle.mrc.specs.declared.parameters.CellParameters.{CellParameters}
use Rattle.mrc.specs.declared.parameters.CellParameters.TheVariants.{Triclinic, Monoclinic}
use Rattle.mrc.specs.declared.file_header.MrcHeader.{MrcHeader}

-- The header of a map with these lengths, edges, angles, and least and greatest density. The mean is one less than the
-- least and the RMS deviation is -1, which the format reads as not determined.
abbrev pub headed : (n : J) (a b c alpha beta gamma : Float) (least greatest : ℤ) → MrcHeader
headed n a b c alpha beta gamma least greatest = record {
  n1 = n.0;
  n2 = n.1;
  n3 = n.2;
  a = a;
  b = b;
  c = c;
  alpha = alpha;
  beta = beta;
  gamma = gamma;
  least = float_of least;
  greatest = float_of greatest;
  mean = float_of (least -ℤ pos 1);
  rms = float_of (negsuc 0);
}

-- the angles that are not given are 90 degrees
abbrev pub header_of : (n : J) → CellParameters → (least greatest : ℤ) → MrcHeader
header_of n (Triclinic a b c alpha beta gamma) least greatest = headed n a b c alpha beta gamma least greatest
header_of n (Monoclinic a b c gamma) least greatest =
    headed n a b c (float_of (pos 90)) (float_of (pos 90)) gamma least greatest

-- The 256 words of the header as MRC2014 has them, which counts them from 1; those behind the list are zero: no labels.
unfoldable pub header_words : MrcHeader → List ℕ
header_words h =
    -- 1 to 3, NX NY NZ: the points along the columns, rows and sections of the file
    h.n1 ∷ h.n2 ∷ h.n3 ∷
    -- 4, MODE: 32-bit floats
    2 ∷
    -- 5 to 7, NXSTART NYSTART NZSTART: the file begins at the origin
    0 ∷ 0 ∷ 0 ∷
    -- 8 to 10, MX MY MZ: the sampling of the unit cell
    h.n1 ∷ h.n2 ∷ h.n3 ∷
    -- 11 to 16, CELLA and CELLB: edges in ångström and angles in degrees
    bits h.a ∷ bits h.b ∷ bits h.c ∷ bits h.alpha ∷ bits h.beta ∷ bits h.gamma ∷
    -- 17 to 19, MAPC MAPR MAPS: columns are along x, rows along y, sections along z
    1 ∷ 2 ∷ 3 ∷
    -- 20 to 22, DMIN DMAX DMEAN
    bits h.least ∷ bits h.greatest ∷ bits h.mean ∷
    -- 23, ISPG: space group 1, since the whole cell is written
    1 ∷
    -- 24 to 27, NSYMBT, two words of EXTRA, EXTTYP: no extended header; 28, NVERSION
    0 ∷ 0 ∷ 0 ∷ 0 ∷ 20140 ∷
    -- 29 to 52, EXTRA and ORIGIN
    (replicate 24 0 ++
    -- 53, MAP: the letters "MAP " by which a reader knows the format; 54, MACHST: the bytes 44 44 00 00, which say
    -- little-endian; 55, RMS
    542130509 ∷ 17476 ∷ bits h.rms ∷ [])

-- no float of the header is a NaN
pub record NoNan (h : MrcHeader) : Type 0 where
  pub a : T (not (is_nan h.a))
  pub b : T (not (is_nan h.b))
  pub c : T (not (is_nan h.c))
  pub alpha : T (not (is_nan h.alpha))
  pub beta : T (not (is_nan h.beta))
  pub gamma : T (not (is_nan h.gamma))
  pub least : T (not (is_nan h.least))
  pub greatest : T (not (is_nan h.greatest))
  pub mean : T (not (is_nan h.mean))
  pub rms : T (not (is_nan h.rms))

-- How the format says that they are not determined: the mean is less than the least density, and the RMS deviation less
-- than zero.
pub record NotDetermined (h : MrcHeader) : Type 0 where
  pub mean : lt h.mean h.least ≡ true
  pub rms : lt h.rms (float_of (pos 0)) ≡ true

abbrev pub Undetermined : Type 0
Undetermined =
    (n : J) (parameters : CellParameters) (least greatest : ℤ) →
    nat_abs least ≤ exact_limit →
    NotDetermined (header_of n parameters least greatest)
