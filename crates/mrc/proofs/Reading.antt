-- The words of the header where a reader of the format finds them.
use mathlib.Core.Path.{◌≡◌, refl, sym, ◌∙◌, ap, subst}
use mathlib.Core.Bool.{true}
use mathlib.Core.List.{List, ◌++◌}
use Prim.Native.Nat.{ℕ, zero, suc, ◌+◌, ◌*◌, ◌-◌, ◌<◌, ◌≤◌}
use native.Mathlib.Omega.{arith}
use borrow.Author.Tests.{leb-false, not-false}
use lib.ListN.{length, get_or, drop, replicate, length-replicate, get_or-replicate, get_or-append}
use lib.Seq.{get_or-drop}
use lib.IntN.{ℤ, pos, negsuc, nat_abs, ◌-ℤ◌, -ℤ_one}
use lib.Dec.{T}
use lib.Signed.{lt_z}
use lib.Ieee.{Float, binary32, of_bits}
use lib.Ieee.Exact.{HasValue}
use lib.Ieee.Bits.{of_bits-to_bits, to_bits-lt}
use lib.Ieee.Fits.{of_int-fits}
use Rattle.algebra.proofs.ring.Laws.{along}
use Rattle.refusals.specs.Refusals.{first}
use Rattle.refusals.proofs.Tests.{passed}
use Rattle.cell.specs.declared.operations.UnitCell.{UnitCell}
use Rattle.cell.specs.Operations.{cell_lengths, Sizes}
use Rattle.header.proofs.Headers.{sizes_of}
use Rattle.output.specs.Output.{little_endian}
use Rattle.output.proofs.LittleEndian.{length_little}
use Rattle.mrc.specs.Floats.{float_of, bits, exact_limit}
use Rattle.mrc.specs.Header.{headed, header_of, header_words}
use Rattle.mrc.specs.HeaderRead.{word_in, float_in, Whole, Given, Words, ThreeAngles, OneAngle, HeaderRead}
use Rattle.mrc.specs.Ranges.{lesser, greater, of_cell}
use Rattle.mrc.specs.Mrc.{header_bytes, cell_bytes, mrc_bytes, all_exact, mrc_tests}
use Rattle.mrc.specs.declared.parameters.CellParameters.{CellParameters}
use Rattle.mrc.specs.declared.parameters.CellParameters.TheVariants.{Triclinic, Monoclinic}
use Rattle.mrc.specs.declared.file_header.MrcHeader.{MrcHeader}
use Rattle.mrc.proofs.WholeFloats.{whole_value, one_less_within}
use Rattle.mrc.proofs.Densities.{ends_exact}
use Rattle.mrc.proofs.Bytes.{length_header, each_byte}

-- four bytes back to their number
pub little_back : (w : ℕ) → w < 4294967296 → get_or (little_endian 4 w) 0 0 + 256 * (get_or (little_endian 4 w) 1 0 + 256 * (get_or (little_endian 4 w) 2 0 + 256 * get_or (little_endian 4 w) 3 0)) ≡ w
unfolding little_endian
little_back w l = omega (arith, l)

module _ (h : MrcHeader) (rest : List ℕ) where
  abbrev file : List ℕ
  file = header_bytes h ++ rest

  abbrev word : ℕ → ℕ
  word j = get_or (header_words h) j 0

  header_byte : (j i : ℕ) → j < 256 → i < 4 → get_or file (j * 4 + i) 0 ≡ get_or (little_endian 4 (word j)) i 0
  unfolding header_bytes
  header_byte j i lj li =
      get_or-append (header_bytes h) rest 0 (j * 4 + i) (omega (arith, length_header h, lj, li))
      ∙ each_byte 256 4 (λ k. little_endian 4 (word k)) (λ k. length_little 4 (word k)) j i lj li

  -- byte i of word k
  word_byte : (k i p w : ℕ) → 1 ≤ k → k ≤ 256 → i < 4 → p + 4 ≡ 4 * k + i → word (k - 1) ≡ w → get_or file p 0 ≡ get_or (little_endian 4 w) i 0
  word_byte k i p w a b l q e =
      along (λ (p : ℕ). get_or file p 0) p ((k - 1) * 4 + i) (omega (arith, a, q))
      ∙ header_byte (k - 1) i (omega (arith, a, b)) l
      ∙ ap (λ (w : ℕ). get_or (little_endian 4 w) i 0) e

  word_is : (k w : ℕ) → 1 ≤ k → k ≤ 256 → word (k - 1) ≡ w → w < 4294967296 → word_in file k ≡ w
  word_is k w a b e l =
      let b0 = word_byte k 0 (4 * k - 4) w a b (omega arith) (omega (arith, a)) e in
      let b1 = word_byte k 1 (4 * k - 3) w a b (omega arith) (omega (arith, a)) e in
      let b2 = word_byte k 2 (4 * k - 2) w a b (omega arith) (omega (arith, a)) e in
      let b3 = word_byte k 3 (4 * k - 1) w a b (omega arith) (omega (arith, a)) e in
      (λ i. b0 i + 256 * (b1 i + 256 * (b2 i + 256 * b3 i))) ∙ little_back w l

  whole_is : (k : ℕ) (n : ℤ) → 1 ≤ k → k ≤ 256 → word (k - 1) ≡ bits (float_of n) → nat_abs n ≤ suc exact_limit → Whole file k n
  whole_is k n a b e l = record { value = subst (λ (x : Float). HasValue x (lt_z n (pos 0)) (nat_abs n) 1) (sym read) (whole_value n l) }
    where
      read : float_in file k ≡ float_of n
      read =
          ap (of_bits binary32) (word_is k (bits (float_of n)) a b e (omega (arith, to_bits-lt binary32 (float_of n) (of_int-fits binary32 n))))
          ∙ of_bits-to_bits binary32 (float_of n) (of_int-fits binary32 n)

  given_is : (k : ℕ) (x : Float) → 1 ≤ k → k ≤ 256 → word (k - 1) ≡ bits x → Given file k x
  given_is k x a b e = record { byte = λ i l. word_byte k i (4 * k - 4 + i) (bits x) a b l (omega (arith, a)) e }

  -- ---- the words that are zero in every header

  zeros : (k from m : ℕ) → 1 ≤ k → k ≤ 256 → k - 1 ≡ from + m → get_or (drop from (header_words h)) m 0 ≡ 0 → word_in file k ≡ 0
  zeros k from m a b q e = word_is k 0 a b (along (λ (p : ℕ). word p) (k - 1) (from + m) q ∙ sym (get_or-drop from (header_words h) m 0) ∙ e) (omega arith)

  four_zeros : (m : ℕ) → m < 4 → get_or (drop 23 (header_words h)) m 0 ≡ 0
  unfolding header_words
  four_zeros zero l = refl
  four_zeros (suc zero) l = refl
  four_zeros (suc (suc zero)) l = refl
  four_zeros (suc (suc (suc zero))) l = refl
  four_zeros (suc (suc (suc (suc m)))) l = absurd (omega (arith, l))

  more_zeros : (m : ℕ) → m < 24 → get_or (drop 28 (header_words h)) m 0 ≡ 0
  unfolding header_words
  more_zeros m l = get_or-append (replicate 24 0) (drop 52 (header_words h)) 0 m (omega (arith, l, length-replicate {A = ℕ} 24 0)) ∙ get_or-replicate 24 m 0 0 l

  last_zeros : (m : ℕ) → get_or (drop 55 (header_words h)) m 0 ≡ 0
  unfolding header_words
  last_zeros m = refl

-- ---- the header of a cell

module _ (cell : UnitCell) (sizes : Sizes cell) (a b c alpha beta gamma : Float) (least greatest : ℤ) (low : nat_abs least ≤ exact_limit) (high : nat_abs greatest ≤ exact_limit) (rest : List ℕ) where
  abbrev h : MrcHeader
  h = headed (cell_lengths cell) a b c alpha beta gamma least greatest

  abbrev f : List ℕ
  f = header_bytes h ++ rest

  -- a word, and a byte of one, with a number that is read off the header
  at : (k w : ℕ) → 1 ≤ k → k ≤ 256 → get_or (header_words h) (k - 1) 0 ≡ w → w < 4294967296 → word_in f k ≡ w
  at k w x y e l = word_is h rest k w x y e l

  letters : get_or (header_words h) 52 0 ≡ 542130509
  unfolding header_words
  letters = refl

  stamp : get_or (header_words h) 53 0 ≡ 17476
  unfolding header_words
  stamp = refl

  letter : (i p byte : ℕ) → i < 4 → p ≡ 208 + i → get_or (little_endian 4 542130509) i 0 ≡ byte → get_or f p 0 ≡ byte
  letter i p byte l q e = word_byte h rest 53 i p 542130509 (omega arith) (omega arith) l (omega (arith, q)) letters ∙ e

  stamped : (i p byte : ℕ) → i < 4 → p ≡ 212 + i → get_or (little_endian 4 17476) i 0 ≡ byte → get_or f p 0 ≡ byte
  stamped i p byte l q e = word_byte h rest 54 i p 17476 (omega arith) (omega arith) l (omega (arith, q)) stamp ∙ e

  words : Words cell f least greatest
  unfolding header_words little_endian
  words = record {
    nx = at 1 cell.n1 (omega arith) (omega arith) refl (omega (arith, sizes.first.high));
    ny = at 2 cell.n2 (omega arith) (omega arith) refl (omega (arith, sizes.second.high));
    nz = at 3 cell.n3 (omega arith) (omega arith) refl (omega (arith, sizes.third.high));
    mode = at 4 2 (omega arith) (omega arith) refl (omega arith);
    nxstart = at 5 0 (omega arith) (omega arith) refl (omega arith);
    nystart = at 6 0 (omega arith) (omega arith) refl (omega arith);
    nzstart = at 7 0 (omega arith) (omega arith) refl (omega arith);
    mx = at 8 cell.n1 (omega arith) (omega arith) refl (omega (arith, sizes.first.high));
    my = at 9 cell.n2 (omega arith) (omega arith) refl (omega (arith, sizes.second.high));
    mz = at 10 cell.n3 (omega arith) (omega arith) refl (omega (arith, sizes.third.high));
    mapc = at 17 1 (omega arith) (omega arith) refl (omega arith);
    mapr = at 18 2 (omega arith) (omega arith) refl (omega arith);
    maps = at 19 3 (omega arith) (omega arith) refl (omega arith);
    dmin = whole_is h rest 20 least (omega arith) (omega arith) refl (omega (arith, low));
    dmax = whole_is h rest 21 greatest (omega arith) (omega arith) refl (omega (arith, high));
    dmean = whole_is h rest 22 (least -ℤ pos 1) (omega arith) (omega arith) refl (subst (λ (n : ℤ). nat_abs n ≤ suc exact_limit) (sym (-ℤ_one least)) (one_less_within least low));
    ispg = at 23 1 (omega arith) (omega arith) refl (omega arith);
    extended = λ k x y. zeros h rest k 23 (k - 24) (omega (arith, x)) (omega (arith, y)) (omega (arith, x)) (four_zeros h rest (k - 24) (omega (arith, x, y)));
    nversion = at 28 20140 (omega arith) (omega arith) refl (omega arith);
    extra = λ k x y. zeros h rest k 28 (k - 29) (omega (arith, x)) (omega (arith, y)) (omega (arith, x)) (more_zeros h rest (k - 29) (omega (arith, x, y)));
    letter_m = letter 0 208 77 (omega arith) (omega arith) refl;
    letter_a = letter 1 209 65 (omega arith) (omega arith) refl;
    letter_p = letter 2 210 80 (omega arith) (omega arith) refl;
    blank = letter 3 211 32 (omega arith) (omega arith) refl;
    stamp1 = stamped 0 212 68 (omega arith) (omega arith) refl;
    stamp2 = stamped 1 213 68 (omega arith) (omega arith) refl;
    stamp3 = stamped 2 214 0 (omega arith) (omega arith) refl;
    stamp4 = stamped 3 215 0 (omega arith) (omega arith) refl;
    rms = whole_is h rest 55 (negsuc 0) (omega arith) (omega arith) refl (omega arith);
    labels = λ k x y. zeros h rest k 55 (k - 56) (omega (arith, x)) (omega (arith, y)) (omega (arith, x)) (last_zeros h rest (k - 56));
  }

module _ (cell : UnitCell) (v : List ℤ) where
  abbrev lo : ℤ
  lo = of_cell cell v lesser

  abbrev hi : ℤ
  hi = of_cell cell v greater

  cell_words : (parameters : CellParameters) (room : ℕ) → 0 ≡ first (mrc_tests cell v parameters room) → Words cell (mrc_bytes cell v parameters) lo hi
  unfolding mrc_bytes
  cell_words parameters room none = by parameters
    where
      tests : Sizes cell × (nat_abs lo ≤ exact_limit) × (nat_abs hi ≤ exact_limit)
      tests =
          let t = passed (mrc_tests cell v parameters room) tt none in
          let sizes = sizes_of {cell = cell} (leb-false 5 cell.group t.0) (not-false _ t.1.0) in
          let exact : all_exact cell v ≡ true = not-false _ t.1.1.1.1.1.0 in
          let e = ends_exact cell v sizes (subst T (sym exact) tt) in
          (sizes, e.0, e.1)

      by : (p : CellParameters) → Words cell (header_bytes (header_of (cell_lengths cell) p lo hi) ++ cell_bytes cell v) lo hi
      by (Triclinic a b c alpha beta gamma) = words cell tests.0 a b c alpha beta gamma lo hi tests.1 tests.2 (cell_bytes cell v)
      by (Monoclinic a b c gamma) = words cell tests.0 a b c (float_of (pos 90)) (float_of (pos 90)) gamma lo hi tests.1 tests.2 (cell_bytes cell v)

  three_angles : (a b c alpha beta gamma : Float) → ThreeAngles (mrc_bytes cell v (Triclinic a b c alpha beta gamma)) a b c alpha beta gamma
  unfolding mrc_bytes header_words
  three_angles a b c alpha beta gamma =
      let h = headed (cell_lengths cell) a b c alpha beta gamma lo hi in
      let given : (k : ℕ) (x : Float) → 1 ≤ k → k ≤ 256 → get_or (header_words h) (k - 1) 0 ≡ bits x → Given (header_bytes h ++ cell_bytes cell v) k x = given_is h (cell_bytes cell v) in
      record {
        first = given 11 a (omega arith) (omega arith) refl;
        second = given 12 b (omega arith) (omega arith) refl;
        third = given 13 c (omega arith) (omega arith) refl;
        angle1 = given 14 alpha (omega arith) (omega arith) refl;
        angle2 = given 15 beta (omega arith) (omega arith) refl;
        angle3 = given 16 gamma (omega arith) (omega arith) refl;
      }

  one_angle : (a b c gamma : Float) → OneAngle (mrc_bytes cell v (Monoclinic a b c gamma)) a b c gamma
  unfolding mrc_bytes header_words
  one_angle a b c gamma =
      let h = headed (cell_lengths cell) a b c (float_of (pos 90)) (float_of (pos 90)) gamma lo hi in
      let given : (k : ℕ) (x : Float) → 1 ≤ k → k ≤ 256 → get_or (header_words h) (k - 1) 0 ≡ bits x → Given (header_bytes h ++ cell_bytes cell v) k x = given_is h (cell_bytes cell v) in
      record {
        first = given 11 a (omega arith) (omega arith) refl;
        second = given 12 b (omega arith) (omega arith) refl;
        third = given 13 c (omega arith) (omega arith) refl;
        angle1 = whole_is h (cell_bytes cell v) 14 (pos 90) (omega arith) (omega arith) refl (omega arith);
        angle2 = whole_is h (cell_bytes cell v) 15 (pos 90) (omega arith) (omega arith) refl (omega arith);
        angle3 = given 16 gamma (omega arith) (omega arith) refl;
      }

pub header_read : HeaderRead
header_read = record { words = cell_words; three = three_angles; one = one_angle }
