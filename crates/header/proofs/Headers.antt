-- What the tests of a header say of its numbers: three tests in turn, the lengths, and the size of the volume.
use mathlib.Core.Path.{◌≡◌, refl, ◌∙◌, sym, ap, subst}
use mathlib.Core.Bool.{Bool, true, false, ◌&&◌}
use mathlib.Core.List.{List, [], ◌∷◌}
use Prim.Native.Nat.{ℕ, suc, ◌+◌, ◌*◌, ◌/◌, ◌<◌, ◌≤◌}
use native.Mathlib.Nat.{mul-le-mul}
use native.Mathlib.Omega.{arith}
use lib.Dec.{T, leb, ltb, eqb}
use borrow.Author.Tests.{not-false, eqb-true, leb-true, leb-false, eq-eqb, ne_eqb, lt-ltb, le-ltb}
use Rattle.algebra.specs.cells.Cell.{Group, P1, P2₁, Pm, Pa, P2₁2₁2₁, planes}
use Rattle.lengths.specs.Lengths.{product, octal, admitted, factors_ok}
use Rattle.refusals.specs.Refusals.{first, ◌⇒◌}
use Rattle.refusals.proofs.Tests.{both, stop, pass, none, not_t, Passed, passed}
use Rattle.lengths.specs.Admitted.{AdmittedLength, FactorList}
use Rattle.lengths.proofs.AdmittedLengths.{admitted_length, factor_list}
use Rattle.cell.specs.declared.operations.UnitCell.{UnitCell}
use Rattle.cell.specs.Operations.{cell_group, cell_halves, Length, Sizes}
use Rattle.cell.specs.Volume.{volume_length}
use Rattle.header.specs.Header.{Header, volume_limit, needed, axis_tests}
use Rattle.header.specs.Cells.{header_cell}

-- ---- three tests together

pub three : {r a s b t c : Bool} → r ≡ a → s ≡ b → t ≡ c → (r && (s && t)) ≡ (a && (b && c))
three e f g = λ i. e i && (f i && g i)

-- three tests that are all true
pub all_three : (a b c : Bool) → (a && (b && c)) ≡ true → (a ≡ true) × (b ≡ true) × (c ≡ true)
all_three a b c e =
    let h = both a (b && c) e in
    let k = both b c h.1 in
    (h.0, k.0, k.1)

-- ---- the first number of some tests: one that is not 0 refuses, 0 does not

pub refused_at_lem : (n m : ℕ) → (n ≡ 0 → ⊥) → n ≡ m → false ≡ eqb m 0
refused_at_lem n m z e = sym (ne_eqb m 0 (λ q. z (e ∙ q)))

pub accepted_at : (m : ℕ) → 0 ≡ m → true ≡ eqb m 0
accepted_at m e = sym (eq-eqb m 0 (sym e))

-- ---- lengths

pub length_of_lem : (n : ℕ) → admitted n ≡ true → Length n
length_of_lem n e =
    let s = admitted_length n e in
    record { even = omega (arith, s.whole); low = omega (arith, s.whole, s.positive); high = s.short }

pub half_small : (n : ℕ) → admitted n ≡ true → n / 2 ≤ 1440
half_small n e = omega (arith, (admitted_length n e).short)

-- what the test of each product asks for
pub products_may : (n1 n2 n3 : ℕ) (f1 f2 f3 : List ℕ) → (admitted n1 && (admitted n2 && admitted n3)) ≡ true → (factors_ok f1 && (factors_ok f2 && factors_ok f3)) ≡ true →
    ((factors_ok f1 ≡ true) × (n1 / 2 ≤ 1440)) × ((factors_ok f2 ≡ true) × (n2 / 2 ≤ 1440)) × ((factors_ok f3 ≡ true) × (n3 / 2 ≤ 1440))
products_may n1 n2 n3 f1 f2 f3 e f =
    let a = all_three (admitted n1) (admitted n2) (admitted n3) e in
    let b = all_three (factors_ok f1) (factors_ok f2) (factors_ok f3) f in
    ((b.0, half_small n1 a.0), (b.1, half_small n2 a.1), (b.2, half_small n3 a.2))

pub sizes_of : {cell : UnitCell} → cell.group < 5 → (admitted cell.n1 && (admitted cell.n2 && admitted cell.n3)) ≡ true → Sizes cell
sizes_of {cell} k e =
    let h = all_three (admitted cell.n1) (admitted cell.n2) (admitted cell.n3) e in
    record { known = k; first = length_of_lem _ h.0; second = length_of_lem _ h.1; third = length_of_lem _ h.2 }

-- ---- what is known of a header that no test refuses

pub record SoundAxis (n : ℕ) (l : List ℕ) : Type 0 where
  pub size : AdmittedLength n
  pub list : FactorList n (octal l)

sound_axis : {n : ℕ} {l : List ℕ} → admitted n ≡ true → factors_ok l ≡ true → eqb (product l) (n / 2) ≡ true → SoundAxis n l
sound_axis {n} {l} a f q = record { size = admitted_length n a; list = factor_list l (admitted_length n a) f (eqb-true _ _ q) }

module _ (h : Header) (none : 0 ≡ first (axis_tests h)) where
  tests : Passed (axis_tests h)
  tests = passed (axis_tests h) tt none

  pub sound_sizes : h.group < 5 → Sizes (header_cell h)
  sound_sizes k = sizes_of k (not-false _ tests.0)

  -- each length is admitted, and each list is one of its half
  pub sound_axes : SoundAxis h.lengths.0 h.list1 × SoundAxis h.lengths.1 h.list2 × SoundAxis h.lengths.2 h.list3
  sound_axes =
      let n = h.lengths in
      let a = all_three (admitted n.0) (admitted n.1) (admitted n.2) (not-false _ tests.0) in
      let f = all_three (factors_ok h.list1) (factors_ok h.list2) (factors_ok h.list3) (not-false _ tests.1.0) in
      let q = all_three (eqb (product h.list1) (n.0 / 2)) (eqb (product h.list2) (n.1 / 2)) (eqb (product h.list3) (n.2 / 2)) (not-false _ tests.1.1.0) in
      (sound_axis a.0 f.0 q.0, sound_axis a.1 f.1 q.1, sound_axis a.2 f.2 q.2)

  pub sound_lists : ((factors_ok h.list1 ≡ true) × (product h.list1 ≤ 1440)) × ((factors_ok h.list2 ≡ true) × (product h.list2 ≤ 1440)) × ((factors_ok h.list3 ≡ true) × (product h.list3 ≤ 1440))
  sound_lists =
      let n = h.lengths in
      let m = products_may n.0 n.1 n.2 h.list1 h.list2 h.list3 (not-false _ tests.0) (not-false _ tests.1.0) in
      let q = all_three (eqb (product h.list1) (n.0 / 2)) (eqb (product h.list2) (n.1 / 2)) (eqb (product h.list3) (n.2 / 2)) (not-false _ tests.1.1.0) in
      ((m.0.0, product_small _ _ q.0 m.0.1), (m.1.0, product_small _ _ q.1 m.1.1), (m.2.0, product_small _ _ q.2 m.2.1))
    where
      product_small : (x y : ℕ) → eqb x y ≡ true → y ≤ 1440 → x ≤ 1440
      product_small x y e l = omega (arith, eqb-true x y e)

-- ---- the tests of a header axis by axis

-- the length is admitted, and the list has its half as product
abbrev pub valid_axis : ℕ → List ℕ → Bool
valid_axis n l = admitted n && (factors_ok l && eqb (product l) (n / 2))

-- a number is within a limit or refused for it
limit_decides : (limit v : ℕ) → leb v limit ≡ eqb (first (ltb limit v ⇒ 9 ∷ [])) 0
limit_decides limit v = go (leb v limit) refl
  where
    go : (b : Bool) → leb v limit ≡ b → b ≡ eqb (first (ltb limit v ⇒ 9 ∷ [])) 0
    go true e = accepted_at _ (pass 9 _ (le-ltb limit v (leb-true v limit e)) none)
    go false e = refused_at_lem 9 _ (omega arith) (stop _ (lt-ltb limit v (leb-false v limit e)))

module _ (h : Header) where
  abbrev pub axes : Bool
  axes = valid_axis h.lengths.0 h.list1 && (valid_axis h.lengths.1 h.list2 && valid_axis h.lengths.2 h.list3)

  abbrev lengths_fit : Bool
  lengths_fit = admitted h.lengths.0 && (admitted h.lengths.1 && admitted h.lengths.2)

  abbrev lists_fit : Bool
  lists_fit = factors_ok h.list1 && (factors_ok h.list2 && factors_ok h.list3)

  abbrev products_fit : Bool
  products_fit = eqb (product h.list1) (h.lengths.0 / 2) && (eqb (product h.list2) (h.lengths.1 / 2) && eqb (product h.list3) (h.lengths.2 / 2))

  -- axis by axis as test by test
  axes_tests : axes ≡ true → (lengths_fit ≡ true) × (lists_fit ≡ true) × (products_fit ≡ true)
  axes_tests e =
      let v = all_three (valid_axis h.lengths.0 h.list1) (valid_axis h.lengths.1 h.list2) (valid_axis h.lengths.2 h.list3) e in
      let x = all_three (admitted h.lengths.0) (factors_ok h.list1) (eqb (product h.list1) (h.lengths.0 / 2)) v.0 in
      let y = all_three (admitted h.lengths.1) (factors_ok h.list2) (eqb (product h.list2) (h.lengths.1 / 2)) v.1 in
      let z = all_three (admitted h.lengths.2) (factors_ok h.list3) (eqb (product h.list3) (h.lengths.2 / 2)) v.2 in
      (three x.0 y.0 z.0, three x.1 y.1 z.1, three x.2 y.2 z.2)

  tests_axes : lengths_fit ≡ true → lists_fit ≡ true → products_fit ≡ true → axes ≡ true
  tests_axes a f q =
      let x = all_three (admitted h.lengths.0) (admitted h.lengths.1) (admitted h.lengths.2) a in
      let y = all_three (factors_ok h.list1) (factors_ok h.list2) (factors_ok h.list3) f in
      let z = all_three (eqb (product h.list1) (h.lengths.0 / 2)) (eqb (product h.list2) (h.lengths.1 / 2)) (eqb (product h.list3) (h.lengths.2 / 2)) q in
      three (three x.0 y.0 z.0) (three x.1 y.1 z.1) (three x.2 y.2 z.2)

  pub axes_sizes : h.group < 5 → axes ≡ true → Sizes (header_cell h)
  axes_sizes k e = sizes_of k (axes_tests e).0

  -- with its axes valid a header is refused for its volume alone
  pub axes_valid : {v : ℕ} → axes ≡ true → v ≡ needed h → leb v volume_limit ≡ eqb (first (axis_tests h)) 0
  axes_valid {v} e n =
      let t = axes_tests e in
      limit_decides volume_limit v ∙ ap (λ (k : ℕ). eqb (first (ltb volume_limit k ⇒ 9 ∷ [])) 0) n ∙ ap (λ (k : ℕ). eqb k 0) (pass 3 _ (not_t _ t.0) (pass 4 _ (not_t _ t.1) (pass 5 _ (not_t _ t.2) refl)))

  pub axes_refused : axes ≡ false → false ≡ eqb (first (axis_tests h)) 0
  axes_refused e = sym (ne_eqb (first (axis_tests h)) 0 (λ q. subst T (sym (sound (sym q)) ∙ e) tt))
    where
      sound : 0 ≡ first (axis_tests h) → axes ≡ true
      sound q = let t = passed (axis_tests h) tt q in tests_axes (not-false _ t.0) (not-false _ t.1.0) (not-false _ t.1.1.0)

-- ---- the volume, of any lengths that are numbers of two bytes

-- those of a cell are
pub short_lengths : {cell : UnitCell} → Sizes cell → (cell.n1 < 65536) × (cell.n2 < 65536) × (cell.n3 < 65536)
short_lengths s = (omega (arith, s.first.high), omega (arith, s.second.high), omega (arith, s.third.high))

planes_most : (g : Group) (c : ℕ) → planes g c ≤ 2 * c + 1
unfolding planes
planes_most P1 c = omega arith
planes_most P2₁ c = omega arith
planes_most Pm c = omega arith
planes_most Pa c = omega arith
planes_most P2₁2₁2₁ c = omega arith

module _ (cell : UnitCell) {layers : ℕ} (e : layers ≡ planes (cell_group cell) (cell.n3 / 2)) where
  pub volume_is : 2 * (layers * (2 * (cell.n1 / 2)) * (cell.n2 / 2 + 1)) ≡ volume_length (cell_group cell) (cell_halves cell)
  volume_is =
      let next : cell.n2 / 2 + 1 ≡ suc (cell.n2 / 2) = omega arith in
      λ i. 2 * (e i * (2 * (cell.n1 / 2)) * next i)

  module _ (short : (cell.n1 < 65536) × (cell.n2 < 65536) × (cell.n3 < 65536)) where
    pub rows_few : layers * (2 * (cell.n1 / 2)) ≤ 4294967296
    rows_few =
        let planes : layers ≤ 65536 = omega (arith, e, planes_most (cell_group cell) (cell.n3 / 2), short.2) in
        let rows : 2 * (cell.n1 / 2) ≤ 65536 = omega (arith, short.0) in
        omega (arith, mul-le-mul planes rows)

    pub numbers_few : layers * (2 * (cell.n1 / 2)) * (cell.n2 / 2 + 1) ≤ 140737488355328
    numbers_few =
        let columns : cell.n2 / 2 + 1 ≤ 32768 = omega (arith, short.1) in
        omega (arith, mul-le-mul rows_few columns)

-- a place of a cell's volume is a number of a machine word, in bytes too
pub place_small : {cell : UnitCell} (q : ℕ) → Sizes cell → q < volume_length (cell_group cell) (cell_halves cell) → q < 281474976710656
place_small {cell} q s l =
    let e = volume_is cell {layers = planes (cell_group cell) (cell.n3 / 2)} refl in
    let b = numbers_few cell {layers = planes (cell_group cell) (cell.n3 / 2)} refl (short_lengths s) in
    let k : q < 2 * (planes (cell_group cell) (cell.n3 / 2) * (2 * (cell.n1 / 2)) * (cell.n2 / 2 + 1)) = subst (λ (m : ℕ). q < m) (sym e) l in
    omega (arith, k, b)
