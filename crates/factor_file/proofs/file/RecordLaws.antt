-- The records of a volume: what one place gives, how many there can be, and their bytes.
use mathlib.Core.Path.{◌≡◌, refl, sym, ◌∙◌, ap}
use mathlib.Core.Bool.{Bool, true, false, ◌&&◌, not, cond}
use mathlib.Core.List.{List, [], ◌∷◌, ◌++◌, map, map-append, append-nil}
use Prim.Native.Nat.{ℕ, suc, ◌*◌, ◌/◌, ◌<◌, ◌≤◌}
use native.Mathlib.Nat.{mul-le-mul, zero-mod}
use native.Mathlib.Omega.{arith}
use lib.Dec.{eqb}
use lib.ListN.{length, length-map, get_or}
use borrow.Author.Tests.{lt-ltb}
use Rattle.algebra.specs.ring.Ring.{gauss, residue, residues}
use Rattle.algebra.specs.cells.Cell.{J, Group, full, planes, at, factor_acts, cell_from, places_of, records_of, every}
use Rattle.numbers.specs.declared.Pair.{Pair}
use Rattle.numbers.specs.Value.{prime, Value, field, conj, value, pair_of}
use Rattle.slices.specs.Pairs.{Below}
use Rattle.cell.specs.Volume.{group_of, volume_length, factors_in}
use Rattle.cell.specs.declared.operations.UnitCell.{UnitCell}
use Rattle.cell.specs.Operations.{cell_group, cell_halves, Sizes}
use Rattle.cell.specs.Places.{all_below_at}
use Rattle.cell.specs.Consistency.{same_value}
use Rattle.cell.specs.TestSteps.{is_zero}
use Rattle.cell.proofs.OperationLaws.{by_group}
use Rattle.output.specs.Written.{Wrote}
use Rattle.output.proofs.Writing.{wrote_none, wrote_as}
use Rattle.file_format.specs.Format.{raw_bytes, all_bytes}
use Rattle.file_format.specs.Parsed.{file_record}
use Rattle.factor_file.specs.File.{no_later, records_at, is_lowest}
use Rattle.factor_file.proofs.orbits.PlaceOrder.{upper_not_lowest}
use Rattle.factor_file.specs.Steps.{record_value, pair_bytes, records_with}
use Rattle.file_format.proofs.layout.ByteLaws.{all_append}
use Rattle.factor_file.proofs.file.Places.{Spreads, NoneBeyond, length_cell, records_most, records_spread}

-- ---- the numbers that a factor is read from are small, whichever they are

pub small_at_all : {p : ℕ} {v : List ℕ} → Below p v → (places : List ℕ) → all_below_at p v places ≡ true
unfolding every
small_at_all b [] = refl
small_at_all {p} {v} b (q ∷ places) = both _ _ (lt-ltb (get_or v q 0) p (b.each q)) (small_at_all b places)
  where
    both : (x y : Bool) → x ≡ true → y ≡ true → (x && y) ≡ true
    both x y e f = λ i. e i && f i

-- ---- zero, as a value and as a pair

same_zero : (μ : ℕ) (x : Value μ) → same_value x (field μ).zer ≡ is_zero (pair_of x)
unfolding pair_of gauss residues residue
same_zero μ x = λ i. eqb x.0.val (zero-mod (prime μ) i) && eqb x.1.val (zero-mod (prime μ) i)

zero_tested : (μ : ℕ) → is_zero (pair_of (value μ 0 0)) ≡ true
unfolding pair_of residue
zero_tested μ = λ i. eqb (zero-mod (prime μ) i) 0 && eqb (zero-mod (prime μ) i) 0

-- the list of one record
abbrev pub alone : (μ : ℕ) → J → Value μ → List (J × Value μ)
alone μ j x = (j, x) ∷ []

-- the bytes of records of indices and values
abbrev pub bytes_of : (μ : ℕ) → List (J × Value μ) → List ℕ
bytes_of μ cs = all_bytes (map (file_record μ) cs)

bytes_append : (μ : ℕ) (cs ds : List (J × Value μ)) → bytes_of μ (cs ++ ds) ≡ bytes_of μ cs ++ bytes_of μ ds
bytes_append μ cs ds = ap all_bytes (map-append (file_record μ) cs ds) ∙ all_append (map (file_record μ) cs) (map (file_record μ) ds)

module _ (g : Group) (a : J) (μ : ℕ) (v : List ℕ) where
  -- ---- records and bytes of places, one after another

  abbrev pub bytes_at : List J → List ℕ
  bytes_at places = bytes_of μ (records_at g a μ v places)

  pub volume_records : Spreads (records_at g a μ v)
  volume_records = records_spread (factor_acts (field μ) (conj μ) a) no_later same_value (full g) (at (factors_in g a μ v))

  pub volume_bytes : Spreads bytes_at
  unfolding all_bytes
  volume_bytes = record {
    nil = ap (bytes_of μ) volume_records.nil;
    append = λ l m. ap (bytes_of μ) (volume_records.append l m) ∙ bytes_append μ (records_at g a μ v l) (records_at g a μ v m);
  }

  pub few_records : (places : List J) → length (records_at g a μ v places) ≤ length places
  few_records = records_most (factor_acts (field μ) (conj μ) a) no_later same_value (full g) (at (factors_in g a μ v))

  -- ---- one place

  module _ (j : J) where
    given : (b s : Bool) (x : Value μ) → cond (b && not s) (alone μ j x) [] ≡ cond b (cond s [] (alone μ j x)) []
    given true true x = refl
    given true false x = refl
    given false s x = refl

    tested : (b : Bool) (x : Value μ) → cond b (cond (is_zero (pair_of x)) [] (alone μ j x)) [] ≡ cond (is_zero (pair_of (cond b x (value μ 0 0)))) [] (alone μ j (cond b x (value μ 0 0)))
    tested true x = refl
    tested false x = ap (λ b. cond b [] (alone μ j (value μ 0 0))) (sym (zero_tested μ))

    place_records_lem : records_at g a μ v (j ∷ []) ≡ cond (is_zero (pair_of (record_value g a μ v j))) [] (alone μ j (record_value g a μ v j))
    unfolding records_of factor_acts record_value
    place_records_lem =
        let x = at (factors_in g a μ v) j in
        ap (λ (s : Bool). cond (is_lowest g a j && not s) (alone μ j x) []) (same_zero μ x) ∙ given (is_lowest g a j) (is_zero (pair_of x)) x ∙ tested (is_lowest g a j) x

    pub not_lowest_none : is_lowest g a j ≡ false → records_at g a μ v (j ∷ []) ≡ []
    unfolding records_of factor_acts
    not_lowest_none e = let x = at (factors_in g a μ v) j in ap (λ (b : Bool). cond (b && not (same_value x (field μ).zer)) (alone μ j x) []) e

    pub lowest_value : is_lowest g a j ≡ true → {x : Pair} → x ≡ pair_of (at (factors_in g a μ v) j) → x ≡ pair_of (record_value g a μ v j)
    unfolding record_value
    lowest_value e f = f ∙ ap (λ (b : Bool). pair_of (cond b (at (factors_in g a μ v) j) (value μ 0 0))) (sym e)

    -- x is the value as the code holds it, t what it found of x
    module _ {x : Pair} {t : Bool} (e : x ≡ pair_of (record_value g a μ v j)) (f : t ≡ is_zero x) where
      found : {b : Bool} → t ≡ b → is_zero (pair_of (record_value g a μ v j)) ≡ b
      found h = sym (f ∙ ap is_zero e) ∙ h

      no_record : t ≡ true → records_at g a μ v (j ∷ []) ≡ []
      no_record h = place_records_lem ∙ ap (λ b. cond b [] (alone μ j (record_value g a μ v j))) (found h)

      one_record : t ≡ false → records_at g a μ v (j ∷ []) ≡ alone μ j (record_value g a μ v j)
      one_record h = place_records_lem ∙ ap (λ b. cond b [] (alone μ j (record_value g a μ v j))) (found h)

      pub no_bytes : (q : ℕ) (l : List ℕ) → t ≡ true → Wrote q (bytes_at (j ∷ [])) l q l
      unfolding all_bytes
      no_bytes q l h = wrote_as (wrote_none q l) (sym (ap (bytes_of μ) (no_record h)))

      pub one_bytes : t ≡ false → pair_bytes j x ≡ bytes_at (j ∷ [])
      unfolding all_bytes pair_of
      one_bytes h = ap (pair_bytes j) e ∙ sym (append-nil (raw_bytes (file_record μ (j, record_value g a μ v j)))) ∙ sym (ap (bytes_of μ) (one_record h))

-- ---- where records stand, and how many there can be

module _ {cell : UnitCell} (s : Sizes cell) where
  pub first_half : {h : ℕ} → h ≤ cell.n1 / 2 → h < cell.n1
  first_half l = omega (arith, s.first.low)

  pub cell_places : places_of (cell_halves cell) ≡ cell_from cell.n3 cell.n2 0 cell.n1
  cell_places =
      let x : 2 * (cell.n1 / 2) ≡ cell.n1 = omega (arith, s.first.even) in
      let y : 2 * (cell.n2 / 2) ≡ cell.n2 = omega (arith, s.second.even) in
      let z : 2 * (cell.n3 / 2) ≡ cell.n3 = omega (arith, s.third.even) in
      λ i. cell_from (z i) (y i) 0 (x i)

  module _ (μ : ℕ) (v : List ℕ) where
    -- places beyond N1/2 give no records
    pub upper_records : NoneBeyond (records_at (cell_group cell) (cell_halves cell) μ v) cell.n1 (cell.n1 / 2)
    upper_records j u l = not_lowest_none (cell_group cell) (cell_halves cell) μ v j (upper_not_lowest (cell_group cell) (cell_halves cell) j u (omega (arith, s.first.even)))

    pub upper_bytes : NoneBeyond (bytes_at (cell_group cell) (cell_halves cell) μ v) cell.n1 (cell.n1 / 2)
    unfolding all_bytes
    upper_bytes j u l = ap (bytes_of μ) (upper_records j u l)

    abbrev count : List J → ℕ
    count places = length (records_at (cell_group cell) (cell_halves cell) μ v places)

    pub cell_few : count (cell_from cell.n3 cell.n2 0 cell.n1) ≤ 23887872000
    cell_few = omega (arith, few_records (cell_group cell) (cell_halves cell) μ v (cell_from cell.n3 cell.n2 0 cell.n1), length_cell cell.n3 cell.n2 0 cell.n1, mul-le-mul s.first.high (mul-le-mul s.second.high s.third.high))

    -- in a volume that an opening admits there are so few that four bytes count those of the file
    planes_least : (c n : ℕ) → n < 5 → c ≤ planes (group_of n) c
    unfolding planes
    planes_least c = by_group (λ g. c ≤ planes g c) (omega arith) (omega arith) (omega arith) (omega arith) (omega arith)

    pub admitted_few : length v ≡ volume_length (cell_group cell) (cell_halves cell) → length v ≤ 16777216 → length (records_with cell μ v) ≤ 33554432
    admitted_few e h =
        let a = cell.n1 / 2 in
        let b = cell.n2 / 2 in
        let c = cell.n3 / 2 in
        let same : 2 * a ≤ 2 * a = omega arith in
        let next : suc b ≤ suc b = omega arith in
        let most : c * (2 * a) * suc b ≤ planes (cell_group cell) c * (2 * a) * suc b = mul-le-mul (mul-le-mul (planes_least c cell.group s.known) same) next in
        omega (arith, length-map (records_at (cell_group cell) (cell_halves cell) μ v (places_of (cell_halves cell))) (file_record μ), few_records (cell_group cell) (cell_halves cell) μ v (places_of (cell_halves cell)), length_cell (2 * c) (2 * b) 0 (2 * a), most, e, h)
