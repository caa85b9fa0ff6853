-- The numbers that a factor is read from: each kind of line at each place, beyond the stored range by the line's own operation, k above B by the Friedel mate.
use mathlib.Core.Path.{◌≡◌, refl, sym, ◌∙◌, ap, subst}
use mathlib.Core.Bool.{Bool, true, false, not, cond}
use mathlib.Core.List.{List, [], ◌∷◌}
use Prim.Native.Nat.{ℕ, suc, ◌+◌, ◌*◌, ◌-◌, ◌<◌, ◌≤◌, min}
use native.Mathlib.Omega.{arith}
use lib.Dec.{leb, leb→le, nleb→lt, ltb, ltb→lt, nltb→le}
use lib.ListN.{get_or}
use borrow.Author.Tests.{eq-eqb, ne_eqb}
use Rattle.algebra.specs.ring.Ring.{gauss, residues}
use Rattle.algebra.specs.orbits.Orbit.{Mem, first, later}
use Rattle.algebra.specs.lines.Kinds.{Kind.alternating, Kind.symmetric, Kind.antisymmetric}
use Rattle.algebra.specs.cells.Cell.{J, Inside, Sym, Group, P1, P2₁, Pm, Pa, P2₁2₁2₁, friedel, full, span, planes, neg_i, image_of, flip, implied_value, factor_acts}
use Rattle.algebra.specs.cells.CellPlaces.{line_sym}
use Rattle.algebra.specs.cells.Cell as Cell
use Rattle.algebra.specs.cells.CellPack.{even, of_part}
use Rattle.algebra.proofs.ring.Bool.{split}
use Rattle.algebra.proofs.ring.Members.{none, mem_cons}
use Rattle.algebra.proofs.ring.Laws.{along}
use Rattle.algebra.proofs.orbits.Orbits.{implied_back}
use Rattle.algebra.proofs.cells.CellAxis.{neg_pos}
use Rattle.algebra.proofs.cells.CellSym.{image_inside}
use Rattle.algebra.proofs.cells.CellGroup.{factor_action, closed, implied_zero}
use Rattle.algebra.proofs.cells.CellTests.{Positive}
use Rattle.numbers.specs.Value.{prime, Value, field, conj, ring, value_of}
use Rattle.numbers.specs.Bounds.{res}
use Rattle.numbers.proofs.Residues.{val_res}
use Rattle.numbers.proofs.Values.{value_path, field_ring, field_star}
use Rattle.slices.specs.Pairs.{at, Below, values_of}
use Rattle.cell.specs.Volume.{line_kind, over_i, times_i, layers, rows, columns, volume_pairs, pair_place, pair_numbers, line_numbers, numbers_read, whole_line, line_in, factors_in}
use Rattle.cell.specs.NumbersRead.{SameAt, NumbersReadExactly}
use Rattle.cell.proofs.VolumeLayout.{place_inside}
use Rattle.cell.proofs.RotatedLines.{times_over, over_none}
use Rattle.cell.proofs.LineReading.{by_half, read_line, read_plain, read_symmetric, alternating_first, alternating_middle, alternating_low, read_first, read_last, read_between}
use Rattle.cell.proofs.Reading.{pairs_in, line_at, line_beyond, mate_is, implied_friedel}

module _ (m pairs : ℕ) where
  -- The value x of a volume of so many pairs is read from the numbers at these places, and from each of them; of a volume of zeros it is zero.
  pub record ReadFrom (places : List ℕ) (x : List ℕ → Value m) : Type 0 where
    pub inside : (q : ℕ) → Mem q places → q < 2 * pairs
    pub enough : (v w : List ℕ) → SameAt places v w → x v ≡ x w
    pub needed : (v w : List ℕ) → Below (prime m) v → Below (prime m) w → x v ≡ x w → SameAt places v w
    pub empty : x [] ≡ (field m).zer

  read_as : {places : List ℕ} {x y : List ℕ → Value m} → ((v : List ℕ) → x v ≡ y v) → ReadFrom places y → ReadFrom places x
  read_as e r = record {
    inside = r.inside;
    enough = λ v w s. e v ∙ r.enough v w s ∙ sym (e w);
    needed = λ v w sv sw z. r.needed v w sv sw (sym (e v) ∙ z ∙ e w);
    empty = e [] ∙ r.empty;
  }

  -- through a function that can be undone
  read_through : (f back : Value m → Value m) → ((y : Value m) → back (f y) ≡ y) → f (field m).zer ≡ (field m).zer → {places : List ℕ} {x : List ℕ → Value m} → ReadFrom places x → ReadFrom places (λ v. f (x v))
  read_through f back e z {places} {x} r = record {
    inside = r.inside;
    enough = λ v w s. ap f (r.enough v w s);
    needed = λ v w sv sw q. r.needed v w sv sw (sym (e (x v)) ∙ ap back q ∙ e (x w));
    empty = ap f r.empty ∙ z;
  }

  same_number : (q : ℕ) (v w : List ℕ) → Below (prime m) v → Below (prime m) w → res m (get_or v q 0) ≡ res m (get_or w q 0) → get_or v q 0 ≡ get_or w q 0
  same_number q v w sv sw e = sym (val_res m (sv.each q)) ∙ ap (λ x. x.val) e ∙ val_res m (sw.each q)

  from_none : ReadFrom [] (λ v. (field m).zer)
  from_none = record { inside = λ q i. none i; enough = λ v w s. refl; needed = λ v w sv sw e q i. none i; empty = refl }

  -- one number, and the value that it alone gives
  from_number : (q : ℕ) → q < 2 * pairs → (x : List ℕ → Value m) → ((v w : List ℕ) → res m (get_or v q 0) ≡ res m (get_or w q 0) → x v ≡ x w) → ((v w : List ℕ) → x v ≡ x w → res m (get_or v q 0) ≡ res m (get_or w q 0)) → x [] ≡ (field m).zer → ReadFrom (q ∷ []) x
  from_number q l x f b z = record {
    inside = mem_cons (λ q. q < 2 * pairs) l (λ q i. none i);
    enough = λ v w s. f v w (ap (res m) (s q first));
    needed = λ v w sv sw e. mem_cons (λ q. get_or v q 0 ≡ get_or w q 0) (same_number q v w sv sw (b v w e)) (λ q i. none i);
    empty = z;
  }

  module _ (p : ℕ) (l : p < pairs) where
    from_pair : ReadFrom (2 * p ∷ (2 * p + 1) ∷ []) (λ v. values_of m v p)
    unfolding value_of at gauss residues
    from_pair = record {
      inside = mem_cons (λ q. q < 2 * pairs) (omega arith) (mem_cons (λ q. q < 2 * pairs) (omega arith) (λ q i. none i));
      enough = λ v w s. value_path (ap (res m) (s (2 * p) first)) (ap (res m) (s (2 * p + 1) (later first)));
      needed = λ v w sv sw e. mem_cons (λ q. get_or v q 0 ≡ get_or w q 0) (same_number (2 * p) v w sv sw (ap (λ z. z.0) e)) (mem_cons (λ q. get_or v q 0 ≡ get_or w q 0) (same_number (2 * p + 1) v w sv sw (ap (λ z. z.1) e)) (λ q i. none i));
      empty = refl;
    }

    from_first : ReadFrom (2 * p ∷ []) (λ v. ((values_of m v p).0, (ring m).zer))
    unfolding value_of at gauss residues
    from_first = from_number (2 * p) (omega arith) _ (λ v w e. value_path e refl) (λ v w e. ap (λ z. z.0) e) refl

    from_second : (b : Bool) → ReadFrom ((2 * p + 1) ∷ []) (λ v. of_part (ring m) b (values_of m v p).1)
    unfolding value_of at gauss residues
    from_second true = from_number (2 * p + 1) (omega arith) _ (λ v w e. value_path e refl) (λ v w e. ap (λ z. z.0) e) refl
    from_second false = from_number (2 * p + 1) (omega arith) _ (λ v w e. value_path refl e) (λ v w e. ap (λ z. z.1) e) refl

-- ---- the stored half of a line

-- the places of a line (h, k) in the volume: of the pair w
module _ (g : Group) (a : J) (pos : 0 < a.2) (m h k : ℕ) (lh : h < rows g a) (lk : k < columns g a) where
  abbrev line : List ℕ → ℕ → Value m
  line v w = pairs_in g a m v w h k

  abbrev Reads : List ℕ → (List ℕ → Value m) → Type 0
  Reads places x = ReadFrom m (volume_pairs g a) places x

  own_pair : (l : ℕ) → l < suc a.2 → min l (2 * a.2 - l) ≡ l
  own_pair l s = omega arith

  whole_pair : (l : ℕ) → l < layers g a → Reads (pair_numbers g a l h k) (λ v. line v l)
  whole_pair l s = from_pair m (volume_pairs g a) (pair_place g a l h k) (place_inside g a s lh lk)

  -- between its ends a line of any kind is read from the pair of its place
  between : (l : ℕ) → l < suc a.2 → l < layers g a → Reads (pair_numbers g a (min l (2 * a.2 - l)) h k) (λ v. line v l)
  between l s t = rw (own_pair l s) (whole_pair l t)

  read_by_symmetric : suc a.2 ≤ layers g a → (l : ℕ) → l < suc a.2 → Reads (line_numbers g a symmetric h k l) (λ v. read_line m a.2 symmetric (line v) l)
  read_by_symmetric wide l s = read_as m (volume_pairs g a) (λ v. read_symmetric m a.2 pos (line v) l s) (between l s (omega (arith, wide)))

  read_by_antisymmetric : suc a.2 ≤ layers g a → (l : ℕ) → l < suc a.2 → Reads (line_numbers g a antisymmetric h k l) (λ v. read_line m a.2 antisymmetric (line v) l)
  read_by_antisymmetric wide = by_half a.2 (λ l. Reads (line_numbers g a antisymmetric h k l) (λ v. read_line m a.2 antisymmetric (line v) l))
      (read_as m (volume_pairs g a) (λ v. read_first m a.2 (line v)) (from_none m (volume_pairs g a)))
      (rw (ne_eqb a.2 0 (λ q. omega arith), eq-eqb a.2 a.2 refl) (read_as m (volume_pairs g a) (λ v. read_last m a.2 pos (line v)) (from_none m (volume_pairs g a))))
      (λ l p q. rw (ne_eqb l 0 (λ z. omega arith), ne_eqb l a.2 (λ z. omega arith)) (read_as m (volume_pairs g a) (λ v. read_between m a.2 (line v) l p q) (between l (omega arith) (omega (arith, wide)))))

  read_by_alternating : a.2 ≤ layers g a → (l : ℕ) → l < suc a.2 → Reads (line_numbers g a alternating h k l) (λ v. read_line m a.2 alternating (line v) l)
  read_by_alternating wide =
      let l0 = place_inside g a {w = 0} (omega (arith, pos, wide)) lh lk in
      by_half a.2 (λ l. Reads (line_numbers g a alternating h k l) (λ v. read_line m a.2 alternating (line v) l))
      (read_as m (volume_pairs g a) (λ v. alternating_first m a.2 (line v)) (from_first m (volume_pairs g a) (pair_place g a 0 h k) l0))
      (rw (ne_eqb a.2 0 (λ q. omega arith), eq-eqb a.2 a.2 refl) (read_as m (volume_pairs g a) (λ v. alternating_middle m a.2 (line v) pos) (from_second m (volume_pairs g a) (pair_place g a 0 h k) l0 (even a.2))))
      (λ l p q. rw (ne_eqb l 0 (λ z. omega arith), ne_eqb l a.2 (λ z. omega arith)) (read_as m (volume_pairs g a) (λ v. alternating_low m a.2 (line v) l p q) (between l (omega arith) (omega (arith, wide)))))

  read_by_mirror : suc a.2 ≤ layers g a → (b : Bool) (l : ℕ) → l < suc a.2 → Reads (line_numbers g a (cond b symmetric antisymmetric) h k l) (λ v. read_line m a.2 (cond b symmetric antisymmetric) (line v) l)
  read_by_mirror wide true = read_by_symmetric wide
  read_by_mirror wide false = read_by_antisymmetric wide

-- beyond the middle: the numbers of the mirror image
module _ (g : Group) (a : J) (h k l u : ℕ) (high : a.2 < l) (low : 0 < u) (e : l + u ≡ 2 * a.2) where
  mirror_pair : pair_numbers g a (min l (2 * a.2 - l)) h k ≡ pair_numbers g a (min u (2 * a.2 - u)) h k
  mirror_pair = along (λ w. pair_numbers g a w h k) (min l (2 * a.2 - l)) (min u (2 * a.2 - u)) (omega arith)

  numbers_alternating : line_numbers g a alternating h k l ≡ line_numbers g a alternating h k u
  numbers_alternating = rw (ne_eqb l 0 (λ z. omega arith), ne_eqb l a.2 (λ z. omega arith), ne_eqb u 0 (λ z. omega arith), ne_eqb u a.2 (λ z. omega arith)) mirror_pair

  numbers_mirror : (b : Bool) → line_numbers g a (cond b symmetric antisymmetric) h k l ≡ line_numbers g a (cond b symmetric antisymmetric) h k u
  numbers_mirror true = mirror_pair
  numbers_mirror false = rw (ne_eqb l 0 (λ z. omega arith), ne_eqb l a.2 (λ z. omega arith), ne_eqb u 0 (λ z. omega arith), ne_eqb u a.2 (λ z. omega arith)) mirror_pair

-- ---- any place

-- the numbers of a line's place
abbrev numbers_at : Group → J → J → List ℕ
numbers_at g a j = line_numbers g a (line_kind g j.0) j.0 j.1 j.2

-- the factor at j as its line (h, k) with k from 0 to B gives it
abbrev LineRead : Group → J → (m : ℕ) → J → Type 0
LineRead g a m j = ReadFrom m (volume_pairs g a) (numbers_at g a j) (λ v. line_at g a m v j)

stored_read : (g : Group) (a : J) → 0 < a.2 → (m : ℕ) (j : J) → j.0 < rows g a → j.1 < columns g a → j.2 < span g a.2 → LineRead g a m j
unfolding line_in whole_line span planes
stored_read P1 a pos m j lh lk s = read_as m (volume_pairs P1 a) (λ v. read_plain m a.2 (λ w. pairs_in P1 a m v w j.0 j.1) j.2) (whole_pair P1 a pos m j.0 j.1 lh lk j.2 s)
stored_read P2₁ a pos m j lh lk s = read_by_alternating P2₁ a pos m j.0 j.1 lh lk (omega arith) j.2 s
stored_read Pm a pos m j lh lk s = read_by_symmetric Pm a pos m j.0 j.1 lh lk (omega arith) j.2 s
stored_read Pa a pos m j lh lk s = read_by_mirror Pa a pos m j.0 j.1 lh lk (omega arith) (even j.0) j.2 s
stored_read P2₁2₁2₁ a pos m j lh lk s =
    read_through m (volume_pairs P2₁2₁2₁ a) (over_i m (not (even j.0))) (times_i m (not (even j.0))) (times_over m (not (even j.0))) (over_none m (not (even j.0)))
    (read_by_alternating P2₁2₁2₁ a pos m j.0 j.1 lh lk (omega arith) j.2 s)

-- beyond the stored range the line's own operation leads to the same numbers
beyond_numbers : (g : Group) (a : J) (j : J) → Inside a j → span g a.2 ≤ j.2 → (numbers_at g a j ≡ numbers_at g a (image_of a (line_sym g) j)) × ((image_of a (line_sym g) j).2 < span g a.2)
unfolding span image_of flip
beyond_numbers P1 a j n s = absurd (omega (arith, n.2))
beyond_numbers P2₁ a j n s =
    let e : neg_i a.2 j.2 ≡ 2 * a.2 - j.2 = neg_pos a.2 j.2 (omega arith) n.2 in
    (numbers_alternating P2₁ a j.0 j.1 j.2 (neg_i a.2 j.2) (omega arith) (omega (arith, n.2)) (omega (arith, n.2)), omega (arith, n.2))
beyond_numbers Pm a j n s =
    let e : neg_i a.2 j.2 ≡ 2 * a.2 - j.2 = neg_pos a.2 j.2 (omega arith) n.2 in
    (numbers_mirror Pm a j.0 j.1 j.2 (neg_i a.2 j.2) (omega arith) (omega (arith, n.2)) (omega (arith, n.2)) true, omega (arith, n.2))
beyond_numbers Pa a j n s =
    let e : neg_i a.2 j.2 ≡ 2 * a.2 - j.2 = neg_pos a.2 j.2 (omega arith) n.2 in
    (numbers_mirror Pa a j.0 j.1 j.2 (neg_i a.2 j.2) (omega arith) (omega (arith, n.2)) (omega (arith, n.2)) (even j.0), omega (arith, n.2))
beyond_numbers P2₁2₁2₁ a j n s =
    let e : neg_i a.2 j.2 ≡ 2 * a.2 - j.2 = neg_pos a.2 j.2 (omega arith) n.2 in
    (numbers_alternating P2₁2₁2₁ a j.0 j.1 j.2 (neg_i a.2 j.2) (omega arith) (omega (arith, n.2)) (omega (arith, n.2)), omega (arith, n.2))

-- and keeps k
same_column : (g : Group) (a j : J) → (image_of a (line_sym g) j).1 ≡ j.1
unfolding image_of flip
same_column P1 a j = refl
same_column P2₁ a j = refl
same_column Pm a j = refl
same_column Pa a j = refl
same_column P2₁2₁2₁ a j = refl

module _ (g : Group) (a : J) (long : Positive a) (m : ℕ) where
  -- an operation's implied value is read from the same numbers
  read_implied : (s : Sym) (j : J) {places : List ℕ} {x : List ℕ → Value m} → ReadFrom m (volume_pairs g a) places x → ReadFrom m (volume_pairs g a) places (λ v. implied_value (field m) (conj m) s j (x v))
  unfolding factor_acts
  read_implied s j = read_through m (volume_pairs g a) (implied_value (field m) (conj m) s j) (implied_value (field m) (conj m) s j)
      (implied_back (factor_action (field_ring m) (field_star m) a) (full g) (closed (field_ring m) (field_star m) a g) s j) (implied_zero (field_ring m) (field_star m) a s j)

  line_from_lem : (j : J) → Inside a j → j.1 ≤ a.1 → LineRead g a m j
  line_from_lem j n lk = split (ltb j.2 (span g a.2)) (λ b. LineRead g a m j)
      (λ t. stored_read g a long.2 m j n.0 (omega arith) (ltb→lt _ _ t))
      (λ t. let s = nltb→le _ _ t in let e = beyond_numbers g a j n s in
      subst (λ places. ReadFrom m (volume_pairs g a) places (λ v. line_at g a m v j)) (sym e.0)
      (read_as m (volume_pairs g a) (λ v. line_beyond g a m v j n s) (read_implied (line_sym g) j
      (stored_read g a long.2 m (image_of a (line_sym g) j) (image_inside a (line_sym g) j n).0 (subst (λ k. k < columns g a) (sym (same_column g a j)) (omega arith)) e.1))))

  -- the mate of an index with k above B has its k below
  mate_column : (j : J) → Inside a j → a.1 < j.1 → (image_of a friedel j).1 ≤ a.1
  unfolding image_of flip
  mate_column j n h = let e : neg_i a.1 j.1 ≡ 2 * a.1 - j.1 = neg_pos a.1 j.1 (omega arith) n.1 in omega (arith, n.1)

  pub factor_from : (j : J) → Inside a j → ReadFrom m (volume_pairs g a) (numbers_read g a j) (λ v. Cell.at (factors_in g a m v) j)
  unfolding numbers_read factors_in
  factor_from j n = let mate : J = (neg_i a.0 j.0, neg_i a.1 j.1, neg_i a.2 j.2) in
      split (leb j.1 a.1) (λ b. ReadFrom m (volume_pairs g a) (cond b (numbers_at g a j) (numbers_at g a mate)) (λ v. cond b (line_at g a m v j) (conj m (line_at g a m v mate))))
      (λ t. line_from_lem j n (leb→le _ _ t))
      (λ t. read_as m (volume_pairs g a) (λ v. sym (implied_friedel m j _))
      (read_implied friedel j (subst (LineRead g a m) (mate_is a j) (line_from_lem (image_of a friedel j) (image_inside a friedel j n) (mate_column j n (nleb→lt _ _ t))))))

pub numbers_read_exactly : NumbersReadExactly
numbers_read_exactly = record {
  inside = λ g a long j n. (factor_from g a long 1 j n).inside;
  enough = λ g a long j n m. (factor_from g a long m j n).enough;
  needed = λ g a long j n m. (factor_from g a long m j n).needed;
}
