-- Where the bytes of a section stand: its lines are of one length, and so are the fields of a line.
use mathlib.Core.Path.{◌≡◌, refl, sym, ◌∙◌, ap, subst}
use mathlib.Core.Logic.{⊎_elim}
use mathlib.Core.Bool.{Bool, true, false, cond}
use mathlib.Core.List.{List, [], ◌∷◌, ◌++◌}
use Prim.Native.Nat.{ℕ, zero, suc, ◌+◌, ◌*◌, ◌-◌, ◌/◌, ◌%◌, ◌<◌, ◌≤◌}
use native.Mathlib.Nat.{le_antisymm, le_of_suc-le-suc, not-suc-le-zero, div-le_self}
use native.Mathlib.Omega.{arith}
use lib.Dec.{ltb}
use lib.ListN.{length, get_or, take, drop, replicate, length-append, length-take, length-drop, length-replicate, get_or-replicate, get_or-append}
use lib.Seq.{get_or-append-add, get_or-take, get_or-drop, ext_get_or}
use lib.IntN.{ℤ, pos, negsuc, nat_abs}
use Rattle.algebra.specs.cells.Cell.{J}
use Rattle.algebra.proofs.ring.Laws.{along}
use Rattle.slices.proofs.Pairs.{lt_or_ge}
use Rattle.slices.proofs.Rows.{row_end}
use Rattle.signed.proofs.Floor.{floor_division}
use Rattle.output.specs.Output.{decimal, signed_decimal, blank, line_feed, each}
use Rattle.output.specs.Numerals.{SignedNumeral}
use Rattle.output.proofs.Numerals.{signed_numeral}
use Rattle.combined.specs.CombinedMap.{limit}
use Rattle.section.specs.Section.{section_at, total, points, mean, remainder, aligned, value_field, section_line, row_lines, closing_line, total_letter, mean_letter, remainder_letter, closing_text, section_text}
use Rattle.section.specs.SectionPlaces.{part, Ended, lines_of, behind_rows, Placed, SectionPlaces}
use Rattle.section.proofs.Widths.{index_narrow, count_narrow, total_narrow, aligned_wide, each_wide}
use Rattle.section.proofs.Lined.{line_length, field_wide, row_line, closing_lines, rows_wide, text_long}
use Rattle.section.proofs.Planes.{field_inside, field_beyond, within, plane_small}
use Rattle.section.proofs.Outcomes.{cell_of, sound_of, points_few}

-- ---- things of one length in a row

-- byte i of thing j
each_byte : (n k : ℕ) (f : ℕ → List ℕ) → ((j : ℕ) → j < n → length (f j) ≡ k) → (j i : ℕ) → j < n → i < k → get_or (each n f) (j * k + i) 0 ≡ get_or (f j) i 0
unfolding each
each_byte zero k f h j i l m = absurd (not-suc-le-zero l)
each_byte (suc n) k f h j i l m = ⊎_elim
    (λ (q : j < n). get_or-append (each n f) (f n) 0 (j * k + i) (omega (arith, row_end k q, wide)) ∙ each_byte n k f (λ y s. h y (omega arith)) j i q m)
    (λ (q : n ≤ j). last (le_antisymm q (le_of_suc-le-suc l)))
    (lt_or_ge j n)
  where
    wide : length (each n f) ≡ n * k
    wide = each_wide f k n (λ y s. h y (omega arith))

    last : n ≡ j → get_or (each n f ++ f n) (j * k + i) 0 ≡ get_or (f j) i 0
    last e =
        along (λ (p : ℕ). get_or (each n f ++ f n) p 0) (j * k + i) (length (each n f) + i) (omega (arith, wide, ap (λ (p : ℕ). p * k) e))
        ∙ get_or-append-add (each n f) (f n) i 0
        ∙ ap (λ (p : ℕ). get_or (f p) i 0) e

-- byte i behind a text of a known length
behind : (s t : List ℕ) (k p i : ℕ) → length s ≡ k → p ≡ k + i → get_or (s ++ t) p 0 ≡ get_or t i 0
behind s t k p i l e = along (λ (q : ℕ). get_or (s ++ t) q 0) p (length s + i) (omega (arith, l, e)) ∙ get_or-append-add s t i 0

-- ---- a right-aligned text

aligned_blank : (width : ℕ) (t : List ℕ) (q : ℕ) → q < width - length t → get_or (aligned width t) q 0 ≡ 32
aligned_blank width t q l =
    get_or-append (replicate (width - length t) blank) t 0 q (omega (arith, length-replicate {A = ℕ} (width - length t) blank, l))
    ∙ get_or-replicate (width - length t) q blank 0 l

aligned_text : (width : ℕ) (t : List ℕ) (q i : ℕ) → q ≡ (width - length t) + i → get_or (aligned width t) q 0 ≡ get_or t i 0
aligned_text width t q i e = behind (replicate (width - length t) blank) t (width - length t) q i (length-replicate {A = ℕ} (width - length t) blank) e

-- a page that has the text of a number so from byte `start` on
module _ (page : List ℕ) (width start end : ℕ) (k : ℤ) (small : nat_abs k < 18446744073709551616) where
  abbrev text : List ℕ
  text = signed_decimal k

  ended : length text ≤ width → end + 1 ≡ start + width → end < length page → ((q : ℕ) → q < width → get_or page (start + q) 0 ≡ get_or (aligned width text) q 0) → Ended page width end k
  ended l e inside f = record {
    characters = length text;
    fits = l;
    numeral = subst (λ (t : List ℕ). SignedNumeral t k) (sym characters) (signed_numeral k small);
    blanks = λ i h m.
        along (λ (p : ℕ). get_or page p 0) (end - i) (start + (width - 1 - i)) (omega (arith, e, m))
        ∙ f (width - 1 - i) (omega (arith, m))
        ∙ aligned_blank width text (width - 1 - i) (omega (arith, l, h, m));
  }
    where
      long : length (take (length text) (drop (end + 1 - length text) page)) ≡ length text
      long = omega (arith, length-take (length text) (drop (end + 1 - length text) page), length-drop (end + 1 - length text) page, inside)

      character : (i : ℕ) → i < length text → get_or (take (length text) (drop (end + 1 - length text) page)) i 0 ≡ get_or text i 0
      character i h =
          get_or-take (length text) (drop (end + 1 - length text) page) i 0 h
          ∙ get_or-drop (end + 1 - length text) page i 0
          ∙ along (λ (p : ℕ). get_or page p 0) (end + 1 - length text + i) (start + (width - length text + i)) (omega (arith, l, e, h))
          ∙ f (width - length text + i) (omega (arith, l, h))
          ∙ aligned_text width text (width - length text + i) i (omega arith)

      characters : part page (end + 1 - length text) (length text) ≡ text
      characters = ext_get_or 0 (take (length text) (drop (end + 1 - length text) page)) text long (λ i h. character i (omega (arith, h, long)))

-- mean and remainder are no longer than the total and the points
mean_small : (t : ℤ) (n : ℕ) → nat_abs (mean t n) ≤ nat_abs t
mean_small (pos t) n = div-le_self t n
mean_small (negsuc t) n = omega (arith, div-le_self t n)

-- ---- a closing line

closing_letter : (letter : ℕ) (k : ℤ) → get_or (closing_line letter k) 0 0 ≡ letter
unfolding closing_line
closing_letter letter k = refl

closing_number : (letter : ℕ) (k : ℤ) (q : ℕ) → q < 68 → get_or (closing_line letter k) (suc q) 0 ≡ get_or (aligned 68 (signed_decimal k)) q 0
unfolding closing_line
closing_number letter k q l = get_or-append (aligned 68 (signed_decimal k)) (line_feed ∷ []) 0 q (omega (arith, l, aligned_wide 68 (signed_decimal k) (total_narrow k)))

closing_feed : (letter : ℕ) (k : ℤ) → get_or (closing_line letter k) 69 0 ≡ 10
unfolding closing_line
closing_feed letter k = behind (aligned 68 (signed_decimal k)) (line_feed ∷ []) 68 68 0 (aligned_wide 68 (signed_decimal k) (total_narrow k)) (omega arith)

module _ (t : ℤ) (n : ℕ) where
  abbrev one : List ℕ
  one = closing_line total_letter t

  abbrev two : List ℕ
  two = closing_line mean_letter (mean t n)

  abbrev three : List ℕ
  three = closing_line remainder_letter (pos (remainder t n))

  one_long : length one ≡ 70
  one_long = line_length (closing_lines t).0

  two_long : length two ≡ 70
  two_long = line_length (closing_lines (mean t n)).1

  first_line : (b : ℕ) → b < 70 → get_or (closing_text t n) b 0 ≡ get_or one b 0
  unfolding closing_text
  first_line b l = get_or-append one (two ++ three) 0 b (omega (arith, l, one_long))

  second_line : (b : ℕ) → b < 70 → get_or (closing_text t n) (70 + b) 0 ≡ get_or two b 0
  unfolding closing_text
  second_line b l = behind one (two ++ three) 70 (70 + b) b one_long (omega arith) ∙ get_or-append two three 0 b (omega (arith, l, two_long))

  third_line : (b : ℕ) → get_or (closing_text t n) (140 + b) 0 ≡ get_or three b 0
  unfolding closing_text
  third_line b = behind one (two ++ three) 70 (140 + b) (70 + b) one_long (omega arith) ∙ behind two three 70 (70 + b) b two_long (omega arith)

-- ---- the page

module _ (group : ℕ) (n : J) (v : List ℤ) (z : ℕ) (few : n.0 ≤ 2880) (near : (x y : ℕ) → x < n.0 → y < n.1 → nat_abs (section_at group n v z x y) ≤ limit)
    (plane : (nat_abs (total group n v z) < 9223372036854775808) × (1 ≤ points n) × (points n ≤ 8294400)) where
  abbrev page : List ℕ
  page = section_text group n v z

  abbrev row : ℕ → List ℕ
  row x = each (row_lines n) (λ i. section_line group n v z x i)

  abbrev closing : List ℕ
  closing = closing_text (total group n v z) (points n)

  -- byte b of line i of row x
  line_byte : (x i b : ℕ) → x < n.0 → i < lines_of n → b < 70 → get_or page (70 * (x * lines_of n + i) + b) 0 ≡ get_or (section_line group n v z x i) b 0
  unfolding section_text
  line_byte x i b lx li lb =
      along (λ (p : ℕ). get_or (each n.0 row ++ closing) p 0) (70 * (x * lines_of n + i) + b) (x * (lines_of n * 70) + (i * 70 + b)) (omega arith)
      ∙ get_or-append (each n.0 row) closing 0 (x * (lines_of n * 70) + (i * 70 + b)) (omega (arith, in_row, row_end (lines_of n * 70) lx, rows_wide group n v z few near))
      ∙ each_byte n.0 (lines_of n * 70) row (λ x l. each_wide (λ i. section_line group n v z x i) 70 (lines_of n) (λ i m. line_length (row_line group n v z few near x i l))) x (i * 70 + b) lx in_row
      ∙ each_byte (lines_of n) 70 (λ i. section_line group n v z x i) (λ i m. line_length (row_line group n v z few near x i lx)) i b li lb
    where
      in_row : i * 70 + b < lines_of n * 70
      in_row = omega (arith, row_end 70 li, lb)

  -- byte b behind the rows
  closing_byte : (p b : ℕ) → p ≡ behind_rows n + b → get_or page p 0 ≡ get_or closing b 0
  unfolding section_text
  closing_byte p b e = behind (each n.0 row) closing (n.0 * (lines_of n * 70)) p b (rows_wide group n v z few near) (omega (arith, e))

  module _ (x i : ℕ) (lx : x < n.0) where
    abbrev values : List ℕ
    values = each 5 (λ t. value_field group n v z x (5 * i + t))

    index_long : length (aligned 4 (decimal x)) ≡ 4
    index_long = aligned_wide 4 (decimal x) (index_narrow x (omega arith))

    values_long : length values ≡ 65
    values_long = each_wide (λ t. value_field group n v z x (5 * i + t)) 13 5 (λ t l. field_wide group n v z few near x (5 * i + t) lx)

    index_byte : (q : ℕ) → q < 4 → get_or (section_line group n v z x i) q 0 ≡ get_or (aligned 4 (decimal x)) q 0
    unfolding section_line
    index_byte q l = get_or-append (aligned 4 (decimal x)) (values ++ line_feed ∷ []) 0 q (omega (arith, l, index_long))

    field_byte : (t q : ℕ) → t < 5 → q < 13 → get_or (section_line group n v z x i) (4 + 13 * t + q) 0 ≡ get_or (value_field group n v z x (5 * i + t)) q 0
    unfolding section_line
    field_byte t q l m =
        behind (aligned 4 (decimal x)) (values ++ line_feed ∷ []) 4 (4 + 13 * t + q) (t * 13 + q) index_long (omega arith)
        ∙ get_or-append values (line_feed ∷ []) 0 (t * 13 + q) (omega (arith, l, m, values_long))
        ∙ each_byte 5 13 (λ t. value_field group n v z x (5 * i + t)) (λ t l. field_wide group n v z few near x (5 * i + t) lx) t q l m

    feed_byte : get_or (section_line group n v z x i) 69 0 ≡ 10
    unfolding section_line
    feed_byte = behind (aligned 4 (decimal x)) (values ++ line_feed ∷ []) 4 69 65 index_long (omega arith) ∙ behind values (line_feed ∷ []) 65 65 0 values_long (omega arith)

  -- byte q of the field of y, where there is a line for it
  value_byte : (x y q : ℕ) → x < n.0 → y < 5 * lines_of n → q < 13 → get_or page (70 * (x * lines_of n + y / 5) + 4 + 13 * (y % 5) + q) 0 ≡ get_or (value_field group n v z x y) q 0
  value_byte x y q lx ly lq =
      along (λ (p : ℕ). get_or page p 0) (70 * (x * lines_of n + y / 5) + 4 + 13 * (y % 5) + q) (70 * (x * lines_of n + y / 5) + (4 + 13 * (y % 5) + q)) (omega arith)
      ∙ line_byte x (y / 5) (4 + 13 * (y % 5) + q) lx (omega (arith, ly)) (omega (arith, lq))
      ∙ field_byte x (y / 5) lx (y % 5) q (omega arith) lq
      ∙ along (λ (w : ℕ). get_or (value_field group n v z x w) q 0) (5 * (y / 5) + y % 5) y (omega arith)

  -- line i of row x ends before the page does
  line_inside : (x i b : ℕ) → x < n.0 → i < lines_of n → b < 70 → 70 * (x * lines_of n + i) + b < length page
  line_inside x i b lx li lb = omega (arith, text_long group n v z few near, row_end (lines_of n) lx, li, lb)

  index_ended : (x i : ℕ) → x < n.0 → i < lines_of n → Ended page 4 (70 * (x * lines_of n + i) + 3) (pos x)
  unfolding signed_decimal
  index_ended x i lx li =
      ended page 4 (70 * (x * lines_of n + i)) (70 * (x * lines_of n + i) + 3) (pos x) (omega (arith, lx, few))
      (index_narrow x (omega arith)) (omega arith) (line_inside x i 3 lx li (omega arith))
      (λ q l. line_byte x i q lx li (omega (arith, l)) ∙ index_byte x i lx q l)

  value_ended : (x y : ℕ) → x < n.0 → y < n.1 → Ended page 13 (70 * (x * lines_of n + y / 5) + 4 + 13 * (y % 5) + 12) (section_at group n v z x y)
  value_ended x y lx ly =
      ended page 13 (70 * (x * lines_of n + y / 5) + 4 + 13 * (y % 5)) (70 * (x * lines_of n + y / 5) + 4 + 13 * (y % 5) + 12) (section_at group n v z x y) (omega (arith, near x y lx ly))
      (count_narrow (section_at group n v z x y) (near x y lx ly)) (omega arith) (omega (arith, line_inside x (y / 5) (4 + 13 * (y % 5) + 12) lx (omega (arith, ly)) (omega arith)))
      (λ q l. value_byte x y q lx (omega (arith, ly)) l ∙ ap (λ t. get_or t q 0) (sym (field_inside group n v z x y ly)))

  unused_byte : (x y q : ℕ) → x < n.0 → n.1 ≤ y → y < 5 * lines_of n → q < 13 → get_or page (70 * (x * lines_of n + y / 5) + 4 + 13 * (y % 5) + q) 0 ≡ 32
  unused_byte x y q lx ly l lq = value_byte x y q lx l lq ∙ ap (λ t. get_or t q 0) (sym (field_beyond group n v z x y ly)) ∙ get_or-replicate 13 q blank 0 lq

  abbrev t : ℤ
  t = total group n v z

  abbrev m : ℕ
  m = points n

  feed_line : (i : ℕ) → i < 3 → get_or closing (70 * i + 69) 0 ≡ 10
  feed_line zero l = first_line t m 69 (omega arith) ∙ closing_feed total_letter t
  feed_line (suc zero) l = second_line t m 69 (omega arith) ∙ closing_feed mean_letter (mean t m)
  feed_line (suc (suc zero)) l = third_line t m 69 ∙ closing_feed remainder_letter (pos (remainder t m))
  feed_line (suc (suc (suc i))) l = absurd (omega (arith, l))

  -- the number of a closing line
  closed : (start end : ℕ) (k : ℤ) → nat_abs k < 9223372036854775808 → start ≤ 140 → end ≡ behind_rows n + start + 68 → ((q : ℕ) → q < 68 → get_or closing (start + suc q) 0 ≡ get_or (aligned 68 (signed_decimal k)) q 0) →
      Ended page 68 end k
  closed start end k small low e f =
      ended page 68 (behind_rows n + start + 1) end k (omega (arith, small))
      (total_narrow k) (omega (arith, e)) (omega (arith, text_long group n v z few near, low, e))
      (λ q l. closing_byte (behind_rows n + start + 1 + q) (start + suc q) (omega arith) ∙ f q l)

  pub placed : Placed group n v z page
  placed = record {
    value = value_ended;
    index = index_ended;
    unused = unused_byte;
    feed = λ x i lx li. line_byte x i 69 lx li (omega arith) ∙ feed_byte x i lx;
    feeds = λ i l. closing_byte (behind_rows n + 70 * i + 69) (70 * i + 69) (omega arith) ∙ feed_line i l;
    letter_t = closing_byte (behind_rows n) 0 (omega arith) ∙ first_line t m 0 (omega arith) ∙ closing_letter total_letter t;
    letter_m = closing_byte (behind_rows n + 70) 70 (omega arith) ∙ second_line t m 0 (omega arith) ∙ closing_letter mean_letter (mean t m);
    letter_r = closing_byte (behind_rows n + 140) 140 (omega arith) ∙ third_line t m 0 ∙ closing_letter remainder_letter (pos (remainder t m));
    of_total = closed 0 (behind_rows n + 68) t plane.0 (omega arith) (omega arith)
        (λ q l. along (λ (b : ℕ). get_or closing b 0) (0 + suc q) (suc q) (omega arith) ∙ first_line t m (suc q) (omega (arith, l)) ∙ closing_number total_letter t q l);
    of_mean = closed 70 (behind_rows n + 70 + 68) (mean t m) (omega (arith, mean_small t m, plane.0)) (omega arith) (omega arith)
        (λ q l. second_line t m (suc q) (omega (arith, l)) ∙ closing_number mean_letter (mean t m) q l);
    of_remainder = closed 140 (behind_rows n + 140 + 68) (pos (remainder t m)) (omega (arith, (floor_division t m plane.1).below, plane.2)) (omega arith) (omega arith)
        (λ q l. third_line t m (suc q) ∙ closing_number remainder_letter (pos (remainder t m)) q l);
    long = omega (arith, text_long group n v z few near);
  }

pub section_places : SectionPlaces
section_places = record {
  each = λ group n v z room none.
      let s = sound_of (cell_of group n) v z room none in
      let few = points_few (cell_of group n) v z s in
      placed group n v z s.plane.sizes.first.high (within s) (plane_small s, few.0, few.1);
}
