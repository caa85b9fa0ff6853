-- Every line of a section is 69 characters and a line feed; so the length of the page is known.
use mathlib.Core.Path.{◌≡◌, refl, sym, ◌∙◌, ap}
use mathlib.Core.Bool.{Bool, true, false, cond}
use mathlib.Core.List.{List, [], ◌∷◌, ◌++◌, append_assoc}
use Prim.Native.Nat.{ℕ, ◌+◌, ◌*◌, ◌<◌, ◌≤◌}
use native.Mathlib.Omega.{arith}
use lib.Dec.{ltb}
use lib.ListN.{length, replicate, length-append}
use lib.IntN.{ℤ, pos, nat_abs}
use borrow.Author.Tests.{ltb-true}
use Rattle.algebra.specs.cells.Cell.{J}
use Rattle.output.specs.Output.{decimal, signed_decimal, blank, line_feed, each}
use Rattle.combined.specs.CombinedMap.{limit}
use Rattle.section.specs.Section.{section_at, total, points, mean, remainder, aligned, value_field, section_line, row_lines, closing_line, closing_text, section_text}
use Rattle.section.specs.SectionLaws.{IsLine}
use Rattle.section.proofs.Widths.{index_narrow, count_narrow, total_narrow, aligned_wide, each_wide, Plain, plain_more, plain_append, plain_blanks, plain_decimal, plain_signed, plain_aligned, plain_each}

pub line_length : {line : List ℕ} → IsLine line → length line ≡ 70
line_length l = ap length l.ends ∙ length-append l.characters (line_feed ∷ []) ∙ omega (arith, l.wide)

pub closing_line_lem : (letter : ℕ) (t : ℤ) → (letter ≡ line_feed → ⊥) → IsLine (closing_line letter t)
unfolding closing_line
closing_line_lem letter t h = record {
  characters = letter ∷ aligned 68 (signed_decimal t);
  ends = refl;
  wide = omega (arith, aligned_wide 68 (signed_decimal t) (total_narrow t));
  plain = λ k l. (plain_more letter (aligned 68 (signed_decimal t)) h (plain_aligned 68 (signed_decimal t) (plain_signed t))).at k;
}

pub closing_lines : (t : ℤ) → IsLine (closing_line 84 t) × IsLine (closing_line 77 t) × IsLine (closing_line 82 t)
closing_lines t = (closing_line_lem 84 t (λ e. absurd (omega (arith, e))), closing_line_lem 77 t (λ e. absurd (omega (arith, e))), closing_line_lem 82 t (λ e. absurd (omega (arith, e))))

closing_length : (t : ℤ) (n : ℕ) → length (closing_text t n) ≡ 210
unfolding closing_text
closing_length t n =
    let first : length (closing_line 84 t) ≡ 70 = line_length (closing_lines t).0 in
    let second : length (closing_line 77 (mean t n)) ≡ 70 = line_length (closing_lines (mean t n)).1 in
    let third : length (closing_line 82 (pos (remainder t n))) ≡ 70 = line_length (closing_lines (pos (remainder t n))).2 in
    length-append (closing_line 84 t) (closing_line 77 (mean t n) ++ closing_line 82 (pos (remainder t n)))
    ∙ omega (arith, first, second, third, length-append (closing_line 77 (mean t n)) (closing_line 82 (pos (remainder t n))))

module _ (group : ℕ) (n : J) (v : List ℤ) (z : ℕ) (few : n.0 ≤ 2880) (near : (x y : ℕ) → x < n.0 → y < n.1 → nat_abs (section_at group n v z x y) ≤ limit) where
  pub field_wide : (x y : ℕ) → x < n.0 → length (value_field group n v z x y) ≡ 13
  field_wide x y lx = either (ltb y n.1) refl
    where
      either : (b : Bool) → ltb y n.1 ≡ b → length (cond b (aligned 13 (signed_decimal (section_at group n v z x y))) (replicate 13 blank)) ≡ 13
      either true e = aligned_wide 13 (signed_decimal (section_at group n v z x y)) (count_narrow (section_at group n v z x y) (near x y lx (ltb-true y n.1 e)))
      either false e = refl

  field_plain : (x y : ℕ) → Plain (value_field group n v z x y)
  field_plain x y = either (ltb y n.1)
    where
      either : (b : Bool) → Plain (cond b (aligned 13 (signed_decimal (section_at group n v z x y))) (replicate 13 blank))
      either true = plain_aligned 13 (signed_decimal (section_at group n v z x y)) (plain_signed (section_at group n v z x y))
      either false = plain_blanks 13

  pub row_line : (x i : ℕ) → x < n.0 → IsLine (section_line group n v z x i)
  unfolding section_line
  row_line x i lx =
      let index = aligned 4 (decimal x) in
      let values = each 5 (λ t. value_field group n v z x (5 * i + t)) in
      record {
        characters = index ++ values;
        ends = sym (append_assoc index values (line_feed ∷ []));
        wide = length-append index values ∙ omega (arith, aligned_wide 4 (decimal x) (index_narrow x (omega arith)), each_wide (λ t. value_field group n v z x (5 * i + t)) 13 5 (λ t l. field_wide x (5 * i + t) lx));
        plain = λ k l. (plain_append index values (plain_aligned 4 (decimal x) (plain_decimal x)) (plain_each (λ t. value_field group n v z x (5 * i + t)) 5 (λ t. field_plain x (5 * i + t)))).at k;
      }

  abbrev row : ℕ → List ℕ
  row x = each (row_lines n) (λ i. section_line group n v z x i)

  pub rows_wide : length (each n.0 row) ≡ n.0 * (row_lines n * 70)
  rows_wide = each_wide row (row_lines n * 70) n.0 (λ x lx. each_wide (λ i. section_line group n v z x i) 70 (row_lines n) (λ i l. line_length (row_line x i lx)))

  pub text_long : length (section_text group n v z) ≡ 70 * (n.0 * row_lines n + 3)
  unfolding section_text
  text_long = length-append (each n.0 row) (closing_text (total group n v z) (points n)) ∙ omega (arith, rows_wide, closing_length (total group n v z) (points n))
