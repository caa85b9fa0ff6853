-- The three lines, one after the other.
use Rattle.std.proofs.Common.{◌≡◌, ◌∙◌, refl, sym, List, ◌++◌, ℕ, suc, ◌-◌, ◌%◌, ◌≤◌, ℤ, pos, w64, to_z, of_z, arith}
use lib.IntN.{negsuc}
use mir.Val.{SFits}
use mir.ValLaws.{to_z-of_z, to_z_pos}
use Rattle.std.specs.Int.{int_div_euclid, int_rem_euclid}
use Rattle.algebra.proofs.ring.Laws.{along}
use Rattle.output.proofs.Writing.{wrote_append, wrote_as, ends_as, ends_left, ends_right}
use Rattle.section.specs.Section.{mean, remainder, closing_line, closing_text, total_letter, mean_letter, remainder_letter}
use Rattle.section.proofs.fields.put_closing.Goals as goal
use Rattle.section.proofs.fields.put_closing.Goals.{After-rem_euclid-rest}

-- the library's division and remainder are those of the page
mean_is : (t : ℤ) (n : ℕ) → int_div_euclid t (pos n) ≡ mean t n
mean_is (pos t) n = refl
mean_is (negsuc t) n = refl

rest_is : (t : ℤ) (n : ℕ) → int_rem_euclid t (pos n) ≡ pos (remainder t n)
rest_is (pos t) n = refl
rest_is (negsuc t) n = along pos (n - 1 - t % n) (n - suc (t % n)) (omega arith)

-- a line as the machine keeps its number
abbrev line : ℕ → ℤ → List ℕ
line letter z = closing_line letter (to_z w64 (of_z w64 z))

text : {t q r : ℤ} {n : ℕ} → SFits w64 t → SFits w64 q → SFits w64 r → n ≤ 8294400 → q ≡ int_div_euclid (to_z w64 (of_z w64 t)) (to_z w64 n) → r ≡ int_rem_euclid (to_z w64 (of_z w64 t)) (to_z w64 n)
    → line total_letter t ++ (line mean_letter q ++ line remainder_letter r) ≡ closing_text t n
unfolding closing_text
text {t} {q} {r} {n} f g h l e k =
    let count : to_z w64 n ≡ pos n = to_z_pos w64 n (omega arith) in
    let whole : to_z w64 (of_z w64 t) ≡ t = to_z-of_z w64 t f in
    let middle : to_z w64 (of_z w64 q) ≡ mean t n = to_z-of_z w64 q g ∙ e ∙ (λ i. int_div_euclid (whole i) (count i)) ∙ mean_is t n in
    let last : to_z w64 (of_z w64 r) ≡ pos (remainder t n) = to_z-of_z w64 r h ∙ k ∙ (λ i. int_rem_euclid (whole i) (count i)) ∙ rest_is t n in
    λ i. closing_line total_letter (whole i) ++ (closing_line mean_letter (middle i) ++ closing_line remainder_letter (last i))

-- so are the three lines that are written
page : (c : After-rem_euclid-rest) → line total_letter c.args.total ++ (line mean_letter c.div_euclid-mean.result ++ line remainder_letter c.rem_euclid-rest.result) ≡ closing_text c.args.total c.args.points
page c = text c.ranges.total (record { sfits = c.div_euclid-mean.type_inv }) (record { sfits = c.rem_euclid-rest.type_inv }) c.requires.le_points.1 c.div_euclid-mean.ensures c.rem_euclid-rest.ensures.value

pub put_closing_line-second-requires : goal.put_closing_line-second-requires
put_closing_line-second-requires c =
    let e = page (goal.at.put_closing_line-second-requires c).After-rem_euclid-rest in
    ends_left (line total_letter c.args.total) _ (ends_as c.requires.ends (sym e))

pub put_closing_line-third-requires : goal.put_closing_line-third-requires
put_closing_line-third-requires c =
    let e = page (goal.at.put_closing_line-third-requires c).After-rem_euclid-rest in
    ends_left _ (line remainder_letter c.rem_euclid-rest.result) (ends_right _ c.put_closing_line-second.ensures (ends_as c.requires.ends (sym e)))

pub put_closing_line-requires : goal.put_closing_line-requires
put_closing_line-requires c =
    let e = page (goal.at.put_closing_line-requires c).After-rem_euclid-rest in
    ends_right _ c.put_closing_line-third.ensures (ends_right _ c.put_closing_line-second.ensures (ends_as c.requires.ends (sym e)))

pub returns : goal.returns
returns c =
    wrote_as (wrote_append c.put_closing_line-second.ensures (wrote_append c.put_closing_line-third.ensures c.put_closing_line.ensures))
    (page (goal.at.returns c).After-rem_euclid-rest)
