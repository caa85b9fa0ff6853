-- Each row of the table of specimens is computed from the definitions: one test over the whole table, and that the test is enough.
use mathlib.Core.Path.{◌≡◌, refl, ◌∙◌, sym, ap, subst}
use mathlib.Core.Bool.{Bool, true, false, ◌&&◌}
use mathlib.Core.List.{List, [], ◌∷◌}
use Prim.Native.Nat.{ℕ, ◌≤◌}
use lib.Dec.{T, eqb}
use lib.ListN.{length}
use borrow.Author.Tests.{eqb-true, le-ltb}
use Rattle.algebra.specs.ring.Ring.{pow, sum, residue, residues, gauss, conj, imag, dft}
use Rattle.algebra.specs.lines.Kinds.{three, re, im, unit, unfold_by, pack_by, interleave, slots, unfold_before, unfold_after, pack_before, pack_after}
use Rattle.numbers.specs.Value.{prime, half, part, value_of, pair_of}
use Rattle.roots.specs.Root.{root}
use Rattle.slices.specs.Pairs.{at, put, puts, all_below}
use Rattle.lengths.specs.Lengths.{product, admitted, factors_ok, scratch_length}
use Rattle.line.specs.Line.{transformed, line_tests, line_step}
use Rattle.refusals.specs.Refusals.{first}
use Rattle.line.specs.Specimens.{Specimen, specimens, Shown, AllShown, Specimens}
use Rattle.refusals.proofs.Tests.{both}

unfoldable same_list : List ℕ → List ℕ → Bool
same_list [] [] = true
same_list [] (y ∷ m) = false
same_list (x ∷ l) [] = false
same_list (x ∷ l) (y ∷ m) = eqb x y && same_list l m

same_list_lem : (l m : List ℕ) → same_list l m ≡ true → l ≡ m
unfolding same_list
same_list_lem [] [] e = refl
same_list_lem [] (y ∷ m) e = absurd (subst T (sym e) tt)
same_list_lem (x ∷ l) [] e = absurd (subst T (sym e) tt)
same_list_lem (x ∷ l) (y ∷ m) e =
    let h = both (eqb x y) (same_list l m) e in
    ap (λ (n : ℕ). n ∷ l) (eqb-true x y h.0) ∙ ap (λ (t : List ℕ). y ∷ t) (same_list_lem l m h.1)

-- the tests with a scratch that is just long enough
abbrev number : Specimen → ℕ
number x = first (line_tests 1 x.kind x.direction x.length x.factors x.before scratch_length)

abbrev result : Specimen → List ℕ
result x = transformed 1 x.kind x.direction x.length x.before

unfoldable shows : List Specimen → Bool
shows [] = true
shows (x ∷ l) = (eqb 0 (number x) && same_list (result x) x.after) && shows l

-- with a longer scratch the tests say the same
longer : (x : Specimen) (n : ℕ) → scratch_length ≤ n → first (line_tests 1 x.kind x.direction x.length x.factors x.before n) ≡ number x
longer x n h = rw (le-ltb n scratch_length h)

shown : (x : Specimen) → 0 ≡ number x → result x ≡ x.after → Shown x
unfolding line_step
shown x e r scratch h = rw (longer x (length scratch) h, ← e, r)

all_shown : (l : List Specimen) → shows l ≡ true → AllShown l
unfolding shows
all_shown [] e = tt
all_shown (x ∷ l) e =
    let h = both (eqb 0 (number x) && same_list (result x) x.after) (shows l) e in
    let g = both (eqb 0 (number x)) (same_list (result x) x.after) h.0 in
    (shown x (eqb-true 0 (number x) g.0) (same_list_lem (result x) x.after g.1), all_shown l h.1)

computed : shows specimens ≡ true
unfolding shows same_list first admitted factors_ok product all_below transformed root prime half part value_of pair_of at put puts slots unfold_before unfold_after pack_before pack_after dft sum pow gauss residues residue conj imag re im unit unfold_by pack_by interleave three
computed = refl

pub specimens_shown : Specimens
specimens_shown = record { shown = all_shown specimens computed }
