-- `check_line`: each return is the first test that holds, all the others before it being passed over.
use borrow.Author.Rules.{rules}
use native.Mathlib.Omega.{arith}
use mathlib.Core.Path.{◌≡◌, ◌∙◌, ap}
use mathlib.Core.Bool.{true, not}
use mathlib.Core.List.{List, [], ◌∷◌}
use Prim.Native.Nat.{ℕ, ◌*◌}
use lib.Dec.{ltb, leb}
use Rattle.numbers.specs.Value.{prime, is_modulus, IsModulus}
use Rattle.numbers.proofs.ModulusCases.{tested_modulus}
use Rattle.slices.specs.Pairs.{all_below}
use Rattle.refusals.specs.Refusals.{Test, ◌⇒◌, first}
use Rattle.lengths.specs.Lengths.{scratch_length, pair_count}
use Rattle.lengths.specs.Admitted.{AdmittedLength}
use borrow.Author.Tests.{le-leb, lt-leb, lt-ltb, le-ltb}
use Rattle.refusals.proofs.Tests.{stop, pass, none, not_t, not_f, by_true, by_false, by_eq, by_ne}
use Rattle.lengths.proofs.AdmittedLengths.{admitted_length}
use Rattle.line.specs.Line.{line_tests}
use Rattle.line.proofs.check.check_line.Statement.{statement}
use Rattle.line.proofs.check.check_line.Tie as tie

-- the modulus was 1 or 2
named : (c : tie.Else-not-is_modulus) → is_modulus c.before.before.before.before.args.modulus ≡ true
named c = by_true _ _ c.before.is_modulus.ensures c.if-not-is_modulus.false

-- the three numbers before the length are passed over, whatever is tested after them
numbered : (d : tie.Else-direction-ge2) {n : ℕ} (rest : List Test) → let a = d.before.before.before.before.before.before.args in
    n ≡ first rest → n ≡ first (not (is_modulus a.modulus) ⇒ 26 ∷ leb 6 a.kind ⇒ 1 ∷ leb 2 a.direction ⇒ 2 ∷ rest)
numbered d rest e = pass 26 _ (not_t _ (named d.before.before)) (pass 1 _ (lt-leb _ _ d.before.if-kind-ge6.false) (pass 2 _ (lt-leb _ _ d.if-direction-ge2.false) e))

-- the length was admitted
size : (c : tie.Else-not-admitted) → AdmittedLength c.before.before.before.before.before.before.before.before.args.length
size c = admitted_length _ (by_true _ _ c.before.admitted.ensures c.if-not-admitted.false)

-- the line's length as the tests have it
count : (c : tie.After-pair_count-pairs) → let a = c.before.before.before.before.before.before.before.before.before.before.before.before.before.args in 2 * c.pair_count-pairs.result ≡ 2 * pair_count a.kind a.length
count c = ap (λ (n : ℕ). 2 * n) c.pair_count-pairs.ensures.0

-- what is still to be tested once the line has its length: the scratch, then the residues
abbrev buffer_tests : (m scratch : ℕ) (line : List ℕ) → List Test
buffer_tests m scratch line = ltb scratch scratch_length ⇒ 13 ∷ not (all_below (prime m) line) ⇒ 7 ∷ []

-- the line has its length: the tests before are passed over
measured : (f : tie.Else-line-pairs) {n : ℕ} → let a = f.before.before.before.before.before.before.before.before.before.before.before.before.before.before.args in n ≡ first (buffer_tests a.modulus a.scratch a.line.now) → n ≡ first (line_tests a.modulus a.kind a.direction a.length a.factors.now a.line.now a.scratch)
measured f e =
    let h = f.before.before in
    let o = h.before.before in
    let l = o.before.before in
    numbered l.before.before _ (pass 3 _ (not_t _ (by_true _ _ l.before.admitted.ensures l.if-not-admitted.false)) (pass 4 _ (not_t _ (by_true _ _ o.before.factors_ok.ensures o.if-not-factors_ok.false)) (pass 5 _ (not_t _ (by_true _ _ h.before.has_product.ensures h.if-not-has_product.false)) (pass 6 _ (not_t _ (by_eq _ _ _ (count f.before) f.if-line-pairs.false)) e))))

-- the residues as the tests have them
residues : (c : tie.After-all_below) → let a = c.before.before.before.before.before.before.before.before.before.before.before.before.before.before.before.before.before.args in c.all_below.result ≡ all_below (prime a.modulus) a.line.now
residues c =
    let a = c.before.before.before.before.before.before.before.before.before.before.before.before.before.before.before.before.before.args in
    c.all_below.ensures ∙ ap (λ (p : ℕ). all_below p a.line.now) c.before.modulus.ensures.0

is_modulus-requires : tie.Need-is_modulus-requires
is_modulus-requires c κs = search rules

returns-then-not-is_modulus : tie.Need-returns-then-not-is_modulus
returns-then-not-is_modulus c = stop _ (not_f _ (by_false _ _ c.before.is_modulus.ensures c.if-not-is_modulus.true))

returns-then-kind-ge6 : tie.Need-returns-then-kind-ge6
returns-then-kind-ge6 c = pass 26 _ (not_t _ (named c.before)) (stop _ (le-leb _ _ c.if-kind-ge6.true))

returns-then-direction-ge2 : tie.Need-returns-then-direction-ge2
returns-then-direction-ge2 c = pass 26 _ (not_t _ (named c.before.before)) (pass 1 _ (lt-leb _ _ c.before.if-kind-ge6.false) (stop _ (le-leb _ _ c.if-direction-ge2.true)))

admitted-requires : tie.Need-admitted-requires
admitted-requires c κs = search rules

returns-then-not-admitted : tie.Need-returns-then-not-admitted
returns-then-not-admitted c = numbered c.before.before _ (stop _ (not_f _ (by_false _ _ c.before.admitted.ensures c.if-not-admitted.true)))

factors_ok-requires : tie.Need-factors_ok-requires
factors_ok-requires c κs = search rules

returns-then-not-factors_ok : tie.Need-returns-then-not-factors_ok
returns-then-not-factors_ok c =
    let l = c.before.before in
    numbered l.before.before _ (pass 3 _ (not_t _ (by_true _ _ l.before.admitted.ensures l.if-not-admitted.false)) (stop _ (not_f _ (by_false _ _ c.before.factors_ok.ensures c.if-not-factors_ok.true))))

has_product-requires : tie.Need-has_product-requires
has_product-requires c κs = (by_true _ _ c.before.factors_ok.ensures c.if-not-factors_ok.false, omega (arith, (size c.before.before).short))

returns-then-not-has_product : tie.Need-returns-then-not-has_product
returns-then-not-has_product c =
    let o = c.before.before in
    let l = o.before.before in
    numbered l.before.before _ (pass 3 _ (not_t _ (by_true _ _ l.before.admitted.ensures l.if-not-admitted.false)) (pass 4 _ (not_t _ (by_true _ _ o.before.factors_ok.ensures o.if-not-factors_ok.false)) (stop _ (not_f _ (by_false _ _ c.before.has_product.ensures c.if-not-has_product.true)))))

pair_count-pairs-requires : tie.Need-pair_count-pairs-requires
pair_count-pairs-requires c κs = let s = size c.before.before.before.before in (omega arith, omega (arith, s.positive), s.short)

overflow_mul-pairs : tie.Need-overflow_mul-pairs
overflow_mul-pairs c = search rules

returns-then-line-pairs : tie.Need-returns-then-line-pairs
returns-then-line-pairs c =
    let h = c.before.before in
    let o = h.before.before in
    let l = o.before.before in
    numbered l.before.before _ (pass 3 _ (not_t _ (by_true _ _ l.before.admitted.ensures l.if-not-admitted.false)) (pass 4 _ (not_t _ (by_true _ _ o.before.factors_ok.ensures o.if-not-factors_ok.false)) (pass 5 _ (not_t _ (by_true _ _ h.before.has_product.ensures h.if-not-has_product.false)) (stop _ (not_f _ (by_ne _ _ _ (count c.before) c.if-line-pairs.true))))))

returns-then-scratch-lt11520 : tie.Need-returns-then-scratch-lt11520
returns-then-scratch-lt11520 c = measured c.before (stop _ (lt-ltb _ _ c.if-scratch-lt11520.true))

modulus-requires : tie.Need-modulus-requires
modulus-requires c κs = tested_modulus _ (named c.before.before.before.before.before.before.before.before.before.before.before)

all_below-requires : tie.Need-all_below-requires
all_below-requires c κs = search rules

returns-then-not-all_below : tie.Need-returns-then-not-all_below
returns-then-not-all_below c = let e = c.before.before.before in measured e.before (pass 13 _ (le-ltb _ _ e.if-scratch-lt11520.false) (stop _ (not_f _ (by_false _ _ (residues c.before) c.if-not-all_below.true))))

returns : tie.Need-returns
returns c = let e = c.before.before.before in measured e.before (pass 13 _ (le-ltb _ _ e.if-scratch-lt11520.false) (pass 7 _ (not_t _ (by_true _ _ (residues c.before) c.if-not-all_below.false)) none))

pub check_line_spec : {M : Type 1} → statement M
check_line_spec =
    tie.close
    (tie.spec is_modulus-requires returns-then-not-is_modulus returns-then-kind-ge6 returns-then-direction-ge2 admitted-requires returns-then-not-admitted factors_ok-requires returns-then-not-factors_ok has_product-requires returns-then-not-has_product pair_count-pairs-requires overflow_mul-pairs returns-then-line-pairs returns-then-scratch-lt11520 modulus-requires all_below-requires returns-then-not-all_below returns)
