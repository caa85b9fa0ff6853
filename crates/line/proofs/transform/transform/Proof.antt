-- `transform`: a plain line by the plain transform of its N points in each direction, the others by their fold.
use borrow.Author.Rules.{rules}
use native.Mathlib.Omega.{arith}
use mathlib.Core.Path.{◌≡◌, sym, ap, subst}
use mathlib.Core.List.{List, ◌++◌}
use Prim.Native.Nat.{ℕ, ◌*◌}
use lib.ListN.{length, take, drop}
use Rattle.algebra.specs.lines.Kinds.{slots}
use Rattle.lengths.specs.Lengths.{kind_of, octal, octal_digits, doubled_list}
use Rattle.lengths.specs.Admitted.{Factored}
use Rattle.roots.specs.Table.{table_root}
use Rattle.plain.specs.Plain.{work_after}
use Rattle.lengths.proofs.stage.Doubling.{doubled_factored}
use Rattle.line.specs.EverySplit.{plain_work}
use Rattle.line.proofs.kinds.Dispatch.{prefix_length, half_list, count_of, plain_by, plain_back_by}
use Rattle.line.proofs.kinds.Work.{plain_work_lem}
use Rattle.line.proofs.transform.transform.Statement.{statement}
use Rattle.line.proofs.transform.transform.Tie as tie

-- a direction that is not 0 is 1
other : (s : tie.Start) → (s.args.direction ≡ 0 → ⊥) → s.args.direction ≡ 1
other s n = omega (arith, s.requires.0.2, n)

-- the list of twice the length
doubled-list : (s : tie.Start) {r : ℕ} → r ≡ octal (doubled_list (octal_digits s.args.factors)) → Factored r (2 * s.args.a)
doubled-list s e = subst (λ r. Factored r (2 * s.args.a)) (sym e) (doubled_factored (half_list s.args.a s.requires.1.0.0 s.requires.1.0.1))

-- what its steps leave of the work slice
work-left : (s : tie.Start) {r : ℕ} → r ≡ octal (doubled_list (octal_digits s.args.factors)) → {left : List ℕ}
    → left ≡ work_after s.args.m (table_root s.args.m s.args.re.now s.args.im.now) (octal_digits r) (length (octal_digits r)) s.args.line.now (take (2 * (2 * s.args.a)) s.args.work.now)
    → left ++ drop (2 * (2 * s.args.a)) s.args.work.now ≡ plain_work s.args.m s.args.direction s.args.a (octal_digits s.args.factors) s.args.line.now s.args.work.now
work-left s e h = plain_work_lem (half_list s.args.a s.requires.1.0.0 s.requires.1.0.1) s.args.a s.args.m s.requires.0.3 s.args.line.now s.args.work.now e h

overflow_mul-n : tie.Need-overflow_mul-n
overflow_mul-n c = let s = c.before.before.before.before in omega (arith, s.requires.1.0.0.short)

overflow_mul-size : tie.Need-overflow_mul-size
overflow_mul-size c = let s = c.before.before.before.before in omega (arith, s.requires.1.0.0.short)

doubled-list-requires : tie.Need-doubled-list-requires
doubled-list-requires c κs = c.before.before.before.before.requires.1.0.1.small

slice_bounds-points-end : tie.Need-slice_bounds-points-end
slice_bounds-points-end c = let s = c.before.before.before.before.before in omega (arith, s.requires.1.0.0.short, s.requires.1.1.1)

slice_bounds-points-end-then-kind-eq0 : tie.Need-slice_bounds-points-end-then-kind-eq0
slice_bounds-points-end-then-kind-eq0 c = let s = c.before.before.before.before.before.before in sym (prefix_length _ s.args.work.now (omega (arith, s.requires.1.0.0.short, s.requires.1.1.1)))

transform-requires : tie.Need-transform-requires
unfolding slots
transform-requires c κs =
    let d = c.before.before.before in
    let s = d.before.before.before.before.before in
    let e : s.args.kind ≡ 0 = omega arith in (
      (s.requires.0.0, s.requires.0.3.powers),
      (
        (doubled-list s d.doubled-list.ensures, s.requires.1.0.0.turns),
        ((count_of s.args.a s.requires.1.0.0 s.args.kind (ap kind_of e) s.requires.1.1.0.0, prefix_length _ s.args.work.now (omega (arith, s.requires.1.0.0.short, s.requires.1.1.1))), s.requires.1.1.0.1),
      ),
    )

inverse-requires : tie.Need-inverse-requires
unfolding slots
inverse-requires c κs =
    let d = c.before.before.before in
    let s = d.before.before.before.before.before in
    let e : s.args.kind ≡ 0 = omega arith in (
      (s.requires.0.0, s.requires.0.3.powers),
      (
        (doubled-list s d.doubled-list.ensures, s.requires.1.0.0.turns),
        ((count_of s.args.a s.requires.1.0.0 s.args.kind (ap kind_of e) s.requires.1.1.0.0, prefix_length _ s.args.work.now (omega (arith, s.requires.1.0.0.short, s.requires.1.1.1))), s.requires.1.1.0.1),
      ),
    )

overflow_mul-size-else-kind-eq0 : tie.Need-overflow_mul-size-else-kind-eq0
overflow_mul-size-else-kind-eq0 c = let s = c.before.before.before.before in omega (arith, s.requires.1.0.0.short)

slice_bounds-folded-end : tie.Need-slice_bounds-folded-end
slice_bounds-folded-end c = let s = c.before.before.before.before.before in omega (arith, s.requires.1.0.0.short, s.requires.1.1.1)

slice_bounds-folded-end-else-kind-eq0 : tie.Need-slice_bounds-folded-end-else-kind-eq0
slice_bounds-folded-end-else-kind-eq0 c = let s = c.before.before.before.before.before.before in sym (prefix_length _ s.args.fold.now (omega (arith, s.requires.1.0.0.short, s.requires.1.1.1)))

slice_bounds-folded-end-else-kind-eq0-2 : tie.Need-slice_bounds-folded-end-else-kind-eq0-2
slice_bounds-folded-end-else-kind-eq0-2 c = let s = c.before.before.before.before.before.before in omega (arith, s.requires.1.0.0.short, s.requires.1.1.1)

slice_bounds-folded-end-else-kind-eq0-3 : tie.Need-slice_bounds-folded-end-else-kind-eq0-3
slice_bounds-folded-end-else-kind-eq0-3 c = let s = c.before.before.before.before.before.before.before in sym (prefix_length _ s.args.work.now (omega (arith, s.requires.1.0.0.short, s.requires.1.1.1)))

folded-requires : tie.Need-folded-requires
folded-requires c κs =
    let s = c.before.before.before.before.before.before.before in (
      (s.requires.0.0, omega arith, s.requires.0.1, s.requires.0.2, s.requires.0.3.folding (λ (e : s.args.kind ≡ 0). omega arith)),
      (s.requires.1.0, (s.requires.1.1.0, (prefix_length _ s.args.fold.now (omega (arith, s.requires.1.0.0.short, s.requires.1.1.1)), prefix_length _ s.args.work.now (omega (arith, s.requires.1.0.0.short, s.requires.1.1.1))))),
    )

shape_of-line-then-direction-eq0 : tie.Need-shape_of-line-then-direction-eq0
shape_of-line-then-direction-eq0 c = search rules

shape_of-work-then-direction-eq0 : tie.Need-shape_of-work-then-direction-eq0
shape_of-work-then-direction-eq0 c = search rules

returns-then-direction-eq0 : tie.Need-returns-then-direction-eq0
returns-then-direction-eq0 c =
    let r = c.before.before.before.before in
    let i = r.before.before in
    let s = i.before.before.before.before.before.before.before in
    let e : s.args.kind ≡ 0 = omega arith in (
      plain_by s.args.a s.requires.1.0.0 s.args.m s.requires.0.0 s.args.kind s.args.line.now s.requires.0.3 e i.if-direction-eq0.true r.transform.ensures.0,
      λ _. work-left s i.before.before.doubled-list.ensures r.transform.ensures.1.1,
    )

shape_of-line-else-direction-eq0 : tie.Need-shape_of-line-else-direction-eq0
shape_of-line-else-direction-eq0 c = search rules

shape_of-work-else-direction-eq0 : tie.Need-shape_of-work-else-direction-eq0
shape_of-work-else-direction-eq0 c = search rules

returns-else-direction-eq0 : tie.Need-returns-else-direction-eq0
returns-else-direction-eq0 c =
    let r = c.before.before.before.before in
    let i = r.before.before in
    let s = i.before.before.before.before.before.before.before in
    let e : s.args.kind ≡ 0 = omega arith in (
      plain_back_by s.args.a s.requires.1.0.0 s.args.m s.requires.0.0 s.args.kind s.args.line.now s.requires.0.3 e (other s i.if-direction-eq0.false) r.inverse.ensures.0,
      λ _. work-left s i.before.before.doubled-list.ensures r.inverse.ensures.1,
    )

shape_of-line-else-kind-eq0 : tie.Need-shape_of-line-else-kind-eq0
shape_of-line-else-kind-eq0 c = search rules

shape_of-fold : tie.Need-shape_of-fold
shape_of-fold c = search rules

shape_of-work-else-kind-eq0 : tie.Need-shape_of-work-else-kind-eq0
shape_of-work-else-kind-eq0 c = search rules

returns-else-kind-eq0 : tie.Need-returns-else-kind-eq0
returns-else-kind-eq0 c =
    let r = c.before.before.before.before.before.before in
    (r.folded.ensures, λ e. absurd (omega (arith, e)))

pub transform_spec : {M : Type 1} → statement M
transform_spec =
    tie.close
    (tie.spec overflow_mul-n overflow_mul-size doubled-list-requires slice_bounds-points-end slice_bounds-points-end-then-kind-eq0 transform-requires inverse-requires overflow_mul-size-else-kind-eq0 slice_bounds-folded-end slice_bounds-folded-end-else-kind-eq0 slice_bounds-folded-end-else-kind-eq0-2 slice_bounds-folded-end-else-kind-eq0-3 folded-requires shape_of-line-then-direction-eq0 shape_of-work-then-direction-eq0 returns-then-direction-eq0 shape_of-line-else-direction-eq0 shape_of-work-else-direction-eq0 returns-else-direction-eq0 shape_of-line-else-kind-eq0 shape_of-fold shape_of-work-else-kind-eq0 returns-else-kind-eq0)
