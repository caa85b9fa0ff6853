-- `folded`: the kind's number tells the kind, whose fold in each direction is the transform.
use native.Mathlib.Omega.{arith}
use mathlib.Core.Path.{◌≡◌, ap}
use mathlib.Core.List.{List}
use Prim.Native.Nat.{ℕ, ◌*◌}
use Rattle.algebra.specs.lines.Kinds.{Kind, slots}
use Rattle.slices.specs.Pairs.{values_of, list_of}
use Rattle.lengths.specs.Lengths.{kind_of}
use Rattle.lengths.specs.Admitted.{Factored}
use Rattle.fold_formulas.specs.FoldFormulas.{Frame, folded}
use Rattle.line.specs.Line.{transformed}
use Rattle.line.proofs.kinds.Dispatch.{hermitian_kind_lem, mirror_kind_lem, frame_of, half_list, half_count, count_of, folded_by}
use Rattle.line.proofs.transform.folded.Statement.{statement}
use Rattle.line.proofs.transform.folded.Tie as tie

frame : (s : tie.Start) → Frame s.args.m s.args.a s.args.re.now s.args.im.now
frame s = frame_of s.args.a s.requires.1.0.0 s.requires.0.0 s.requires.0.4.powers

list : (s : tie.Start) → Factored s.args.factors s.args.a
list s = half_list s.args.a s.requires.1.0.0 s.requires.1.0.1

-- a direction that is not 0 is 1
other : (s : tie.Start) → (s.args.direction ≡ 0 → ⊥) → s.args.direction ≡ 1
other s n = omega (arith, s.requires.0.3, n)

-- what the fold of the kind and the direction leaves
left : (s : tie.Start) {k : Kind} → kind_of s.args.kind ≡ k → {d : ℕ} → s.args.direction ≡ d → {l : List ℕ}
    → l ≡ list_of (slots k s.args.a) (folded s.args.m d s.args.a s.args.re.now s.args.im.now s.args.tan.now k (values_of s.args.m s.args.line.now))
    → l ≡ transformed s.args.m s.args.kind s.args.direction (2 * s.args.a) s.args.line.now
left s e o h = folded_by s.args.a s.requires.1.0.0 s.args.m s.requires.0.0 s.args.kind s.args.line.now s.requires.0.4 e o h

forward-requires : tie.Need-forward-requires
forward-requires c κs =
    let s = c.before.before.before.before.before.before.before.before in
    ((frame s, list s), ((half_count s.args.a s.requires.1.0.0 s.args.kind s.requires.0.1 (omega arith) s.requires.1.1.0.0, s.requires.1.1.1.0, s.requires.1.1.1.1), s.requires.1.1.0.1))

inverse-requires : tie.Need-inverse-requires
inverse-requires c κs =
    let s = c.before.before.before.before.before.before.before.before in
    ((frame s, list s), ((half_count s.args.a s.requires.1.0.0 s.args.kind s.requires.0.1 (omega arith) s.requires.1.1.0.0, s.requires.1.1.1.0, s.requires.1.1.1.1), s.requires.1.1.0.1))

forward-requires-then-direction-eq0-2 : tie.Need-forward-requires-then-direction-eq0-2
forward-requires-then-direction-eq0-2 c κs =
    let s = c.before.before.before.before.before.before.before.before.before in
    ((frame s, s.requires.0.4.small, list s), ((half_count s.args.a s.requires.1.0.0 s.args.kind s.requires.0.1 (omega arith) s.requires.1.1.0.0, s.requires.1.1.0.1), (s.requires.1.1.1.0, s.requires.1.1.1.1)))

inverse-requires-else-direction-eq0-2 : tie.Need-inverse-requires-else-direction-eq0-2
inverse-requires-else-direction-eq0-2 c κs =
    let s = c.before.before.before.before.before.before.before.before.before in
    ((frame s, s.requires.0.4.small, list s), ((half_count s.args.a s.requires.1.0.0 s.args.kind s.requires.0.1 (omega arith) s.requires.1.1.0.0, s.requires.1.1.0.1), (s.requires.1.1.1.0, s.requires.1.1.1.1)))

overflow_sub-first : tie.Need-overflow_sub-first
overflow_sub-first c = omega arith

overflow_cast-first : tie.Need-overflow_cast-first
overflow_cast-first c = omega arith

forward-requires-then-direction-eq0-3 : tie.Need-forward-requires-then-direction-eq0-3
forward-requires-then-direction-eq0-3 c κs =
    let s = c.before.before.before.before.before.before.before.before.before in
    ((frame s, s.requires.0.4.small, list s, omega arith), ((count_of s.args.a s.requires.1.0.0 s.args.kind (mirror_kind_lem s.args.kind (omega arith) s.requires.0.2) s.requires.1.1.0.0, s.requires.1.1.1.0, s.requires.1.1.1.1), s.requires.1.1.0.1))

inverse-requires-else-direction-eq0-3 : tie.Need-inverse-requires-else-direction-eq0-3
inverse-requires-else-direction-eq0-3 c κs =
    let s = c.before.before.before.before.before.before.before.before.before in
    ((frame s, s.requires.0.4.small, list s, omega arith), ((count_of s.args.a s.requires.1.0.0 s.args.kind (mirror_kind_lem s.args.kind (omega arith) s.requires.0.2) s.requires.1.1.0.0, s.requires.1.1.1.0, s.requires.1.1.1.1), s.requires.1.1.0.1))

shape_of-line-then-direction-eq0 : tie.Need-shape_of-line-then-direction-eq0
shape_of-line-then-direction-eq0 c = c.before.before.before.before.before.line-1.given

shape_of-fold-then-direction-eq0 : tie.Need-shape_of-fold-then-direction-eq0
shape_of-fold-then-direction-eq0 c = c.before.before.before.fold-1.given

shape_of-work-then-direction-eq0 : tie.Need-shape_of-work-then-direction-eq0
shape_of-work-then-direction-eq0 c = c.before.work-1.given

returns-then-direction-eq0 : tie.Need-returns-then-direction-eq0
returns-then-direction-eq0 c =
    let r = c.before.before.before.before.before.before in
    let s = r.before.before.before.before.before.before.before.before.before in
    left s (hermitian_kind_lem s.args.kind s.requires.0.1 (omega arith)) r.before.before.before.before.if-direction-eq0.true (r.forward.ensures s.args.tan.now)

shape_of-line-else-direction-eq0 : tie.Need-shape_of-line-else-direction-eq0
shape_of-line-else-direction-eq0 c = c.before.before.before.before.before.line-else-direction-eq0-1.given

shape_of-fold-else-direction-eq0 : tie.Need-shape_of-fold-else-direction-eq0
shape_of-fold-else-direction-eq0 c = c.before.before.before.fold-else-direction-eq0-1.given

shape_of-work-else-direction-eq0 : tie.Need-shape_of-work-else-direction-eq0
shape_of-work-else-direction-eq0 c = c.before.work-else-direction-eq0-1.given

returns-else-direction-eq0 : tie.Need-returns-else-direction-eq0
returns-else-direction-eq0 c =
    let r = c.before.before.before.before.before.before in
    let s = r.before.before.before.before.before.before.before.before.before in
    left s (hermitian_kind_lem s.args.kind s.requires.0.1 (omega arith)) (other s r.before.before.before.before.if-direction-eq0.false) (r.inverse.ensures s.args.tan.now)

shape_of-line-then-direction-eq0-2 : tie.Need-shape_of-line-then-direction-eq0-2
shape_of-line-then-direction-eq0-2 c = c.before.before.before.before.before.line-then-direction-eq0-2-1.given

shape_of-fold-then-direction-eq0-2 : tie.Need-shape_of-fold-then-direction-eq0-2
shape_of-fold-then-direction-eq0-2 c = c.before.before.before.fold-then-direction-eq0-2-1.given

shape_of-work-then-direction-eq0-2 : tie.Need-shape_of-work-then-direction-eq0-2
shape_of-work-then-direction-eq0-2 c = c.before.work-then-direction-eq0-2-1.given

returns-then-direction-eq0-2 : tie.Need-returns-then-direction-eq0-2
returns-then-direction-eq0-2 c =
    let r = c.before.before.before.before.before.before in
    let s = r.before.before.before.before.before.before.before.before.before.before in
    let e : s.args.kind ≡ 3 = omega arith in
    left s (ap kind_of e) r.before.before.before.before.if-direction-eq0-2.true r.forward-then-direction-eq0-2.ensures

shape_of-line-else-direction-eq0-2 : tie.Need-shape_of-line-else-direction-eq0-2
shape_of-line-else-direction-eq0-2 c = c.before.before.before.before.before.line-else-direction-eq0-2-1.given

shape_of-fold-else-direction-eq0-2 : tie.Need-shape_of-fold-else-direction-eq0-2
shape_of-fold-else-direction-eq0-2 c = c.before.before.before.fold-else-direction-eq0-2-1.given

shape_of-work-else-direction-eq0-2 : tie.Need-shape_of-work-else-direction-eq0-2
shape_of-work-else-direction-eq0-2 c = c.before.work-else-direction-eq0-2-1.given

returns-else-direction-eq0-2 : tie.Need-returns-else-direction-eq0-2
returns-else-direction-eq0-2 c =
    let r = c.before.before.before.before.before.before in
    let s = r.before.before.before.before.before.before.before.before.before.before in
    let e : s.args.kind ≡ 3 = omega arith in
    left s (ap kind_of e) (other s r.before.before.before.before.if-direction-eq0-2.false) r.inverse-else-direction-eq0-2.ensures

shape_of-line-then-direction-eq0-3 : tie.Need-shape_of-line-then-direction-eq0-3
shape_of-line-then-direction-eq0-3 c = c.before.before.before.before.before.line-then-direction-eq0-3-1.given

shape_of-fold-then-direction-eq0-3 : tie.Need-shape_of-fold-then-direction-eq0-3
shape_of-fold-then-direction-eq0-3 c = c.before.before.before.fold-then-direction-eq0-3-1.given

shape_of-work-then-direction-eq0-3 : tie.Need-shape_of-work-then-direction-eq0-3
shape_of-work-then-direction-eq0-3 c = c.before.work-then-direction-eq0-3-1.given

returns-then-direction-eq0-3 : tie.Need-returns-then-direction-eq0-3
returns-then-direction-eq0-3 c =
    let r = c.before.before.before.before.before.before in
    let s = r.before.before.before.before.before.before.before.before.before.before in
    left s (mirror_kind_lem s.args.kind (omega arith) s.requires.0.2) r.before.before.before.before.if-direction-eq0-3.true r.forward-then-direction-eq0-3.ensures

shape_of-line-else-direction-eq0-3 : tie.Need-shape_of-line-else-direction-eq0-3
shape_of-line-else-direction-eq0-3 c = c.before.before.before.before.before.line-else-direction-eq0-3-1.given

shape_of-fold-else-direction-eq0-3 : tie.Need-shape_of-fold-else-direction-eq0-3
shape_of-fold-else-direction-eq0-3 c = c.before.before.before.fold-else-direction-eq0-3-1.given

shape_of-work-else-direction-eq0-3 : tie.Need-shape_of-work-else-direction-eq0-3
shape_of-work-else-direction-eq0-3 c = c.before.work-else-direction-eq0-3-1.given

returns-else-direction-eq0-3 : tie.Need-returns-else-direction-eq0-3
returns-else-direction-eq0-3 c =
    let r = c.before.before.before.before.before.before in
    let s = r.before.before.before.before.before.before.before.before.before.before in
    left s (mirror_kind_lem s.args.kind (omega arith) s.requires.0.2) (other s r.before.before.before.before.if-direction-eq0-3.false) r.inverse-else-direction-eq0-3.ensures

pub folded_spec : {M : Type 1} → statement M
folded_spec =
    tie.close
    (tie.spec forward-requires inverse-requires forward-requires-then-direction-eq0-2 inverse-requires-else-direction-eq0-2 overflow_sub-first overflow_cast-first forward-requires-then-direction-eq0-3 inverse-requires-else-direction-eq0-3 shape_of-line-then-direction-eq0 shape_of-fold-then-direction-eq0 shape_of-work-then-direction-eq0 returns-then-direction-eq0 shape_of-line-else-direction-eq0 shape_of-fold-else-direction-eq0 shape_of-work-else-direction-eq0 returns-else-direction-eq0 shape_of-line-then-direction-eq0-2 shape_of-fold-then-direction-eq0-2 shape_of-work-then-direction-eq0-2 returns-then-direction-eq0-2 shape_of-line-else-direction-eq0-2 shape_of-fold-else-direction-eq0-2 shape_of-work-else-direction-eq0-2 returns-else-direction-eq0-2 shape_of-line-then-direction-eq0-3 shape_of-fold-then-direction-eq0-3 shape_of-work-then-direction-eq0-3 returns-then-direction-eq0-3 shape_of-line-else-direction-eq0-3 shape_of-fold-else-direction-eq0-3 shape_of-work-else-direction-eq0-3 returns-else-direction-eq0-3)
