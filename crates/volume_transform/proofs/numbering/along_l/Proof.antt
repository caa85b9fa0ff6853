-- A line along l has the places of its kind.
use borrow.Author.Rules.{rules}
use native.Mathlib.Omega.{arith}
use Rattle.volume_transform.proofs.plan.JobTurns.{width_low, plane_low, rows_low, start_l}
use Rattle.volume_transform.proofs.plan.AxisLines.{gathered_l}
use Rattle.volume_transform.proofs.plan.Neighbours.{neighbours_l}
use Rattle.volume_transform.proofs.numbering.along_l.Statement.{statement}
use Rattle.volume_transform.proofs.numbering.along_l.Tie as tie

overflow_add-width : tie.Need-overflow_add-width
overflow_add-width c = let s = c.before in omega (arith, width_low s.requires.0.sizes.sizes)

overflow_cast-width : tie.Need-overflow_cast-width
overflow_cast-width c = let s = c.before in omega (arith, width_low s.requires.0.sizes.sizes)

overflow_cast-stride : tie.Need-overflow_cast-stride
overflow_cast-stride c = search rules

overflow_mul-stride : tie.Need-overflow_mul-stride
overflow_mul-stride c = let s = c.before.before in omega (arith, plane_low s.requires.0.sizes.sizes)

nonzero_div-y : tie.Need-nonzero_div-y
nonzero_div-y c = omega arith

line_kind-kind-requires : tie.Need-line_kind-kind-requires
line_kind-kind-requires c κs = search rules

nonzero_div-y-2 : tie.Need-nonzero_div-y-2
nonzero_div-y-2 c = omega arith

is_rotated-requires : tie.Need-is_rotated-requires
is_rotated-requires c κs = c.before.before.before.requires.0.sizes.sizes.known

overflow_cast-result : tie.Need-overflow_cast-result
overflow_cast-result c = search rules

first_pair-requires : tie.Need-first_pair-requires
first_pair-requires c κs = c.before.before.line_kind-kind.ensures.0

overflow_mul-result : tie.Need-overflow_mul-result
overflow_mul-result c = let s = c.before.before.before.before.before.before in omega (arith, start_l s.requires.0.sizes.sizes _ c.first_pair.ensures.1)

overflow_add-result : tie.Need-overflow_add-result
overflow_add-result c = let s = c.before.before.before.before.before.before in omega (arith, start_l s.requires.0.sizes.sizes _ c.first_pair.ensures.1, plane_low s.requires.0.sizes.sizes, rows_low s.requires.0.sizes.sizes s.args.y s.requires.1)

pair_count-requires : tie.Need-pair_count-requires
pair_count-requires c κs =
    let k = c.before.before.before in
    let s = k.before.before.before in
    (k.line_kind-kind.ensures.0, s.requires.0.sizes.sizes.third.low, s.requires.0.sizes.sizes.third.high)

returns : tie.Need-returns
returns c =
    let f = c.before in
    let t = f.before.before in
    let k = t.before in
    let s = k.before.before.before in
    let kind = k.line_kind-kind in
    let first = f.first_pair in
    let pairs = c.pair_count in (
      gathered_l s.args.plan s.requires.0 s.args.y kind.result _ _ _ s.requires.1 kind.ensures.0 kind.ensures.1 t.is_rotated.ensures kind.ensures.2 first.ensures.0 first.ensures.1 pairs.ensures.0 pairs.ensures.1,
      neighbours_l s.args.plan s.requires.0 s.args.y kind.result _ _ _ s.requires.1 kind.ensures.0 kind.ensures.1 t.is_rotated.ensures kind.ensures.2 first.ensures.0 first.ensures.1 pairs.ensures.0 pairs.ensures.1,
    )

pub along_l_spec : {M : Type 1} → statement M
along_l_spec =
    tie.close
    (tie.spec overflow_add-width overflow_cast-width overflow_cast-stride overflow_mul-stride nonzero_div-y line_kind-kind-requires nonzero_div-y-2 is_rotated-requires overflow_cast-result first_pair-requires overflow_mul-result overflow_add-result pair_count-requires returns)
