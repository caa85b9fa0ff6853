-- A line along h has the places of its layout.
use borrow.Author.Rules.{rules}
use native.Mathlib.Omega.{arith}
use Rattle.volume_transform.proofs.plan.JobTurns.{width_low, plane_low, start_h}
use Rattle.volume_transform.proofs.plan.AxisLines.{gathered_h}
use Rattle.volume_transform.proofs.plan.Neighbours.{neighbours_h}
use Rattle.volume_transform.proofs.axis_lines.along_h.Statement.{statement}
use Rattle.volume_transform.proofs.axis_lines.along_h.Tie as tie

overflow_add-width : tie.Need-overflow_add-width
overflow_add-width c = let s = c.before in omega (arith, width_low s.requires.0.sizes.sizes)

overflow_cast-width : tie.Need-overflow_cast-width
overflow_cast-width c = let s = c.before in omega (arith, width_low s.requires.0.sizes.sizes)

overflow_cast-rows : tie.Need-overflow_cast-rows
overflow_cast-rows c = search rules

overflow_cast-result : tie.Need-overflow_cast-result
overflow_cast-result c = search rules

nonzero_div-result-2 : tie.Need-nonzero_div-result-2
nonzero_div-result-2 c = omega arith

overflow_mul-result : tie.Need-overflow_mul-result
overflow_mul-result c = let s = c.before.before.before in omega (arith, plane_low s.requires.0.sizes.sizes)

overflow_mul-result-2 : tie.Need-overflow_mul-result-2
overflow_mul-result-2 c = let s = c.before.before.before in omega (arith, start_h s.requires.0.sizes.sizes s.args.y s.requires.1)

nonzero_rem-result : tie.Need-nonzero_rem-result
nonzero_rem-result c = omega arith

overflow_add-result : tie.Need-overflow_add-result
overflow_add-result c = let s = c.before.before.before in omega (arith, start_h s.requires.0.sizes.sizes s.args.y s.requires.1)

returns : tie.Need-returns
returns c = let s = c.before.before.before in (gathered_h s.args.plan s.requires.0 s.args.y s.requires.1, neighbours_h s.args.plan s.requires.0 s.args.y s.requires.1)

pub along_h_spec : {M : Type 1} → statement M
along_h_spec =
    tie.close
    (tie.spec overflow_add-width overflow_cast-width overflow_cast-rows overflow_cast-result nonzero_div-result-2 overflow_mul-result overflow_mul-result-2 nonzero_rem-result overflow_add-result returns)
