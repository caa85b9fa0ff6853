-- The arrays are as long as the line needs.
use native.Mathlib.Omega.{arith}
use Rattle.volume_transform.proofs.OwnTurns.{placed_sound}
use Rattle.volume_transform.proofs.one_line.alone.Goals as goal

pub alone_in-requires-else-line-le240-clause-scratch_length_in_bounds : goal.alone_in-requires-else-line-le240-clause-scratch_length_in_bounds
alone_in-requires-else-line-le240-clause-scratch_length_in_bounds c = (c.requires.scratch_length_in_bounds, omega (arith, (placed_sound c.args.line c.requires.placed.0).size.short), omega arith)
