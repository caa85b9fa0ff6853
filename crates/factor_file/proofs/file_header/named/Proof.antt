-- The three axes, each of a sound list, and the count of the volume's numbers, which is not too large.
use native.Mathlib.Omega.{arith}
use mathlib.Core.Path.{◌≡◌}
use Prim.Native.Nat.{ℕ, ◌≤◌}
use borrow.Author.Tests.{ltb-false}
use Rattle.refusals.proofs.Tests.{passed}
use Rattle.job.specs.Job.{Header, cell_header, needed, axis_tests}
use Rattle.header.proofs.Headers.{sound_lists, short_lengths}
use Rattle.factor_file.proofs.file_header.named.Statement.{statement}
use Rattle.factor_file.proofs.file_header.named.Tie as tie

abbrev header : tie.Start → Header
header s = let a = s.args in cell_header a.cell a.f1.now a.f2.now a.f3.now

-- the volume is not too large
small : (s : tie.Start) → needed (header s) ≤ 16777216
small s = ltb-false 16777216 (needed (header s)) (passed (axis_tests (header s)) tt s.requires.1).1.1.1.0

volume_length-numbers-requires : tie.Need-volume_length-numbers-requires
volume_length-numbers-requires c κs = short_lengths c.before.before.before.requires.0

overflow_cast-numbers : tie.Need-overflow_cast-numbers
overflow_cast-numbers c = omega (arith, c.volume_length-numbers.ensures, small c.before.before.before.before)

axis-requires : tie.Need-axis-requires
axis-requires c κs = let s = c.before.before.before.before in (sound_lists (header s) s.requires.1).0

axis-requires-2 : tie.Need-axis-requires-2
axis-requires-2 c κs = let s = c.before.before.before.before.before in (sound_lists (header s) s.requires.1).1

axis-requires-3 : tie.Need-axis-requires-3
axis-requires-3 c κs = let s = c.before.before.before.before.before.before in (sound_lists (header s) s.requires.1).2

returns : tie.Need-returns
returns c = rw (c.before.before.axis.ensures, c.before.axis-2.ensures, c.axis-3.ensures, c.before.before.before.volume_length-numbers.ensures)

pub named_spec : {M : Type 1} → statement M
named_spec =
    tie.close
    (tie.spec volume_length-numbers-requires overflow_cast-numbers axis-requires axis-requires-2 axis-requires-3 returns)
