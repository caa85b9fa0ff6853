-- The three axes, each of a sound list.
use Rattle.job.specs.Job.{Header, cell_header}
use Rattle.header.proofs.Headers.{sound_lists}
use Rattle.job.proofs.open.opened.Statement.{statement}
use Rattle.job.proofs.open.opened.Tie as tie

abbrev header : tie.Start → Header
header s = let a = s.args in cell_header a.cell a.f1.now a.f2.now a.f3.now

axis-requires : tie.Need-axis-requires
axis-requires c κs = let s = c.before.before.before in (sound_lists (header s) s.requires).0

axis-requires-2 : tie.Need-axis-requires-2
axis-requires-2 c κs = let s = c.before.before.before.before in (sound_lists (header s) s.requires).1

axis-requires-3 : tie.Need-axis-requires-3
axis-requires-3 c κs = let s = c.before.before.before.before.before in (sound_lists (header s) s.requires).2

returns : tie.Need-returns
returns c = rw (c.before.before.axis.ensures, c.before.axis-2.ensures, c.axis-3.ensures)

pub opened_spec : {M : Type 1} → statement M
opened_spec = tie.close (tie.spec axis-requires axis-requires-2 axis-requires-3 returns)
