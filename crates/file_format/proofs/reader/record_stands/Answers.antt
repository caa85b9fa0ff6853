-- Below fourteen bytes no record stands; from there on the last place that has fourteen bytes decides.
use mathlib.Core.Path.{◌∙◌}
use native.Mathlib.Omega.{arith}
use borrow.Author.Tests.{lt-leb}
use Rattle.file_format.proofs.Reading.{stands_by, stands_not}
use Rattle.file_format.proofs.reader.record_stands.Goals as goal

pub returns-then-file-ge14 : goal.returns-then-file-ge14
returns-then-file-ge14 c = let a = c.args in stands_by a.file.now a.at c.if-file-ge14.true

pub returns-else-file-ge14 : goal.returns-else-file-ge14
returns-else-file-ge14 c = let a = c.args in lt-leb _ _ c.if-file-ge14.false ∙ stands_not a.file.now a.at (omega arith)
