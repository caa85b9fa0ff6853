-- The tables of the prime are those that the line asks for.
use mathlib.Core.Path.{sym}
use Rattle.line.proofs.kinds.Tables.{forward_tables, line_tables, plain_tables}
use Rattle.volume_transform.proofs.OwnTurns.{placed_sound, modulus_of, tables_for}
use Rattle.volume_transform.proofs.one_line.alone_by.Goals as goal

pub table-powers-requires : goal.table-powers-requires
table-powers-requires g c = modulus_of c.args.line c.args.volume.now (sym c.requires.1) (placed_sound c.args.line c.requires.0).modulus

pub half_tangents-tan-requires : goal.half_tangents-tan-requires
half_tangents-tan-requires g c = modulus_of c.args.line c.args.volume.now (sym c.requires.1) (placed_sound c.args.line c.requires.0).modulus

pub alone-requires-clause-placed : goal.alone-requires-clause-placed
alone-requires-clause-placed g c =
    let p = c.table-powers.ensures in
    let x = c.args.line in
    let v = c.args.volume.now in
    let em = sym c.requires.1 in
    (c.requires.0, tables_for x v em c.requires.2 (plain_tables (modulus_of x v em (placed_sound x c.requires.0).modulus) p.0 p.1 _ c.if-line-eq0.true), em)

pub alone-requires-else-line-eq0-clause-placed : goal.alone-requires-else-line-eq0-clause-placed
alone-requires-else-line-eq0-clause-placed g c =
    let p = c.table-powers.ensures in
    let x = c.args.line in
    let v = c.args.volume.now in
    let em = sym c.requires.1 in
    let is = modulus_of x v em (placed_sound x c.requires.0).modulus in
    (c.requires.0, tables_for x v em c.requires.2 (line_tables x.kind (forward_tables is p.0 p.1 c.half_tangents-tan.ensures)), em)
