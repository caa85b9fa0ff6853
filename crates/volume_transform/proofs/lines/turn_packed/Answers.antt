-- The line is transformed in its direction by the line's own kind.
use mathlib.Core.Path.{sym, ◌∙◌, ap, subst}
use Rattle.numbers.specs.Value.{prime, IsModulus}
use Rattle.slices.specs.Pairs.{Below}
use Rattle.line.specs.Tables.{LineTables}
use Rattle.volume_transform.proofs.row.TurnLaws.{turned_packed, line_length}
use Rattle.lengths.specs.Lengths.{kind_of}
use Rattle.volume_transform.specs.Axes.{turned_line}
use Rattle.volume_transform.proofs.lines.turn_packed.Goals as goal

pub transform-requires-clause-modulus : goal.transform-requires-clause-modulus
transform-requires-clause-modulus c =
    let x = c.args.line in
    let sound = c.requires.sound_line.0 in
    let same = sym c.requires.sound_line.2 in
    (subst IsModulus same sound.modulus, sound.known, sound.directed, subst (λ n. LineTables n x.kind x.direction c.args.re.now c.args.im.now c.args.tan.now) same c.requires.sound_line.1)

pub transform-requires-clause-admitted_length : goal.transform-requires-clause-admitted_length
transform-requires-clause-admitted_length c =
    let sound = c.requires.sound_line.0 in
    (sound.size, sound.list)

pub transform-requires-clause-line_len : goal.transform-requires-clause-line_len
transform-requires-clause-line_len c =
    let x = c.args.line in
    let same = sym c.requires.sound_line.2 in
    (line_length x.half x.kind c.requires.packed_len.0, subst (λ n. Below (prime n) c.args.packed.now) same c.requires.packed_len.1)

pub returns : goal.returns
returns c =
    let x = c.args.line in
    c.transform.ensures.line_after ∙ turned_packed c.args.m x.half x.kind x.direction c.args.packed.now ∙ ap (λ n. turned_line n x.half x.direction (kind_of x.kind) c.args.packed.now) c.requires.sound_line.2
