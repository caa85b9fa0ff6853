-- The head line, then the planes.
use borrow.Author.Rules.{rules}
use Rattle.printing.specs.Text.{map_text}
use Rattle.output.proofs.Writing.{wrote_append, ends_left, ends_right}
use Rattle.printing.proofs.map_text.Printing.{map_ends}
use Rattle.printing.proofs.map_text.text.put_map.Statement.{statement}
use Rattle.printing.proofs.map_text.text.put_map.Tie as tie

put_head-rows-requires : tie.Need-put_head-rows-requires
unfolding map_text
put_head-rows-requires c κs = ends_left _ _ (map_ends c.requires.fitting)

put_planes-requires : tie.Need-put_planes-requires
unfolding map_text
put_planes-requires c κs =
    let p = c.requires in
    (p, ends_right _ c.put_head-rows.ensures (map_ends p.fitting))

shape_of-out : tie.Need-shape_of-out
shape_of-out c = search rules

returns : tie.Need-returns
unfolding map_text
returns c = wrote_append c.put_head-rows.ensures c.put_planes.ensures

pub put_map_spec : {M : Type 1} → statement M
put_map_spec = tie.close (tie.spec put_head-rows-requires put_planes-requires shape_of-out returns)
