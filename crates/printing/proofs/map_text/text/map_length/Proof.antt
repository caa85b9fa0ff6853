-- The place after the text, where it starts at 0.
use borrow.Author.Rules.{rules}
use native.Mathlib.Omega.{arith}
use Rattle.printing.proofs.map_text.text.map_length.Statement.{statement}
use Rattle.printing.proofs.map_text.text.map_length.Tie as tie

slice_bounds-put_map-end : tie.Need-slice_bounds-put_map-end
slice_bounds-put_map-end c = search rules

put_map-requires : tie.Need-put_map-requires
put_map-requires c κs = search rules

returns : tie.Need-returns
returns c = omega (arith, c.put_map.ensures.place)

pub map_length_spec : {M : Type 1} → statement M
map_length_spec = tie.close (tie.spec slice_bounds-put_map-end put_map-requires returns)
