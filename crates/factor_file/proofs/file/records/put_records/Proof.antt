-- The places before j are written; none beyond N1/2 has a record.
use native.Mathlib.Omega.{arith}
use mathlib.Core.Path.{◌≡◌, sym, ap}
use mathlib.Core.List.{List}
use Prim.Native.Nat.{ℕ}
use lib.ListN.{length}
use Rattle.algebra.specs.cells.Cell.{J, cell_from, places_of}
use Rattle.cell.specs.Operations.{cell_group, cell_halves, triple_of}
use Rattle.factor_file.specs.Steps.{places_from, Next}
use Rattle.factor_file.proofs.file.Places.{Spreads}
use Rattle.factor_file.proofs.file.Walks.{Putting, putting_start, putting_next, putting_ends, putting_done, fewer}
use Rattle.factor_file.proofs.file.RecordLaws.{bytes_at, volume_bytes, cell_places, first_half, upper_bytes}
use Rattle.factor_file.proofs.file.records.put_records.Statement.{statement}
use Rattle.factor_file.proofs.file.records.put_records.Tie as tie

abbrev invariant-loop-j : tie.invariant-loop-j
invariant-loop-j modulus cell volume out₀ start at₀ j₀ out at j = Putting (bytes_at (cell_group cell) (cell_halves cell) modulus volume) cell start out₀ at out j

abbrev decreases-loop-j : tie.decreases-loop-j
decreases-loop-j modulus cell volume out₀ start at₀ j₀ out at j = length (places_from cell (triple_of j))

module _ (s : tie.Start invariant-loop-j decreases-loop-j) where
  abbrev bytes : List J → List ℕ
  bytes = bytes_at (cell_group s.args.cell) (cell_halves s.args.cell) s.args.modulus s.args.volume.now

  spread : Spreads bytes
  spread = volume_bytes (cell_group s.args.cell) (cell_halves s.args.cell) s.args.modulus s.args.volume.now

  whole : bytes (cell_from s.args.cell.n3 s.args.cell.n2 0 s.args.cell.n1) ≡ bytes (places_of (cell_halves s.args.cell))
  whole = ap bytes (sym (cell_places s.requires.0.volume.sizes))

loop-j-init : tie.Need-loop-j-init invariant-loop-j decreases-loop-j
loop-j-init c =
    let s = c.before.before in
    let a = s.args in
    let z = s.requires.0.volume.sizes in
    putting_start (bytes s) a.cell a.start a.out.now (omega (arith, z.second.low)) (omega (arith, z.third.low))

put_place-at-requires : tie.Need-put_place-at-requires invariant-loop-j decreases-loop-j
put_place-at-requires c κs =
    let t = c.before in
    let l = t.before.before.before in
    let s = l.before.before.before in
    let h = first_half s.requires.0.volume.sizes t.loop-j-test.true in
    ((s.requires.0, record { h = h; k = l.loop-j.invariant.k; l = l.loop-j.invariant.l }), putting_ends (spread s) l.loop-j.invariant h (whole s) s.requires.1)

next_place-j-requires : tie.Need-next_place-j-requires invariant-loop-j decreases-loop-j
next_place-j-requires c κs =
    let t = c.before.before.before.before in
    let l = t.before.before.before in
    let z = l.requires.0.volume.sizes in
    (z, record { h = first_half z t.loop-j-test.true; k = l.loop-j.invariant.k; l = l.loop-j.invariant.l })

-- the place after j
next : (c : tie.After-next_place-j invariant-loop-j decreases-loop-j) → Next c.args.cell c.loop-j.j c.next_place-j.result
next c = c.next_place-j.ensures

loop-j-smaller : tie.Need-loop-j-smaller invariant-loop-j decreases-loop-j
loop-j-smaller c = fewer (next c)

loop-j-preserved : tie.Need-loop-j-preserved invariant-loop-j decreases-loop-j
loop-j-preserved c =
    let p = c.before.before.before in
    let l = p.before.before.before.before.before in
    putting_next (spread l.before.before.before) l.loop-j.invariant p.put_place-at.ensures (next c)

shape_of-out : tie.Need-shape_of-out invariant-loop-j decreases-loop-j
shape_of-out c = c.loop-j.invariant.same

returns : tie.Need-returns invariant-loop-j decreases-loop-j
returns c =
    let l = c.before.before.before in
    let s = l.before.before.before in
    putting_done (spread s) l.loop-j.invariant (upper_bytes s.requires.0.volume.sizes s.args.modulus s.args.volume.now) c.loop-j-test.false (whole s)

pub put_records_spec : {M : Type 1} → statement M
put_records_spec =
    tie.close
    (tie.spec invariant-loop-j decreases-loop-j loop-j-init put_place-at-requires next_place-j-requires loop-j-smaller loop-j-preserved shape_of-out returns)
