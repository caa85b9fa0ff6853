-- The count of the bytes that follow, the header, the count of the records, and the records.
use borrow.Author.Rules.{rules}
use native.Mathlib.Omega.{arith}
use mathlib.Core.Path.{◌≡◌}
use mathlib.Core.List.{List}
use Prim.Native.Nat.{ℕ, ◌+◌, ◌*◌, ◌-◌, ◌≤◌}
use lib.ListN.{length}
use Rattle.header.specs.Header.{Header}
use Rattle.output.specs.Output.{big_endian}
use Rattle.output.proofs.Writing.{wrote_append, wrote_as}
use Rattle.file_format.specs.declared.FileRecord.{FileRecord}
use Rattle.file_format.specs.Format.{version_of, header_bytes, body, file_of}
use Rattle.factor_file.specs.Steps.{header_for, records_with}
use Rattle.file_format.proofs.layout.ByteLaws.{length_all}
use Rattle.factor_file.proofs.file.RecordLaws.{admitted_few}
use Rattle.file_format.proofs.layout.FileParts.{length_body, length_file, file_parts}
use Rattle.factor_file.proofs.file.put_file.Statement.{statement}
use Rattle.factor_file.proofs.file.put_file.Tie as tie

-- the file's parts, and the counts in it
module _ (s : tie.Start) where
  abbrev head : Header
  head = let a = s.args in header_for a.cell a.f1 a.f2 a.f3

  abbrev version : ℕ
  version = version_of s.args.modulus

  abbrev records : List FileRecord
  records = let a = s.args in records_with a.cell a.modulus a.volume.now

  few : s.args.count ≤ 33554432
  few = let f = s.requires.0.0 in omega (arith, s.requires.1, admitted_few f.volume.sizes s.args.modulus s.args.volume.now f.volume.long s.requires.0.1)

-- how long the file is
long : (c : tie.After-file_length-follow) → let s = c.before.before.before in (c.file_length-follow.result ≡ length (file_of (version s) s.args.modulus (head s) (records s))) × (c.file_length-follow.result ≤ 53 + 14 * s.args.count)
long c =
    let s = c.before.before.before in
    let a = s.args in
    (c.file_length-follow.ensures.0 a.cell.group a.cell.n1 a.cell.n2 a.cell.n3 (records s) s.requires.1, c.file_length-follow.ensures.1)

-- what follows the first count
follows : (c : tie.After-file_length-follow) → let s = c.before.before.before in c.file_length-follow.result - 4 ≡ length (body (version s) s.args.modulus (head s) (records s))
follows c = let s = c.before.before.before in omega (arith, long c, length_file (version s) s.args.modulus (head s) (records s), length_body (version s) s.args.modulus (head s) (records s))

file_length-follow-requires : tie.Need-file_length-follow-requires
file_length-follow-requires c κs = omega (arith, few c.before.before)

overflow_sub-follow : tie.Need-overflow_sub-follow
overflow_sub-follow c = let s = c.before.before.before in omega (arith, long c, length_file (version s) s.args.modulus (head s) (records s))

overflow_cast-follow : tie.Need-overflow_cast-follow
overflow_cast-follow c = omega (arith, long c.before, few c.before.before.before.before)

-- how long its header is at most
short : (c : tie.After-file_length-follow) → let s = c.before.before.before in length (header_bytes (version s) s.args.modulus (head s)) ≤ 45
short c = let s = c.before.before.before in omega (arith, long c, s.requires.1, length_file (version s) s.args.modulus (head s) (records s))

put_four-first-requires : tie.Need-put_four-first-requires
unfolding big_endian
put_four-first-requires c κs = record { low = omega arith }

put_header-second-requires : tie.Need-put_header-second-requires
unfolding big_endian
put_header-second-requires c κs =
    let l = c.before.before.before.before.before in
    let f = l.requires.0.0 in
    let z = f.volume.sizes in
    ((omega (arith, f.modulus.high), omega (arith, z.known), omega (arith, z.first.high), omega (arith, z.second.high), omega (arith, z.third.high)), record { low = omega (arith, short l) })

overflow_cast-count : tie.Need-overflow_cast-count
overflow_cast-count c = omega (arith, few c.before.before.before.before.before.before.before.before.before.before.before.before)

put_four-third-requires : tie.Need-put_four-third-requires
unfolding big_endian
put_four-third-requires c κs = record { low = omega (arith, short c.before.before.before.before.before.before.before.before.before) }

put_records-requires : tie.Need-put_records-requires
unfolding big_endian
put_records-requires c κs =
    let n = c.before.before.before in
    let h = n.before.before.before.before in
    let m = h.before.before.before.before in
    let l = m.before.before in
    let s = l.before.before.before in
    (s.requires.0.0, record { low = omega (arith, short l, few s, s.requires.1, length_all (records s), m.put_four-first.ensures.place, h.put_header-second.ensures.place, n.put_four-third.ensures.place) })

shape_of-out : tie.Need-shape_of-out
shape_of-out c = search rules

returns : tie.Need-returns
returns c =
    let d = c.before.before in
    let n = d.before.before.before.before in
    let h = n.before.before.before.before in
    let m = h.before.before.before.before in
    let l = m.before.before in
    let s = l.before.before.before in
    wrote_as (wrote_append (wrote_append (wrote_append m.put_four-first.ensures h.put_header-second.ensures) n.put_four-third.ensures) d.put_records.ensures) (file_parts (version s) s.args.modulus (head s) (records s) _ _ (follows l) s.requires.1)

pub put_file_spec : {M : Type 1} → statement M
put_file_spec =
    tie.close
    (tie.spec file_length-follow-requires overflow_sub-follow overflow_cast-follow put_four-first-requires put_header-second-requires overflow_cast-count put_four-third-requires put_records-requires shape_of-out returns)
