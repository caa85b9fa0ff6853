-- The numbers of the header and the parts that are its lists are those of the file.
use borrow.Author.Rules.{rules}
use native.Mathlib.Omega.{arith}
use mathlib.Core.Path.{◌≡◌, ◌∙◌, ap}
use mathlib.Core.List.{List}
use Prim.Native.Nat.{ℕ}
use Rattle.file_format.specs.Format.{four_bytes, record_count}
use Rattle.file_format.proofs.shape.Shapes.{Ordered, ordered, filled_by_lem, header_parts}
use Rattle.job.specs.Job.{Header}
use Rattle.factor_file.specs.File.{modulus_in, header_in}
use Rattle.factor_file.specs.HeaderRead.{HeaderSaid, judged_header, header_step}
use Rattle.factor_file.proofs.HeadersRead.{shape_sound}
use Rattle.factor_file.proofs.file_header.sound_header.Statement.{statement}
use Rattle.factor_file.proofs.file_header.sound_header.Tie as tie

standing : (c : tie.After-struct_known-1) → Ordered c.args.file.now c.args.places
standing c = ordered c.args.file.now c.args.places c.requires.0 c.requires.1

-- the modulus, the header and the record count that were read are those of the file
judged_by : (file : List ℕ) {μ n : ℕ} {h : Header} {o : HeaderSaid} → o ≡ judged_header μ h n → μ ≡ modulus_in file → h ≡ header_in file → n ≡ record_count file → o ≡ judged_header (modulus_in file) (header_in file) (record_count file)
judged_by file e m p q = e ∙ (λ i. judged_header (m i) (p i) (q i))

header_numbers-header-requires : tie.Need-header_numbers-header-requires
header_numbers-header-requires c κs = search rules

four_bytes-records-requires : tie.Need-four_bytes-records-requires
four_bytes-records-requires c κs = omega (arith, c.requires.0.count, filled_by_lem c.args.file.now c.requires.1)

overflow_add-start1 : tie.Need-overflow_add-start1
overflow_add-start1 c = let o = standing c in omega arith

overflow_add-start2 : tie.Need-overflow_add-start2
overflow_add-start2 c = let o = standing c in omega arith

overflow_add-start3 : tie.Need-overflow_add-start3
overflow_add-start3 c = let o = standing c in omega arith

slice_bounds-judged_header-count : tie.Need-slice_bounds-judged_header-count
slice_bounds-judged_header-count c = let o = standing c.before in omega arith

slice_bounds-judged_header-start : tie.Need-slice_bounds-judged_header-start
slice_bounds-judged_header-start c = let o = standing c.before in omega arith

slice_bounds-judged_header-end : tie.Need-slice_bounds-judged_header-end
slice_bounds-judged_header-end c = let o = standing c.before in omega arith

slice_bounds-judged_header-count-2 : tie.Need-slice_bounds-judged_header-count-2
slice_bounds-judged_header-count-2 c = let o = standing c.before.before in omega arith

slice_bounds-judged_header-start-2 : tie.Need-slice_bounds-judged_header-start-2
slice_bounds-judged_header-start-2 c = let o = standing c.before.before in omega arith

slice_bounds-judged_header-end-2 : tie.Need-slice_bounds-judged_header-end-2
slice_bounds-judged_header-end-2 c = let o = standing c.before.before in omega arith

slice_bounds-judged_header-count-3 : tie.Need-slice_bounds-judged_header-count-3
slice_bounds-judged_header-count-3 c = let o = standing c.before.before.before in omega arith

slice_bounds-judged_header-start-3 : tie.Need-slice_bounds-judged_header-start-3
slice_bounds-judged_header-start-3 c = let o = standing c.before.before.before in omega arith

slice_bounds-judged_header-end-3 : tie.Need-slice_bounds-judged_header-end-3
slice_bounds-judged_header-end-3 c = let o = standing c.before.before.before in omega arith

judged_header-requires : tie.Need-judged_header-requires
judged_header-requires c κs = search rules

returns : tie.Need-returns
returns c =
    let n = c.header_numbers-header.ensures in
    let file = c.args.file.now in
    judged_by file c.judged_header.ensures n.modulus (header_parts file c.requires.0 n) (c.four_bytes-records.ensures ∙ ap (four_bytes file) c.requires.0.count)
    ∙ shape_sound file c.requires.1

pub sound_header_spec : {M : Type 1} → statement M
sound_header_spec =
    tie.close
    (tie.spec header_numbers-header-requires four_bytes-records-requires overflow_add-start1 overflow_add-start2 overflow_add-start3 slice_bounds-judged_header-count slice_bounds-judged_header-start slice_bounds-judged_header-end slice_bounds-judged_header-count-2 slice_bounds-judged_header-start-2 slice_bounds-judged_header-end-2 slice_bounds-judged_header-count-3 slice_bounds-judged_header-start-3 slice_bounds-judged_header-end-3 judged_header-requires returns)
