-- The outcome of the call, refused or written; what is known where no test holds; the laws of every section that is written.
use mathlib.Core.Path.{◌≡◌, ◌∙◌}
use mathlib.Core.List.{List}
use Prim.Native.Nat.{ℕ, ◌+◌, ◌*◌, ◌<◌, ◌≤◌}
use native.Mathlib.Nat.{mul-le-mul}
use native.Mathlib.Omega.{arith}
use lib.ListN.{length}
use lib.IntN.{ℤ}
use borrow.Author.Tests.{not-false, eqb-true, leb-false, ltb-false}
use Rattle.algebra.specs.cells.Cell.{J}
use Rattle.signed.proofs.Floor.{floor_division}
use Rattle.refusals.specs.declared.Refusal.{Refusal}
use Rattle.refusals.specs.Refusals.{number_of, first}
use Rattle.refusals.proofs.Tests.{passed, passes, fails}
use Rattle.cell.specs.declared.operations.UnitCell.{UnitCell}
use Rattle.cell.specs.Operations.{cell_lengths}
use Rattle.header.proofs.Headers.{sizes_of}
use Rattle.combined.specs.CombinedMap.{combined_map_tests}
use Rattle.std.specs.Prelude.{Ok, Err}
use Rattle.output.specs.Output.{written, not_written}
use Rattle.output.specs.Answers.{fill_outcome}
use Rattle.output.specs.Written.{Wrote, Ends}
use Rattle.output.proofs.Writing.{wrote_filled}
use Rattle.section.specs.Section.{total, points, row_lines, section_text, section_tests, section_step}
use Rattle.section.specs.SectionLaws.{Accepted, SectionLaws, SectionWidth}
use Rattle.section.specs.Sound.{Plane, Sound}
use Rattle.section.proofs.Planes.{within}
use Rattle.section.proofs.Lined.{closing_lines, row_line, text_long}

module _ (cell : UnitCell) (v : List ℤ) (z : ℕ) where
  -- the tests of the map and of z leave a plane
  pub plane_of : 0 ≡ first (combined_map_tests cell.group (cell_lengths cell) (length v)) → z < cell.n3 → Plane cell v z
  plane_of e l =
      let t = passed (combined_map_tests cell.group (cell_lengths cell) (length v)) tt e in
      record { sizes = sizes_of (leb-false 5 _ t.0) (not-false _ t.1.0); long = eqb-true _ _ (not-false _ t.1.1.1.0); inside = l }

  module _ (s : Sound cell v z) where
    pub page_long : length (section_text cell.group (cell_lengths cell) v z) ≡ 70 * (cell.n1 * row_lines (cell_lengths cell) + 3)
    page_long = text_long cell.group (cell_lengths cell) v z s.plane.sizes.first.high (within s)

    -- it ends at a place that a machine word can count
    pub page_ends : Ends 0 (section_text cell.group (cell_lengths cell) v z)
    page_ends =
        let lines : row_lines (cell_lengths cell) ≤ 576 = omega (arith, s.plane.sizes.second.high) in
        record { low = omega (arith, page_long, mul-le-mul s.plane.sizes.first.high lines) }

    pub points_few : (1 ≤ points (cell_lengths cell)) × (points (cell_lengths cell) ≤ 8294400)
    points_few =
        let a = s.plane.sizes.first in
        let b = s.plane.sizes.second in
        (omega (arith, mul-le-mul a.low b.low), omega (arith, mul-le-mul a.high b.high))

  module _ (room : ℕ) (none : Accepted cell.group (cell_lengths cell) v z room) where
    pub sound_of : Sound cell v z
    sound_of =
        let t = passed (section_tests cell.group (cell_lengths cell) v z room) tt none in
        record {
          plane = record {
            sizes = sizes_of (leb-false 5 _ t.0) (not-false _ t.1.0);
            long = eqb-true _ _ (not-false _ t.1.1.1.0);
            inside = leb-false _ _ t.1.1.1.1.0;
          };
          within = not-false _ t.1.1.1.1.1.0;
        }

    fits : length (section_text cell.group (cell_lengths cell) v z) ≤ room
    fits = ltb-false _ _ (passed (section_tests cell.group (cell_lengths cell) v z room) tt none).1.1.1.1.1.1.0

  module _ (out : List ℕ) where
    pub section_refused : (r : Refusal) → number_of r ≡ first (section_tests cell.group (cell_lengths cell) v z (length out)) → fill_outcome (Err r) out ≡ section_step cell.group (cell_lengths cell) v z out
    unfolding section_step
    section_refused r e = fails r _ _ (λ n. record { answer = not_written n; output = out }) e

    pub section_written : {n : ℕ} {out' : List ℕ} → Accepted cell.group (cell_lengths cell) v z (length out) → Wrote 0 (section_text cell.group (cell_lengths cell) v z) out n out' →
        fill_outcome (Ok n) out' ≡ section_step cell.group (cell_lengths cell) v z out
    unfolding section_step
    section_written none w = wrote_filled w (fits (length out) none) ∙ passes _ _ (λ n. record { answer = not_written n; output = out }) none

-- ---- the laws

abbrev pub cell_of : (group : ℕ) → J → UnitCell
cell_of group n = record { group = group; n1 = n.0; n2 = n.1; n3 = n.2 }

pub section_laws : SectionLaws
section_laws group n v z room none =
    let d = floor_division (total group n v z) (points n) (points_few (cell_of group n) v z (sound_of (cell_of group n) v z room none)).0 in
    record { whole = d.whole; below = d.below }

pub section_width : SectionWidth
section_width group n v z room none =
    let s = sound_of (cell_of group n) v z room none in
    record {
      rows = λ x i lx li. row_line group n v z s.plane.sizes.first.high (within s) x i lx;
      last = closing_lines;
      count = page_long (cell_of group n) v z s;
    }
