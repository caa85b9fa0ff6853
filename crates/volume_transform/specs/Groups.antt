-- Groups of neighbouring lines, which are turned together.
use Rattle.std.specs.Prelude.{◌≡◌, ◌⊎◌, false, cond, List, ℕ, zero, suc, ◌+◌, ◌*◌, ◌%◌, ◌<◌, ◌≤◌, eqb, length}
use Rattle.algebra.specs.lines.Kinds.{slots}
use Rattle.numbers.specs.Value.{prime, Residue, ring, part}
use Rattle.slices.specs.Pairs.{Below}
use Rattle.slices.specs.Sweep.{Layout, sweep, on_lists, along_last}
use Rattle.lengths.specs.Lengths.{kind_of}
use Rattle.cell.specs.Volume.{columns}
use Rattle.batches.specs.Reduction.{ShiftedTable}
use Rattle.batches.specs.Groups.{neighbours, LinesBelow}
use Rattle.volume_transform.specs.declared.plan.Line.{Line}
use Rattle.volume_transform.specs.declared.plan.LineGroup.{LineGroup}
use Rattle.volume_transform.specs.declared.plan.Plan.{Plan}
use Rattle.volume_transform.specs.Axes.{turned_row, along_l, along_h, line_count, line_of_turn}
use Rattle.volume_transform.specs.Lines.{SoundLine, stored_turn, shifted}
use Rattle.volume_transform.specs.Plans.{plan_group, plan_halves, plan_turn, plan_numbers, Gathered, Row, LineAt}

-- The lines along l and h come in rows of B + 1: as far as the row goes, line y + v is line y, v places further on.
pub record Neighbours (p : Plan) (step own : ℕ → List ℕ → List ℕ) (y : ℕ) (x : Line) : Type 0 where
  pub wide : columns (plan_group p) (plan_halves p) ≤ x.stride
  pub each : (v : ℕ) → y % columns (plan_group p) (plan_halves p) + v < columns (plan_group p) (plan_halves p)
      → Gathered p (step (y + v)) (own (y + v)) (shifted x v)

-- The rows along k follow each other through the whole volume: row y + v begins v rows after row y, up to number `end`.
pub record RowsAfter (p : Plan) (step own : ℕ → List ℕ → List ℕ) (y end : ℕ) (x : Line) : Type 0 where
  pub each : (v : ℕ) → y + v < end → Row p (step (y + v)) (own (y + v)) (shifted x (v * x.count))

-- A batch has room for sixteen lines like x: 32 numbers a place, and a folded line of half A needs A + 1 places. Only
-- an alternating one may be stored times i, and a line without pairs goes beside no others.
pub record InBatch (x : Line) : Type 0 where
  pub known : x.kind ≡ 2 → ⊥
  pub short : x.kind ≡ 0 → x.count ≤ 360
  pub folded : (x.kind ≡ 0 → ⊥) → x.half ≤ 359
  pub unrotated : (x.kind ≡ 3 → ⊥) → x.rotated ≡ false
  pub some : 0 < x.count

-- so many lines from number j on stand side by side: those along l and h up to the end of a row, those along k all
pub record SideBySide (p : Plan) (j lanes : ℕ) : Type 0 where
  pub row : j < (along_l (plan_group p) (plan_halves p)).count + (along_h (plan_group p) (plan_halves p)).count
      → j % columns (plan_group p) (plan_halves p) + lanes ≤ columns (plan_group p) (plan_halves p)
  pub rest : (along_l (plan_group p) (plan_halves p)).count + (along_h (plan_group p) (plan_halves p)).count ≤ j
      → j + lanes ≤ line_count (plan_group p) (plan_halves p)

-- the lines of the turns from n on: that of turn n + v is x, v places further on
pub record GatheredGroup (p : Plan) (n : ℕ) (x : Line) (lanes : ℕ) : Type 0 where
  pub room : InBatch x
  pub wide : lanes ≤ x.stride
  pub each : (v : ℕ) → v < lanes
      → Gathered p (plan_turn p (n + v))
      (plan_numbers p (line_of_turn (plan_group p) (plan_halves p) p.direction (n + v))) (shifted x v)

-- or v rows further on
pub record RowGroup (p : Plan) (n : ℕ) (x : Line) (lanes : ℕ) : Type 0 where
  pub room : InBatch x
  pub each : (v : ℕ) → v < lanes
      → Row p (plan_turn p (n + v))
      (plan_numbers p (line_of_turn (plan_group p) (plan_halves p) p.direction (n + v))) (shifted x (v * x.count))

-- the line of turn n, with those that are turned together with it
pub record GroupOfTurn (p : Plan) (n most : ℕ) (g : LineGroup) : Type 0 where
  pub first : LineAt p (line_of_turn (plan_group p) (plan_halves p) p.direction n) g.line
  pub some : 0 < g.lanes
  pub few : g.lanes ≤ most
  pub inside : n + g.lanes ≤ line_count (plan_group p) (plan_halves p)
  pub together : 1 < g.lanes → GatheredGroup p n g.line g.lanes ⊎ RowGroup p n g.line g.lanes

-- ---- groups of plain lines alone

-- the lines of the turns from n on: that of turn n + v is x, v places further on
pub record PlainGroup (p : Plan) (n : ℕ) (x : Line) (lanes : ℕ) : Type 0 where
  pub plain : x.kind ≡ 0
  pub unrotated : x.rotated ≡ false
  pub short : x.count ≤ 360
  pub wide : lanes ≤ x.stride
  pub each : (v : ℕ) → v < lanes
      → Gathered p (plan_turn p (n + v))
      (plan_numbers p (line_of_turn (plan_group p) (plan_halves p) p.direction (n + v))) (shifted x v)

-- the line of turn n, with those that are turned together with it
pub record GroupAt (p : Plan) (n most : ℕ) (g : LineGroup) : Type 0 where
  pub first : LineAt p (line_of_turn (plan_group p) (plan_halves p) p.direction n) g.line
  pub some : 0 < g.lanes
  pub few : g.lanes ≤ most
  pub inside : n + g.lanes ≤ line_count (plan_group p) (plan_halves p)
  pub plain : 1 < g.lanes → PlainGroup p n g.line g.lanes

-- ---- the turn of a group

-- lines side by side that are gathered, in a volume of residues
pub record SpacedLines (x : Line) (lanes : ℕ) (v : List ℕ) : Type 0 where
  pub sound : SoundLine x
  pub room : InBatch x
  pub counted : x.count ≡ slots (kind_of x.kind) x.half
  pub low : x.count ≤ 2880
  pub few : lanes ≤ 16
  pub wide : lanes ≤ x.stride
  pub fits : 2 * (x.start + x.count * x.stride + lanes) ≤ length v + 2 * x.stride
  pub below : Below (prime x.m) v

-- neighbouring rows, which are a part of the volume
pub record RowLines (x : Line) (lanes : ℕ) (v : List ℕ) : Type 0 where
  pub sound : SoundLine x
  pub room : InBatch x
  pub hermitian : x.kind ≡ 1
  pub counted : x.count ≡ x.half + 1
  pub few : lanes ≤ 16
  pub fits : 2 * x.start + 2 * (lanes * x.count) ≤ length v
  -- no lengths have a longer volume
  pub low : 2 * x.start + 2 * (lanes * x.count) ≤ 23904460800
  pub below : Below (prime x.m) v

-- the former or the latter
abbrev pub PlacedGroup : (x : Line) (lanes : ℕ) (v : List ℕ) → Type 0
PlacedGroup x lanes v = ((x.kind ≡ 1 → ⊥) × SpacedLines x lanes v) ⊎ RowLines x lanes v

-- the tables of the batches, and room for one in the work slice
pub record RoomForGroups (m : ℕ) (re im sre sim work : List ℕ) : Type 0 where
  pub tables : ShiftedTable m re im sre sim
  pub room : 11520 ≤ length work

-- one after the other
abbrev pub lines_turn : (x : Line) (lanes : ℕ) → List ℕ → List ℕ
lines_turn x lanes v =
    sweep (neighbours x.start x.stride x.count lanes)
    (on_lists (neighbours x.start x.stride x.count lanes) (λ y. stored_turn x)) lanes v

-- rows of n pairs, one after the other from pair `start` on
abbrev pub rows_from : (start n lanes : ℕ) → Layout
rows_from start n lanes = record { count = lanes; size = λ y. n; place = λ y j. start + y * n + j }

-- the rows of a layout, one after the other
abbrev pub rows_on : (L : Layout) (x : Line) → List ℕ → List ℕ
rows_on L x d = sweep L (on_lists L (λ y. turned_row x.m x.half x.direction)) L.count d

-- in a list that holds them alone, and in the volume
abbrev pub rows_turned : (x : Line) (lanes : ℕ) → List ℕ → List ℕ
rows_turned x lanes rows = rows_on (along_last x.count lanes) x rows

abbrev pub rows_turn : (x : Line) (lanes : ℕ) → List ℕ → List ℕ
rows_turn x lanes v = rows_on (rows_from x.start x.count lanes) x v

-- rows are known by their kind
abbrev pub group_turned : (x : Line) (lanes : ℕ) → List ℕ → List ℕ
group_turned x lanes v = cond (eqb x.kind 1) (rows_turn x lanes v) (lines_turn x lanes v)

-- plain lines side by side, whose numbers are residues
pub record PlainLines (x : Line) (lanes : ℕ) (v : List ℕ) : Type 0 where
  pub sound : SoundLine x
  pub plain : x.kind ≡ 0
  pub unrotated : x.rotated ≡ false
  pub counted : x.count ≡ 2 * x.half
  pub short : x.count ≤ 360
  pub few : lanes ≤ 16
  pub wide : lanes ≤ x.stride
  pub fits : 2 * (x.start + x.count * x.stride + lanes) ≤ length v + 2 * x.stride
  pub below : LinesBelow x.m x.start x.stride x.count lanes v

-- one after the other
abbrev pub group_turn : (x : Line) (lanes : ℕ) → List ℕ → List ℕ
group_turn x lanes v =
    sweep (neighbours x.start x.stride x.count lanes)
    (on_lists (neighbours x.start x.stride x.count lanes) (λ y. stored_turn x)) lanes v

-- what the transform of n points is multiplied by: 1 in synthesis, 1/n in analysis
abbrev pub scale_for : (m direction n : ℕ) → Residue m
scale_for m zero n = (ring m).one
scale_for m (suc direction) n = part m n
