-- The lines of a job as the code takes them: the plan of a job's transform, and what is known of it and of the line
-- that it makes of a number.
use Rattle.std.specs.Prelude.{◌≡◌, ◌⊎◌, List, ℕ, ◌+◌, ◌<◌, ◌≤◌, length}
use Rattle.algebra.specs.cells.Cell.{J, Group}
use Rattle.numbers.specs.Value.{prime, IsModulus}
use Rattle.slices.specs.Pairs.{Below}
use Rattle.cell.specs.Volume.{volume_length}
use Rattle.cell.specs.Operations.{cell_group, cell_halves}
use Rattle.volume_transform.specs.declared.plan.Line.{Line}
use Rattle.volume_transform.specs.Lines.{numbers_in, gathered_turn, row_turn, Spaced, Beside}
use Rattle.volume_transform.specs.Axes.{along_l, along_h, along_k, job_turn, line_numbers, line_of_turn, JobSizes}
use Rattle.volume_transform.specs.declared.plan.Plan.{Plan}
use Rattle.volume_transform.specs.declared.plan.Counts.{Counts}

-- ---- a plan

abbrev pub plan_group : Plan → Group
plan_group p = cell_group p.cell

abbrev pub plan_halves : Plan → J
plan_halves p = cell_halves p.cell

abbrev pub SizesIn : Plan → Type 0
SizesIn p = JobSizes p.cell p.f1 p.f2 p.f3

pub record Planned (p : Plan) : Type 0 where
  pub modulus : IsModulus p.m
  pub directed : p.direction < 2
  pub sizes : SizesIn p

-- a volume of the plan's job
pub record Fitting (p : Plan) (v : List ℕ) : Type 0 where
  pub long : length v ≡ volume_length (plan_group p) (plan_halves p)
  pub small : Below (prime p.m) v

-- line number j of the plan's job, and turn number n
abbrev pub line_turn : Plan → ℕ → List ℕ → List ℕ
line_turn p j d = job_turn (plan_group p) (plan_halves p) p.m p.direction j d

abbrev pub plan_turn : Plan → ℕ → List ℕ → List ℕ
plan_turn p n d = line_turn p (line_of_turn (plan_group p) (plan_halves p) p.direction n) d

-- the numbers of line number j
abbrev pub plan_numbers : Plan → ℕ → List ℕ → List ℕ
plan_numbers p j d = line_numbers (plan_group p) (plan_halves p) j d

-- how many lines each axis has
pub record Counted (p : Plan) (c : Counts) : Type 0 where
  pub l : c.l ≡ (along_l (plan_group p) (plan_halves p)).count
  pub h : c.h ≡ (along_h (plan_group p) (plan_halves p)).count
  pub k : c.k ≡ (along_k (plan_group p) (plan_halves p)).count
  -- 2 * 2880 * 1441 + 2880 * 2880: no lengths have more lines
  pub low : c.l + c.h + c.k ≤ 16594560

-- ---- the line of a number

-- x is a line of the plan's job, its turn is that of `step`, and its numbers are `own`
pub record Gathered (p : Plan) (step own : List ℕ → List ℕ) (x : Line) : Type 0 where
  pub modulus : x.m ≡ p.m
  pub direction : x.direction ≡ p.direction
  pub other : x.kind ≡ 1 → ⊥
  pub placed : Spaced (volume_length (plan_group p) (plan_halves p)) x
  pub turn : (v : List ℕ) → gathered_turn x v ≡ step v
  pub numbers : (v : List ℕ) → numbers_in x v ≡ own v

pub record Row (p : Plan) (step own : List ℕ → List ℕ) (x : Line) : Type 0 where
  pub modulus : x.m ≡ p.m
  pub direction : x.direction ≡ p.direction
  pub placed : Beside (volume_length (plan_group p) (plan_halves p)) x
  pub turn : (v : List ℕ) → row_turn x v ≡ step v
  pub numbers : (v : List ℕ) → numbers_in x v ≡ own v

abbrev pub LineAt : (p : Plan) (j : ℕ) (x : Line) → Type 0
LineAt p j x = Gathered p (line_turn p j) (plan_numbers p j) x ⊎ Row p (line_turn p j) (plan_numbers p j) x
