-- What an exported call returns is what the public call says, coded: one law for each kind of answer.
use mathlib.Core.Path.{◌≡◌, ◌∙◌, ap}
use mathlib.Core.List.{List, []}
use Rattle.std.specs.Prelude.{Option, Result, Ok, Err}
use Rattle.numbers.specs.declared.Pair.{Pair}
use Rattle.refusals.specs.declared.Refusal.{Refusal}
use Rattle.refusals.specs.Checks.{checked_number}
use Rattle.job.specs.declared.Job.{Job}
use Prim.Native.Nat.{ℕ}
use Rattle.signed.specs.Integers.{ℤ}
use Rattle.line.specs.Line.{LineOutcome}
use Rattle.line.specs.Answers.{line_outcome}
use Rattle.job.specs.Job.{OpenOutcome, Said, Outcome, Worked}
use Rattle.job.specs.Answers.{said, job_after, said_open, said_point, said_factor, said_power, reply_of, open_outcome, outcome, worked}
use Rattle.factor_file.specs.declared.FileRefusal.{FileRefusal}
use Rattle.factor_file.specs.declared.file_header.FileHeader.{FileHeader}
use Rattle.faults.specs.declared.Faults.{Faults}
use Rattle.faults.specs.Faults.{said_faults}
use Rattle.factor_file.specs.Answers.{said_file, file_outcome, said_header, said_size}
use Rattle.factor_file.specs.File.{Sized}
use Rattle.factor_file.specs.HeaderRead.{HeaderSaid}
use Rattle.combined.specs.Reading.{Counted}
use Rattle.combined.specs.Answers.{said_count}
use Rattle.exported.specs.declared.answers.HeaderCoded.{HeaderCoded}
use Rattle.exported.specs.declared.answers.LengthCoded.{LengthCoded}
use Rattle.exported.specs.declared.answers.CountCoded.{CountCoded}
use Rattle.exported.specs.Answers.{header_coded, length_coded, count_coded}
use Rattle.output.specs.Answers.{said_fill, fill_outcome}
use Rattle.output.specs.Output.{FillOutcome}
use Rattle.exported.specs.declared.answers.JobCoded.{JobCoded}
use Rattle.exported.specs.declared.answers.FileCoded.{FileCoded}
use Rattle.exported.specs.declared.answers.FaultsCoded.{FaultsCoded}
use Rattle.exported.specs.declared.answers.PointCoded.{PointCoded}
use Rattle.exported.specs.declared.answers.FactorCoded.{FactorCoded}
use Rattle.exported.specs.declared.answers.PowerCoded.{PowerCoded}
use Rattle.exported.specs.Answers.{opening_coded, open_coded, file_answer_coded, file_coded, faults_coded, record_coded, work_coded, point_coded, factor_coded, power_coded, writing_coded, write_coded, combine_coded, correlation_coded, line_coded, window_coded}
use Rattle.exported.specs.declared.answers.WriteCoded.{WriteCoded}
use Rattle.scheduler.specs.declared.Scheduler.{Scheduler}
use Rattle.scheduler.specs.declared.Turned.{Turned}
use Rattle.scheduler.specs.Scheduler as Lanes
use Rattle.scheduler.specs.Answers.{said_lane, scheduler_after, said_next, lane_outcome, turn_outcome}
use Rattle.exported.specs.declared.lanes.NextCoded.{NextCoded}
use Rattle.exported.specs.declared.lanes.LaneCoded.{LaneCoded}
use Rattle.exported.specs.declared.lanes.TurnCoded.{TurnCoded}
use Rattle.exported.specs.Lanes.{next_coded, stepped_coded, lane_coded, enter_coded, turn_coded}
use Rattle.cell.specs.declared.operations.UnitCell.{UnitCell}
use Rattle.mrc.specs.declared.parameters.CellParameters.{CellParameters}
use Rattle.mrc.specs.Mrc.{mrc_step}
use Rattle.combining.specs.Combining.{CombineOutcome}
use Rattle.combining.specs.Answers.{combine_outcome}
use Rattle.correlation.specs.Correlation.{Buffers, CorrelationOutcome}
use Rattle.correlation.specs.Answers.{correlation_outcome}
use Rattle.sliding_window.specs.Window.{Extremes, WindowOutcome}
use Rattle.sliding_window.specs.Answers.{window_outcome}

pub open_coded_lem : (a : Result Job Refusal) (r : JobCoded) (v : List ℕ) (o : OpenOutcome) → r ≡ opening_coded (said_open a) → open_outcome a v ≡ o → (r, v) ≡ open_coded o
open_coded_lem a r v o h e = ap (λ r. (r, v)) h ∙ ap open_coded e

pub file_coded_lem : (a : Result Job FileRefusal) (r : FileCoded) (v : List ℕ) (o : OpenOutcome) → r ≡ file_answer_coded (said_file a) → file_outcome a v ≡ o → (r, v) ≡ file_coded o
file_coded_lem a r v o h e = ap (λ r. (r, v)) h ∙ ap file_coded e

pub faults_coded_lem : (a : Faults) (r : FaultsCoded) (places : List ℕ) → r ≡ faults_coded (said_faults a) → said_faults a ≡ places → r ≡ faults_coded places
faults_coded_lem a r places h e = h ∙ ap faults_coded e

module _ (held : Job) (a : Result Job Refusal) (r : JobCoded) (h : r ≡ record { number = (reply_of (said a)).number; job = job_after held a }) (v : List ℕ) where
  pub record_coded_lem : (o : Outcome) → outcome held a v ≡ o → (r, v) ≡ record_coded o
  record_coded_lem o e = ap (λ r. (r, v)) h ∙ ap record_coded e

  pub work_coded_lem : (s : List ℕ) (w : Worked) → worked held a v s ≡ w → (r, v, s) ≡ work_coded w
  work_coded_lem s w e = ap (λ r. (r, v, s)) h ∙ ap work_coded e

pub point_coded_lem : (a : Result ℤ Refusal) (r : PointCoded) (s : Said) → r ≡ point_coded (said_point a) → said_point a ≡ s → r ≡ point_coded s
point_coded_lem a r s h e = h ∙ ap point_coded e

pub factor_coded_lem : (a : Result Pair Refusal) (r : FactorCoded) (s : Said) → r ≡ factor_coded (said_factor a) → said_factor a ≡ s → r ≡ factor_coded s
factor_coded_lem a r s h e = h ∙ ap factor_coded e

pub power_coded_lem : (a : Result ℕ Refusal) (r : PowerCoded) (s : Said) → r ≡ power_coded (said_power a) → said_power a ≡ s → r ≡ power_coded s
power_coded_lem a r s h e = h ∙ ap power_coded e

pub header_coded_lem : (a : Result FileHeader Refusal) (r : HeaderCoded) (s : HeaderSaid) → r ≡ header_coded (said_header a) → said_header a ≡ s → r ≡ header_coded s
header_coded_lem a r s h e = h ∙ ap header_coded e

pub length_coded_lem : (a : Result ℕ Refusal) (r : LengthCoded) (s : Sized) → r ≡ length_coded (said_size a) → said_size a ≡ s → r ≡ length_coded s
length_coded_lem a r s h e = h ∙ ap length_coded e

pub count_coded_lem : (a : Result ℤ Refusal) (r : CountCoded) (s : Counted) → r ≡ count_coded (said_count a) → said_count a ≡ s → r ≡ count_coded s
count_coded_lem a r s h e = h ∙ ap count_coded e

pub write_coded_lem : (a : Result ℕ Refusal) (r : WriteCoded) (v : List ℕ) (o : FillOutcome) → r ≡ writing_coded (said_fill a) → fill_outcome a v ≡ o → (r, v) ≡ write_coded o
write_coded_lem a r v o h e = ap (λ r. (r, v)) h ∙ ap write_coded e

-- of a viewer's file, whose unit cell is that of the struct
pub mrc_coded : (a : Result ℕ Refusal) (r : WriteCoded) (v : List ℕ) (cell : UnitCell) (map : List ℤ) (p q : CellParameters) (output : List ℕ) → r ≡ writing_coded (said_fill a) → p ≡ q → fill_outcome a v ≡ mrc_step cell map p output → (r, v) ≡ write_coded (mrc_step cell map q output)
mrc_coded a r v cell map p q output h e f = write_coded_lem a r v (mrc_step cell map q output) h (f ∙ ap (λ (x : CellParameters). mrc_step cell map x output) e)

pub combine_coded_lem : (a : Result ℕ Refusal) (r : WriteCoded) (v : List ℤ) (o : CombineOutcome) → r ≡ writing_coded (said_fill a) → combine_outcome a v ≡ o → (r, v) ≡ combine_coded o
combine_coded_lem a r v o h e = ap (λ r. (r, v)) h ∙ ap combine_coded e

pub correlation_coded_lem : (a : Result ℕ Refusal) (r : WriteCoded) (w : Buffers) (o : CorrelationOutcome) → r ≡ writing_coded (said_fill a) → correlation_outcome a w ≡ o → (r, w) ≡ correlation_coded o
correlation_coded_lem a r w o h e = ap (λ r. (r, w)) h ∙ ap correlation_coded e

pub window_coded_lem : (a : Result ℕ Refusal) (r : WriteCoded) (v : Extremes) (o : WindowOutcome) → r ≡ writing_coded (said_fill a) → window_outcome a v.least v.greatest v.place_of_least v.place_of_greatest ≡ o → (r, v) ≡ window_coded o
window_coded_lem a r v o h e = ap (λ r. (r, v)) h ∙ ap window_coded e

pub line_coded_lem : (r : Result (Unit {0}) Refusal) (n : ℕ) (l s : List ℕ) (o : LineOutcome) → n ≡ checked_number r → line_outcome r l s ≡ o → (n, l, s) ≡ line_coded o
line_coded_lem r n l s o h e = ap (λ n. (n, l, s)) h ∙ ap line_coded e

-- ---- the same of a scheduler

pub next_coded_lem : (a : Result (Option ℕ) Refusal) (r : NextCoded) (s : Lanes.Said) → r ≡ next_coded (said_next a) → said_next a ≡ s → r ≡ next_coded s
next_coded_lem a r s h e = h ∙ ap next_coded e

module _ (held : Scheduler) (a : Result Scheduler Refusal) (r : LaneCoded) (h : r ≡ stepped_coded (said_lane a) (scheduler_after held a)) (v s : List ℕ) (o : Lanes.Outcome) (e : lane_outcome held a v s ≡ o) where
  pub lane_coded_lem : r ≡ lane_coded o
  lane_coded_lem = h ∙ ap lane_coded e

  pub enter_coded_lem : (r, s) ≡ enter_coded o
  enter_coded_lem = ap (λ r. (r, s)) h ∙ ap enter_coded e

pub turn_coded_lem : (held : Scheduler) (a : Result Turned Refusal) (r : TurnCoded) (v s : List ℕ) (o : Lanes.Outcome) → r ≡ (turn_coded (turn_outcome held a [] [])).0 → turn_outcome held a v s ≡ o → (r, v, s) ≡ turn_coded o
turn_coded_lem held (Ok t) r v s o h e = ap (λ r. (r, v, s)) h ∙ ap turn_coded e
turn_coded_lem held (Err f) r v s o h e = ap (λ r. (r, v, s)) h ∙ ap turn_coded e
