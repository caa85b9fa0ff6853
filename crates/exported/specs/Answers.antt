-- What the calls of a job and of a factor file return and leave as numbers, from what their definitions say: the
-- answer, then the buffers.
use Rattle.std.specs.Prelude.{List, [], ◌∷◌, ℕ}
use Rattle.signed.specs.Integers.{ℤ, pos}
use Rattle.job.specs.declared.Axis.{Axis}
use Rattle.job.specs.declared.Job.{Job}
use Rattle.job.specs.Job.{Opening, Opening.opened, Opening.not_opened, OpenOutcome, Said, Said.done, Said.density}
use Rattle.job.specs.Job.{Said.factor, Said.power, Said.refused, Outcome, Worked}
use Rattle.job.specs.Answers.{reply_of}
use Rattle.exported.specs.declared.answers.JobCoded.{JobCoded}
use Rattle.exported.specs.declared.answers.FileCoded.{FileCoded}
use Rattle.exported.specs.declared.answers.FaultsCoded.{FaultsCoded}
use Rattle.exported.specs.declared.answers.PointCoded.{PointCoded}
use Rattle.exported.specs.declared.answers.FactorCoded.{FactorCoded}
use Rattle.exported.specs.declared.answers.PowerCoded.{PowerCoded}
use Rattle.combined.specs.Reading.{Counted, Counted.counted, Counted.not_counted}
use Rattle.factor_file.specs.File.{Sized, Sized.bytes, Sized.not_sized}
use Rattle.factor_file.specs.HeaderRead.{HeaderSaid, HeaderSaid.named, HeaderSaid.not_named}
use Rattle.exported.specs.declared.answers.HeaderCoded.{HeaderCoded}
use Rattle.exported.specs.declared.answers.LengthCoded.{LengthCoded}
use Rattle.exported.specs.declared.answers.CountCoded.{CountCoded}
use Rattle.line.specs.Line.{LineOutcome}
use Rattle.output.specs.Output.{Filled, Filled.written, Filled.not_written, FillOutcome}
use Rattle.exported.specs.declared.answers.WriteCoded.{WriteCoded}
use Rattle.combining.specs.Combining.{CombineOutcome}
use Rattle.correlation.specs.Correlation.{Buffers, CorrelationOutcome}
use Rattle.sliding_window.specs.Window.{Extremes, WindowOutcome}

-- what stands for the job that a refused opening does not give
abbrev pub no_axis : Axis
no_axis = record { length = 0; factors = 0 }

abbrev pub no_job : Job
no_job = record { group = 0; modulus = 0; a = no_axis; b = no_axis; c = no_axis; state = 0 }

abbrev pub opening_coded : Opening → JobCoded
opening_coded (opened j) = record { number = 0; job = j }
opening_coded (not_opened n place) = record { number = n; job = no_job }

abbrev pub open_coded : OpenOutcome → JobCoded × List ℕ
open_coded o = (opening_coded o.answer, o.volume)

abbrev pub file_answer_coded : Opening → FileCoded
file_answer_coded (opened j) = record { number = 0; place = 0; job = j }
file_answer_coded (not_opened n place) = record { number = n; place = place; job = no_job }

abbrev pub file_coded : OpenOutcome → FileCoded × List ℕ
file_coded o = (file_answer_coded o.answer, o.volume)

-- The places of the fewest records at fault: there are no more than two.
abbrev pub faults_coded : List ℕ → FaultsCoded
faults_coded [] = record { count = 0; first = 0; second = 0 }
faults_coded (place ∷ []) = record { count = 1; first = place; second = 0 }
faults_coded (place ∷ later ∷ more) = record { count = 2; first = place; second = later }

abbrev pub record_coded : Outcome → JobCoded × List ℕ
record_coded o = (record { number = (reply_of o.answer).number; job = o.job }, o.volume)

abbrev pub work_coded : Worked → JobCoded × List ℕ × List ℕ
work_coded w =
    (record { number = (reply_of w.outcome.answer).number; job = w.outcome.job }, w.outcome.volume, w.scratch)

-- A reading of a point says a density or a refusal, one of a factor a factor or a refusal: the other cases do not
-- occur.
abbrev pub point_coded : Said → PointCoded
point_coded (density n) = record { number = 0; density = n }
point_coded (refused n) = record { number = n; density = pos 0 }
point_coded done = record { number = 0; density = pos 0 }
point_coded (factor x y) = record { number = 0; density = pos 0 }
point_coded (power n) = record { number = 0; density = pos 0 }

abbrev pub factor_coded : Said → FactorCoded
factor_coded (factor x y) = record { number = 0; a = x; b = y }
factor_coded (refused n) = record { number = n; a = 0; b = 0 }
factor_coded done = record { number = 0; a = 0; b = 0 }
factor_coded (density n) = record { number = 0; a = 0; b = 0 }
factor_coded (power n) = record { number = 0; a = 0; b = 0 }

-- A power is said or refused.
abbrev pub power_coded : Said → PowerCoded
power_coded (power n) = record { number = 0; power = n }
power_coded (refused n) = record { number = n; power = 0 }
power_coded done = record { number = 0; power = 0 }
power_coded (density n) = record { number = 0; power = 0 }
power_coded (factor x y) = record { number = 0; power = 0 }

-- ---- the same of the writer, of two combined maps, of their correlation, of a line and of the windows of a run

abbrev pub writing_coded : Filled → WriteCoded
writing_coded (written n) = record { number = 0; written = n }
writing_coded (not_written n) = record { number = n; written = 0 }

abbrev pub write_coded : FillOutcome → WriteCoded × List ℕ
write_coded o = (writing_coded o.answer, o.output)

abbrev pub combine_coded : CombineOutcome → WriteCoded × List ℤ
combine_coded o = (writing_coded o.answer, o.output)

abbrev pub correlation_coded : CorrelationOutcome → WriteCoded × Buffers
correlation_coded o = (writing_coded o.answer, o.buffers)

abbrev pub line_coded : LineOutcome → ℕ × List ℕ × List ℕ
line_coded o = (o.answer, o.line, o.scratch)

abbrev pub window_coded : WindowOutcome → WriteCoded × Extremes
window_coded o = (writing_coded o.answer, o.outputs)

-- ---- the same of a file's header, of the length of the file that is to be written, and of a point of a combined map

abbrev pub header_coded : HeaderSaid → HeaderCoded
header_coded (named h) = record {
  number = 0;
  group = h.group;
  modulus = h.modulus;
  a = h.a;
  b = h.b;
  c = h.c;
  records = h.records;
  numbers = h.numbers;
}
header_coded (not_named n) =
    record { number = n; group = 0; modulus = 0; a = no_axis; b = no_axis; c = no_axis; records = 0; numbers = 0 }

abbrev pub length_coded : Sized → LengthCoded
length_coded (bytes n) = record { number = 0; length = n }
length_coded (not_sized n) = record { number = n; length = 0 }

abbrev pub count_coded : Counted → CountCoded
count_coded (counted n) = record { number = 0; density = n }
count_coded (not_counted n) = record { number = n; density = pos 0 }

-- the version of the calls, 2.2.0: 10,000 times the major number, 100 times the minor one, and the patch number
abbrev pub version : ℕ
version = 20200
