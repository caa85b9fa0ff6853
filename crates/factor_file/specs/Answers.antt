-- What the calls of a factor file returned and left, in the words of their promises.
use Rattle.std.specs.Prelude.{Result, Ok, Err}
use Rattle.algebra.specs.Prelude.{ℕ, List}
use Rattle.job.specs.Job.{Opening, opened, not_opened, OpenOutcome}
use Rattle.job.specs.declared.Job.{Job}
use Rattle.refusals.specs.Refusals.{number_of}
use Rattle.refusals.specs.declared.Refusal.{Refusal}
use Rattle.factor_file.specs.File.{Judgement, taken, refused_at, Sized, bytes, not_sized}
use Rattle.factor_file.specs.HeaderRead.{HeaderSaid, named, not_named}
use Rattle.factor_file.specs.declared.FileRefusal.{FileRefusal}
use Rattle.factor_file.specs.declared.file_header.FileHeader.{FileHeader}

abbrev pub said_file : Result Job FileRefusal → Opening
said_file (Ok j) = opened j
said_file (Err e) = not_opened (number_of e.refusal) e.place

abbrev pub said_verdict : Result (Unit {0}) FileRefusal → Judgement
said_verdict (Ok _) = taken
said_verdict (Err e) = refused_at (number_of e.refusal) e.place

abbrev pub file_outcome : Result Job FileRefusal → List ℕ → OpenOutcome
file_outcome r v = record { answer = said_file r; volume = v }

abbrev pub said_size : Result ℕ Refusal → Sized
said_size (Ok n) = bytes n
said_size (Err r) = not_sized (number_of r)

abbrev pub said_header : Result FileHeader Refusal → HeaderSaid
said_header (Ok h) = named h
said_header (Err r) = not_named (number_of r)
