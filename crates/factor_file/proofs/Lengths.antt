-- The opening of a file leaves the volume as long as it was, refused or accepted.
use mathlib.Core.Path.{◌≡◌, refl, ◌∙◌}
use mathlib.Core.List.{List, [], ◌∷◌}
use Prim.Native.Nat.{ℕ, zero, suc}
use lib.ListN.{length, replicate, length-replicate}
use Rattle.algebra.specs.cells.Cell.{J, Group, full}
use Rattle.numbers.specs.Value.{value}
use Rattle.cell.proofs.Writing.{length_images}
use Rattle.refusals.specs.Refusals.{first, accepted}
use Rattle.job.specs.declared.Job.{Job}
use Rattle.job.specs.Job.{Opening, opened, not_opened, OpenOutcome, open_step, header_of, group_in, halves}
use Rattle.job.proofs.Lengths.{open_length}
use Rattle.file_format.specs.declared.FileRecord.{FileRecord}
use Rattle.factor_file.specs.File.{modulus_in, header_in, records_in, shape_tests, index_in, Judgement, taken, refused_at, judged, record_all_on, feed, file_step}

-- the outcome's volume is as long as v
abbrev AsLong : List ℕ → OpenOutcome → Type 0
AsLong v o = length o.volume ≡ length v

all_length : (g : Group) (a : J) (μ : ℕ) (cs : List FileRecord) (v : List ℕ) → length (record_all_on g a μ cs v) ≡ length v
unfolding record_all_on
all_length g a μ [] v = refl
all_length g a μ (c ∷ cs) v = all_length g a μ cs _ ∙ length_images g a μ (index_in c) (value μ c.a c.b) (full g) v

feed_length : (cs : List FileRecord) (j : Job) (v : List ℕ) → AsLong v (feed cs j v)
unfolding feed
feed_length cs j v = by (judged j.modulus j.group (header_of j).lengths [] cs)
  where
    by : (b : Judgement) → AsLong v (elim b [ taken ↦ record { answer = opened j; volume = record_all_on (group_in j) (halves j) j.modulus cs v } | refused_at n place ↦ record { answer = not_opened n place; volume = replicate (length v) 0 } ])
    by taken = all_length (group_in j) (halves j) j.modulus cs v
    by (refused_at n place) = length-replicate (length v) 0

pub file_length_lem : (file v : List ℕ) → length (file_step file v).volume ≡ length v
unfolding file_step
file_length_lem file v = by (first (shape_tests file)) o.answer
  where
    o : OpenOutcome
    o = open_step (modulus_in file) (header_in file) 0 v

    by : (n : ℕ) (a : Opening) → AsLong v (accepted n (elim a [ opened j ↦ feed (records_in file) j o.volume | not_opened n place ↦ o ]) (λ n. record { answer = not_opened n 0; volume = v }))
    by zero (opened j) = feed_length (records_in file) j o.volume ∙ open_length (modulus_in file) (header_in file) 0 v
    by zero (not_opened n place) = open_length (modulus_in file) (header_in file) 0 v
    by (suc n) a = refl
