-- A replay from an accepted opening or file on: every answer, the job and the volume are the reference model's.
use mathlib.Core.Path.{◌≡◌, ap}
use mathlib.Core.List.{List}
use Prim.Native.Nat.{ℕ}
use Rattle.signed.specs.Integers.{ℤ}
use Rattle.job.specs.declared.Job.{Job}
use Rattle.model.specs.Model.{Model}
use Rattle.demands.specs.Demands.{Start, Ran, Started}
use Rattle.demands.proofs.Starts.{every_start}
use Rattle.scripts.specs.Script.{script_calls, ended, replay_step, model_replay}

pub replay_modelled : (μ : ℕ) (s : Start μ) (m : Model μ) (j : Job) (script v scratch : List ℕ) (out : List ℤ) → Started s j v m → replay_step j script v scratch out ≡ model_replay m script scratch out
replay_modelled μ s m j script v scratch out started = ap (λ (r : Ran). ended r script scratch out) (every_start.runs μ s j v m started (script_calls scratch script out))
