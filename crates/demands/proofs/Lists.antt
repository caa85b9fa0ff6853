-- Every list of calls, from a sound model on: all answers, the job and the volume are the model's, and the model after it is sound.
use mathlib.Core.Path.{◌≡◌, refl, ap, ◌∙◌}
use mathlib.Core.List.{List, [], ◌∷◌}
use Prim.Native.Nat.{ℕ, zero, suc}
use Rattle.refusals.specs.Refusals.{first, accepted}
use Rattle.job.specs.Job.{Outcome}
use Rattle.model.specs.Model.{Model, Call, recording, synthesis, analysis, read_point, read_factor, read_map_power, read_factor_power, model_tests, model_next, model_said, model_after, model_volume, model_job}
use Rattle.demands.specs.Demands.{answering, run, model_answers, model_end, model_ran}
use Rattle.model.proofs.Sound.{LawfulModel}
use Rattle.model.proofs.OneCall.{one_call}

pub every_list : {μ : ℕ} (m : Model μ) → LawfulModel m → (l : List Call) → run (model_job m) (model_volume m) l ≡ model_ran m l
unfolding run model_answers model_end
every_list m sound [] = refl
every_list m sound (c ∷ l) =
    let r = one_call m sound c in
    ap (λ (o : Outcome). answering o.answer (run o.job o.volume l)) r.0 ∙ ap (answering (model_said m c)) (every_list (model_after m c) r.1 l)

pub end_sound : {μ : ℕ} (m : Model μ) → LawfulModel m → (l : List Call) → LawfulModel (model_end m l)
unfolding model_end
end_sound m sound [] = sound
end_sound m sound (c ∷ l) = end_sound (model_after m c) (one_call m sound c).1 l

-- the header is the opening's after every list
after_header : {μ : ℕ} (m : Model μ) (c : Call) → (model_after m c).header ≡ m.header
unfolding model_after
after_header m c = go (first (model_tests m c)) c
  where
    go : (n : ℕ) (c : Call) → (accepted n (model_next m c) (λ n. m)).header ≡ m.header
    go zero (recording k x y) = refl
    go zero (synthesis scratch) = refl
    go zero (analysis scratch) = refl
    go zero (read_point x) = refl
    go zero (read_factor k) = refl
    go zero read_map_power = refl
    go zero read_factor_power = refl
    go (suc n) c = refl

pub end_header : {μ : ℕ} (m : Model μ) (l : List Call) → (model_end m l).header ≡ m.header
unfolding model_end
end_header m [] = refl
end_header m (c ∷ l) = end_header (model_after m c) l ∙ after_header m c
