use Rattle.std.proofs.Common.{◌∙◌, ap}
use Rattle.syn_history.specs.Status.{path_at}
use Rattle.syn_history.proofs.PlaceLemmas.{found_before, found_after}
use Rattle.syn_history.proofs.trail.Trail.path_at.Goals as goal

pub returns-in-Some : goal.returns-in-Some
returns-in-Some c =
    found_before c.touches.result.0.now c.touches.result.1.now c.args.place c.in-Some.path.now
    c.in-Some.ensures
    ∙ ap (λ touches. path_at touches c.args.place) c.touches.ensures.all

pub returns-in-None : goal.returns-in-None
returns-in-None c =
    c.path_among-in-None.ensures ∙ (found_after c.touches.result.0.now c.touches.result.1.now
    c.args.place c.in-None.ensures
    ∙ ap (λ touches. path_at touches c.args.place) c.touches.ensures.all)
