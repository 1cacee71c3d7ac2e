use Rattle.std.proofs.Common.{◌∙◌, Err, Ok, subst}
use Rattle.syn_world.specs.Failures.{failures_in}
use Rattle.syn_world.specs.Runs.{Attempts}
use Rattle.syn_world.specs.Steps.{step_of}
use Rattle.syn_world.proofs.RunLemmas.{has_made, has_tried, taken_out, value_is}
use Rattle.syn_world.proofs.world.World.step.Goals as goal

pub returns-in-Ok-clause-steps : goal.returns-in-Ok-clause-steps
returns-in-Ok-clause-steps g c model is =
    has_made model (failures_in is.running) (step_of c.args.step.now) c.in-Ok.next _
    c.put_back.ensures is.goes
    (subst (λ r. Attempts model (failures_in r) (step_of c.args.step.now) (Ok c.in-Ok.next))
    (value_is c.in-Some.running is.running (c.in-Some.ensures.value ∙ is.there))
    (c.in-Ok.ensures model (taken_out model _ c.in-Some.running is c.in-Some.ensures.value)))

pub returns-in-Err-clause-steps : goal.returns-in-Err-clause-steps
returns-in-Err-clause-steps g c model is =
    has_tried model (failures_in is.running) (step_of c.args.step.now) c.in-Err.last _
    c.put_back-in-Err.ensures
    (subst (λ r. Attempts model (failures_in r) (step_of c.args.step.now) (Err c.in-Err.last))
    (value_is c.in-Some.running is.running (c.in-Some.ensures.value ∙ is.there))
    (c.in-Err.ensures model (taken_out model _ c.in-Some.running is c.in-Some.ensures.value)))
