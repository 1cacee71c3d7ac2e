use Rattle.std.proofs.Common.{◌≡◌, ◌∙◌, ◌+◌, ◌++◌, ◌∷◌, ◌<◌, [], ap, arith, drop, length, map}
use Rattle.std.proofs.Common.{refl, subst, sym, take}
use Rattle.std.proofs.lemmas.Grind.{take_at_read}
use Rattle.std.proofs.lemmas.List.{append_assoc, map-append, take-append-drop, take_all}
use Rattle.syn_world.specs.Failures.{failures_in}
use Rattle.syn_world.specs.Runs.{EndsWithin, HasRun}
use Rattle.syn_world.specs.Steps.{step_of}
use Rattle.syn_world.proofs.FailureLemmas.{counts_still}
use Rattle.syn_world.proofs.RunLemmas.{ends_with, runs_on}
use Rattle.syn_world.proofs.world.World.go_by.Goals as goal

pub loop-step-init : goal.loop-step-init
loop-step-init g c model is = record {
  new = model;
  runs = refl;
  is = is;
  counts = counts_still model (failures_in is.running);
}

pub loop-step-preserved : goal.loop-step-preserved
loop-step-preserved g c model is =
    let steps = c.args.steps.now in
    let index = c.loop-step.step-index in
    let one = c.step-item.result in
    let less : index < length steps = omega arith in
    let taken : take (index + 1) steps ≡ take index steps ++ one ∷ [] =
    (take_at_read steps index one less).1
    ∙ ap (λ last. take index steps ++ last ∷ []) (sym c.step-item.is) in
    let had = c.loop-step.invariant model is in
    subst (λ l. HasRun model (failures_in is.running) l c.step.new.self)
    (sym (ap (map step_of) taken ∙ map-append step_of (take index steps) (one ∷ [])))
    (runs_on model (failures_in is.running) (map step_of (take index steps)) (step_of one)
    c.loop-step.self c.step.new.self
    had (c.in-Ok.ensures.steps had.new had.is))

pub returns-in-Err : goal.returns-in-Err
returns-in-Err g c model is =
    let steps = c.args.steps.now in
    let index = c.loop-step.step-index in
    let one = c.step-item.result in
    let rest = drop (index + 1) steps in
    let less : index < length steps = omega arith in
    let taken : take (index + 1) steps ≡ take index steps ++ one ∷ [] =
    (take_at_read steps index one less).1
    ∙ ap (λ last. take index steps ++ last ∷ []) (sym c.step-item.is) in
    let whole : steps ≡ take index steps ++ one ∷ rest =
    sym (take-append-drop (index + 1) steps)
    ∙ (ap (λ l. l ++ rest) taken ∙ append_assoc (take index steps) (one ∷ []) rest) in
    let had = c.loop-step.invariant model is in
    subst (λ l. EndsWithin model (failures_in is.running) l c.step.new.self)
    (sym (ap (map step_of) whole ∙ map-append step_of (take index steps) (one ∷ rest)))
    (ends_with model (failures_in is.running) (map step_of (take index steps)) (step_of one)
    (map step_of rest)
    c.loop-step.self c.step.new.self had (c.in-Err.ensures.steps had.new had.is))

pub returns : goal.returns
returns g c model is =
    subst (λ l. HasRun model (failures_in is.running) (map step_of l) c.loop-step.self)
    (take_all c.loop-step.step-index c.args.steps.now c.loop-step-test.false)
    (c.loop-step.invariant model is)
