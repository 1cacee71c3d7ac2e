use Rattle.std.proofs.Common.{[], ◌∷◌, ◌++◌, sym, ap, ◌∙◌, subst, ap₂}
use Rattle.syn_machine.specs.Network.{Left, Right}
use Rattle.syn_model.specs.Archive.{Archive}
use Rattle.syn_model.specs.Plan.{plan}
use Rattle.syn_scan.specs.Found.{scan_of}
use Rattle.syn_coordinator.specs.PlanRunners.{written}
use Rattle.syn_session.specs.Stages.{plan_in}
use Rattle.syn_coordinator.specs.inner.Taking.{TakesSo}
use Rattle.syn_session.specs.Passing.{first_reached}
use Rattle.syn_coordinator.proofs.BeginLemmas.{at_first, begins_so, no_plan}
use Rattle.syn_coordinator.proofs.EndedLemmas.{exit_for_memory, match_of_memory}
use Rattle.syn_coordinator.proofs.BreakLemmas.{none_breaks}
use Rattle.syn_coordinator.proofs.plan_runner.PlanRunner.begin_plan.Goals as goal

pub returns-in_err-progress-clause-step : goal.returns-in_err-progress-clause-step
returns-in_err-progress-clause-step g c =
    λ pair journal running taken is quiet fault heard scanned nothing.
    let self = c.args.self.now in
    let session = c.args.session.now in
    subst (λ r. TakesSo self.archive self.tried pair journal running taken session (written self) r)
    (sym (exit_for_memory c.from_residual.result c.from_residual.ensures.1))
    (no_plan self pair journal running taken session is fault heard scanned nothing quiet)

pub returns-clause-step : goal.returns-clause-step
returns-clause-step g c =
    λ pair journal running taken is quiet fault heard scanned nothing.
    let self = c.args.self.now in
    let session = c.args.session.now in
    let left = c.so_far-left.result.now in
    let right = c.so_far-right.result.now in
    let made = c.in_ok-progress.progress in
    let same_left = c.so_far-left.ensures.found in
    let same_right = c.so_far-right.ensures.found in
    let marks = c.tree-archive.ensures ∙ ap (λ (a : Archive). a.marks) is.remembers in
    let walked = c.walk-asks.ensures.step pair journal taken (running.taken ++ taken ∷ [])
    (first_reached (plan_in made left right)) is quiet
    (at_first self pair journal running taken session is fault heard scanned nothing made left
    right same_left same_right c.in_ok-progress.ensures.begun) in
    subst (λ progress. TakesSo c.walk-asks.new.self.archive c.walk-asks.new.self.tried pair journal
    running taken (record session { progress = progress }) (written c.walk-asks.new.self)
    c.walk-asks.result) (sym c.replace.ensures.after)
    (begins_so self pair journal running taken session is fault heard scanned nothing made left
    right same_left same_right c.in_ok-progress.ensures.begun
    (c.in_ok-progress.ensures.items ∙ ap₂ (λ r m. plan r (scan_of left) (scan_of right) m)
    (sym heard.heard_is.preference) marks)
    (c.so_far-left.ensures.scan Left (running.taken ++ taken ∷ []) (scanned.whole Left)
    (heard.found Left))
    (c.so_far-right.ensures.scan Right (running.taken ++ taken ∷ []) (scanned.whole Right)
    (heard.found Right))
    c.walk-asks.new.self c.walk-asks.new.progress c.walk-asks.result walked)

pub returns-in_err-progress-clause-breaks : goal.returns-in_err-progress-clause-breaks
returns-in_err-progress-clause-breaks g c =
    match_of_memory c.from_residual.result _ _ c.from_residual.ensures.1
    (none_breaks c.args.self.now)
