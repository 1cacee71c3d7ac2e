use Rattle.std.proofs.Common.{refl}
use Rattle.syn_refusal.specs.Refusals.{cause_of}
use Rattle.syn_session.specs.Passing.{refused_at}
use Rattle.syn_coordinator.proofs.BreakLemmas.{none_breaks}
use Rattle.syn_coordinator.proofs.EndedLemmas.{match_of_memory}
use Rattle.syn_coordinator.proofs.OnwardLemmas.{at_next, later_so, refused_so, still_quiet}
use Rattle.syn_coordinator.proofs.PassLemmas.{ends_here, past_here}
use Rattle.syn_coordinator.proofs.plan_runner.PlanRunner.walk_past.Goals as goal

pub returns-clause-step : goal.returns-clause-step
returns-clause-step g c pair journal taken all before planned is quiet out refused =
    let left = c.args.left.now in
    let right = c.args.right.now in
    let past = past_here pair taken journal before left right c.args.self.now is quiet
    c.refuse.new.self (refused_at before (cause_of c.args.why) planned) refl
    (refused_so pair taken journal before left right all c.args.progress.now planned out
    (cause_of c.args.why) refused.0 refused.1)
    (c.in_ok-refuse.ensures.passes left right before planned out.progress_is out.at out.apart) in
    later_so pair taken journal before left right all c.args.self.now c.args.self.now
    c.args.progress.now c.refuse.new.self planned out past c.walk.new.self c.walk.new.progress
    c.walk.result
    (c.walk.ensures.step pair past.3.journal taken all past.3.after past.3.is (still_quiet pair
    taken journal before left right all c.args.self.now c.args.self.now c.args.progress.now
    c.refuse.new.self planned out past quiet) (at_next pair taken journal before left right all
    c.args.self.now c.args.self.now c.args.progress.now c.refuse.new.self planned out past))

pub returns-in_err-refuse-clause-step : goal.returns-in_err-refuse-clause-step
returns-in_err-refuse-clause-step g c pair journal taken all before planned is quiet out refused =
    let left = c.args.left.now in
    let right = c.args.right.now in
    match_of_memory c.from_residual.result _ _ c.from_residual.ensures.1
    (ends_here pair taken journal before left right c.args.self.now is quiet c.refuse.new.self
    c.refuse.new.self (c.in_err-refuse.ensures.stays left right before out.progress_is) refl _ refl)

pub returns-in_err-refuse-clause-breaks : goal.returns-in_err-refuse-clause-breaks
returns-in_err-refuse-clause-breaks g c =
    match_of_memory c.from_residual.result _ _ c.from_residual.ensures.1
    (none_breaks c.args.self.now)
