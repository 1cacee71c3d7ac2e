use Rattle.syn_model.proofs.ExitLemmas.{match_of_exit}
use Rattle.syn_coordinator.proofs.OnwardLemmas.{at_next, later_so, still_quiet}
use Rattle.syn_coordinator.proofs.BreakLemmas.{then_breaks}
use Rattle.syn_coordinator.proofs.plan_runner.PlanRunner.walk_after.Goals as goal

pub returns-clause-step : goal.returns-clause-step
returns-clause-step g c pair journal taken all before planned is quiet out is_due =
    let left = c.args.left.now in
    let right = c.args.right.now in
    let past = c.in_ok-record_item.ensures.step pair journal left right taken before planned is
    quiet
    out.progress_is out.at is_due in
    later_so pair taken journal before left right all c.args.self.now c.record_item.new.self
    c.args.progress.now c.record_item.new.progress planned out past c.walk.new.self
    c.walk.new.progress c.walk.result
    (c.walk.ensures.step pair past.3.journal taken all past.3.after past.3.is (still_quiet pair
    taken journal before left right all c.args.self.now c.record_item.new.self
    c.args.progress.now c.record_item.new.progress planned out past quiet)
    (at_next pair taken journal before left right all c.args.self.now c.record_item.new.self
    c.args.progress.now c.record_item.new.progress planned out past))

pub returns-in_err-record_item-clause-step : goal.returns-in_err-record_item-clause-step
returns-in_err-record_item-clause-step g c pair journal taken all before planned is quiet out
    is_due =
    match_of_exit c.from_residual.result _ _ _ c.from_residual.ensures.1
    (c.in_err-record_item.ensures.step pair journal c.args.left.now c.args.right.now taken before
    planned is quiet out.progress_is out.at is_due)

pub returns-clause-breaks : goal.returns-clause-breaks
returns-clause-breaks g c = then_breaks c.args.self.now c.record_item.new.self
    c.walk.new.self c.in_ok-record_item.ensures.breaks c.walk.result c.walk.ensures.breaks

pub returns-in_err-record_item-clause-breaks : goal.returns-in_err-record_item-clause-breaks
returns-in_err-record_item-clause-breaks g c =
    match_of_exit c.from_residual.result _ _ _ c.from_residual.ensures.1
    c.in_err-record_item.ensures.breaks
