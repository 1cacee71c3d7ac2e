use Rattle.std.proofs.Common.{refl, subst}
use Rattle.std.specs.Prelude.{MatchOption}
use Rattle.syn_coordinator.specs.inner.Settling.{AsksSo, PassesOn}
use Rattle.syn_model.proofs.ExitLemmas.{match_of_exit}
use Rattle.syn_coordinator.proofs.PassLemmas.{at_turn, no_turn, no_turn_left, still_quiet}
use Rattle.syn_coordinator.proofs.PassLemmas.{turn_asks, turn_ends, turn_past}
use Rattle.syn_coordinator.proofs.BreakLemmas.{none_breaks, then_ends, then_nothing}
use Rattle.syn_coordinator.proofs.plan_runner.PlanRunner.walk.Goals as goal

pub loop-init : goal.loop-init
loop-init g c = record {
  come =
      λ pair journal taken all before is quiet at. no_turn pair taken journal before c.args.left.now
      c.args.right.now all c.args.self.now is quiet c.args.progress.now at;
  breaks = none_breaks c.args.self.now;
}

pub loop-preserved : goal.loop-preserved
loop-preserved g c = record {
  come = λ pair journal taken all before is quiet at.
      let left = c.args.left.now in
      let right = c.args.right.now in
      let come = c.loop.invariant.come pair journal taken all before is quiet at in
      let turn = c.in_ok-asks.ensures.step pair come.2.journal taken all come.2.after come.2.is
      (still_quiet pair taken journal before left right all c.args.self.now c.loop.self
      c.loop.progress come quiet.1) (at_turn pair taken journal before left right all
      c.args.self.now c.loop.self c.loop.progress come) in
      turn_past pair taken journal before left right all c.args.self.now c.loop.self c.loop.progress
      come c.pass.new.self c.pass.new.progress
      (subst (λ o. MatchOption o (PassesOn c.loop.self c.pass.new.self pair taken come.2.journal
      come.2.after c.pass.new.progress left right all) (AsksSo c.loop.self c.pass.new.self pair
      taken come.2.journal come.2.after c.pass.new.progress left right all)) c.in_default.is
      turn);
  breaks = then_nothing c.args.self.now c.loop.self c.pass.new.self c.loop.invariant.breaks
      c.in_ok-asks.ensures.breaks;
}

pub returns-in-Some-clause-step : goal.returns-in-Some-clause-step
returns-in-Some-clause-step g c pair journal taken all before is quiet at =
    let left = c.args.left.now in
    let right = c.args.right.now in
    let come = c.loop.invariant.come pair journal taken all before is quiet at in
    let turn = c.in_ok-asks.ensures.step pair come.2.journal taken all come.2.after come.2.is
    (still_quiet pair taken journal before left right all c.args.self.now c.loop.self
    c.loop.progress come quiet.1) (at_turn pair taken journal before left right all c.args.self.now
    c.loop.self c.loop.progress come) in
    turn_asks pair taken journal before left right all c.args.self.now c.loop.self c.loop.progress
    come c.pass.new.self c.pass.new.progress c.in-Some.asks
    (subst (λ o. MatchOption o (PassesOn c.loop.self c.pass.new.self pair taken come.2.journal
    come.2.after c.pass.new.progress left right all) (AsksSo c.loop.self c.pass.new.self pair taken
    come.2.journal come.2.after c.pass.new.progress left right all)) c.in-Some.is turn)

pub returns-in_err-asks-clause-step : goal.returns-in_err-asks-clause-step
returns-in_err-asks-clause-step g c pair journal taken all before is quiet at =
    let left = c.args.left.now in
    let right = c.args.right.now in
    let come = c.loop.invariant.come pair journal taken all before is quiet at in
    match_of_exit c.from_residual.result _ _ _ c.from_residual.ensures.1
    (turn_ends pair taken journal before left right all c.args.self.now c.loop.self c.loop.progress
    come c.pass.new.self c.pass.new.progress _
    (c.in_err-asks.ensures.step pair come.2.journal taken all come.2.after come.2.is (still_quiet
    pair taken journal before left right all c.args.self.now c.loop.self c.loop.progress come
    quiet.1)
    (at_turn pair taken journal before left right all c.args.self.now c.loop.self c.loop.progress
    come)))

pub returns-clause-step : goal.returns-clause-step
returns-clause-step g c pair journal taken all before is quiet at =
    no_turn_left pair taken journal before c.args.left.now c.args.right.now all
    c.args.self.now c.loop.self c.loop.progress
    (c.loop.invariant.come pair journal taken all before is quiet at) quiet.1 _ refl

pub returns-in-Some-clause-breaks : goal.returns-in-Some-clause-breaks
returns-in-Some-clause-breaks g c = then_nothing c.args.self.now c.loop.self c.pass.new.self
    c.loop.invariant.breaks c.in_ok-asks.ensures.breaks

pub returns-in_err-asks-clause-breaks : goal.returns-in_err-asks-clause-breaks
returns-in_err-asks-clause-breaks g c =
    match_of_exit c.from_residual.result _ _ _ c.from_residual.ensures.1
    (then_ends c.args.self.now c.loop.self c.pass.new.self c.loop.invariant.breaks _
    c.in_err-asks.ensures.breaks)

pub returns-clause-breaks : goal.returns-clause-breaks
returns-clause-breaks g c = c.loop.invariant.breaks
