use Rattle.std.proofs.Common.{sym, ◌∙◌, subst}
use Rattle.syn_message.specs.Replies.{reply_of}
use Rattle.syn_message.specs.Requests.{request_of}
use Rattle.syn_path.specs.Sides.{which_of}
use Rattle.syn_machine.specs.Coordinator.{hearing}
use Rattle.syn_session.specs.Answering.{exchange_of}
use Rattle.syn_session.specs.Hearing.{ScansOn}
use Rattle.syn_session.proofs.HearingLemmas.{not_last}
use Rattle.syn_session.specs.Stages.{reached_by}
use Rattle.syn_model.proofs.ExitLemmas.{exit_is, match_of_exit}
use Rattle.syn_coordinator.specs.PlanRunners.{written}
use Rattle.syn_coordinator.specs.inner.Taking.{TakesSo}
use Rattle.syn_coordinator.proofs.BeginLemmas.{carries_now, carries_so}
use Rattle.syn_coordinator.proofs.TakeLemmas.{hears_end, hears_on}
use Rattle.syn_coordinator.proofs.TriedLemmas.{tries_none}
use Rattle.syn_coordinator.proofs.BreakLemmas.{none_breaks}
use Rattle.syn_coordinator.proofs.plan_runner.PlanRunner.take.Goals as goal

pub returns-clause-step : goal.returns-clause-step
returns-clause-step g c =
    λ pair number journal before running is quiet session answers nothing.
    let side = which_of c.args.from in
    let request = request_of c.args.request.now in
    let reply = reply_of c.args.reply in
    let left = c.so_far-left.result.now in
    let right = c.so_far-right.result.now in
    let was = c.in-Some.is in
    let same_left = c.so_far-left.ensures.found in
    let same_right = c.so_far-right.ensures.found in
    carries_so pair journal before c.args.session.now running side number request reply session
    answers c.in-Some.progress was left right same_left same_right c.transfer_laws.ensures
    c.args.self.now c.carry_on.new.self nothing c.carry_on.new.progress c.carry_on.result
    (c.carry_on.ensures.step pair journal running.taken (reached_by running) side number request
    is quiet (carries_now pair journal before c.args.session.now running side number request reply
    session answers c.in-Some.progress was left right same_left same_right))

pub returns-in-Ask-clause-step : goal.returns-in-Ask-clause-step
returns-in-Ask-clause-step g c =
    λ pair number journal before running is quiet session answers nothing.
    let scans = sym answers.progress ∙ c.in_default.is in
    let heard =
    c.in_ok-asks.ensures.step journal.value before running number session answers scans in (
      hears_on _ pair journal running (exchange_of (which_of c.args.from) number
          (request_of c.args.request.now) (reply_of c.args.reply)) c.hear.new.self is _ nothing
          c.in-Ask.asks heard.0 heard.1 (subst
          (ScansOn c.hear.new.self (hearing running (exchange_of (which_of c.args.from) number
          (request_of c.args.request.now) (reply_of c.args.reply)))) c.in-Ask.is heard.2)
          (not_last journal.value before c.args.session.now running (which_of c.args.from) number
          (request_of c.args.request.now) (reply_of c.args.reply) session answers scans heard.0),
      quiet.0,
    )

pub returns-in-Scanned-clause-step : goal.returns-in-Scanned-clause-step
returns-in-Scanned-clause-step g c =
    λ pair number journal before running is quiet session answers nothing.
    let scans = sym answers.progress ∙ c.in_default.is in
    let heard =
    c.in_ok-asks.ensures.step journal.value before running number session answers scans in
    c.begin_plan.ensures.step pair journal running (exchange_of (which_of c.args.from) number
    (request_of c.args.request.now) (reply_of c.args.reply)) is quiet heard.0 heard.1
    (subst (ScansOn c.hear.new.self (hearing running (exchange_of (which_of c.args.from) number
    (request_of c.args.request.now) (reply_of c.args.reply)))) c.in-Scanned.is heard.2)
    nothing

pub returns-in_err-asks-clause-step : goal.returns-in_err-asks-clause-step
returns-in_err-asks-clause-step g c =
    λ pair number journal before running is quiet session answers nothing.
    let scans = sym answers.progress ∙ c.in_default.is in
    subst (λ r. TakesSo c.args.self.now.archive c.args.self.now.tried pair journal running
    (exchange_of (which_of c.args.from) number (request_of c.args.request.now)
    (reply_of c.args.reply)) c.hear.new.self (written c.args.self.now) r)
    (sym (exit_is c.from_residual.result _ c.from_residual.ensures.1))
    (hears_end _ pair journal running (exchange_of (which_of c.args.from) number
    (request_of c.args.request.now) (reply_of c.args.reply)) c.hear.new.self is _
    (tries_none c.args.self.now.tried journal quiet.0 quiet.1) _ nothing _
    (c.in_err-asks.ensures.step journal.value before running number session answers scans))

pub returns-in-Ask-clause-breaks : goal.returns-in-Ask-clause-breaks
returns-in-Ask-clause-breaks g c = none_breaks c.args.self.now

pub returns-in_err-asks-clause-breaks : goal.returns-in_err-asks-clause-breaks
returns-in_err-asks-clause-breaks g c =
    match_of_exit c.from_residual.result _ _ _ c.from_residual.ensures.1
    (none_breaks c.args.self.now)
