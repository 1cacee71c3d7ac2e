use Rattle.std.proofs.Common.{◌≡◌, ◌∙◌, None, Some, refl, subst, sym}
use Rattle.std.proofs.lemmas.Option.{none-some}
use Rattle.syn_machine.specs.Session.{fault_of}
use Rattle.syn_message.specs.Replies.{reply_of}
use Rattle.syn_propagate.specs.Transfers.{EndsBy, Follows, spec_of, with_answer}
use Rattle.syn_session.specs.Answering.{exchange_of}
use Rattle.syn_session.specs.declared.session.Asks.TheVariants.{One}
use Rattle.syn_session.proofs.CarriedLemmas.{carried_out, ended_with, is_done, still_carries}
use Rattle.syn_session.proofs.CarriedLemmas.{waits_for, was_for}
use Rattle.syn_session.proofs.CarryingLemmas.{carrying_more}
use Rattle.syn_coordinator.specs.inner.Carrying.{CarriesOn, at_once}
use Rattle.syn_coordinator.proofs.OnwardLemmas.{carries_further, goes_later}
use Rattle.syn_coordinator.proofs.BreakLemmas.{none_breaks}
use Rattle.syn_coordinator.proofs.plan_runner.PlanRunner.carry_on.Goals as goal

pub returns-in_default-clause-step : goal.returns-in_default-clause-step
returns-in_default-clause-step g c pair journal all before to number request is quiet carries =
    absurd (none-some _ (c.in_default.ensures.value ∙ carries.is_carried))

pub returns-in-Ok-Ask-clause-step : goal.returns-in-Ok-Ask-clause-step
returns-in-Ok-Ask-clause-step g c pair journal all before to number request is quiet carries =
    let left = c.args.left.now in
    let right = c.args.right.now in
    let progress = c.args.progress.now in
    let was = c.in-Some.carrying in
    let same = sym c.in-Some.ensures.value in
    let reply = reply_of c.args.reply in
    let taken = exchange_of to number request reply in
    let waits = waits_for journal.value progress left right all before to number request reply
    carries was same in
    let goes = subst (λ n. (fault_of all to request reply ≡ None) × Follows c.step.new.self
    (with_answer all to number request reply) reply n) c.in-Ok-Ask.field-0-is
    (c.in-Ok-Ask.ensures.goes_on all to request number c.args.reply refl waits) in
    let ends = subst (EndsBy (spec_of was.transfer) request reply) c.in-Ok-Ask.field-0-is
    (c.in-Ok-Ask.ensures.ends all to request c.args.reply refl waits) in
    let later = record was { transfer = c.step.new.self } in
    subst (λ carrying. CarriesOn c.args.self.now c.args.self.now pair taken journal before
    (record progress { carrying = carrying }) left right all (One c.in-Ok-Ask.ask))
    (sym c.replace.ensures.after)
    (carries_further pair taken journal before left right all c.args.self.now
    (record progress { carrying = Some later }) is quiet c.in-Ok-Ask.ask goes.0 ends
    (still_carries journal.value progress left right all before to number request reply carries was
    same c.transfer_laws.ensures goes.0 later c.in-Ok-Ask.ensures.spec refl c.in-Ok-Ask.ask
    goes.1))

pub returns-in-Ok-Done-clause-step : goal.returns-in-Ok-Done-clause-step
returns-in-Ok-Done-clause-step g c pair journal all before to number request is quiet carries =
    let left = c.args.left.now in
    let right = c.args.right.now in
    let progress = c.args.progress.now in
    let was = c.in-Some.carrying in
    let same = sym c.in-Some.ensures.value in
    let reply = reply_of c.args.reply in
    let taken = exchange_of to number request reply in
    let waits = waits_for journal.value progress left right all before to number request reply
    carries was same in
    let goes = c.in-Ok-Done.ensures.goes_on all to request number c.args.reply refl waits in
    let ends = subst (EndsBy (spec_of was.transfer) request reply) c.in-Ok-Done.field-0-is
    (c.in-Ok-Done.ensures.ends all to request c.args.reply refl waits) in
    goes_later pair taken journal before left right all c.args.self.now c.walk_after.new.self
    c.walk_after.new.progress goes.0 c.walk_after.result
    (c.walk_after.ensures.step pair journal taken _ before carries.planned is quiet
    (carried_out journal.value progress left right all before to number request reply carries was
    same c.transfer_laws.ensures goes.0 c.take.new.self)
    (is_done journal.value progress left right all before to number request reply carries was same
    c.transfer_laws.ensures goes.0 ends))

pub returns-in-Ok-Refused-clause-step : goal.returns-in-Ok-Refused-clause-step
returns-in-Ok-Refused-clause-step g c pair journal all before to number request is quiet carries =
    let left = c.args.left.now in
    let right = c.args.right.now in
    let progress = c.args.progress.now in
    let was = c.in-Some.carrying in
    let same = sym c.in-Some.ensures.value in
    let reply = reply_of c.args.reply in
    let taken = exchange_of to number request reply in
    let waits = waits_for journal.value progress left right all before to number request reply
    carries was same in
    let goes = subst (λ n. (fault_of all to request reply ≡ None) × Follows c.step.new.self
    (with_answer all to number request reply) reply n) c.in-Ok-Refused.field-0-is
    (c.in-Ok-Refused.ensures.goes_on all to request number c.args.reply refl waits) in
    goes_later pair taken journal before left right all c.args.self.now c.walk_past.new.self
    c.walk_past.new.progress goes.0 c.walk_past.result
    (c.walk_past.ensures.step pair journal taken _ before carries.planned is quiet
    (carried_out journal.value progress left right all before to number request reply carries was
    same c.transfer_laws.ensures goes.0 c.take.new.self) (
      goes.1,
      was_for journal.value progress left right all before to number request reply carries
          was same c.transfer_laws.ensures goes.0,
    ))

pub returns-in-Err-clause-step : goal.returns-in-Err-clause-step
returns-in-Err-clause-step g c pair journal all before to number request is quiet carries =
    let left = c.args.left.now in
    let right = c.args.right.now in
    let progress = c.args.progress.now in
    let was = c.in-Some.carrying in
    let same = sym c.in-Some.ensures.value in
    let reply = reply_of c.args.reply in
    let waits = waits_for journal.value progress left right all before to number request reply
    carries was same in
    at_once c.refusal.result
    (ended_with _ c.in-Err.error c.refusal.result c.refusal.ensures
    (c.in-Err.ensures.goes_on all to request number c.args.reply refl waits)) refl is quiet
    (carrying_more progress c.take.new.self left right before carries.progress_is)

pub returns-in-Ok-Ask-clause-breaks : goal.returns-in-Ok-Ask-clause-breaks
returns-in-Ok-Ask-clause-breaks g c = none_breaks c.args.self.now

pub returns-in-Err-clause-breaks : goal.returns-in-Err-clause-breaks
returns-in-Err-clause-breaks g c = none_breaks c.args.self.now

pub returns-in_default-clause-breaks : goal.returns-in_default-clause-breaks
returns-in_default-clause-breaks g c = none_breaks c.args.self.now
