use Rattle.std.proofs.Common.{◌≡◌, ℕ, true, refl, sym, subst, ap, ◌∙◌, None, Some, inl}
use Rattle.std.specs.Prelude.{Result, is_some}
use Rattle.syn_machine.specs.Coordinator.{CoordinatorMachine, Exchange, IsExpected, Running}
use Rattle.syn_machine.specs.Network.{Left, Right, Which}
use Rattle.syn_machine.specs.Side.{Request}
use Rattle.syn_message.specs.Replies.{reply_of}
use Rattle.syn_message.specs.Requests.{request_of}
use Rattle.syn_message.specs.declared.request.RequestMessage.{RequestMessage}
use Rattle.syn_path.specs.Sides.{which_of}
use Rattle.syn_session.specs.Sendings.{messages_of}
use Rattle.syn_session.specs.Answering.{IsAnswering, IsAskedOn, asks_of, exchange_of}
use Rattle.syn_session.specs.Sessions.{IsSession}
use Rattle.syn_session.specs.Stages.{peer_of}
use Rattle.syn_session.specs.declared.session.Asks.{Asks}
use Rattle.syn_coordinator.specs.Coordinators.{Stands}
use Rattle.syn_coordinator.specs.Machines.{IsMachine}
use Rattle.syn_coordinator.specs.PlanRunners.{written}
use Rattle.syn_coordinator.specs.declared.session_end.SessionEnd.{SessionEnd}
use Rattle.syn_coordinator.specs.declared.plan_runner.PlanRunner.{PlanRunner}
use Rattle.syn_coordinator.specs.inner.Taking.{TakesSo}
use Rattle.syn_archive.specs.Archive.{IsHalted}
use Rattle.syn_coordinator.proofs.BreakLemmas.{none_breaks, none_told}
use Rattle.syn_coordinator.proofs.HaltLemmas.{ends_by_failure, fails_or_stops, up_not_halted}
use Rattle.syn_coordinator.proofs.ReplyLemmas.{answered_does, asked_so, asks_no_more, ends_so}
use Rattle.syn_coordinator.proofs.ReplyLemmas.{expects, ignored_does, none_runs, none_waits}
use Rattle.syn_coordinator.proofs.ReplyLemmas.{tells_same}
use Rattle.syn_coordinator.proofs.coordinator.Coordinator.on_reply.Goals as goal
use Rattle.syn_coordinator.proofs.coordinator.Coordinator.on_reply.Goals.{After-take-taken}

pub returns-in_default : goal.returns-in_default
returns-in_default g c = record {
  step = λ pair machine stands.
      let old = c.args.self.now in
      ignored_does old _ pair machine (which_of c.args.from) c.args.session c.args.number
      (reply_of c.args.reply) stands c.forget.ensures.archive refl c.forget.ensures.tried
      (none_runs old old pair machine (which_of c.args.from) c.args.session c.args.number
      (reply_of c.args.reply) stands c.in_default.is) _ _ c.forget.ensures.written
      (ap messages_of c.new.ensures.items);
  report = λ _. refl;
  breaks = inl (none_told c.args.self.now.plan_runner c.forget.new.self c.forget.new.self
      c.forget.ensures.whole c.forget.ensures.tried c.forget.ensures.archive
      (none_breaks c.forget.new.self));
  halts = λ pair machine stands up halted. absurd (up_not_halted c.args.self.now.plan_runner.archive
      pair machine.journal stands.journal up
      (subst (λ a. IsHalted a) c.forget.ensures.archive halted));
}

pub returns-in_default-take_waiting-clause-step : goal.returns-in_default-take_waiting-clause-step
returns-in_default-take_waiting-clause-step g c pair machine stands =
    let old = c.args.self.now in
    let none = c.in_default-take_waiting.ensures.none refl in
    ignored_does old _ pair machine (which_of c.args.from) c.args.session c.args.number
    (reply_of c.args.reply) stands c.forget.ensures.archive
    (ap (λ s. Some s) none.0 ∙ sym c.in-Some.is) c.forget.ensures.tried
    (none_waits old old pair machine (which_of c.args.from) c.args.session c.args.number
    (reply_of c.args.reply) stands c.in-Some.running c.in-Some.is none.1) _ _
    c.forget.ensures.written (ap messages_of c.new-in_default-take_waiting.ensures.items)

-- an answer that is waited for: the session of the machine, and what comes of it
module _ (g : _) (c : After-take-taken g) (pair : ℕ) (machine : CoordinatorMachine)
    (stands : Stands c.args.self.now pair machine) where
  abbrev side : Which
  side = which_of c.args.from

  abbrev asked : Request
  asked = request_of c.deref.result.now.request

  answers : IsAnswering c.in-Some.running c.take_waiting.new.self side c.args.number asked
  answers =
      subst (λ (m : RequestMessage). IsAnswering c.in-Some.running c.take_waiting.new.self side
      c.args.number (request_of m.request)) (sym c.deref.ensures)
      c.in-Some-take_waiting.ensures.some.1

  expected : (running : Running)
      × IsExpected machine side c.args.session c.args.number running asked
      × IsSession machine.journal.value c.in-Some.running running
  expected =
      expects c.args.self.now c.args.self.now pair machine side c.args.session c.args.number
      (reply_of c.args.reply) stands c.in-Some.running c.take_waiting.new.self asked c.in-Some.is
      c.in-Some-take_waiting.ensures.some.0 answers

  runs_one : is_some machine.running ≡ true
  runs_one = ap is_some expected.1.runs

  quiet : machine.journal.writing ≡ None
  quiet = stands.quiet runs_one

  abbrev taken : Exchange
  taken = exchange_of side c.args.number asked (reply_of c.args.reply)

  abbrev comes_to : Result Asks SessionEnd → Type 0
  comes_to = TakesSo c.take-taken.new.self.archive c.take-taken.new.self.tried pair
      machine.journal expected.0 taken c.take-taken.new.session (written c.take-taken.new.self)

  comes : comes_to c.take-taken.result
  comes =
      c.take-taken.ensures.step pair c.args.number machine.journal c.in-Some.running expected.0
      (subst (λ a. IsMachine a pair machine.journal) (sym c.forget.ensures.archive) stands.journal)
      (c.forget.ensures.tried ∙ stands.untried runs_one, quiet) expected.2
      answers c.forget.ensures.written

pub returns-in-Ok-ask-clause-step : goal.returns-in-Ok-ask-clause-step
returns-in-Ok-ask-clause-step g c pair machine stands =
    let k = (goal.at.returns-in-Ok-ask-clause-step g c).After-take-taken in
    let it = expected g k pair machine stands in
    let on = subst (comes_to g k pair machine stands) c.in-Ok.is (comes g k pair machine stands) in
    answered_does c.args.self.now _ pair machine (which_of c.args.from) c.args.session c.args.number
    (reply_of c.args.reply) it.0 _ _ _ (ap is_some c.in-Some.is) it.1
    (asked_so pair machine it.0 (taken g k pair machine stands) _ c.take-taken.new.session
    c.ask.new.self _ c.in-Ok.asks on.0 (quiet g k pair machine stands) asked_on
    c.in-Ok-ask.ensures.number c.in-Ok-ask.ensures.preference c.in-Ok-ask.ensures.progress on.1 refl
    _ c.in-Ok-ask.ensures.sends)
  where
    asked_on : (side : Which) → IsAskedOn c.take-taken.new.session.number
        (peer_of c.take-taken.new.session side) (peer_of c.ask.new.self side)
        (asks_of c.in-Ok.asks side)
    asked_on Left = c.in-Ok-ask.ensures.left
    asked_on Right = c.in-Ok-ask.ensures.right

pub returns-in-Ok-ask-clause-halts : goal.returns-in-Ok-ask-clause-halts
returns-in-Ok-ask-clause-halts g c pair machine stands up halted =
    let k = (goal.at.returns-in-Ok-ask-clause-halts g c).After-take-taken in
    let on = subst (comes_to g k pair machine stands) c.in-Ok.is (comes g k pair machine stands) in
    absurd (up_not_halted c.take-taken.new.self.archive pair on.0.now on.0.is (on.0.status ∙ up)
    halted)

pub returns-in-Err-ask-clause-step : goal.returns-in-Err-ask-clause-step
returns-in-Err-ask-clause-step g c pair machine stands =
    let k = (goal.at.returns-in-Err-ask-clause-step g c).After-take-taken in
    let it = expected g k pair machine stands in
    let on = subst (comes_to g k pair machine stands) c.in-Ok.is (comes g k pair machine stands) in
    answered_does c.args.self.now c.end.new.self pair machine (which_of c.args.from) c.args.session
    c.args.number (reply_of c.args.reply) it.0 _ _ _ (ap is_some c.in-Some.is) it.1
    (asks_no_more pair machine it.0 (taken g k pair machine stands) c.end.new.self
    c.end.ensures.running c.take-taken.new.self c.end.ensures.plan_runner
    (quiet g k pair machine stands) on.1 c.take-taken.new.session c.in-Ok.asks _
    (ap messages_of c.end.ensures.silent) on.0 (λ now tells. c.end.ensures.report _ now refl
    (tells_same c.take-taken.new.session c.ask.new.self now c.in-Err-ask.ensures.number
    c.in-Err-ask.ensures.left_scan c.in-Err-ask.ensures.right_scan c.in-Err-ask.ensures.progress
    tells)))

pub returns-in-Err-ask-clause-halts : goal.returns-in-Err-ask-clause-halts
returns-in-Err-ask-clause-halts g c pair machine stands up halted =
    let k = (goal.at.returns-in-Err-ask-clause-halts g c).After-take-taken in
    let on = subst (comes_to g k pair machine stands) c.in-Ok.is (comes g k pair machine stands) in
    absurd (up_not_halted c.take-taken.new.self.archive pair on.0.now on.0.is (on.0.status ∙ up)
    (subst (λ (r : PlanRunner _ g.D.Disk). IsHalted r.archive) c.end.ensures.plan_runner halted))

pub returns-in-Err-clause-step : goal.returns-in-Err-clause-step
returns-in-Err-clause-step g c pair machine stands =
    let k = (goal.at.returns-in-Err-clause-step g c).After-take-taken in
    let it = expected g k pair machine stands in
    let ends = subst (comes_to g k pair machine stands) c.in-Err.is (comes g k pair machine stands)
    in
    answered_does c.args.self.now c.end-in-Err.new.self pair machine (which_of c.args.from)
    c.args.session c.args.number (reply_of c.args.reply) it.0 _ _ _ (ap is_some c.in-Some.is) it.1
    (ends_so pair machine it.0 (taken g k pair machine stands) c.end-in-Err.new.self
    c.end-in-Err.ensures.running c.take-taken.new.self c.end-in-Err.ensures.plan_runner
    c.take-taken.new.session c.in-Err.ended _ (ap messages_of c.end-in-Err.ensures.silent) ends
    (λ now tells. c.end-in-Err.ensures.report _ now refl tells))

pub returns-in-Err-clause-halts : goal.returns-in-Err-clause-halts
returns-in-Err-clause-halts g c pair machine stands up halted =
    let k = (goal.at.returns-in-Err-clause-halts g c).After-take-taken in
    let it = expected g k pair machine stands in
    let ends = subst (comes_to g k pair machine stands) c.in-Err.is (comes g k pair machine stands)
    in
    fails_or_stops c.args.self.now.plan_runner c.forget.new.self c.take-taken.new.self
    c.end-in-Err.new.self.plan_runner c.forget.ensures.archive
    (ap (λ (r : PlanRunner _ g.D.Disk). r.archive) c.end-in-Err.ensures.plan_runner)
    (ends_by_failure c.forget.new.self c.take-taken.new.self pair machine.journal up it.0 _ _ _ _
    ends c.in-Err.ensures.breaks
    (subst (λ (r : PlanRunner _ g.D.Disk). IsHalted r.archive) c.end-in-Err.ensures.plan_runner
    halted))
