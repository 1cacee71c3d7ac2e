use Rattle.std.proofs.Common.{◌∙◌, [], ap, refl}
use Rattle.std.specs.Prelude.{◌&&◌, if◌then◌else◌, not}
use Rattle.syn_machine.specs.Coordinator.{no_call}
use Rattle.syn_world.specs.CoordinatorSteps.{refuses_nothing}
use Rattle.syn_message.specs.Replies.{reply_of}
use Rattle.syn_path.specs.Sides.{which_of}
use Rattle.syn_coordinator.specs.Coordinators.{ended_in, in_report, report_shown, runs, written}
use Rattle.syn_session.specs.Sendings.{messages_of}
use Rattle.syn_world.proofs.CallLemmas.{gathered_tells}
use Rattle.syn_world.proofs.CountLemmas.{reply_grew}
use Rattle.syn_world.proofs.ReplyLemmas.{reply_call}
use Rattle.syn_world.proofs.coordinator.sessions.take.Goals as goal

pub returns : goal.returns
returns g c pair machine stands =
    let new = c.on_reply-sent.new.self in
    let is = c.gathered-outcome.ensures in
    let messages = messages_of c.on_reply-sent.result.items in
    let told = record no_call {
      kept = written new;
      messages = messages;
      reports = ended_in c.args.coordinator new;
    } in
    let over = c.ended-report.ensures
    ∙ ap (λ ran. if ran && not (runs new) then in_report (report_shown new) else [])
    c.is_running-ran.ensures in
    reply_call c.args.coordinator new pair machine stands c.on_reply-sent.ensures.halts
    (reply_grew c.args.coordinator new c.on_reply-sent.ensures.breaks) c.settle.result
    (which_of c.args.from)
    c.args.session c.args.number (reply_of c.args.reply) messages
    (c.settle.ensures told refuses_nothing (gathered_tells new c.gathered-outcome.result
    c.kept.result.0.now c.on_reply-sent.result _ _ told refuses_nothing is.kept is.sent is.ended
    is.refused c.kept.ensures.written refl over (λ pair machine stands. refl)))
    (c.on_reply-sent.ensures.step pair machine stands)
