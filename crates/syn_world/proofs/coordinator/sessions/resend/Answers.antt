use Rattle.std.proofs.Common.{◌∙◌, [], ap, refl}
use Rattle.std.specs.Prelude.{◌&&◌, if◌then◌else◌, not}
use Rattle.syn_machine.specs.Coordinator.{no_call}
use Rattle.syn_world.specs.CoordinatorSteps.{refuses_nothing}
use Rattle.syn_coordinator.specs.Coordinators.{ended_in, in_report, report_shown, runs}
use Rattle.syn_session.specs.Sendings.{messages_of}
use Rattle.syn_world.proofs.CallLemmas.{gathered_tells, tick_call}
use Rattle.syn_world.proofs.CountLemmas.{still_grew, still_halts}
use Rattle.syn_world.proofs.coordinator.sessions.resend.Goals as goal

pub returns : goal.returns
returns g c pair machine stands =
    let new = c.on_tick-sent.new.self in
    let is = c.gathered-outcome.ensures in
    let messages = messages_of c.on_tick-sent.result.items in
    let told = record no_call { messages = messages; reports = ended_in c.args.coordinator new } in
    let over = c.ended-report.ensures
    ∙ ap (λ ran. if ran && not (runs new) then in_report (report_shown new) else [])
    c.is_running-ran.ensures in
    tick_call c.args.coordinator new pair machine stands
    (still_halts c.args.coordinator new c.on_tick-sent.ensures.archive)
    (still_grew c.args.coordinator new c.on_tick-sent.ensures.archive) c.settle.result messages
    (c.settle.ensures told refuses_nothing (gathered_tells new c.gathered-outcome.result []
    c.on_tick-sent.result _ _ told refuses_nothing is.kept is.sent is.ended is.refused refl refl
    over (λ pair machine stands. refl)))
    (c.on_tick-sent.ensures.step pair machine stands)
