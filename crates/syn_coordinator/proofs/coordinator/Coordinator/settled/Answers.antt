use Rattle.std.proofs.Common.{◌∙◌, ap, subst, sym}
use Rattle.syn_coordinator.proofs.TickLemmas.{session_of, tells_now}
use Rattle.syn_coordinator.proofs.coordinator.Coordinator.settled.Goals as goal
use Rattle.syn_coordinator.specs.Coordinators.{report_shown, settled_so_far}
use Rattle.syn_session.specs.Sessions.{IsRunning}

-- the session tells as much as that of the model
pub returns-in-Some-clause-settled : goal.returns-in-Some-clause-settled
returns-in-Some-clause-settled g c pair machine stands =
    let archive = machine.journal.value in
    let now = session_of archive c.in-Some.session machine.running
    (subst (λ s. IsRunning archive s machine.running) c.in-Some.is stands.running) in
    c.settled.ensures.settled now.0 (tells_now archive c.in-Some.session now.0 now.2)
    ∙ sym (ap (λ running. settled_so_far running (report_shown c.args.self.now)) now.1)
