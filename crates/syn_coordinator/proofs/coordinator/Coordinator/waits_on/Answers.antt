use Rattle.std.proofs.Common.{◌≡◌, ◌∙◌, Option, Some, None, ap, false, length, nat_lt, refl, sym}
use Rattle.std.proofs.Common.{subst}
use Rattle.syn_machine.specs.Coordinator.{Running}
use Rattle.syn_machine.specs.Network.{Which}
use Rattle.syn_path.specs.Sides.{which_of}
use Rattle.syn_session.specs.Sessions.{IsRunning}
use Rattle.syn_session.specs.Stages.{peer_of, waiting_of}
use Rattle.syn_session.specs.declared.session.Session.{Session}
use Rattle.syn_model.specs.Archive.{Archive}
use Rattle.syn_coordinator.specs.Coordinators.{is_waiting}
use Rattle.syn_coordinator.proofs.coordinator.Coordinator.waits_on.Goals as goal

-- the session of the model that runs waits for as much
waits_alike : (archive : Archive) (session : Session) (running : Option Running) (side : Which) →
    IsRunning archive (Some session) running →
    nat_lt 0 (length (waiting_of (peer_of session side))) ≡ is_waiting running side
waits_alike archive session None side is = absurd is
waits_alike archive session (Some running) side is =
    sym (ap (λ w. nat_lt 0 (length w)) (is.peer side).waits)

waits_not : (archive : Archive) (running : Option Running) (side : Which) →
    IsRunning archive None running → false ≡ is_waiting running side
waits_not archive None side is = refl
waits_not archive (Some running) side is = absurd is

pub returns-in-Some : goal.returns-in-Some
returns-in-Some g c pair machine stands =
    c.waits_on.ensures ∙ waits_alike machine.journal.value c.in-Some.session machine.running
    (which_of c.args.side) (subst (λ o. IsRunning machine.journal.value o machine.running)
    c.in-Some.is stands.running)

pub returns-in-None : goal.returns-in-None
returns-in-None g c pair machine stands =
    waits_not machine.journal.value machine.running (which_of c.args.side)
    (subst (λ o. IsRunning machine.journal.value o machine.running) c.in-None.is stands.running)
