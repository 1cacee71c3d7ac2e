use Rattle.syn_machine.specs.MachineSteps.{is_down}
use Rattle.syn_machine.specs.SideMachine.{UserEdits}
use Rattle.syn_replica.specs.Edits.{event_by}
use Rattle.syn_world.proofs.HostLemmas.{call_down, down}
use Rattle.syn_world.proofs.side.SideHost.edit.Goals as goal

pub returns-in-Down : goal.returns-in-Down
returns-in-Down g c pair machine is =
    call_down pair c.args.self c.in-Down.side machine c.in-Down.is is c.unchanged.result
    c.unchanged.ensures.side c.unchanged.ensures.outcome
    (UserEdits pair machine (event_by c.args.user c.args.edit))
    (is_down (down pair c.args.self c.in-Down.side machine c.in-Down.is is))
