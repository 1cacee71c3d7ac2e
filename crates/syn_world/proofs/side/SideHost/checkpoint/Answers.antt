use Rattle.syn_machine.specs.MachineSteps.{Checkpoint, Does, is_down}
use Rattle.syn_machine.specs.SideMachine.{side_kind}
use Rattle.syn_world.proofs.HostLemmas.{call_down, down}
use Rattle.syn_world.proofs.side.SideHost.checkpoint.Goals as goal

pub returns-in-Down : goal.returns-in-Down
returns-in-Down g c pair machine is =
    call_down pair c.args.self c.in-Down.side machine c.in-Down.is is c.unchanged.result
    c.unchanged.ensures.side c.unchanged.ensures.outcome
    (Does (side_kind pair) machine Checkpoint)
    (is_down (down pair c.args.self c.in-Down.side machine c.in-Down.is is))
