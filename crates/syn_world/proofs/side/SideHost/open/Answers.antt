use Rattle.syn_world.proofs.HostLemmas.{open_up}
use Rattle.syn_world.proofs.side.SideHost.open.Goals as goal

pub returns-in-Up : goal.returns-in-Up
returns-in-Up g c machine is =
    open_up c.args.pair c.args.self c.in-Up.side machine c.in-Up.is is c.unchanged.result
    c.unchanged.ensures.side c.unchanged.ensures.outcome
