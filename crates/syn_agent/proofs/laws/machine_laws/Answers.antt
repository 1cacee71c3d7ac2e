use Rattle.syn_agent.proofs.MachineLemmas.{is_up}
use Rattle.syn_agent.proofs.laws.machine_laws.Goals as goal

pub returns : goal.returns
returns g c pair machine is = is_up pair c.args.replica.now c.args.agent.now machine is
