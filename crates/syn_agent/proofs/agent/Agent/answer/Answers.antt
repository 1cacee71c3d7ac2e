use Rattle.syn_agent.proofs.MachineLemmas.{takes_so}
use Rattle.syn_agent.proofs.agent.Agent.answer.Goals as goal
use Rattle.syn_message.specs.Requests.{request_of}

pub returns-clause-takes : goal.returns-clause-takes
returns-clause-takes g c pair machine is =
    takes_so pair c.args.replica.now c.serve.new.replica c.args.self.now c.serve.new.self machine
    c.args.session (request_of c.args.request) is _
    (c.serve.ensures.answers machine.journal.value)
    (c.serve.ensures.halted machine.journal.value) c.serve.ensures.unchanged
