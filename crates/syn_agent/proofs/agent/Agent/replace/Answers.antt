use Rattle.syn_agent.proofs.ReplaceLemmas.{done_answers, old_answers, stands_done, stands_old}
use Rattle.syn_agent.proofs.agent.Agent.replace.Goals as goal
use Rattle.syn_history.specs.Events.{token_of}
use Rattle.syn_model.specs.History.{is_old_token}
use Rattle.syn_replica.specs.Growing.{itself}
use Rattle.syn_replica.specs.Steps.{is_done}

pub returns-in-Done-clause-answers : goal.returns-in-Done-clause-answers
returns-in-Done-clause-answers g c history stands =
    let token = token_of c.args.token in
    done_answers c.args.replica.now c.args.self.now history c.args.token.session c.args.token.item
    c.args.path.now c.args.since c.args.length stands
    (stands_done (is_done history token) (is_old_token history token)
    (c.in-Done.ensures history stands.remembers))

pub returns-in-Old-clause-answers : goal.returns-in-Old-clause-answers
returns-in-Old-clause-answers g c history stands =
    let token = token_of c.args.token in
    let how = stands_old (is_done history token) (is_old_token history token)
    (c.in-Old.ensures history stands.remembers) in
    old_answers c.args.replica.now c.args.self.now history c.args.token.session c.args.token.item
    c.args.path.now c.args.since c.args.length stands how.0 how.1

pub returns-in-Done-clause-grown : goal.returns-in-Done-clause-grown
returns-in-Done-clause-grown g c = itself c.args.replica.now

pub returns-in-Old-clause-grown : goal.returns-in-Old-clause-grown
returns-in-Old-clause-grown g c = itself c.args.replica.now

pub returns-then-is_halted-clause-grown : goal.returns-then-is_halted-clause-grown
returns-then-is_halted-clause-grown g c = itself c.args.replica.now
