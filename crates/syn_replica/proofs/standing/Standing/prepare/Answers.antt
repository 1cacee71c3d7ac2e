use Rattle.syn_history.specs.Events.{event_of}
use Rattle.syn_model.proofs.SoundStandings.{before_greatest}
use Rattle.syn_replica.proofs.standing.Standing.prepare.Goals as goal

pub returns-clause-ready : goal.returns-clause-ready
returns-clause-ready c = record {
  change = c.in_ok-change.ensures.ready;
  position = before_greatest c.args.self.now (event_of c.args.event)
      c.in_ok-change.ensures.allowed;
}
