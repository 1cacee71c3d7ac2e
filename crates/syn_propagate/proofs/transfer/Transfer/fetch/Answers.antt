use Rattle.syn_machine.specs.Side.{Fetch}
use Rattle.syn_propagate.proofs.AskLemmas.{asked, asks_fetch}
use Rattle.syn_propagate.proofs.transfer.Transfer.fetch.Goals as goal

pub returns-clause-asks : goal.returns-clause-asks
returns-clause-asks c taken reached =
    let spec = c.args.self.now.spec in
    asked _ taken _ (Fetch spec.path spec.source_since c.args.offset) _
    c.in_ok-next.ensures.asks
    (asks_fetch spec taken c.args.offset c.args.known reached c.fetch.ensures.lawful)
