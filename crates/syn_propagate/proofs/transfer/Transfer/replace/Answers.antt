use Rattle.syn_machine.specs.Side.{Replace}
use Rattle.syn_propagate.proofs.AskLemmas.{asked, asks_replace}
use Rattle.syn_propagate.proofs.transfer.Transfer.replace.Goals as goal

pub returns-clause-asks : goal.returns-clause-asks
returns-clause-asks c taken whole unreplaced =
    let spec = c.args.self.now.spec in
    asked _ taken _ (Replace spec.item spec.path spec.target_since c.args.total) _
    c.in_ok-next.ensures.asks
    (asks_replace spec taken c.args.total whole unreplaced c.replace.ensures.lawful)
