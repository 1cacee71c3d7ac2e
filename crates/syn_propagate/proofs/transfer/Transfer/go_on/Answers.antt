use Rattle.syn_propagate.proofs.AskLemmas.{reached_of_staged, whole_of_staged}
use Rattle.syn_propagate.proofs.transfer.Transfer.go_on.Goals as goal

pub returns-then-end-total-clause-goes_on : goal.returns-then-end-total-clause-goes_on
returns-then-end-total-clause-goes_on c taken has =
    c.fetch.ensures.asks taken (reached_of_staged c.args.self.now.spec taken c.args.end
    c.args.total c.if-end-total.true has)

pub returns-else-end-total-clause-goes_on : goal.returns-else-end-total-clause-goes_on
returns-else-end-total-clause-goes_on c taken has =
    let all = whole_of_staged c.args.self.now.spec taken c.args.end c.args.total
    c.if-end-total.false has in
    c.replace.ensures.asks taken all.0 all.1
