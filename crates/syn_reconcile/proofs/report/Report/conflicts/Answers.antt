use Rattle.std.proofs.Common.{◌∙◌, rules, tests}
use Rattle.std.proofs.lemmas.Iterator.{YieldsList-from_slice}
use Rattle.std.proofs.lemmas.Iterator.Consumers.{YieldsList-at, YieldsList-from_filter}
use Rattle.std.proofs.lemmas.Iterator.Consumers.{count_from_yields_List}
use Rattle.std.proofs.lemmas.List.Sums.{length-filter}
use Rattle.syn_reconcile.proofs.report.Report.conflicts.Goals as goal
use Rattle.syn_reconcile.specs.Settlements.{is_conflict, settlement_of}

pub returns : goal.returns
returns c =
    let settled = c.args.self.now.settled.items in
    count_from_yields_List c.filter.result c.count.result c.count.ensures.ran
    (YieldsList-from_filter _ (λ one. is_conflict (settlement_of one.item one.refused))
    (YieldsList-at c.filter.ensures.source (YieldsList-from_slice settled
    (c.iter.ensures.rest ∙ c.deref.ensures.value)))
    c.filter.ensures.closure (λ x b q k. search (rules, tests)))
    ∙ length-filter (λ one. is_conflict (settlement_of one.item one.refused)) settled
