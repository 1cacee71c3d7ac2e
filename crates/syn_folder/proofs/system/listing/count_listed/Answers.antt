use Rattle.std.proofs.Common.{◌==◌, rules, tests, ◌∙◌}
use Rattle.std.proofs.lemmas.Iterator.Consumers.{YieldsList-at, YieldsList-from_filter}
use Rattle.std.proofs.lemmas.Iterator.Consumers.{count_from_yields_List}
use Rattle.std.proofs.lemmas.Iterator.Splits.{YieldsList-from_slice_split}
use Rattle.std.proofs.lemmas.List.Sums.{length-filter}
use Rattle.syn_folder.specs.Looks.{is_listed, pieces}
use Rattle.syn_folder.proofs.system.listing.count_listed.Goals as goal

pub returns : goal.returns
returns c =
    count_from_yields_List c.filter.result c.count.result c.count.ensures.ran
    (YieldsList-from_filter _ is_listed
    (YieldsList-at c.filter.ensures.source (YieldsList-from_slice_split _ (λ b. b == 0)
    c.args.listing.now c.split-names.ensures.rest
    c.split-names.ensures.done c.split-names.ensures.closure (λ x b q k. search (rules, tests))))
    c.filter.ensures.closure (λ x b q k. search (rules, tests)))
    ∙ length-filter is_listed (pieces c.args.listing.now)
