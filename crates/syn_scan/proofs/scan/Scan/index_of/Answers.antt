use Rattle.std.proofs.Common.{sym, subst}
use Rattle.syn_placed.specs.Pairs.{AreRising}
use Rattle.syn_placed.proofs.RisingLemmas.{are_rising}
use Rattle.syn_placed.proofs.TreeLemmas.{rising-entries}
use Rattle.syn_scan.proofs.scan.Scan.index_of.Goals as goal

pub count_before-requires : goal.count_before-requires
count_before-requires c =
    subst AreRising (sym c.as_slice.ensures.all) (are_rising _ (rising-entries c.self.inside.marks))
