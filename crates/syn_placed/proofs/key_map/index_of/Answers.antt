use Rattle.std.proofs.Common.{rules}
use Rattle.std.proofs.lemmas.List.Sorted.{IsPartitionPoint-from_clause}
use Rattle.syn_placed.specs.Keyed.{comes_before}
use Rattle.syn_placed.proofs.KeyedLemmas.{parted, placed}
use Rattle.syn_placed.proofs.key_map.index_of.Goals as goal

pub returns : goal.returns
returns g c =
    let at = c.args.at.now in
    let es = c.args.slots.now in
    placed at c.partition_point.result es c.requires c.partition_point.ensures.bound
    (IsPartitionPoint-from_clause (comes_before at) es c.partition_point.result
    c.partition_point.ensures.partitioned (parted at es c.requires) (λ a r q k. search rules))
