use Rattle.std.proofs.Common.{rules, ◌≡◌, ◌≤◌, ◌++◌, length, sym, subst, true, false}
use Rattle.std.proofs.lemmas.List.Sorted.{IsPartitionPoint-from_clause}
use Rattle.std.specs.List.Sorted.{IsPartitionedBy, IsPartitionPoint}
use Rattle.syn_placed.specs.Pairs.{is_before, before, within, beyond}
use Rattle.syn_placed.proofs.RisingLemmas.{rising_of, three_parts, each-filter, none_after}
use Rattle.syn_placed.proofs.PointLemmas.{partitioned, point}
use Rattle.syn_placed.proofs.by_path.count_before.Goals as goal

pub returns : goal.returns
returns g c =
    let at = c.args.names.now in
    let es = c.args.list.now in
    let parts = three_parts at es (rising_of es c.requires) in
    let first = each-filter (is_before at) es in
    let others = none_after at es in
    let parted : IsPartitionedBy (is_before at) es =
    subst (IsPartitionedBy (is_before at)) (sym parts)
    (partitioned (is_before at) (before at es) (within at es ++ beyond at es) first others) in
    let found = IsPartitionPoint-from_clause (is_before at) es c.partition_point.result
    c.partition_point.ensures.partitioned parted (λ a r q k. search rules) in
    point (is_before at) (before at es)
    (within at es ++ beyond at es) c.partition_point.result first others
    (subst (λ xs. c.partition_point.result ≤ length xs) parts c.partition_point.ensures.bound)
    (subst (λ xs. IsPartitionPoint (λ y. is_before at y ≡ true)
    (λ y. is_before at y ≡ false) xs c.partition_point.result) parts found)
