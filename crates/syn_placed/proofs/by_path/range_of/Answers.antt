use Rattle.std.proofs.Common.{rules, ◌≡◌, ◌≤◌, length, drop, sym, subst, ap, ◌∙◌, true, false}
use Rattle.std.proofs.lemmas.List.Sorted.{IsPartitionPoint-from_clause}
use Rattle.std.specs.List.Sorted.{IsPartitionedBy, IsPartitionPoint}
use Rattle.syn_placed.specs.Pairs.{is_within, within, beyond}
use Rattle.syn_placed.proofs.RisingLemmas.{rising_of, each-filter, after_out, after_before}
use Rattle.syn_placed.proofs.RisingLemmas.{few_before}
use Rattle.syn_placed.proofs.PointLemmas.{partitioned, point}
use Rattle.syn_placed.proofs.by_path.range_of.Goals as goal

pub split_at-requires : goal.split_at-requires
split_at-requires g c =
    subst (λ n. n ≤ length c.args.list.now) (sym c.count_before-start.ensures)
    (few_before c.args.names.now c.args.list.now)

pub returns-clause-count : goal.returns-clause-count
returns-clause-count g c =
    let at = c.args.names.now in
    let es = c.args.list.now in
    let rest = c.split_at.ensures.back ∙ (ap (λ n. drop n es) c.count_before-start.ensures
    ∙ after_before at es (rising_of es c.requires)) in
    let first = each-filter (is_within at) es in
    let others = after_out at es in
    let parted : IsPartitionedBy (is_within at) c.split_at.result.1.now =
    subst (IsPartitionedBy (is_within at)) (sym rest)
    (partitioned (is_within at) (within at es) (beyond at es) first others) in
    let found = IsPartitionPoint-from_clause (is_within at) c.split_at.result.1.now
    c.partition_point-count.result c.partition_point-count.ensures.partitioned parted
    (λ a r q k. search rules) in
    point (is_within at) (within at es) (beyond at es) c.partition_point-count.result first others
    (subst (λ xs. c.partition_point-count.result ≤ length xs) rest
    c.partition_point-count.ensures.bound)
    (subst (λ xs. IsPartitionPoint (λ y. is_within at y ≡ true)
    (λ y. is_within at y ≡ false) xs c.partition_point-count.result) rest found)
