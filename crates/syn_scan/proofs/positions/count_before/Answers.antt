use Rattle.std.proofs.Common.{rules, ◌≡◌, ◌≤◌, length, sym, subst, true, false}
use Rattle.std.proofs.lemmas.List.Sorted.{IsPartitionPoint-from_clause}
use Rattle.std.specs.List.Sorted.{IsPartitionedBy, IsPartitionPoint}
use Rattle.syn_placed.proofs.PointLemmas.{partitioned, point}
use Rattle.syn_scan.specs.inner.Kept.{earlier}
use Rattle.syn_scan.proofs.PositionLemmas.{is_earlier, later, rising_of, two_parts, each_earlier}
use Rattle.syn_scan.proofs.PositionLemmas.{each_later}
use Rattle.syn_scan.proofs.positions.count_before.Goals as goal

pub returns : goal.returns
returns c =
    let at = c.args.names.now in
    let es = c.args.list.now in
    let parts = two_parts at es (rising_of es c.requires) in
    let first = each_earlier at es in
    let others = each_later at es in
    let parted : IsPartitionedBy (is_earlier at) es = subst (IsPartitionedBy (is_earlier at))
    (sym parts) (partitioned (is_earlier at) (earlier at es) (later at es) first others) in
    let found = IsPartitionPoint-from_clause (is_earlier at) es c.partition_point.result
    c.partition_point.ensures.partitioned parted (λ a r q k. search rules) in
    point (is_earlier at) (earlier at es) (later at es) c.partition_point.result first others
    (subst (λ xs. c.partition_point.result ≤ length xs) parts c.partition_point.ensures.bound)
    (subst (λ xs. IsPartitionPoint (λ y. is_earlier at y ≡ true)
    (λ y. is_earlier at y ≡ false) xs c.partition_point.result) parts found)
