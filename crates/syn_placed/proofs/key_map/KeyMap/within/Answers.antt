use Rattle.std.proofs.Common.{rules, ◌≤◌, length, filter, drop, sym, ap, ◌∙◌, subst}
use Rattle.std.specs.FinMap as map
use Rattle.std.proofs.lemmas.List.Sorted.{IsPartitionPoint-from_clause}
use Rattle.syn_model.specs.Path.{path_cmp}
use Rattle.syn_placed.specs.Keyed.{comes_before, stands_within}
use Rattle.syn_placed.proofs.RisingLemmas.{NoneOf}
use Rattle.syn_placed.proofs.KeyedLemmas.{IsPlace, Rising, place_within, back_rises, back_after}
use Rattle.syn_placed.proofs.KeyedParts.{within_parted, within_placed, within_rest}
use Rattle.syn_placed.proofs.key_map.KeyMap.within.Goals as goal
use Rattle.syn_model.proofs.BaseLemmas.{holds}

pub split_at-requires : goal.split_at-requires
split_at-requires g c =
    let at = c.args.at.now in
    let es = c.self.inside.slots.items in
    let place = subst (IsPlace at c.index_of.result) c.deref-2.ensures.value c.index_of.ensures in
    subst (λ xs. c.index_of.result ≤ length xs) (sym c.deref.ensures.value)
    (place_within at c.index_of.result es c.self.invariant.rising place)

pub returns : goal.returns
returns g c =
    let at = c.args.at.now in
    let es = c.self.inside.slots.items in
    let n = c.index_of.result in
    let rising = c.self.invariant.rising in
    let place = subst (IsPlace at n) c.deref-2.ensures.value c.index_of.ensures in
    let others = c.split_at.result.1.now in
    let rest = c.split_at.ensures.back ∙ ap (drop n) c.deref.ensures.value in
    let rises = subst Rising (sym rest) (back_rises n es rising) in
    let low = subst (NoneOf (comes_before at)) (sym rest) (back_after at n es rising place) in
    let found = IsPartitionPoint-from_clause (stands_within at) others c.partition_point.result
    c.partition_point.ensures.partitioned (within_parted at others rises low)
    (λ a r q k. search rules) in
    c.split_at-2.ensures.front
    ∙ (within_placed at c.partition_point.result others rises low c.partition_point.ensures.bound
    found
    ∙ (ap (filter (stands_within at)) rest
    ∙ (within_rest at n es rising place
    ∙ ap (filter (stands_within at)) (sym (map.entries-from_sorted path_cmp es (holds _ rising))
    ∙ ap map.entries c.self.view_is))))
