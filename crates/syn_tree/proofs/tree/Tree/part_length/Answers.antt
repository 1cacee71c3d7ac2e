use Rattle.std.proofs.Common.{◌≡◌, ◌≤◌, ◌+◌, filter, None, Some, sym, ap, ap₂, ◌∙◌, subst, arith}
use Rattle.std.specs.Prelude.{option_map}
use Rattle.std.specs.FinMap.{entries, get}
use Rattle.syn_model.specs.Tree.{IsTree}
use Rattle.syn_model.specs.Limits.{tree_spelling_length}
use Rattle.syn_placed.specs.Pairs.{is_below, rooted, spelling_length}
use Rattle.syn_placed.proofs.BelowLemmas.{below_rooted}
use Rattle.syn_placed.proofs.TreeLemmas.{entries-with, entries-absent}
use Rattle.syn_tree.specs.Contents.{found_content}
use Rattle.syn_tree.proofs.MeasureLemmas.{kept_size}
use Rattle.syn_tree.proofs.RootedLemmas.{part_shorter, part_size, below_size}
use Rattle.syn_tree.proofs.StripLemmas.{subtree_none}
use Rattle.syn_tree.proofs.tree.Tree.part_length.Goals as goal

below_is : (c : goal.After-part_below) →
    c.part_below.result.now ≡ filter (is_below c.args.path.now) (rooted c.self.inside.list.items)
below_is c =
    c.part_below.ensures
    ∙ (ap₂ (λ p xs. filter (is_below p) xs) c.key.ensures c.deref.ensures.value
    ∙ sym (below_rooted c.args.path.now c.self.inside.list.items))

short : (c : goal.After-part_below) → spelling_length c.part_below.result.now ≤ 526336
short c =
    let ds = c.self.inside.list.items in
    omega (
      arith,
      ap spelling_length (below_is c),
      below_size c.args.path.now (rooted ds),
      c.self.invariant.counted,
      kept_size ds _ _ c.self.invariant,
    )

pub spelled-requires : goal.spelled-requires
spelled-requires c = short c

pub overflow_add-result : goal.overflow_add-result
overflow_add-result c =
    omega (arith, short c.before, c.spelled.ensures, c.found_spelled.ensures.fits)

pub returns-in-Some-clause-length : goal.returns-in-Some-clause-length
returns-in-Some-clause-length c =
    let t = c.args.self.now in
    let at = c.args.path.now in
    let there : get t at ≡ Some (found_content c.in-Some.found) =
    sym c.get.ensures ∙ ap (option_map (λ found. found_content found)) c.in-Some.is in
    let all = sym (entries-with c.self.inside.list.items c.self.invariant.rising)
    ∙ ap entries c.self.view_is in
    ap₂ (λ a b. a + b) c.found_spelled.ensures.length (c.spelled.ensures
    ∙ ap spelling_length (below_is c.before ∙ ap (filter (is_below at)) all))
    ∙ part_size t at (found_content c.in-Some.found) there

pub returns-in-None-clause-length : goal.returns-in-None-clause-length
returns-in-None-clause-length c =
    let t = c.args.self.now in
    let none : get t c.args.path.now ≡ None = sym c.get.ensures
    ∙ ap (option_map (λ found. found_content found)) c.in-None.is in
    let parents = (subst IsTree c.self.view_is c.self.invariant.tree).part.parents in
    sym (ap spelling_length entries-absent)
    ∙ ap tree_spelling_length (subtree_none t c.args.path.now parents none)

pub returns-in-Some-clause-short : goal.returns-in-Some-clause-short
returns-in-Some-clause-short c =
    let ds = c.self.inside.list.items in
    let all = sym (entries-with ds c.self.invariant.rising) ∙ ap entries c.self.view_is in
    omega (
      arith,
      returns-in-Some-clause-length c,
      part_shorter c.args.self.now c.args.path.now,
      ap spelling_length all,
      c.self.invariant.counted,
      kept_size ds _ _ c.self.invariant,
    )
