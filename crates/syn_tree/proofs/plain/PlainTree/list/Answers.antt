use Rattle.std.proofs.Common.{sym, ap, ap₂, ◌∙◌}
use Rattle.std.specs.FinMap.{entries}
use Rattle.syn_tree.specs.Lists.{child_contents, kinds_of}
use Rattle.syn_placed.proofs.TreeLemmas.{entries-with}
use Rattle.syn_placed.specs.Pairs.{within}
use Rattle.syn_tree.proofs.WithinLemmas.{contents-within}
use Rattle.syn_tree.proofs.ListingLemmas.{children-entries}
use Rattle.syn_tree.proofs.plain.PlainTree.list.Goals as goal

pub returns-in_ok-kinds-in-Some-Dir-clause-names :
    goal.returns-in_ok-kinds-in-Some-Dir-clause-names
returns-in_ok-kinds-in-Some-Dir-clause-names c =
    let t = c.args.self.now in
    let p = c.args.path.now in
    let ds = c.self.inside.list.items in
    let whole = ap entries (sym c.self.view_is) ∙ entries-with ds c.self.invariant.rising in
    let part = c.deref-in-Some-Dir.ensures.value ∙ (c.in_ok-part-in-Some-Dir.ensures
    ∙ (c.part_at.ensures ∙ ap₂ within c.names.ensures.names c.deref.ensures.value)) in
    let same = ap₂ child_contents c.key.ensures part
    ∙ (contents-within p ds ∙ sym (children-entries t p ds whole)) in
    c.in_ok-kinds-in-Some-Dir.ensures
    ∙ ap kinds_of (c.in_ok-children-in-Some-Dir.ensures.ok ∙ same)
