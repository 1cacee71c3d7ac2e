use Rattle.std.proofs.Common.{length, sym, ap, ap₂, ◌∙◌}
use Rattle.syn_model.specs.Limits.{children}
use Rattle.syn_placed.proofs.TreeLemmas.{entries-with}
use Rattle.syn_placed.proofs.CountLemmas.{kids, length-children}
use Rattle.syn_tree.proofs.PartLemmas.{kids_rooted}
use Rattle.syn_tree.proofs.entries.Entries.child_count.Goals as goal

pub returns : goal.returns
returns c =
    let p = c.args.path.now in
    let ds = c.self.inside.list.items in
    c.count_children_at.ensures ∙ (ap₂ kids c.key.ensures c.deref.ensures.value
    ∙ (sym (kids_rooted p ds) ∙ (ap (kids p) (sym (entries-with ds c.self.invariant.rising))
    ∙ (sym (length-children _ p) ∙ ap (λ t. length (children t p)) c.self.view_is))))
