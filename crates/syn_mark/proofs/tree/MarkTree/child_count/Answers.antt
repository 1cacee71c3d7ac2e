use Rattle.std.proofs.Common.{length, sym, ap, ◌∙◌}
use Rattle.syn_model.specs.Limits.{children}
use Rattle.syn_placed.proofs.CountLemmas.{kids, length-children}
use Rattle.syn_mark.proofs.MarkLemmas.{entries_of}
use Rattle.syn_mark.proofs.tree.MarkTree.child_count.Goals as goal

pub returns : goal.returns
returns c =
    let p = c.args.path.now in
    let ds = c.self.inside.list.items in
    c.count_children_at.ensures
    ∙ (ap (kids p) c.deref.ensures.value ∙ (ap (kids p) (sym (entries_of ds c.self.invariant))
    ∙ (sym (length-children _ p) ∙ ap (λ t. length (children t p)) c.self.view_is)))
