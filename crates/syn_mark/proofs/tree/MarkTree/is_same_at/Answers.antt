use Rattle.std.proofs.Common.{sym, ap₂, ◌∙◌}
use Rattle.syn_placed.specs.Pairs.{within}
use Rattle.syn_mark.proofs.MarkLemmas.{entries_are}
use Rattle.syn_mark.proofs.SameLemmas.{same_part, same_within}
use Rattle.syn_mark.proofs.tree.MarkTree.is_same_at.Goals as goal

pub returns : goal.returns
returns c =
    let t = c.args.self.now in
    let u = c.args.other.now in
    let at = c.args.path.now in
    let left = c.part_at-left.ensures ∙ ap₂ within c.names.ensures.names (c.deref.ensures.value
    ∙ entries_are c.self.inside.list.items t c.self.invariant c.self.view_is) in
    let right = c.part_at-right.ensures ∙ ap₂ within c.names-2.ensures.names
    (c.deref-2.ensures.value
    ∙ entries_are c.other.inside.list.items u c.other.invariant c.other.view_is) in (
      (λ is. same_part t u at (sym left ∙ (c.same_entries.ensures.0 is ∙ right))),
      (λ e. c.same_entries.ensures.1 (left ∙ (same_within t u at e ∙ sym right))),
    )
