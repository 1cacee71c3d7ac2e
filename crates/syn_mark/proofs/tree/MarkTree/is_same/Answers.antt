use Rattle.std.proofs.Common.{sym, ap, ◌∙◌}
use Rattle.std.specs.FinMap.{entries}
use Rattle.syn_mark.specs.Marks.{marks_with}
use Rattle.syn_mark.proofs.MarkLemmas.{entries_of}
use Rattle.syn_mark.proofs.tree.MarkTree.is_same.Goals as goal

pub returns : goal.returns
returns c =
    let left = sym (entries_of c.self.inside.list.items c.self.invariant)
    ∙ ap entries c.self.view_is in
    let right = sym (entries_of c.other.inside.list.items c.other.invariant)
    ∙ ap entries c.other.view_is in (
      (λ is. sym c.self.view_is ∙ (ap marks_with (sym c.deref.ensures.value
          ∙ (c.same_entries.ensures.0 is ∙ c.deref-2.ensures.value)) ∙ c.other.view_is)),
      (λ e. c.same_entries.ensures.1 (c.deref.ensures.value
          ∙ (left ∙ (ap entries e ∙ (sym right ∙ sym c.deref-2.ensures.value))))),
    )
