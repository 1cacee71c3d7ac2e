use Rattle.std.proofs.Common.{◌≡◌, ◌∷◌, sym, ap, ap₂, ◌∙◌, subst}
use Rattle.std.specs.FinMap.{entries}
use Rattle.syn_model.specs.Path.{root}
use Rattle.syn_model.specs.Tree.{is_present}
use Rattle.syn_model.specs.Mark.{IsMarks}
use Rattle.syn_model.specs.Limits.{fits_archive}
use Rattle.syn_tree.specs.Lists.{stripped}
use Rattle.syn_tree.proofs.StripLemmas.{stripped_part}
use Rattle.syn_mark.specs.Marks.{content_of}
use Rattle.syn_mark.proofs.MarkLemmas.{entries_are, are_marks, marks_same}
use Rattle.syn_mark.proofs.tree.MarkTree.copy.Goals as goal
use Rattle.syn_mark.proofs.tree.MarkTree.copy.Goals.{In_ok-list}
use Rattle.syn_model.proofs.TreeLemmas.{subtree-root}

copied : (c : In_ok-list) → c.in_ok-list.list.items ≡ entries c.args.self.now
copied c =
    let t = c.args.self.now in
    let all = entries_are c.self.inside.list.items t c.self.invariant c.self.view_is in
    c.in_ok-list.ensures ∙ (ap₂ (λ p es. (root, content_of c.root.result) ∷ stripped p es)
    c.root-2.ensures (c.deref.ensures.value ∙ all)
    ∙ (stripped_part t root (content_of c.root.result) c.root.ensures
    ∙ ap entries (subtree-root t)))

pub invariant_of-result : goal.invariant_of-result
invariant_of-result c =
    are_marks c.args.self.now c.in_ok-list.list.items
    (copied (goal.at.invariant_of-result c).In_ok-list)
    (ap (λ u. is_present u root) (sym c.self.view_is) ∙ c.self.invariant.present)
    (subst IsMarks c.self.view_is c.self.invariant.marks)
    (ap fits_archive (sym c.self.view_is) ∙ c.self.invariant.fits)

pub returns : goal.returns
returns c =
    marks_same c.args.self.now c.in_ok-list.list.items (copied (goal.at.returns c).In_ok-list)
