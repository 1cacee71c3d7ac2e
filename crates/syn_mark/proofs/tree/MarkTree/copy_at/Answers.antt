use Rattle.std.proofs.Common.{◌≡◌, ◌∷◌, Some, None, sym, ap, ap₂, ◌∙◌, subst}
use Rattle.std.specs.FinMap.{entries, get}
use Rattle.std.specs.Prelude.{option_map}
use Rattle.syn_model.specs.Path.{root}
use Rattle.syn_model.specs.Tree.{subtree}
use Rattle.syn_model.specs.Mark.{IsMarks}
use Rattle.syn_model.specs.Limits.{fits_archive}
use Rattle.syn_placed.specs.Pairs.{within}
use Rattle.syn_tree.specs.Lists.{stripped}
use Rattle.syn_tree.proofs.WithinLemmas.{stripped-within}
use Rattle.syn_tree.proofs.StripLemmas.{stripped_part, subtree_none}
use Rattle.syn_mark.specs.Marks.{content_of}
use Rattle.syn_mark.proofs.MarkLemmas.{entries_are, are_marks, marks_same, part_marks, part_fits}
use Rattle.syn_mark.proofs.MarkLemmas.{part_present}
use Rattle.syn_mark.proofs.tree.MarkTree.copy_at.Goals as goal

pub returns-in_default-clause-ok : goal.returns-in_default-clause-ok
returns-in_default-clause-ok c =
    let t = c.args.self.now in
    let none : get t c.args.path.now ≡ None = sym c.get.ensures
    ∙ ap (option_map (λ m. content_of m)) c.in_default.is in
    subtree_none t c.args.path.now
    (subst IsMarks c.self.view_is c.self.invariant.marks).part.parents none

copied : (c : goal.In_ok-list) →
    c.in_ok-list.list.items ≡ entries (subtree c.args.self.now c.args.path.now)
copied c =
    let t = c.args.self.now in
    let at = c.args.path.now in
    let ds = c.self.inside.list.items in
    let mark = content_of c.in-Some.mark in
    let here : get t at ≡ Some mark = sym c.get.ensures
    ∙ ap (option_map (λ m. content_of m)) c.in-Some.is in
    let all = entries_are ds t c.self.invariant c.self.view_is in
    let part = c.part_at-part.ensures ∙ ap₂ within c.names.ensures.names c.deref.ensures.value in
    c.in_ok-list.ensures ∙ (ap (λ es. (root, mark) ∷ es) (ap (stripped at) part
    ∙ (stripped-within at ds ∙ ap (stripped at) all)) ∙ stripped_part t at mark here)

pub invariant_of-result : goal.invariant_of-result
invariant_of-result c =
    let t = c.args.self.now in
    let at = c.args.path.now in
    let mark = content_of c.in-Some.mark in
    let here : get t at ≡ Some mark = sym c.get.ensures
    ∙ ap (option_map (λ m. content_of m)) c.in-Some.is in
    are_marks (subtree t at) c.in_ok-list.list.items (copied c) (part_present t at mark here)
    (part_marks t at (subst IsMarks c.self.view_is c.self.invariant.marks))
    (part_fits t at (ap fits_archive (sym c.self.view_is) ∙ c.self.invariant.fits))

pub returns-clause-ok : goal.returns-clause-ok
returns-clause-ok c =
    marks_same (subtree c.args.self.now c.args.path.now) c.in_ok-list.list.items (copied c)
