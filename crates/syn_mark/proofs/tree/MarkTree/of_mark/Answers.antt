use Rattle.std.proofs.Common.{◌≡◌, [], ◌∷◌, ◌++◌, ap, ap₂, ◌∙◌}
use Rattle.syn_model.specs.Path.{root}
use Rattle.syn_model.specs.Tree.{at_root}
use Rattle.syn_mark.specs.Marks.{content_of}
use Rattle.syn_mark.proofs.MarkLemmas.{are_marks, marks_same, one_entries, one_marks, one_present}
use Rattle.syn_mark.proofs.MarkLemmas.{one_fits}
use Rattle.syn_mark.proofs.tree.MarkTree.of_mark.Goals as goal

pub invariant_of-result : goal.invariant_of-result
invariant_of-result c =
    let mark = content_of c.args.mark in
    let items : c.push.new.self.items ≡ (root, mark) ∷ [] = c.in_ok-push.ensures.items
    ∙ ap₂ (λ xs x. xs ++ x ∷ []) c.in_ok-list.ensures.items
    (c.new.ensures ∙ ap (λ p. (p, mark)) c.root.ensures) in
    are_marks (at_root mark) c.push.new.self.items (items ∙ one_entries mark) (one_present mark)
    (one_marks mark c.is_mark.ensures) (one_fits mark)

pub returns : goal.returns
returns c =
    let mark = content_of c.args.mark in
    let items : c.push.new.self.items ≡ (root, mark) ∷ [] = c.in_ok-push.ensures.items
    ∙ ap₂ (λ xs x. xs ++ x ∷ []) c.in_ok-list.ensures.items
    (c.new.ensures ∙ ap (λ p. (p, mark)) c.root.ensures) in
    marks_same (at_root mark) c.push.new.self.items (items ∙ one_entries mark)
