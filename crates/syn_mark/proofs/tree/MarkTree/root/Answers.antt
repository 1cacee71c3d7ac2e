use Rattle.std.proofs.Common.{Some, is_some, sym, ap, ◌∙◌, true≢false}
use Rattle.std.specs.FinMap.{find, get}
use Rattle.syn_model.specs.Path.{path_cmp, root}
use Rattle.syn_mark.proofs.MarkLemmas.{get_of}
use Rattle.syn_mark.proofs.tree.MarkTree.root.Goals as goal

pub returns-in-Some : goal.returns-in-Some
returns-in-Some c =
    ap (λ t. get t root) (sym c.self.view_is)
    ∙ (get_of c.self.inside.list.items root c.self.invariant
    ∙ (ap (find path_cmp root) (sym c.deref.ensures.value)
    ∙ (sym c.in-Some.ensures ∙ ap (λ x. Some x) (sym c.content.ensures))))

pub returns-in-None : goal.returns-in-None
returns-in-None c =
    absurd (true≢false (sym c.self.invariant.present
    ∙ ap is_some (get_of c.self.inside.list.items root c.self.invariant
    ∙ (ap (find path_cmp root) (sym c.deref.ensures.value) ∙ sym c.in-None.ensures))))
