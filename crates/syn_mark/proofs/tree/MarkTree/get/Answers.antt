use Rattle.std.proofs.Common.{sym, ap, ap₂, ◌∙◌, Some}
use Rattle.std.specs.FinMap.{find, get}
use Rattle.syn_model.specs.Path.{path_cmp}
use Rattle.syn_mark.proofs.MarkLemmas.{get_of}
use Rattle.syn_mark.proofs.tree.MarkTree.get.Goals as goal

pub returns-in-Some : goal.returns-in-Some
returns-in-Some c =
    ap (λ x. Some x) c.content.ensures ∙ (c.in-Some.ensures
    ∙ (ap₂ (λ q es. find path_cmp q es) c.names.ensures.names c.deref.ensures.value
    ∙ (sym (get_of c.self.inside.list.items c.args.path.now c.self.invariant)
    ∙ ap (λ t. get t c.args.path.now) c.self.view_is)))

pub returns-in-None : goal.returns-in-None
returns-in-None c =
    c.in-None.ensures
    ∙ (ap₂ (λ q es. find path_cmp q es) c.names.ensures.names c.deref.ensures.value
    ∙ (sym (get_of c.self.inside.list.items c.args.path.now c.self.invariant)
    ∙ ap (λ t. get t c.args.path.now) c.self.view_is))
