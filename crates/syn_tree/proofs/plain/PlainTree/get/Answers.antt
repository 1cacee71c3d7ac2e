use Rattle.std.proofs.Common.{sym, ap, ap₂, ◌∙◌}
use Rattle.std.specs.FinMap.{find, get}
use Rattle.syn_model.specs.Path.{path_cmp}
use Rattle.syn_placed.specs.Pairs.{rooted}
use Rattle.syn_placed.proofs.TreeLemmas.{get-with}
use Rattle.syn_tree.proofs.plain.PlainTree.get.Goals as goal

pub returns : goal.returns
returns c =
    c.find.ensures
    ∙ (ap₂ (λ q es. find path_cmp q (rooted es)) c.names.ensures.names c.deref.ensures.value
    ∙ (sym (get-with c.self.inside.list.items c.args.path.now c.self.invariant.rising)
    ∙ ap (λ t. get t c.args.path.now) c.self.view_is))
