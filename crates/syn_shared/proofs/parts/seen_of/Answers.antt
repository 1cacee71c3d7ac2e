use Rattle.std.proofs.Common.{◌∙◌, ap}
use Rattle.syn_model.proofs.TreeLemmas.{subtree-root}
use Rattle.syn_model.specs.Path.{Path}
use Rattle.syn_model.specs.Tree.{subtree}
use Rattle.syn_shared.proofs.parts.seen_of.Goals as goal

pub returns : goal.returns
returns g c = record {
  pair = c.pair.ensures;
  position = c.position.ensures;
  tree =
      c.in_ok-tree.ensures.part
      ∙ (ap (λ (p : Path). subtree c.tree.result.now p) c.root.ensures
      ∙ (subtree-root c.tree.result.now ∙ c.tree.ensures));
}
