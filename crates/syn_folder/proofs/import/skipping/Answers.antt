use Rattle.std.proofs.Common.{◌∙◌, ap₂}
use Rattle.syn_model.specs.Tree.{subtree}
use Rattle.syn_model.proofs.TreeLemmas.{subtree-root}
use Rattle.syn_folder.proofs.import.skipping.Goals as goal

pub loop-stranger-init : goal.loop-stranger-init
loop-stranger-init g c =
    c.in_ok-tree.ensures.part ∙ (ap₂ subtree c.tree.ensures c.root.ensures
    ∙ subtree-root (g.F.Folder.tree c.args.folder.now))
