use Rattle.std.proofs.Common.{length, ap, ◌∙◌, arith}
use Rattle.std.specs.FinMap.{len, len-entries}
use Rattle.syn_placed.proofs.TreeLemmas.{entries-with}
use Rattle.syn_tree.proofs.tree.Tree.node_count.Goals as goal

pub returns : goal.returns
returns c =
    let ds = c.self.inside.list.items in
    let size = len-entries _ ∙ ap length (entries-with ds c.self.invariant.rising) in
    let same = ap len c.self.view_is in
    omega (arith, size, same, c.len.ensures, c.self.inside.list.ok)
