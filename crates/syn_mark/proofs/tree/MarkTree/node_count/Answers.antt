use Rattle.std.proofs.Common.{length, ap, ◌∙◌, arith}
use Rattle.std.specs.FinMap.{len, len-entries}
use Rattle.syn_mark.specs.Marks.{marks_with}
use Rattle.syn_mark.proofs.MarkLemmas.{entries_of}
use Rattle.syn_mark.proofs.tree.MarkTree.node_count.Goals as goal

pub returns : goal.returns
returns c =
    let ds = c.self.inside.list.items in
    let count = len-entries (marks_with ds) ∙ ap length (entries_of ds c.self.invariant) in
    omega (arith, c.len.ensures, c.self.inside.list.ok, count, ap len c.self.view_is)
