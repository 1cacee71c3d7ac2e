use Rattle.std.proofs.Common.{◌≡◌, sym, ap, ◌∙◌}
use Rattle.syn_model.specs.Mark.{mark, mark_of}
use Rattle.syn_model.specs.Contents.{contents_with}
use Rattle.syn_model.specs.Tree.{File, at_root}
use Rattle.syn_tree.specs.Modes.{mode_of}
use Rattle.syn_tree.specs.Nodes.{node_tree}
use Rattle.syn_mark.specs.Marks.{content_of}
use Rattle.syn_mark.proofs.MarkLemmas.{mark_one}
use Rattle.syn_mark.proofs.marking.mark_of.Goals as goal

pub returns-in_ok-of_mark-in-File-clause-ok : goal.returns-in_ok-of_mark-in-File-clause-ok
returns-in_ok-of_mark-in-File-clause-ok c =
    let mode = mode_of c.in-File.mode in
    let bytes = c.in-File.bytes.items in
    let same : at_root (content_of c.of_file.result) ≡ mark (node_tree c.args.node.now) =
    ap at_root (c.of_file.ensures
    ∙ ap (λ bs. mark_of (File (contents_with mode bs))) c.deref.ensures.value)
    ∙ (mark_one (File (contents_with mode bytes))
    ∙ ap (λ n. mark (node_tree n)) (sym c.in-File.is)) in
    c.in_ok-of_mark-in-File.ensures ∙ same
