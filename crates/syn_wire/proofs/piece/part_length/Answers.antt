use Rattle.std.proofs.Common.{◌≡◌, length, None, is_some, sym, ap, ◌∙◌, append-nil}
use Rattle.std.specs.Prelude.{option_map}
use Rattle.std.specs.FinMap.{get}
use Rattle.syn_model.specs.Path.{root}
use Rattle.syn_model.specs.Spelling.{spelling}
use Rattle.syn_model.specs.Tree.{subtree}
use Rattle.syn_model.specs.Version.{current_version}
use Rattle.syn_model.proofs.TreeLemmas.{get-subtree}
use Rattle.syn_tree.specs.Contents.{found_content}
use Rattle.syn_tree.proofs.PartLemmas.{subtree-parents}
use Rattle.syn_tree.proofs.StripLemmas.{subtree_none}
use Rattle.syn_wire.proofs.NodeLemmas.{absent_spelled}
use Rattle.syn_wire.proofs.WalkLemmas.{spelling_measured}
use Rattle.syn_wire.proofs.piece.part_length.Goals as goal

pub returns-in-Some-clause-length : goal.returns-in-Some-clause-length
returns-in-Some-clause-length c =
    let t = c.args.tree.now in
    let at = c.args.path.now in
    let there = get-subtree t at root ∙ (ap (get t) (append-nil at) ∙ (sym c.get.ensures
    ∙ ap (option_map (λ found. found_content found)) c.in-Some.is)) in
    c.part_length.ensures.length ∙ sym (spelling_measured (subtree t at)
    (subtree-parents t at c.entries-whole.ensures.tree.part.parents) (ap is_some there))

pub returns-in-None-clause-length : goal.returns-in-None-clause-length
returns-in-None-clause-length c =
    let t = c.args.tree.now in
    let at = c.args.path.now in
    let none : get t at ≡ None = sym c.get.ensures
    ∙ ap (option_map (λ found. found_content found)) c.in-None.is in
    sym (ap length (absent_spelled current_version)) ∙ ap (λ s. length (spelling s))
    (subtree_none t at c.entries-whole.ensures.tree.part.parents none)
