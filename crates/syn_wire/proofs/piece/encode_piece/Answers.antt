use Rattle.std.proofs.Common.{◌≡◌, ◌∷◌, [], take, drop, None, sym, ap, ◌∙◌}
use Rattle.std.specs.Prelude.{option_map}
use Rattle.std.specs.FinMap.{get}
use Rattle.syn_model.specs.Path.{Bytes}
use Rattle.syn_model.specs.Spelling.{spelling}
use Rattle.syn_model.specs.Tree.{subtree}
use Rattle.syn_model.specs.Version.{current_version}
use Rattle.syn_tree.specs.Contents.{found_content}
use Rattle.syn_tree.proofs.StripLemmas.{subtree_none}
use Rattle.syn_wire.proofs.NodeLemmas.{absent_spelled}
use Rattle.syn_wire.proofs.piece.encode_piece.Goals as goal
use Rattle.syn_wire.proofs.piece.encode_piece.Goals.{in-Some+in_ok-push_part-in-Some}
use Rattle.syn_wire.proofs.piece.encode_piece.Goals.{in-None+in_ok-push-in-None}

pub returns : goal.returns
returns c =
    let t = c.args.tree.now in
    let at = c.args.path.now in
    let offset = c.args.offset in
    elim c.match-get.branch [
      | in-Some+in_ok-push_part-in-Some w ↦
          rw w.window-is (w.in_ok-push_part-in-Some.ensures offset [] c.new-window.ensures).piece
      | in-None+in_ok-push-in-None w ↦
          let none : get t at ≡ None = sym c.get.ensures
          ∙ ap (option_map (λ found. found_content found)) w.in-None.is in
          let spelled : 0 ∷ [] ≡ spelling (subtree t at) = sym (absent_spelled current_version)
          ∙ ap spelling (subtree_none t at c.entries-whole.ensures.tree.part.parents none) in
          rw w.window-is ((w.in_ok-push-in-None.ensures offset [] c.new-window.ensures).piece
          ∙ ap (λ (bytes : Bytes). take 32768 (drop offset bytes)) spelled)
    ]
