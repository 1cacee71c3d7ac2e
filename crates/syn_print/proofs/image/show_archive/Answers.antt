use Rattle.std.proofs.Common.{◌≡◌, ◌∙◌, [], ap, ap₂, subst, filter}
use Rattle.std.proofs.lemmas.Result.{on_ok_weaker}
use Rattle.std.specs.FinMap.{entries}
use Rattle.std.specs.Io.KnownBytes.{Appends}
use Rattle.syn_archive.specs.Archive.{pair_of, session_shown, marks_shown}
use Rattle.syn_model.specs.Tree.{Tree}
use Rattle.syn_placed.specs.Pairs.{is_below}
use Rattle.syn_print.specs.Images.{archive_line, lines_of_marks}
use Rattle.std.proofs.KnownBytes.{Appends-trans}
use Rattle.syn_print.proofs.image.show_archive.Goals as goal

pub returns : goal.returns
returns g c =
    let archive = c.args.archive.now in
    let line = archive_line (pair_of archive) (session_shown archive) in
    let marks = lines_of_marks (filter (is_below []) (entries (marks_shown archive))) in
    let old = g.W.Write.contents c.args.output.now in
    let middle = g.W.Write.contents c.write_all.new.self in
    let new = g.W.Write.contents c.show_marks.new.output in
    let first : c.as_bytes.result.now ≡ line =
    c.as_bytes.ensures.value
    ∙ (c.in_ok-line.ensures ∙ ap₂ archive_line c.pair.ensures c.last_session.ensures) in
    let lines : lines_of_marks c.below-2.result.now ≡ marks =
    ap lines_of_marks (c.below-2.ensures
    ∙ ap₂ (λ at (tree : Tree). filter (is_below at) (entries tree))
    c.root.ensures c.tree.ensures) in
    on_ok_weaker c.show_marks.result (λ shown.
    Appends-trans old middle new line marks
    (subst (λ xs. Appends old middle xs) first c.in_ok-write_all.ensures.bytes)
    (subst (λ xs. Appends middle new xs) lines shown)) c.show_marks.ensures
