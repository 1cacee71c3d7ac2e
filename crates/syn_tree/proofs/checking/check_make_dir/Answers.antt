use Rattle.std.proofs.Common.{◌+◌, refl, sym, ap, ◌∙◌, subst}
use Rattle.syn_model.specs.Tree.{Directory, at_root}
use Rattle.syn_model.specs.Path.{IsPath}
use Rattle.syn_model.specs.Limits.{last_name_spelling_length}
use Rattle.syn_tree.specs.Contents.{found_content}
use Rattle.syn_tree.specs.Refusals.{refusal_in}
use Rattle.syn_tree.proofs.CheckLemmas.{make_answer, measured_one, found_present}
use Rattle.syn_tree.proofs.checking.check_make_dir.Goals as goal

pub returns : goal.returns
returns g c =
    let t = g.T.Limited.tree c.args.tree.now in
    let p = c.args.path.now in
    let place = sym c.check_place.ensures ∙ ap refusal_in c.in_ok-check_place.was in
    let none = sym (found_present (λ found. found_content found) t p c.get.result c.get.ensures)
    ∙ (sym c.is_some.ensures ∙ c.if-is_some.false) in
    let one = measured_one p Directory (c.name_spelled.result + 3)
    (subst IsPath c.key.ensures c.name_spelled.ensures.lawful) refl
    (ap (λ n. n + 3) (c.name_spelled.ensures.length
    ∙ ap last_name_spelling_length c.key.ensures)) in
    c.check_fits.ensures (at_root Directory) one ∙ sym (make_answer t p place none)
