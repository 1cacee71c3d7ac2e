use Rattle.std.proofs.Common.{not, Some, None, if◌then◌else◌, sym, ap, ◌∙◌}
use Rattle.syn_model.specs.Refusal.{Full}
use Rattle.syn_tree.specs.Contents.{found_content}
use Rattle.syn_tree.specs.Refusals.{refusal_in}
use Rattle.syn_tree.proofs.CheckLemmas.{remove_answer, rest_fits, found_present}
use Rattle.syn_tree.proofs.checking.check_remove.Goals as goal

pub returns : goal.returns
returns g c =
    let t = g.T.Limited.tree c.args.tree.now in
    let p = c.args.path.now in
    let place = sym c.check_place.ensures ∙ ap refusal_in c.in_ok-check_place.was in
    let there = sym (found_present (λ found. found_content found) t p c.get.result c.get.ensures)
    ∙ (c.is_none.ensures ∙ ap not c.if-is_none.false) in
    sym (remove_answer t p place there
    ∙ ap (λ b. if not b then Some Full else None) (rest_fits t p c.limits.ensures place))
