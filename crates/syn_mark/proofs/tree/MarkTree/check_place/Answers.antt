use Rattle.std.proofs.Common.{◌≡◌, ◌≤◌, ◌-◌, sym, ap, ap₂, ◌∙◌, subst, length, Some}
use Rattle.std.proofs.Common.{None, if◌then◌else◌, arith}
use Rattle.std.specs.FinMap.{find, get}
use Rattle.syn_model.specs.Path.{path_cmp, parent}
use Rattle.syn_model.specs.Tree.{is_directory_content}
use Rattle.syn_model.specs.Refusal.{NoParent, first_cause}
use Rattle.syn_model.specs.Standing.{place_causes}
use Rattle.syn_placed.proofs.ParentLemmas.{parent-take, not_root, place_answer}
use Rattle.syn_mark.proofs.MarkLemmas.{get_of}
use Rattle.syn_mark.proofs.tree.MarkTree.check_place.Goals as goal
use Rattle.syn_mark.proofs.tree.MarkTree.check_place.Goals.{After-stands_directory}

answer : (c : After-stands_directory) → first_cause (place_causes c.args.self.now c.args.path.now)
    ≡ (if c.stands_directory.result then None else Some NoParent)
answer c =
    let at = c.args.path.now in
    let names = c.names.result.now in
    let ds = c.self.inside.list.items in
    let above = parent-take names (length names - 1) (omega (arith, c.in-len1-up.len_at_least))
    ∙ ap parent c.names.ensures.names in
    let shown = c.stands_directory.ensures ∙ ap is_directory_content
    (ap₂ (λ p xs. find path_cmp p xs) above c.deref.ensures.value
    ∙ (sym (get_of ds (parent at) c.self.invariant)
    ∙ ap (λ u. get u (parent at)) c.self.view_is)) in
    place_answer c.args.self.now at
    (not_root at (subst (λ q. 1 ≤ length q) c.names.ensures.names c.in-len1-up.len_at_least))
    ∙ ap (λ b. if b then None else Some NoParent) (sym shown)

pub returns-then-stands_directory : goal.returns-then-stands_directory
returns-then-stands_directory c =
    sym (answer (goal.at.returns-then-stands_directory c).After-stands_directory
    ∙ ap (λ b. if b then None else Some NoParent) c.if-stands_directory.true)

pub returns-else-stands_directory : goal.returns-else-stands_directory
returns-else-stands_directory c =
    sym (answer (goal.at.returns-else-stands_directory c).After-stands_directory
    ∙ ap (λ b. if b then None else Some NoParent) c.if-stands_directory.false)
