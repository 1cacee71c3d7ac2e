use Rattle.std.proofs.Common.{◌≡◌, ◌∙◌, ap, inl, inr, map, subst, sym}
use Rattle.std.proofs.lemmas.Result.{IfErr-weaker, IfOk-weaker, err_from_is_err_and}
use Rattle.syn_model.specs.Tree.{Tree, replace}
use Rattle.syn_model.proofs.TreeLemmas.{replace-subtree}
use Rattle.syn_tree.specs.Edits.{edit_of}
use Rattle.syn_tree.specs.Lists.{replace_refusal}
use Rattle.syn_tree.specs.Nodes.{part_of}
use Rattle.syn_tree.specs.Refusals.{refusal_of}
use Rattle.syn_change.specs.Changes.{AreChanges, IsNeeded, IsRefusedAmong}
use Rattle.syn_change.proofs.plan.changes_with.Goals as goal
use Rattle.syn_change.proofs.plan.changes_with.Goals.{In_ok-replace}

wanted : (c : In_ok-replace) →
    c.replace.new.self ≡ replace c.args.old.now c.args.path.now (part_of c.args.new)
wanted c =
    c.in_ok-replace.ensures.done
    ∙ ap (λ (t : Tree). replace t c.args.path.now (part_of c.args.new)) c.in_ok-wanted.ensures.ok

pub returns-clause-changes : goal.returns-clause-changes
returns-clause-changes c =
    IfOk-weaker c.changes.result _ _
    (λ edits are. subst (λ (t : Tree). AreChanges c.args.old.now t (map edit_of edits.items))
    (wanted (goal.at.returns-clause-changes c).In_ok-replace) are) c.changes.ensures.changes

pub returns-clause-none : goal.returns-clause-none
returns-clause-none c same =
    let old = c.args.old.now in
    let path = c.args.path.now in
    c.changes.ensures.none (sym (replace-subtree old path)
    ∙ (ap (replace old path) same ∙ sym (wanted (goal.at.returns-clause-none c).In_ok-replace)))

pub returns-clause-refused : goal.returns-clause-refused
returns-clause-refused c =
    let old = c.args.old.now in
    IfErr-weaker c.changes.result _ _
    (λ e refused other. inr (subst
    (λ (t : Tree). IsRefusedAmong (IsNeeded old t) old (refusal_of e))
    (wanted (goal.at.returns-clause-refused c).In_ok-replace) (refused other)))
    c.changes.ensures.refused

pub returns-in_err-replace-clause-refused : goal.returns-in_err-replace-clause-refused
returns-in_err-replace-clause-refused c =
    let p = err_from_is_err_and c.from_residual-in_err-replace.result
    c.from_residual-in_err-replace.ensures.1 in
    let old = c.args.old.now in
    let path = c.args.path.now in
    let part = part_of c.args.new in
    let alike = ap (λ (t : Tree). replace_refusal t path part) c.in_ok-wanted.ensures.ok in
    rw (p.1, p.2) (λ other. inl (sym alike ∙ c.in_err-replace.ensures.refused other))
