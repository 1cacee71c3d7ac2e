use Rattle.std.proofs.Common.{◌≡◌, ◌==◌, ◌∷◌, ◌∙◌, [], ap, eqb-true, false, inl, inr, length, map}
use Rattle.std.proofs.Common.{refl, subst, sym}
use Rattle.std.proofs.lemmas.List.{nil_from_length}
use Rattle.std.proofs.lemmas.Result.{IfErr-weaker, IfOk-weaker}
use Rattle.syn_model.specs.Path.{Path, is_root, root}
use Rattle.syn_model.specs.Tree.{Tree, replace, subtree}
use Rattle.syn_model.proofs.TreeLemmas.{same_tree, subtree-root, within}
use Rattle.syn_tree.specs.Edits.{edit_of}
use Rattle.syn_tree.specs.Lists.{replace_refusal}
use Rattle.syn_tree.specs.Nodes.{part_of}
use Rattle.syn_tree.specs.Refusals.{refusal_of}
use Rattle.syn_change.specs.Changes.{AreChanges, IsNeeded, IsRefusedAmong}
use Rattle.syn_change.proofs.plan.changes_at.Goals as goal
use Rattle.syn_change.proofs.plan.changes_at.Goals.{After-changes, In_ok-part}
use Rattle.syn_model.proofs.PathLemmas.{not_root}

-- what is put at the root is all
whole : (tree part : Tree) (at : Path) → at ≡ [] → replace tree at part ≡ part
whole tree part at empty =
    ap (λ (p : Path). replace tree p part) empty
    ∙ same_tree (replace tree root part) part (λ q. within tree root part q q refl)

at_root : (c : After-changes) → c.args.path.now ≡ []
at_root c =
    sym c.names.ensures.names ∙ nil_from_length c.names.result.now
    (eqb-true _ _ (sym c.is_empty.ensures ∙ c.if-is_empty.true))

pub returns-then-is_empty-clause-changes : goal.returns-then-is_empty-clause-changes
returns-then-is_empty-clause-changes c =
    let old = c.args.old.now in
    let root = at_root (goal.at.returns-then-is_empty-clause-changes c).After-changes in
    IfOk-weaker c.changes.result _ _
    (λ edits are. subst (λ (t : Tree). AreChanges old t (map edit_of edits.items))
    (sym (whole old c.args.part.now c.args.path.now root)) are) c.changes.ensures.changes

pub returns-then-is_empty-clause-none : goal.returns-then-is_empty-clause-none
returns-then-is_empty-clause-none c same =
    let old = c.args.old.now in
    let root = at_root (goal.at.returns-then-is_empty-clause-none c).After-changes in
    c.changes.ensures.none (sym (subtree-root old)
    ∙ (sym (ap (λ (p : Path). subtree old p) root) ∙ same))

pub returns-then-is_empty-clause-refused : goal.returns-then-is_empty-clause-refused
returns-then-is_empty-clause-refused c =
    let old = c.args.old.now in
    let root = at_root (goal.at.returns-then-is_empty-clause-refused c).After-changes in
    IfErr-weaker c.changes.result _ _
    (λ e refused other. inr (subst
    (λ (t : Tree). IsRefusedAmong (IsNeeded old t) old (refusal_of e))
    (sym (whole old c.args.part.now c.args.path.now root)) (refused other)))
    c.changes.ensures.refused

part_is : (c : In_ok-part) → part_of c.in_ok-part.part ≡ c.args.part.now
part_is c =
    c.in_ok-part.ensures
    ∙ (ap (subtree c.args.part.now) c.root.ensures ∙ subtree-root c.args.part.now)

pub returns-clause-changes : goal.returns-clause-changes
returns-clause-changes c =
    let old = c.args.old.now in
    IfOk-weaker c.changes_with.result _ _
    (λ edits are. subst
    (λ (t : Tree). AreChanges old (replace old c.args.path.now t) (map edit_of edits.items))
    (part_is (goal.at.returns-clause-changes c).In_ok-part) are) c.changes_with.ensures.changes

pub returns-clause-none : goal.returns-clause-none
returns-clause-none c is =
    c.changes_with.ensures.none (is ∙ sym (part_is (goal.at.returns-clause-none c).In_ok-part))

pub returns-clause-refused : goal.returns-clause-refused
returns-clause-refused c =
    let old = c.args.old.now in
    let path = c.args.path.now in
    let same = part_is (goal.at.returns-clause-refused c).In_ok-part in
    let below : is_root path ≡ false =
    ap is_root (sym c.names.ensures.names)
    ∙ not_root c.names.result.now (sym c.is_empty.ensures ∙ c.if-is_empty.false) in
    IfErr-weaker c.changes_with.result _ _
    (λ e refused other. elim (refused other) [
      | inl place ↦ inl (below, ap (λ (t : Tree). replace_refusal old path t) (sym same) ∙ place)
      | inr among ↦ inr (subst (λ (t : Tree).
          IsRefusedAmong (IsNeeded old (replace old path t)) old (refusal_of e)) same among)
    ]) c.changes_with.ensures.refused
