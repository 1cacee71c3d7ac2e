use Rattle.std.proofs.Common.{map, ◌∙◌, subst}
use Rattle.std.proofs.lemmas.Result.{err_from_is_err_and}
use Rattle.syn_tree.specs.Edits.{edit_of}
use Rattle.syn_tree.specs.Refusals.{refusal_of}
use Rattle.syn_change.specs.Changes.{AreChanges, IsAddition, IsNeeded, IsRemoval, IsRefusedAmong}
use Rattle.syn_change.proofs.GoingLemmas.{goes_twice, refused_later}
use Rattle.syn_change.proofs.NeedLemmas.{changes_of, kinds_apart, needed_before, none_needed}
use Rattle.syn_change.proofs.RemovalLemmas.{is_wanted}
use Rattle.syn_change.proofs.plan.changes.Goals as goal
use Rattle.syn_change.proofs.plan.changes.Goals.{In_ok-put_all}

made : (c : In_ok-put_all) →
    AreChanges c.in_ok-work.work c.args.wanted.now (map edit_of c.put_all.new.edits.items)
made c =
    let wanted = c.args.wanted.now in
    let start = c.in_ok-work.work in
    let work = c.remove_extra.new.work in
    let new = c.put_all.new.work in
    let none = c.new-edits.result.items in
    let removed = c.in_ok-remove_extra.ensures in
    let put = c.in_ok-put_all.ensures in
    changes_of start wanted new none c.put_all.new.edits.items c.new-edits.ensures.items
    (is_wanted work wanted new removed.trimmed put.overlaid)
    (goes_twice (IsRemoval start wanted) (IsAddition work wanted) (IsNeeded start wanted) start work
    new none c.remove_extra.new.edits.items c.put_all.new.edits.items (λ e is. is.0)
    (needed_before start wanted work removed.less) (λ x y is other. kinds_apart x y is.1 other.1)
    removed.edits put.edits)

pub returns-clause-changes : goal.returns-clause-changes
returns-clause-changes c =
    subst (λ t. AreChanges t c.args.wanted.now (map edit_of c.put_all.new.edits.items))
    c.in_ok-work.ensures.ok (made (goal.at.returns-clause-changes c).In_ok-put_all)

pub returns-clause-none : goal.returns-clause-none
returns-clause-none c same =
    none_needed c.in_ok-work.work c.args.wanted.now c.put_all.new.edits.items
    (c.in_ok-work.ensures.ok ∙ same) (made (goal.at.returns-clause-none c).In_ok-put_all)

pub returns-in_err-put_all-clause-refused : goal.returns-in_err-put_all-clause-refused
returns-in_err-put_all-clause-refused c =
    let p = err_from_is_err_and c.from_residual-in_err-put_all.result
    c.from_residual-in_err-put_all.ensures.1 in
    let wanted = c.args.wanted.now in
    let start = c.in_ok-work.work in
    let work = c.remove_extra.new.work in
    let removed = c.in_ok-remove_extra.ensures in
    let refusal = refusal_of c.in_err-put_all.field-0.0 in
    rw (p.1, p.2) (λ other. subst (λ t. IsRefusedAmong (IsNeeded t wanted) t refusal)
    c.in_ok-work.ensures.ok (refused_later (IsRemoval start wanted) (IsAddition work wanted)
    (IsNeeded start wanted) start work c.new-edits.result.items c.remove_extra.new.edits.items
    refusal (λ e is. is.0) (needed_before start wanted work removed.less) removed.edits
    (c.in_err-put_all.ensures.refused other)))
