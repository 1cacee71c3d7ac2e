use Rattle.std.proofs.Common.{map, sym, ap, ◌∙◌, subst}
use Rattle.std.proofs.lemmas.Result.{err_from_is_err_and}
use Rattle.std.specs.List.{AllByRecursion, IsDistinct}
use Rattle.syn_model.specs.Tree.{Tree}
use Rattle.syn_tree.specs.Edits.{edit_of}
use Rattle.syn_tree.specs.Refusals.{refusal_of}
use Rattle.syn_change.specs.Changes.{IsAddition, IsOverlaid, IsRefusedAmong, after_edits, are_alike}
use Rattle.syn_change.proofs.NeedLemmas.{added_all}
use Rattle.syn_change.proofs.plan.puts.Goals as goal

pub returns-clause-made : goal.returns-clause-made
returns-clause-made c =
    let old = c.args.old.now in
    let added = c.args.added.now in
    let work = c.in_ok-work.work in
    let on = c.in_ok-put_all.ensures.edits in
    let all = added_all (IsAddition work added) work c.new-edits.result.items c.put_all.new.work
    c.put_all.new.edits.items c.new-edits.ensures.items on in
    subst (λ (t : Tree). IsOverlaid t added
    (after_edits t (map edit_of c.put_all.new.edits.items))) c.in_ok-work.ensures.ok
    (subst (λ (t : Tree). IsOverlaid work added t) (sym (ap (after_edits work) (sym all) ∙ on.make))
    c.in_ok-put_all.ensures.overlaid)

pub returns-clause-needed : goal.returns-clause-needed
returns-clause-needed c =
    let added = c.args.added.now in
    let work = c.in_ok-work.work in
    let on = c.in_ok-put_all.ensures.edits in
    let all = added_all (IsAddition work added) work c.new-edits.result.items c.put_all.new.work
    c.put_all.new.edits.items c.new-edits.ensures.items on in
    subst (λ (t : Tree). AllByRecursion (IsAddition t added)
    (map edit_of c.put_all.new.edits.items)) c.in_ok-work.ensures.ok
    (subst (AllByRecursion (IsAddition work added)) all on.each)

pub returns-clause-once : goal.returns-clause-once
returns-clause-once c =
    let added = c.args.added.now in
    let work = c.in_ok-work.work in
    let on = c.in_ok-put_all.ensures.edits in
    let all = added_all (IsAddition work added) work c.new-edits.result.items c.put_all.new.work
    c.put_all.new.edits.items c.new-edits.ensures.items on in
    subst (IsDistinct are_alike) all on.once

pub returns-in_err-put_all-clause-refused : goal.returns-in_err-put_all-clause-refused
returns-in_err-put_all-clause-refused c =
    let p = err_from_is_err_and c.from_residual-in_err-put_all.result
    c.from_residual-in_err-put_all.ensures.1 in
    let added = c.args.added.now in
    rw (p.1, p.2) (λ other. subst (λ (t : Tree). IsRefusedAmong (IsAddition t added) t
    (refusal_of c.in_err-put_all.field-0.0)) c.in_ok-work.ensures.ok
    (c.in_err-put_all.ensures.refused other))
