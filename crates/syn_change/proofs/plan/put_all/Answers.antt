use Rattle.std.proofs.lemmas.Result.{err_from_is_err_and, on_ok_weaker}
use Rattle.syn_tree.specs.Refusals.{refusal_of}
use Rattle.syn_change.specs.Changes.{IsAddition}
use Rattle.syn_change.specs.inner.Shorter.{Shortens}
use Rattle.syn_change.proofs.GoingLemmas.{goes_twice, refused_after, refused_weaker}
use Rattle.syn_change.proofs.ShorterLemmas.{added_before, overlaid_before, shortens_adds}
use Rattle.syn_change.proofs.ShorterLemmas.{shorter_first, shortens_apart}
use Rattle.syn_change.proofs.plan.put_all.Goals as goal

pub returns-clause-overlaid : goal.returns-clause-overlaid
returns-clause-overlaid c =
    on_ok_weaker c.put_missing.result
    (λ over. overlaid_before c.args.work.now c.args.added.now c.put_shorter.new.work
    c.in_ok-put_shorter.ensures.shortened c.put_missing.new.work over)
    c.put_missing.ensures.overlaid

pub returns-clause-edits : goal.returns-clause-edits
returns-clause-edits c =
    let old = c.args.work.now in
    let added = c.args.added.now in
    let work = c.put_shorter.new.work in
    let first = c.in_ok-put_shorter.ensures in
    on_ok_weaker c.put_missing.result
    (λ on. goes_twice (Shortens old added) (IsAddition work added) (IsAddition old added) old work
    c.put_missing.new.work c.args.edits.now.items c.put_shorter.new.edits.items
    c.put_missing.new.edits.items (shortens_adds old added)
    (added_before old added work first.shortened) (shortens_apart old added work first.shortened)
    first.edits on) c.put_missing.ensures.edits

pub returns-clause-first : goal.returns-clause-first
returns-clause-first c =
    let first = c.in_ok-put_shorter.ensures in
    on_ok_weaker c.put_missing.result
    (λ on. shorter_first c.args.work.now c.args.added.now c.put_shorter.new.work first.shortened
    c.put_missing.new.work c.args.edits.now.items c.put_shorter.new.edits.items
    c.put_missing.new.edits.items first.edits on) c.put_missing.ensures.edits

pub returns-clause-refused : goal.returns-clause-refused
returns-clause-refused c =
    let old = c.args.work.now in
    let added = c.args.added.now in
    let work = c.put_shorter.new.work in
    let first = c.in_ok-put_shorter.ensures in
    refused_after (Shortens old added) (IsAddition work added) (IsAddition old added) old work
    c.args.edits.now.items c.put_shorter.new.edits.items c.put_missing.result
    (shortens_adds old added) (added_before old added work first.shortened) first.edits
    c.put_missing.ensures.refused

pub returns-in_err-put_shorter-clause-refused : goal.returns-in_err-put_shorter-clause-refused
returns-in_err-put_shorter-clause-refused c =
    let p = err_from_is_err_and c.from_residual.result
    c.from_residual.ensures.1 in
    let old = c.args.work.now in
    let added = c.args.added.now in
    rw (p.1, p.2) (λ other. refused_weaker (Shortens old added) (IsAddition old added) old
    (refusal_of c.in_err-put_shorter.field-0.0) (shortens_adds old added)
    (c.in_err-put_shorter.ensures.refused other))
