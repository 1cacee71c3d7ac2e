use Rattle.std.proofs.Common.{◌≡◌, ◌∙◌, false, IsSome, Some, sym, ap, is_some}
use Rattle.std.specs.FinMap.{get}
use Rattle.std.proofs.lemmas.Result.{IfErr-weaker, on_ok_weaker}
use Rattle.syn_model.specs.Event.{Remove}
use Rattle.syn_model.specs.Path.{is_root, parent}
use Rattle.syn_model.specs.Standing.{edit_refusal}
use Rattle.syn_model.specs.Tree.{Directory, absent, replace}
use Rattle.syn_change.specs.Changes.{Removes, can_stay}
use Rattle.syn_change.proofs.GoingLemmas.{goes_as, goes_nowhere}
use Rattle.syn_change.proofs.RemovalLemmas.{only_memory, removable, removed, stands_below}
use Rattle.syn_change.proofs.removals.remove_entry.Goals as goal
use Rattle.syn_change.proofs.removals.remove_entry.Goals.{In_ok-copy}

pub returns-in_default-clause-edits : goal.returns-in_default-clause-edits
returns-in_default-clause-edits c =
    goes_nowhere (Removes c.args.work.now c.args.wanted.now c.args.path.now) c.args.work.now
    c.args.edits.now.items

pub returns-then-is_wanted-clause-edits : goal.returns-then-is_wanted-clause-edits
returns-then-is_wanted-clause-edits c =
    goes_nowhere (Removes c.args.work.now c.args.wanted.now c.args.path.now) c.args.work.now
    c.args.edits.now.items

gone : (c : In_ok-copy) → can_stay (get c.args.work.now c.args.path.now)
    (get c.args.wanted.now c.args.path.now) ≡ false
gone c =
    ap (λ o. can_stay o (get c.args.wanted.now c.args.path.now)) (sym c.in-Some.ensures)
    ∙ (sym c.is_wanted.ensures ∙ c.if-is_wanted.false)

there : (c : In_ok-copy) → IsSome (get c.args.work.now c.args.path.now)
there c = ap is_some (sym c.in-Some.ensures)

below : (c : In_ok-copy) → (is_root c.args.path.now ≡ false)
    × (get c.args.work.now (parent c.args.path.now) ≡ Some Directory)
below c =
    stands_below c.args.work.now c.args.wanted.now c.args.path.now c.entries.ensures.tree
    c.entries-2.ensures.tree (there c) (gone c)

pub returns-clause-without : goal.returns-clause-without
returns-clause-without c =
    let t = c.args.work.now in
    on_ok_weaker c.make.result
    (λ made. removed t c.args.wanted.now c.args.path.now c.make.new.work
    c.entries.ensures.tree.part.parents c.entries-2.ensures.tree.part.parents
    (gone (goal.at.returns-clause-without c).In_ok-copy)
    (made ∙ ap (λ p. replace t p absent) c.in_ok-copy.ensures)) c.make.ensures.done

pub returns-clause-edits : goal.returns-clause-edits
returns-clause-edits c =
    let t = c.args.work.now in
    let k = (goal.at.returns-clause-edits c).In_ok-copy in
    on_ok_weaker c.make.result
    (λ on. goes_as (Removes t c.args.wanted.now c.args.path.now) t c.args.edits.now.items
    c.make.new.work c.make.new.edits.items (Remove c.in_ok-copy.field-0)
    (ap Remove c.in_ok-copy.ensures, there k, gone k, (below k).1) on) c.make.ensures.edits

pub returns-clause-memory : goal.returns-clause-memory
returns-clause-memory c =
    let t = c.args.work.now in
    let k = (goal.at.returns-clause-memory c).In_ok-copy in
    let allowed = ap (λ p. edit_refusal t (Remove p)) c.in_ok-copy.ensures
    ∙ removable t c.args.path.now c.entries.ensures.fits (below k).0 (below k).1 (there k) in
    IfErr-weaker c.make.result _ _ (λ e refused. only_memory e _ allowed refused)
    c.make.ensures.cause
