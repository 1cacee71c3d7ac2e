use Rattle.std.proofs.Common.{rules, ◌≡◌, ◌++◌, ◌∷◌, [], sym, ap, ◌∙◌, subst, append_assoc}
use Rattle.std.proofs.Common.{append-nil}
use Rattle.std.specs.FinMap.{entries, get}
use Rattle.syn_model.specs.Path.{Path, root}
use Rattle.syn_model.specs.Tree.{Tree}
use Rattle.syn_placed.specs.Pairs.{rooted}
use Rattle.syn_change.specs.Changes.{GoesOn, IsRemoval, IsWithout, Removes}
use Rattle.syn_change.proofs.GoingLemmas.{goes_nowhere, goes_weaker}
use Rattle.syn_change.proofs.NeedLemmas.{goes_in_turn}
use Rattle.syn_change.proofs.RemovalLemmas.{IsRemovalIn, none_removed, removal_needed}
use Rattle.syn_change.proofs.RemovalLemmas.{removed_more, trimmed}
use Rattle.syn_change.proofs.StandingLemmas.{next_of}
use Rattle.syn_change.proofs.removals.remove_extra.Goals as goal

pub loop-pair-init : goal.loop-pair-init
loop-pair-init c = record {
  whole = search rules;
  removed = none_removed c.args.work.now c.args.wanted.now;
  edits =
      goes_nowhere (IsRemovalIn c.args.work.now c.args.wanted.now []) c.args.work.now
      c.args.edits.now.items;
}

pub loop-pair-preserved : goal.loop-pair-preserved
loop-pair-preserved c =
    let front = c.loop-pair.yielded in
    let x = c.in-Some.pair in
    let others = c.next.new.self in
    let old = c.args.work.now in
    let wanted = c.args.wanted.now in
    let work = c.loop-pair.work in
    let new = c.remove_entry.new.work in
    let next = next_of c.args.old.now front x others _ c.in-Some.ensures.steps
    c.loop-pair.invariant.whole in
    let here : rooted (front ++ x ∷ others) ≡ entries old =
    next.0 ∙ ap (λ (t : Tree). entries t) (sym c.requires) in
    let P : Path → Type 0 = λ p. IsWithout work wanted p new in
    let Q : Path → Type 0 = λ p. GoesOn (Removes work wanted p) work c.loop-pair.edits.items new
    c.remove_entry.new.edits.items in
    let step = subst P c.in_ok-path.ensures c.in_ok-remove_entry.ensures.without in
    let on = subst Q c.in_ok-path.ensures c.in_ok-remove_entry.ensures.edits in
    record {
      whole = ap rooted (append_assoc front (x ∷ []) others) ∙ next.0;
      removed = removed_more old wanted front work x new c.loop-pair.invariant.removed step;
      edits =
          goes_in_turn (IsRemoval old wanted) (Removes work wanted x.0) front x old work new
          c.args.edits.now.items c.loop-pair.edits.items c.remove_entry.new.edits.items next.1
          (λ e. removal_needed old wanted work front x others e here c.entries.ensures.tree.rooted
          c.loop-pair.invariant.removed) c.loop-pair.invariant.edits on;
    }

pub returns-clause-trimmed : goal.returns-clause-trimmed
returns-clause-trimmed c =
    let front = c.loop-pair.yielded in
    let old = c.args.work.now in
    let all : rooted front ≡ entries c.args.old.now =
    ap rooted (sym (append-nil front) ∙ ap (λ xs. front ++ xs) (sym c.in-None.ensures.steps.0))
    ∙ c.loop-pair.invariant.whole in
    trimmed old c.args.wanted.now c.loop-pair.work front
    (all ∙ ap (λ (t : Tree). entries t) (sym c.requires))
    (ap (λ (t : Tree). get t root) c.requires ∙ c.entries-pair-items.ensures.tree.rooted)
    c.entries.ensures.tree.rooted c.loop-pair.invariant.removed

pub returns-clause-edits : goal.returns-clause-edits
returns-clause-edits c =
    goes_weaker (IsRemovalIn c.args.work.now c.args.wanted.now c.loop-pair.yielded)
    (IsRemoval c.args.work.now c.args.wanted.now) c.args.work.now c.loop-pair.work
    c.args.edits.now.items c.loop-pair.edits.items (λ e is. is.0) c.loop-pair.invariant.edits
