use Rattle.std.proofs.Common.{rules, ◌≡◌, ◌++◌, ◌∷◌, [], sym, ap, ◌∙◌, append_assoc, append-nil}
use Rattle.std.specs.FinMap.{entries, get}
use Rattle.std.proofs.lemmas.List.Sums.{fold_push}
use Rattle.std.proofs.lemmas.Result.{err_from_is_err_and}
use Rattle.syn_model.specs.Event.{Edit, edited_path}
use Rattle.syn_placed.specs.Pairs.{rooted}
use Rattle.syn_tree.specs.Refusals.{refusal_of}
use Rattle.syn_change.specs.Changes.{IsAddition, IsNeededFor}
use Rattle.syn_change.proofs.GoingLemmas.{goes_nowhere, goes_weaker, refused_later}
use Rattle.syn_change.proofs.NeedLemmas.{IsAdditionIn, goes_in_turn, needed_for}
use Rattle.syn_change.proofs.OverlayLemmas.{placing, placed_more, overlaid, kept}
use Rattle.syn_change.proofs.StandingLemmas.{next_of}
use Rattle.syn_change.proofs.additions.put_missing.Goals as goal
use Rattle.syn_change.proofs.additions.put_missing.Goals.{After-put_pair}

pub loop-pair-init : goal.loop-pair-init
loop-pair-init c = record {
  whole = search rules;
  placed = λ q. search rules;
  edits =
      goes_nowhere (IsAdditionIn c.args.work.now c.args.wanted.now []) c.args.work.now
      c.args.edits.now.items;
}

-- an edit that this one needs is an addition at its path
needed : (c : After-put_pair) (e : Edit) → IsNeededFor c.loop-pair.work c.in-Some.pair e →
    IsAddition c.args.work.now c.args.wanted.now e × (edited_path e ≡ c.in-Some.pair.0)
needed c e =
    let front = c.loop-pair.yielded in
    let x = c.in-Some.pair in
    let old = c.args.work.now in
    let next = next_of c.args.wanted.now front x c.next.new.self _ c.in-Some.ensures.steps
    c.loop-pair.invariant.whole in
    needed_for c.loop-pair.work old c.args.wanted.now x e
    (c.loop-pair.invariant.placed x.0 ∙ kept x.0 (get old x.0) front next.1) next.2

pub loop-pair-preserved : goal.loop-pair-preserved
loop-pair-preserved c =
    let needs = needed (goal.at.loop-pair-preserved c).After-put_pair in
    let front = c.loop-pair.yielded in
    let x = c.in-Some.pair in
    let old = c.args.work.now in
    let work = c.loop-pair.work in
    let next = next_of c.args.wanted.now front x c.next.new.self _ c.in-Some.ensures.steps
    c.loop-pair.invariant.whole in
    record {
      whole = ap rooted (append_assoc front (x ∷ []) c.next.new.self) ∙ next.0;
      placed =
          λ q. placed_more q work x c.put_pair.new.work c.in_ok-put_pair.ensures.placed
          ∙ (ap (λ o. placing q o x) (c.loop-pair.invariant.placed q)
          ∙ sym (fold_push (placing q) (get old q) front x));
      edits =
          goes_in_turn (IsAddition old c.args.wanted.now) (IsNeededFor work x) front x old work
          c.put_pair.new.work c.args.edits.now.items c.loop-pair.edits.items
          c.put_pair.new.edits.items next.1 needs c.loop-pair.invariant.edits
          c.in_ok-put_pair.ensures.edits;
    }

pub returns-clause-overlaid : goal.returns-clause-overlaid
returns-clause-overlaid c =
    let made = c.loop-pair.yielded in
    let whole : rooted made ≡ entries c.args.wanted.now =
    ap rooted (sym (append-nil made) ∙ ap (λ xs. made ++ xs) (sym c.in-None.ensures.steps.0))
    ∙ c.loop-pair.invariant.whole in
    overlaid c.args.work.now c.args.wanted.now c.loop-pair.work made whole
    c.entries.ensures.tree.rooted c.loop-pair.invariant.placed

pub returns-clause-edits : goal.returns-clause-edits
returns-clause-edits c =
    goes_weaker (IsAdditionIn c.args.work.now c.args.wanted.now c.loop-pair.yielded)
    (IsAddition c.args.work.now c.args.wanted.now) c.args.work.now c.loop-pair.work
    c.args.edits.now.items c.loop-pair.edits.items (λ e is. is.0) c.loop-pair.invariant.edits

pub returns-in_err-put_pair-clause-refused : goal.returns-in_err-put_pair-clause-refused
returns-in_err-put_pair-clause-refused c =
    let k = (goal.at.returns-in_err-put_pair-clause-refused c).After-put_pair in
    let p = err_from_is_err_and c.from_residual.result c.from_residual.ensures.1 in
    let old = c.args.work.now in
    let wanted = c.args.wanted.now in
    let work = c.loop-pair.work in
    rw (p.1, p.2) (λ other. refused_later (IsAdditionIn old wanted c.loop-pair.yielded)
    (IsNeededFor work c.in-Some.pair) (IsAddition old wanted) old work c.args.edits.now.items
    c.loop-pair.edits.items (refusal_of c.in_err-put_pair.field-0.0) (λ e is. is.0)
    (λ e is. (needed k e is).0) c.loop-pair.invariant.edits
    (c.in_err-put_pair.ensures.refused other))
