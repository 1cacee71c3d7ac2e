use Rattle.std.proofs.Common.{rules, ◌≡◌, ◌++◌, ◌∷◌, [], sym, ap, ◌∙◌, append_assoc, append-nil}
use Rattle.std.proofs.Common.{refl}
use Rattle.std.proofs.lemmas.Result.{err_from_is_err_and}
use Rattle.std.specs.FinMap.{entries, get}
use Rattle.syn_model.specs.Event.{Edit, edited_path}
use Rattle.syn_placed.specs.Pairs.{rooted}
use Rattle.syn_tree.specs.Refusals.{refusal_of}
use Rattle.syn_change.specs.inner.Shorter.{Shortens, ShortensTo, shortened}
use Rattle.syn_change.proofs.GoingLemmas.{goes_nowhere, goes_weaker, refused_later}
use Rattle.syn_change.proofs.NeedLemmas.{goes_in_turn}
use Rattle.syn_change.proofs.ShorterLemmas.{ShortensIn, shortened_all, shortened_more, shortens_to}
use Rattle.syn_change.proofs.StandingLemmas.{next_of}
use Rattle.syn_change.proofs.shorter.put_shorter.Goals as goal
use Rattle.syn_change.proofs.shorter.put_shorter.Goals.{After-shorten}

pub loop-pair-init : goal.loop-pair-init
loop-pair-init c = record {
  whole = search rules;
  short = λ q. refl;
  edits =
      goes_nowhere (ShortensIn c.args.work.now c.args.wanted.now []) c.args.work.now
      c.args.edits.now.items;
}

-- an edit that shortens to this one shortens at its path
needed : (c : After-shorten) (e : Edit) → ShortensTo c.loop-pair.work c.in-Some.pair e →
    Shortens c.args.work.now c.args.wanted.now e × (edited_path e ≡ c.in-Some.pair.0)
needed c e =
    let front = c.loop-pair.yielded in
    let x = c.in-Some.pair in
    let old = c.args.work.now in
    let next = next_of c.args.wanted.now front x c.next.new.self _ c.in-Some.ensures.steps
    c.loop-pair.invariant.whole in
    shortens_to c.loop-pair.work old c.args.wanted.now x e
    (c.loop-pair.invariant.short x.0 ∙ ap (shortened (get old x.0)) next.1) next.2

pub loop-pair-preserved : goal.loop-pair-preserved
loop-pair-preserved c =
    let needs = needed (goal.at.loop-pair-preserved c).After-shorten in
    let front = c.loop-pair.yielded in
    let x = c.in-Some.pair in
    let old = c.args.work.now in
    let work = c.loop-pair.work in
    let next = next_of c.args.wanted.now front x c.next.new.self _ c.in-Some.ensures.steps
    c.loop-pair.invariant.whole in
    record {
      whole = ap rooted (append_assoc front (x ∷ []) c.next.new.self) ∙ next.0;
      short =
          λ q. shortened_more q old work front x c.shorten.new.work next.1
          c.loop-pair.invariant.short c.in_ok-shorten.ensures.shortened;
      edits =
          goes_in_turn (Shortens old c.args.wanted.now) (ShortensTo work x) front x old work
          c.shorten.new.work c.args.edits.now.items c.loop-pair.edits.items
          c.shorten.new.edits.items next.1 needs c.loop-pair.invariant.edits
          c.in_ok-shorten.ensures.edits;
    }

pub returns-clause-shortened : goal.returns-clause-shortened
returns-clause-shortened c =
    let made = c.loop-pair.yielded in
    let whole : rooted made ≡ entries c.args.wanted.now =
    ap rooted (sym (append-nil made) ∙ ap (λ xs. made ++ xs) (sym c.in-None.ensures.steps.0))
    ∙ c.loop-pair.invariant.whole in
    shortened_all c.args.work.now c.args.wanted.now c.loop-pair.work made whole
    c.loop-pair.invariant.short

pub returns-clause-edits : goal.returns-clause-edits
returns-clause-edits c =
    goes_weaker (ShortensIn c.args.work.now c.args.wanted.now c.loop-pair.yielded)
    (Shortens c.args.work.now c.args.wanted.now) c.args.work.now c.loop-pair.work
    c.args.edits.now.items c.loop-pair.edits.items (λ e is. is.0) c.loop-pair.invariant.edits

pub returns-in_err-shorten-clause-refused : goal.returns-in_err-shorten-clause-refused
returns-in_err-shorten-clause-refused c =
    let k = (goal.at.returns-in_err-shorten-clause-refused c).After-shorten in
    let p = err_from_is_err_and c.from_residual.result c.from_residual.ensures.1 in
    let old = c.args.work.now in
    let wanted = c.args.wanted.now in
    let work = c.loop-pair.work in
    rw (p.1, p.2) (λ other. refused_later (ShortensIn old wanted c.loop-pair.yielded)
    (ShortensTo work c.in-Some.pair) (Shortens old wanted) old work c.args.edits.now.items
    c.loop-pair.edits.items (refusal_of c.in_err-shorten.field-0.0) (λ e is. is.0)
    (λ e is. (needed k e is).0) c.loop-pair.invariant.edits
    (c.in_err-shorten.ensures.refused other))
