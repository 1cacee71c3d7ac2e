use Rattle.std.proofs.Common.{◌∙◌, ◌<◌, ◌≤◌, length, ap, sym, subst, ltb-true, ltb-false}
use Rattle.std.proofs.Common.{slice_index_or}
use Rattle.std.specs.FinMap.{get}
use Rattle.syn_scan.specs.inner.Kept.{earlier}
use Rattle.syn_scan.proofs.PositionLemmas.{there, not_there, past_end}
use Rattle.syn_scan.proofs.positions.Positions.get.Goals as goal

pub returns-in_default : goal.returns-in_default
returns-in_default c =
    let q = c.args.names.now in
    let es = c.self.inside.list.items in
    let counted = c.count_before-at.ensures
    ∙ ap (λ xs. length (earlier q xs)) c.deref.ensures.value in
    past_end q es c.count_before-at.result c.self.invariant counted
    (subst (λ xs. length xs ≤ c.count_before-at.result) c.deref-2.ensures.value
    (ltb-false _ _ (sym c.in_default.ensures.lookup.0)))
    ∙ ap (λ m. get m q) c.self.view_is

pub returns-then-is_at : goal.returns-then-is_at
returns-then-is_at c =
    let q = c.args.names.now in
    let es = c.self.inside.list.items in
    let counted = c.count_before-at.ensures
    ∙ ap (λ xs. length (earlier q xs)) c.deref.ensures.value in
    there q es c.count_before-at.result c.self.invariant counted c.in-Some.entry.now
    (subst (λ xs. c.count_before-at.result < length xs) c.deref-2.ensures.value
    (ltb-true _ _ (sym c.in-Some.ensures.lookup.0)))
    (c.in-Some.ensures.lookup.1 ∙ ap (λ xs.
    slice_index_or xs c.count_before-at.result c.in-Some.entry.now) c.deref-2.ensures.value)
    (sym c.is_at.ensures ∙ c.if-is_at.true)
    ∙ ap (λ m. get m q) c.self.view_is

pub returns-else-is_at : goal.returns-else-is_at
returns-else-is_at c =
    let q = c.args.names.now in
    let es = c.self.inside.list.items in
    let counted = c.count_before-at.ensures
    ∙ ap (λ xs. length (earlier q xs)) c.deref.ensures.value in
    not_there q es c.count_before-at.result c.self.invariant counted c.in-Some.entry.now
    (subst (λ xs. c.count_before-at.result < length xs) c.deref-2.ensures.value
    (ltb-true _ _ (sym c.in-Some.ensures.lookup.0)))
    (c.in-Some.ensures.lookup.1 ∙ ap (λ xs.
    slice_index_or xs c.count_before-at.result c.in-Some.entry.now) c.deref-2.ensures.value)
    (sym c.is_at.ensures ∙ c.if-is_at.false)
    ∙ ap (λ m. get m q) c.self.view_is
