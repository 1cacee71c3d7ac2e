use Rattle.std.proofs.Common.{◌≡◌, ◌+◌, ◌-◌, ◌≤◌, ◌&&◌, nat_le, length, sym, ap, ap₂, ◌∙◌}
use Rattle.std.proofs.Common.{option_map, arith}
use Rattle.syn_model.specs.Tree.{replace}
use Rattle.syn_model.specs.Limits.{fits_archive}
use Rattle.syn_placed.specs.Pairs.{within, under}
use Rattle.syn_mark.specs.Marks.{or_absent}
use Rattle.syn_mark.proofs.MarkLemmas.{entries_are}
use Rattle.syn_mark.proofs.ChangeLemmas.{fits_count, fits_none, fits_not, fits_some, part_counted}
use Rattle.syn_mark.proofs.ChangeLemmas.{paths_fit}
use Rattle.syn_mark.proofs.tree.MarkTree.fits.Goals as goal
use Rattle.syn_mark.proofs.tree.MarkTree.fits.Goals.{After-len-in-Some, After-part_at}

others : (c : After-part_at) → (length c.part_at.result.now ≤ c.len.result)
    × (c.len.result - length c.part_at.result.now
    + length (within c.args.path.now c.self.inside.list.items) ≡ length c.self.inside.list.items)
others c =
    part_counted c.args.path.now c.self.inside.list.items c.part_at.result.now c.len.result
    c.self.invariant (c.part_at.ensures ∙ ap₂ within c.names.ensures.names c.deref.ensures.value)
    (omega (arith, c.len.ensures, c.self.inside.list.ok))

pub overflow_sub-others : goal.overflow_sub-others
overflow_sub-others c = (others (goal.at.overflow_sub-others c).After-part_at).0

pub returns-in-None : goal.returns-in-None
returns-in-None c =
    let t = c.args.self.now in
    let at = c.args.path.now in
    let ds = c.self.inside.list.items in
    fits_none t at ds (c.len.result - length c.part_at.result.now)
    (entries_are ds t c.self.invariant c.self.view_is)
    (ap fits_archive (sym c.self.view_is) ∙ c.self.invariant.fits)
    (others (goal.at.returns-in-None c).After-part_at).1
    ∙ ap (λ o. fits_archive (replace t at (or_absent (option_map (λ m. m.now) o))))
    (sym c.in-None.is)

-- the limits by what was counted
limits : (c : After-len-in-Some) →
    fits_archive (replace c.args.self.now c.args.path.now c.in-Some.marks.now)
    ≡ (nat_le (c.len.result - length c.part_at.result.now + c.len-in-Some.result) 4096
    && paths_fit (under c.args.path.now c.marks.inside.list.items))
limits c =
    let t = c.args.self.now in
    let u = c.in-Some.marks.now in
    let ds = c.self.inside.list.items in
    let us = c.marks.inside.list.items in
    fits_count t u c.args.path.now ds us
    (c.len.result - length c.part_at.result.now + c.len-in-Some.result)
    (entries_are ds t c.self.invariant c.self.view_is)
    (entries_are us u c.marks.invariant c.marks.view_is)
    (ap fits_archive (sym c.self.view_is) ∙ c.self.invariant.fits)
    (omega (
      arith,
      (others (goal.at.After-len-in-Some c).After-part_at).1,
      c.len-in-Some.ensures,
      c.marks.inside.list.ok,
    ))

pub returns-then-others-len-le-MOST_NODES : goal.returns-then-others-len-le-MOST_NODES
returns-then-others-len-le-MOST_NODES c =
    let at = c.args.path.now in
    let k = (goal.at.returns-then-others-len-le-MOST_NODES c).After-len-in-Some in
    fits_some _ _ c.all_fit_below.result _ (limits k) c.if-others-len-le-MOST_NODES.true
    (c.all_fit_below.ensures ∙ ap (λ es. paths_fit (under at es))
    c.deref-then-others-len-le-MOST_NODES.ensures.value)
    ∙ ap (λ o. fits_archive (replace c.args.self.now at (or_absent (option_map (λ m. m.now) o))))
    (sym c.in-Some.is)

pub returns-else-others-len-le-MOST_NODES : goal.returns-else-others-len-le-MOST_NODES
returns-else-others-len-le-MOST_NODES c =
    let at = c.args.path.now in
    let k = (goal.at.returns-else-others-len-le-MOST_NODES c).After-len-in-Some in
    fits_not _ _ _ (limits k) c.if-others-len-le-MOST_NODES.false
    ∙ ap (λ o. fits_archive (replace c.args.self.now at (or_absent (option_map (λ m. m.now) o))))
    (sym c.in-Some.is)
