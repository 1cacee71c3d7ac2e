use Rattle.std.proofs.Common.{◌≡◌, ◌+◌, ◌-◌, ◌≤◌, length, sym, ap, ap₂, ◌∙◌, arith}
use Rattle.syn_model.specs.Limits.{fits_archive}
use Rattle.syn_placed.specs.Pairs.{within}
use Rattle.syn_mark.proofs.MarkLemmas.{entries_are}
use Rattle.syn_mark.proofs.ChangeLemmas.{fits_dir, part_counted}
use Rattle.syn_mark.proofs.tree.MarkTree.fits_dir.Goals as goal
use Rattle.syn_mark.proofs.tree.MarkTree.fits_dir.Goals.{After-part_at}

others : (c : After-part_at) → (length c.part_at.result.now ≤ c.len.result)
    × (c.len.result - length c.part_at.result.now
    + length (within c.args.path.now c.self.inside.list.items) ≡ length c.self.inside.list.items)
others c =
    part_counted c.args.path.now c.self.inside.list.items c.part_at.result.now c.len.result
    c.self.invariant (c.part_at.ensures ∙ ap₂ within c.names.ensures.names c.deref.ensures.value)
    (omega (arith, c.len.ensures, c.self.inside.list.ok))

pub overflow_sub-others : goal.overflow_sub-others
overflow_sub-others c = (others (goal.at.overflow_sub-others c).After-part_at).0

pub returns : goal.returns
returns c =
    let t = c.args.self.now in
    let ds = c.self.inside.list.items in
    fits_dir t c.args.path.now ds (c.len.result - length c.part_at.result.now)
    (entries_are ds t c.self.invariant c.self.view_is)
    (ap fits_archive (sym c.self.view_is) ∙ c.self.invariant.fits)
    (others (goal.at.returns c).After-part_at).1 c.names.ensures.lawful
