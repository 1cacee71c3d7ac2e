use Rattle.std.proofs.Common.{length, sym, ap, ap₂, ◌∙◌, arith}
use Rattle.std.specs.FinMap.{entries, len, len-entries}
use Rattle.syn_model.specs.Limits.{fits_archive}
use Rattle.syn_model.specs.Path.{parent, is_root}
use Rattle.syn_model.specs.Tree.{replace, is_directory}
use Rattle.syn_tree.specs.Change.{taken_from}
use Rattle.syn_tree.proofs.PartLemmas.{length_under}
use Rattle.syn_mark.specs.Marks.{or_absent}
use Rattle.syn_mark.proofs.MarkLemmas.{entries_are}
use Rattle.syn_mark.proofs.ChangeLemmas.{allowed_parts, allowed_paths, spaced_of}
use Rattle.syn_mark.proofs.tree.MarkTree.prepare_allowed.Goals as goal
use Rattle.syn_tree.proofs.ChangeLemmas.{taken_same}

pub placed-requires : goal.placed-requires
placed-requires c =
    let t = c.args.self.now in
    let at = c.args.path.now in
    allowed_paths t at (or_absent c.args.new)
    (ap fits_archive (sym c.self.view_is) ∙ c.self.invariant.fits) c.requires

pub placed-requires-2 : goal.placed-requires-2
placed-requires-2 c =
    spaced_of c.args.path.now c.in_ok-at.at (or_absent c.args.new) c.in_ok-added.added.items
    c.in_ok-space.space.items c.in_ok-at.ensures c.is_path.ensures c.placed.ensures.marks
    c.in_ok-added.ensures.ok c.in_ok-space.ensures.items

pub returns-clause-new : goal.returns-clause-new
returns-clause-new c =
    c.placed-2.ensures.new
    ∙ (ap (λ p. taken_from p c.in_ok-added.added.items) c.in_ok-at.ensures ∙ taken_same
    c.args.path.now (or_absent c.args.new) c.in_ok-added.added.items c.in_ok-added.ensures.ok)

pub returns-clause-ready : goal.returns-clause-ready
returns-clause-ready c =
    let t = c.args.self.now in
    let at = c.args.path.now in
    let u = or_absent c.args.new in
    let new = returns-clause-new c in
    let place = c.placed-2.ensures.at ∙ c.in_ok-at.ensures in
    let parts = allowed_parts t at u c.requires in
    let ds = c.self.inside.list.items in
    let all = entries_are ds t c.self.invariant c.self.view_is in
    record {
      below = ap is_root place ∙ parts.0;
      parent = ap (λ p. is_directory t (parent p)) place ∙ parts.1.0;
      fits = ap₂ (λ p w. fits_archive (replace t p w)) place new ∙ parts.1.1;
      room =
          omega (
            arith,
            c.placed-2.ensures.room,
            c.in_ok-space.ensures.capacity,
            c.len-nodes.ensures,
            c.len.ensures,
            c.self.inside.list.ok,
            c.in_ok-added.added.ok,
            len-entries t,
            ap length all,
            ap len new,
            len-entries u,
            ap length c.in_ok-added.ensures.ok,
            length_under at (entries u),
          );
    }
