use Rattle.std.proofs.Common.{◌≡◌, sym, ap, ◌∙◌, subst}
use Rattle.std.proofs.lemmas.Result.{IfOk-weaker}
use Rattle.syn_model.specs.Dirty.{dirty}
use Rattle.syn_scan.specs.Found.{scan_of}
use Rattle.syn_dirty.specs.Paths.{AreInOrder, paths_at}
use Rattle.syn_dirty.specs.inner.Rows.{changed, rows_at}
use Rattle.syn_dirty.proofs.DirtyRows.{in_order}
use Rattle.syn_dirty.proofs.changed.dirty_set.Goals as goal

pub returns-clause-ok : goal.returns-clause-ok
returns-clause-ok c =
    let found = c.args.scan.now in
    let archive = c.args.archive.now in
    IfOk-weaker c.changed_in.result
    (λ paths. paths_at paths.items ≡ changed (rows_at c.in_ok-rows.rows.items))
    (λ paths. AreInOrder (dirty (scan_of found) archive) (paths_at paths.items))
    (λ paths is. subst (AreInOrder (dirty (scan_of found) archive))
    (sym (is ∙ ap changed c.in_ok-rows.ensures.ok))
    (in_order found archive c.tree.ensures.found c.as_slice.ensures.marks.part.parents))
    c.changed_in.ensures.ok
