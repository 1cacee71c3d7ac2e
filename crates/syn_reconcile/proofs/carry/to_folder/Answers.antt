use Rattle.std.proofs.Common.{◌∙◌, ap}
use Rattle.syn_archive.specs.Archive.{marks_shown}
use Rattle.syn_mark.specs.Marks.{or_absent}
use Rattle.syn_model.specs.Mark.{mark}
use Rattle.syn_model.specs.Tree.{Tree, replace, subtree}
use Rattle.syn_reconcile.proofs.MarkLemmas.{keeps_with, still, with_marks}
use Rattle.syn_reconcile.proofs.carry.to_folder.Goals as goal

pub returns-in-Err-clause-any_mark : goal.returns-in-Err-clause-any_mark
returns-in-Err-clause-any_mark g c kept keeps =
    let old = c.args.archive.now in
    still g.met.A.Disk.only_now old kept (replace (marks_shown old) c.args.path.now
    (mark (subtree c.args.replica.now c.args.path.now))) keeps

pub returns-in_err-record-in-Ok-replace-clause-any_mark :
    goal.returns-in_err-record-in-Ok-replace-clause-any_mark
returns-in_err-record-in-Ok-replace-clause-any_mark g c kept keeps =
    with_marks c.args.archive.now c.record.new.archive c.args.path.now
    (or_absent c.in-Ok.part.marks) (mark (subtree c.args.replica.now c.args.path.now))
    c.in-Ok.ensures.marks (c.record.ensures.any_moment kept keeps)

pub returns-in_ok-record-in-Ok-replace-clause-carried :
    goal.returns-in_ok-record-in-Ok-replace-clause-carried
returns-in_ok-record-in-Ok-replace-clause-carried g c kept keeps = record {
  left =
      c.in-Ok-replace.ensures.done
      ∙ ap (λ (t : Tree). replace (g.F.EditedFolder.tree c.args.folder.now) c.args.path.now t)
      c.in-Ok.ensures.part;
  marks =
      keeps_with c.args.archive.now c.record.new.archive c.args.path.now
      (or_absent c.in-Ok.part.marks) (mark (subtree c.args.replica.now c.args.path.now))
      c.in-Ok.ensures.marks (c.in_ok-record-in-Ok-replace.ensures.recorded kept keeps);
}

pub returns-in_ok-record-in-Ok-replace-clause-any_mark :
    goal.returns-in_ok-record-in-Ok-replace-clause-any_mark
returns-in_ok-record-in-Ok-replace-clause-any_mark g c kept keeps =
    with_marks c.args.archive.now c.record.new.archive c.args.path.now
    (or_absent c.in-Ok.part.marks) (mark (subtree c.args.replica.now c.args.path.now))
    c.in-Ok.ensures.marks (c.record.ensures.any_moment kept keeps)

pub returns-in-Err-replace-clause-any_mark : goal.returns-in-Err-replace-clause-any_mark
returns-in-Err-replace-clause-any_mark g c kept keeps =
    let old = c.args.archive.now in
    still g.met.A.Disk.only_now old kept (replace (marks_shown old) c.args.path.now
    (mark (subtree c.args.replica.now c.args.path.now))) keeps
