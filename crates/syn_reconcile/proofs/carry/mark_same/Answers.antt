use Rattle.std.proofs.Common.{refl}
use Rattle.syn_archive.specs.Archive.{marks_shown}
use Rattle.syn_mark.specs.Marks.{or_absent}
use Rattle.syn_model.specs.Mark.{mark}
use Rattle.syn_model.specs.Tree.{replace, subtree}
use Rattle.syn_reconcile.proofs.MarkLemmas.{keeps_with, still, with_marks}
use Rattle.syn_reconcile.proofs.carry.mark_same.Goals as goal

pub returns-in_err-record-in-Ok-clause-any_mark : goal.returns-in_err-record-in-Ok-clause-any_mark
returns-in_err-record-in-Ok-clause-any_mark g c kept keeps =
    with_marks c.args.archive.now c.record.new.archive c.args.path.now
    (or_absent c.in-Ok.part.marks) (mark (subtree c.args.folder.now c.args.path.now))
    c.in-Ok.ensures.marks (c.record.ensures.any_moment kept keeps)

pub returns-in_ok-record-in-Ok-clause-carried : goal.returns-in_ok-record-in-Ok-clause-carried
returns-in_ok-record-in-Ok-clause-carried g c kept right keeps = record {
  left = refl;
  marks =
      keeps_with c.args.archive.now c.record.new.archive c.args.path.now
      (or_absent c.in-Ok.part.marks) (mark (subtree c.args.folder.now c.args.path.now))
      c.in-Ok.ensures.marks (c.in_ok-record-in-Ok.ensures.recorded kept keeps);
}

pub returns-in_ok-record-in-Ok-clause-any_mark : goal.returns-in_ok-record-in-Ok-clause-any_mark
returns-in_ok-record-in-Ok-clause-any_mark g c kept keeps =
    with_marks c.args.archive.now c.record.new.archive c.args.path.now
    (or_absent c.in-Ok.part.marks) (mark (subtree c.args.folder.now c.args.path.now))
    c.in-Ok.ensures.marks (c.record.ensures.any_moment kept keeps)

pub returns-in-Err-clause-any_mark : goal.returns-in-Err-clause-any_mark
returns-in-Err-clause-any_mark g c kept keeps =
    let old = c.args.archive.now in
    still g.met.A.Disk.only_now old kept (replace (marks_shown old) c.args.path.now
    (mark (subtree c.args.folder.now c.args.path.now))) keeps
