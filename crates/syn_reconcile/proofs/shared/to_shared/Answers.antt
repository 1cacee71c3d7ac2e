use Rattle.std.proofs.Common.{◌∙◌, Err, None, Ok, Some, ap, inl, refl, subst, sym}
use Rattle.syn_archive.specs.Archive.{Stands as Keeps, marks_shown, pair_of}
use Rattle.syn_mark.specs.Marks.{or_absent}
use Rattle.syn_model.specs.Archive.{Archive as Kept}
use Rattle.syn_model.specs.Decision.{ToRight}
use Rattle.syn_model.specs.Mark.{mark}
use Rattle.syn_model.specs.Tree.{Tree, replace, subtree}
use Rattle.syn_shared.specs.Parts.{Puts}
use Rattle.syn_shared.specs.Shared.{HeldAfterWait}
use Rattle.syn_reconcile.proofs.MarkLemmas.{keeps_with}
use Rattle.syn_reconcile.proofs.SharedLemmas.{Leaves, if_err_any, marks_held, unwritten}
use Rattle.syn_reconcile.specs.Shared.{HasEitherHeld, HoldsFor}
use Rattle.syn_reconcile.specs.Shared as shared
use Rattle.syn_reconcile.proofs.shared.to_shared.Given.{Over}
use Rattle.syn_reconcile.proofs.shared.to_shared.Goals as goal
use Rattle.syn_reconcile.proofs.shared.to_shared.Goals.{After-record, In-Ok-put_part}
use Rattle.syn_reconcile.proofs.shared.to_shared.Goals.{After-refusal-in-Err-put_part}

pub returns-in-Err-clause-holds : goal.returns-in-Err-clause-holds
returns-in-Err-clause-holds g c =
    shared.rests (ToRight c.args.path.now) (Some c.refusal.result) c.args.pass.now tt

pub returns-in-Ok-put_part-clause-carried : goal.returns-in-Ok-put_part-clause-carried
returns-in-Ok-put_part-clause-carried g c kept right keeps = record {
  left = refl;
  marks =
      keeps_with c.args.archive.now c.record.new.archive c.args.path.now
      (or_absent c.in-Ok.part.marks)
      (mark (subtree (g.F.EditedFolder.tree c.args.folder.now) c.args.path.now))
      (c.in-Ok.ensures.marks
      ∙ ap (λ (t : Tree). mark (subtree t c.args.path.now)) c.tree.ensures)
      (c.in_ok-record-in-Ok-put_part.ensures.recorded kept keeps);
}

-- what was put is the part that the folder has
put : (g : Over) (c : In-Ok-put_part g) → HoldsFor c.args.side.now.shared.now c.args.side.now.user
    c.args.side.now.seen.now.position
    (g.F.EditedFolder.tree c.args.folder.now) (ToRight c.args.path.now) None c.args.pass.now
    c.put_part.new.pass
put g c =
    shared.puts c.args.path.now c.in-Ok-put_part.field-0 c.args.pass.now c.put_part.new.pass
    (subst (λ (t : Tree). HeldAfterWait c.args.side.now.shared.now c.args.pass.now
    c.put_part.new.pass
    (Puts c.args.side.now.user c.args.path.now c.args.side.now.seen.now.position t
    (Ok c.in-Ok-put_part.field-0)))
    (c.in-Ok.ensures.part ∙ ap (λ (t : Tree). subtree t c.args.path.now) c.tree.ensures)
    c.in-Ok-put_part.ensures.held)

-- and so is what was refused
refused : (g : Over) (c : After-refusal-in-Err-put_part g) → HoldsFor c.args.side.now.shared.now
    c.args.side.now.user c.args.side.now.seen.now.position (g.F.EditedFolder.tree c.args.folder.now)
    (ToRight c.args.path.now)
    (Some c.refusal-in-Err-put_part.result) c.args.pass.now c.put_part.new.pass
refused g c =
    shared.refuses c.args.path.now c.in-Err-put_part.error c.refusal-in-Err-put_part.result
    c.args.pass.now c.put_part.new.pass
    (subst (λ (t : Tree). HeldAfterWait c.args.side.now.shared.now c.args.pass.now
    c.put_part.new.pass
    (Puts c.args.side.now.user c.args.path.now c.args.side.now.seen.now.position t
    (Err c.in-Err-put_part.error)))
    (c.in-Ok.ensures.part ∙ ap (λ (t : Tree). subtree t c.args.path.now) c.tree.ensures)
    c.in-Err-put_part.ensures.held) (sym c.refusal-in-Err-put_part.ensures)

pub returns-in-Ok-put_part-clause-holds : goal.returns-in-Ok-put_part-clause-holds
returns-in-Ok-put_part-clause-holds g c =
    put g (goal.at.returns-in-Ok-put_part-clause-holds g c).In-Ok-put_part

pub returns : goal.returns
returns g c = record {
  of = c.put_part.ensures.of;
  carried = λ kept right keeps.
      record { left = refl; marks = record { kept = kept; keeps = keeps; are = refl } };
  holds = refused g (goal.at.returns g c).After-refusal-in-Err-put_part;
  stopped = λ right. tt;
  any_mark = λ kept keeps.
      unwritten g.met.A.Disk.only_now c.args.archive.now kept keeps _ (λ bytes has. inl has);
  marked = refl;
}

pub returns-in-Err-clause-any_mark : goal.returns-in-Err-clause-any_mark
returns-in-Err-clause-any_mark g c kept keeps =
    unwritten g.met.A.Disk.only_now c.args.archive.now kept keeps _ (λ bytes has. inl has)

pub returns-in_err-record-in-Ok-put_part-clause-stopped :
    goal.returns-in_err-record-in-Ok-put_part-clause-stopped
returns-in_err-record-in-Ok-put_part-clause-stopped g c right =
    if_err_any _ _ (shared.IsUnrecorded.done refl
    (put g (goal.at.returns-in_err-record-in-Ok-put_part-clause-stopped g c).In-Ok-put_part))

any_mark : (g : Over) (c : After-record g) (kept : Kept) → Keeps c.args.archive.now kept →
    Leaves c.args.archive.now c.record.new.archive (HasEitherHeld (pair_of c.args.archive.now)
    (marks_shown c.args.archive.now) (replace (marks_shown c.args.archive.now) c.args.path.now
    (mark (subtree (g.F.EditedFolder.tree c.args.folder.now) c.args.path.now)))
    (HoldsFor c.args.side.now.shared.now c.args.side.now.user c.args.side.now.seen.now.position
    (g.F.EditedFolder.tree c.args.folder.now) (ToRight c.args.path.now) None c.args.pass.now
    c.put_part.new.pass))
any_mark g c kept keeps =
    let old = c.args.archive.now in
    let path = c.args.path.now in
    marks_held old c.record.new.archive
    (replace (marks_shown old) path (or_absent c.in-Ok.part.marks)) _
    (ap (λ (m : Tree). replace (marks_shown old) path m) (c.in-Ok.ensures.marks
    ∙ ap (λ (t : Tree). mark (subtree t path)) c.tree.ensures)) _
    (put g (goal.at.After-record g c).In-Ok-put_part) (c.record.ensures.any_moment kept keeps)

pub returns-in_err-record-in-Ok-put_part-clause-any_mark :
    goal.returns-in_err-record-in-Ok-put_part-clause-any_mark
returns-in_err-record-in-Ok-put_part-clause-any_mark g c =
    any_mark g (goal.at.returns-in_err-record-in-Ok-put_part-clause-any_mark g c).After-record

pub returns-in-Ok-put_part-clause-any_mark : goal.returns-in-Ok-put_part-clause-any_mark
returns-in-Ok-put_part-clause-any_mark g c =
    any_mark g (goal.at.returns-in-Ok-put_part-clause-any_mark g c).After-record

pub returns-in-Device-clause-stopped : goal.returns-in-Device-clause-stopped
returns-in-Device-clause-stopped g c right =
    let k = (goal.at.returns-in-Device-clause-stopped g c).After-refusal-in-Err-put_part in
    shared.IsUnrecorded.undone c.refusal-in-Err-put_part.result refl refl (refused g k)

pub returns-in-Device-clause-any_mark : goal.returns-in-Device-clause-any_mark
returns-in-Device-clause-any_mark g c kept keeps =
    unwritten g.met.A.Disk.only_now c.args.archive.now kept keeps _ (λ bytes has. inl has)
