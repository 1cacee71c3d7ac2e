use Rattle.syn_archive.specs.Archive.{KeepsBeforeOrAfter, Stands, marks_shown}
use Rattle.syn_archive.specs.Keepings.{recorded_at}
use Rattle.syn_mark.specs.Marks.{or_absent}
use Rattle.syn_model.specs.Archive.{Recorded, after_kept}
use Rattle.syn_model.specs.Tree.{Tree, replace}
use Rattle.std.proofs.Common.{◌≡◌, ap, rules, subst}
use Rattle.syn_reconcile.proofs.MarkLemmas.{Leaves, kept_in_turn, recorded, was}
use Rattle.syn_reconcile.proofs.marks.record.Goals as goal

pub returns-in_err-make_room-clause-any_moment : goal.returns-in_err-make_room-clause-any_moment
returns-in_err-make_room-clause-any_moment g c kept stands =
    c.in_err-make_room.ensures.any_moment kept
    (replace (marks_shown c.args.archive.now) c.args.path.now (or_absent c.args.marks)) stands

pub returns-clause-recorded : goal.returns-clause-recorded
returns-clause-recorded g c kept stands =
    let what = Recorded c.args.path.now (or_absent c.args.marks) in
    let same : recorded_at c.args.path.now c.as_ref.result ≡ what = search rules in
    recorded c.args.archive.now c.record.new.self kept c.args.path.now (or_absent c.args.marks)
    stands (subst (λ k. Stands c.record.new.self (after_kept kept k)) same
    (c.in_ok-record.ensures.acknowledged kept (c.in_ok-make_room.ensures.made kept stands)))

pub returns-clause-any_moment : goal.returns-clause-any_moment
returns-clause-any_moment g c kept stands =
    let marks = or_absent c.args.marks in
    let path = c.args.path.now in
    let old = c.args.archive.now in
    let middle = c.make_room.new.archive in
    let same : recorded_at path c.as_ref.result ≡ Recorded path marks = search rules in
    kept_in_turn old middle c.record.new.self kept (Recorded path marks)
    (replace (marks_shown old) path marks) stands (c.in_ok-make_room.ensures.made kept stands)
    c.in_ok-make_room.ensures.pair (ap (λ (m : Tree). replace m path marks) (was old kept stands))
    (λ any. c.in_ok-make_room.ensures.any_moment kept any stands)
    (subst (λ k. Leaves middle c.record.new.self (KeepsBeforeOrAfter middle kept k)) same
    (c.record.ensures.any_moment kept (c.in_ok-make_room.ensures.made kept stands)))

pub returns-in_err-record-clause-any_moment : goal.returns-in_err-record-clause-any_moment
returns-in_err-record-clause-any_moment g c kept stands =
    let marks = or_absent c.args.marks in
    let path = c.args.path.now in
    let old = c.args.archive.now in
    let middle = c.make_room.new.archive in
    let same : recorded_at path c.as_ref.result ≡ Recorded path marks = search rules in
    kept_in_turn old middle c.record.new.self kept (Recorded path marks)
    (replace (marks_shown old) path marks) stands (c.in_ok-make_room.ensures.made kept stands)
    c.in_ok-make_room.ensures.pair (ap (λ (m : Tree). replace m path marks) (was old kept stands))
    (λ any. c.in_ok-make_room.ensures.any_moment kept any stands)
    (subst (λ k. Leaves middle c.record.new.self (KeepsBeforeOrAfter middle kept k)) same
    (c.record.ensures.any_moment kept (c.in_ok-make_room.ensures.made kept stands)))
