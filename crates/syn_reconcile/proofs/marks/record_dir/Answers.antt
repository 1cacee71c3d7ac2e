use Rattle.std.proofs.Common.{◌∙◌, ap}
use Rattle.syn_archive.specs.Archive.{marks_shown}
use Rattle.syn_model.specs.Archive.{RecordedDir}
use Rattle.syn_model.specs.Plan.{with_directory}
use Rattle.syn_model.specs.Tree.{Tree}
use Rattle.syn_reconcile.proofs.MarkLemmas.{dir_marks, kept_in_turn, recorded_dir, was}
use Rattle.syn_reconcile.proofs.marks.record_dir.Goals as goal

pub returns-in_err-make_room-clause-any_moment : goal.returns-in_err-make_room-clause-any_moment
returns-in_err-make_room-clause-any_moment g c kept stands =
    c.in_err-make_room.ensures.any_moment kept
    (with_directory (marks_shown c.args.archive.now) c.args.path.now) stands

pub returns-clause-recorded : goal.returns-clause-recorded
returns-clause-recorded g c kept stands =
    recorded_dir c.args.archive.now c.record_dir.new.self kept c.args.path.now stands
    (c.in_ok-record_dir.ensures.acknowledged kept (c.in_ok-make_room.ensures.made kept stands))

pub returns-clause-any_moment : goal.returns-clause-any_moment
returns-clause-any_moment g c kept stands =
    let path = c.args.path.now in
    let old = c.args.archive.now in
    kept_in_turn old c.make_room.new.archive c.record_dir.new.self kept (RecordedDir path)
    (with_directory (marks_shown old) path) stands (c.in_ok-make_room.ensures.made kept stands)
    c.in_ok-make_room.ensures.pair
    (dir_marks kept path ∙ ap (λ (m : Tree). with_directory m path) (was old kept stands))
    (λ any. c.in_ok-make_room.ensures.any_moment kept any stands)
    (c.record_dir.ensures.any_moment kept (c.in_ok-make_room.ensures.made kept stands))

pub returns-in_err-record_dir-clause-any_moment : goal.returns-in_err-record_dir-clause-any_moment
returns-in_err-record_dir-clause-any_moment g c kept stands =
    let path = c.args.path.now in
    let old = c.args.archive.now in
    kept_in_turn old c.make_room.new.archive c.record_dir.new.self kept (RecordedDir path)
    (with_directory (marks_shown old) path) stands (c.in_ok-make_room.ensures.made kept stands)
    c.in_ok-make_room.ensures.pair
    (dir_marks kept path ∙ ap (λ (m : Tree). with_directory m path) (was old kept stands))
    (λ any. c.in_ok-make_room.ensures.any_moment kept any stands)
    (c.record_dir.ensures.any_moment kept (c.in_ok-make_room.ensures.made kept stands))
