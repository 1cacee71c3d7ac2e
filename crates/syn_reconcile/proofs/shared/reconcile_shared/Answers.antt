use Rattle.std.proofs.Common.{◌∙◌, [], List, None, refl, subst, sym}
use Rattle.syn_archive.specs.Archive.{Stands as Keeps, disk_of, marks_shown, pair_of}
use Rattle.syn_disk.proofs.LeftLemmas.{leaves_weaker}
use Rattle.syn_model.specs.Archive.{Archive as Kept}
use Rattle.syn_model.specs.Decision.{Item}
use Rattle.syn_model.specs.Plan.{IsReconciled, IsSynchronized}
use Rattle.syn_reconcile.proofs.AloneLemmas.{alone, sides_same}
use Rattle.syn_reconcile.proofs.SharedLemmas.{Leaves, if_err_any, unwritten}
use Rattle.syn_reconcile.specs.Settlings.{here, planned}
use Rattle.syn_reconcile.specs.Shared.{HasSeenMarks, HasSharedMarks, IsCutShort}
use Rattle.syn_reconcile.specs.Shared as shared
use Rattle.syn_reconcile.proofs.shared.reconcile_shared.Given.{Over}
use Rattle.syn_reconcile.proofs.shared.reconcile_shared.Goals as goal
use Rattle.syn_reconcile.proofs.shared.reconcile_shared.Goals.{After-carry_each}

pub returns-in_err-seen-clause-stopped : goal.returns-in_err-seen-clause-stopped
returns-in_err-seen-clause-stopped g c kept keeps =
    if_err_any _ _
    (shared.IsSharedStop.unseen c.in_err-seen.field-0.0 c.in_err-seen.ensures.held refl refl)

pub returns-in_err-seen-clause-any_mark : goal.returns-in_err-seen-clause-any_mark
returns-in_err-seen-clause-any_mark g c kept keeps =
    unwritten g.met.A.Disk.only_now c.args.archive.now kept keeps _
    (λ bytes has. shared.HasSharedMarks.at_first has)

pub returns-in_err-compared-clause-stopped : goal.returns-in_err-compared-clause-stopped
returns-in_err-compared-clause-stopped g c kept keeps =
    let folder = g.F.EditedFolder.tree c.args.folder.now in
    let found = here folder c.in_ok-seen.seen.tree (marks_shown c.args.archive.now) in
    if_err_any _ _
    (shared.IsSharedStop.cut_short c.in_ok-seen.seen c.snapshot.new.pass c.in_ok-seen.ensures.held
    (shared.IsCutShort.between [] (record { others = planned None found; are = refl })
    (record { folder = refl; marks = record { kept = kept; keeps = keeps; are = refl } })
    (shared.none c.snapshot.new.pass)))

pub returns-in_err-compared-clause-any_mark : goal.returns-in_err-compared-clause-any_mark
returns-in_err-compared-clause-any_mark g c kept keeps =
    unwritten g.met.A.Disk.only_now c.args.archive.now kept keeps _
    (λ bytes has. shared.HasSharedMarks.at_first has)

pub returns-in-Err-clause-stopped : goal.returns-in-Err-clause-stopped
returns-in-Err-clause-stopped g c kept keeps =
    let folder = g.F.EditedFolder.tree c.args.folder.now in
    let found = here folder c.in_ok-seen.seen.tree (marks_shown c.args.archive.now) in
    shared.IsSharedStop.cut_short c.in_ok-seen.seen c.snapshot.new.pass c.in_ok-seen.ensures.held
    (shared.IsCutShort.between [] (record { others = planned None found; are = refl })
    (record { folder = refl; marks = record { kept = kept; keeps = keeps; are = refl } })
    (shared.none c.snapshot.new.pass))

pub returns-in-Err-clause-any_mark : goal.returns-in-Err-clause-any_mark
returns-in-Err-clause-any_mark g c kept keeps =
    unwritten g.met.A.Disk.only_now c.args.archive.now kept keeps _
    (λ bytes has. shared.HasSharedMarks.at_first has)

pub returns-in_err-settled-clause-stopped : goal.returns-in_err-settled-clause-stopped
returns-in_err-settled-clause-stopped g c kept keeps =
    let folder = g.F.EditedFolder.tree c.args.folder.now in
    let seen = c.in_ok-seen.seen in
    let found = here folder seen.tree (marks_shown c.args.archive.now) in
    if_err_any _ _
    (shared.IsSharedStop.cut_short seen c.snapshot.new.pass c.in_ok-seen.ensures.held
    (subst (λ (xs : List Item). IsCutShort c.args.shared.now c.args.user seen.position
    (pair_of c.args.archive.now) xs found c.snapshot.new.pass c.carry_each.new.pass
    (g.F.EditedFolder.tree c.carry_each.new.folder) c.carry_each.new.archive)
    c.in_ok-compared.ensures.plan (c.in_err-settled.ensures.stopped kept keeps)))

any_mark : (g : Over) (c : After-carry_each g) (kept : Kept) → Keeps c.args.archive.now kept →
    Leaves c.args.archive.now c.carry_each.new.archive (HasSharedMarks c.args.shared.now
    c.args.user (g.F.EditedFolder.tree c.args.folder.now) c.args.archive.now c.args.pass.now)
any_mark g c kept keeps =
    let seen = c.in_ok-seen.seen in
    let old = c.args.archive.now in
    let found = here (g.F.EditedFolder.tree c.args.folder.now) seen.tree (marks_shown old) in
    leaves_weaker g.A.Disk.moment g.A.Disk.left_since (disk_of old)
    (disk_of c.carry_each.new.archive) _ _
    (λ bytes has. shared.HasSharedMarks.during seen c.snapshot.new.pass c.in_ok-seen.ensures.held
    (subst (λ (xs : List Item). HasSeenMarks c.args.shared.now c.args.user seen.position
    (pair_of old) xs found c.snapshot.new.pass bytes) c.in_ok-compared.ensures.plan has))
    (c.carry_each.ensures.any_mark kept keeps)

pub returns-in_err-settled-clause-any_mark : goal.returns-in_err-settled-clause-any_mark
returns-in_err-settled-clause-any_mark g c =
    any_mark g (goal.at.returns-in_err-settled-clause-any_mark g c).After-carry_each

pub returns-clause-any_mark : goal.returns-clause-any_mark
returns-clause-any_mark g c = any_mark g (goal.at.returns-clause-any_mark g c).After-carry_each

pub returns-clause-carried : goal.returns-clause-carried
returns-clause-carried g c kept keeps =
    let folder = g.F.EditedFolder.tree c.args.folder.now in
    let left = g.F.EditedFolder.tree c.carry_each.new.folder in
    let seen = c.in_ok-seen.seen in
    let marks = marks_shown c.args.archive.now in
    let found = here folder seen.tree marks in
    let marked = c.carry_each.new.archive in
    let settled = c.in_ok-settled.settled.items in
    let sides = c.plan_laws.ensures.sides in
    let plan = c.in_ok-settled.ensures.items ∙ c.in_ok-compared.ensures.plan in
    let holds = c.in_ok-settled.ensures.holds kept keeps in
    let beside = c.in_ok-settled.ensures.carried kept keeps in
    let first = c.snapshot.new.pass in
    let last = c.carry_each.new.pass in
    let took = c.in_ok-seen.ensures.held in
    record {
      seen = seen;
      before = first;
      took = took;
      plan = plan;
      leave = beside;
      holds = holds;
      apart = c.in_ok-settled.ensures.apart;
      emptied = c.in_ok-compared.ensures.emptied;
      pair = c.in_ok-compared.ensures.pair;
      whole = λ none.
          let same = sides_same folder marks seen c.args.shared.now c.args.user settled sides plan
          first last holds none in
          (beside.folder ∙ same.left, beside.marks.are ∙ same.archive);
      alone = λ none nobody history stands.
          alone folder marks seen c.args.shared.now c.args.user settled sides plan first last holds
          none c.args.pass.now took nobody history stands left marked beside;
      synchronized = λ none nobody history stands apart.
          let all = alone folder marks seen c.args.shared.now c.args.user settled sides plan first
          last holds none c.args.pass.now took nobody history stands left marked beside in
          subst (IsSynchronized None found) (sym all.are)
          (c.plan_laws.ensures.synchronizes None found c.tell_types.ensures.folder
          c.tell_types.ensures.replica c.tell_types.ensures.archive apart);
      reconciled = λ none nobody history stands.
          let all = alone folder marks seen c.args.shared.now c.args.user settled sides plan first
          last holds none c.args.pass.now took nobody history stands left marked beside in
          subst (IsReconciled None found) (sym all.are)
          (c.plan_laws.ensures.reconciles None found c.tell_types.ensures.folder
          c.tell_types.ensures.replica c.tell_types.ensures.archive);
    }
