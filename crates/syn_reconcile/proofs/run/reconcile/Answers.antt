use Rattle.std.proofs.Common.{◌≡◌, ◌∙◌, ap, option_map, refl, subst, sym}
use Rattle.syn_archive.specs.Archive.{Stands as Keeps}
use Rattle.syn_archive.specs.Archive.{pair_of as marks_pair}
use Rattle.syn_model.proofs.ExitLemmas.{if_err_of_exit, match_of_exit}
use Rattle.syn_model.specs.Archive.{Archive as Kept}
use Rattle.syn_model.specs.History.{History}
use Rattle.syn_model.specs.Plan.{CanBePlanned, IsReconciled, IsSynchronized, after_plan}
use Rattle.syn_model.specs.Plan.{carried_out}
use Rattle.syn_path.specs.Sides.{which_of}
use Rattle.syn_replica.specs.Replica.{Stands, pair_of}
use Rattle.syn_reconcile.proofs.RunLemmas.{all_carried, none_yet, started_marks, started_tree}
use Rattle.syn_reconcile.proofs.RunLemmas.{stopped_between}
use Rattle.syn_reconcile.proofs.SettleLemmas.{stays}
use Rattle.syn_reconcile.specs.Settlings.{NoneRefused, trees_of}
use Rattle.syn_reconcile.proofs.run.reconcile.Given.{Over}
use Rattle.syn_reconcile.proofs.run.reconcile.Goals as goal
use Rattle.syn_reconcile.proofs.run.reconcile.Goals.{In_ok-replica}

pub returns-in-Err-clause-any_moment : goal.returns-in-Err-clause-any_moment
returns-in-Err-clause-any_moment g c history kept stands keeps =
    rw c.into_disk.ensures (started_tree _ _ c.args.replica c.args.archive.now
    g.met.R.Disk.only_now c.args.user history stands)

pub returns-in-Err-clause-any_mark : goal.returns-in-Err-clause-any_mark
returns-in-Err-clause-any_mark g c history kept stands keeps =
    started_marks _ _ c.args.replica c.args.archive.now g.met.A.Disk.only_now kept keeps

pub returns-in-Err-clause-stopped : goal.returns-in-Err-clause-stopped
returns-in-Err-clause-stopped g c history kept stands keeps =
    let folder = g.F.EditedFolder.tree c.args.folder.now in
    let old = c.args.replica in
    let marks = c.args.archive.now in
    let found = trees_of folder old marks in
    stopped_between _ found found c.args.user history folder old marks (pair_of old)
    (marks_pair marks) c.into_disk.result (none_yet _ folder old marks)
    (stays c.args.user history found folder old marks kept stands keeps refl) refl refl
    c.into_disk.ensures

pub returns-in-Err-begin-clause-any_moment : goal.returns-in-Err-begin-clause-any_moment
returns-in-Err-begin-clause-any_moment g c history kept stands keeps =
    rw c.into_disk-in-Err-begin.ensures (started_tree _ _ c.args.replica c.args.archive.now
    g.met.R.Disk.only_now c.args.user history stands)

pub returns-in-Err-begin-clause-any_mark : goal.returns-in-Err-begin-clause-any_mark
returns-in-Err-begin-clause-any_mark g c history kept stands keeps =
    started_marks _ _ c.args.replica c.args.archive.now g.met.A.Disk.only_now kept keeps

pub returns-in-Err-begin-clause-stopped : goal.returns-in-Err-begin-clause-stopped
returns-in-Err-begin-clause-stopped g c history kept stands keeps =
    let folder = g.F.EditedFolder.tree c.args.folder.now in
    let old = c.args.replica in
    let marks = c.args.archive.now in
    let found = trees_of folder old marks in
    stopped_between _ found found c.args.user history folder old marks (pair_of old)
    (marks_pair marks) c.into_disk-in-Err-begin.result (none_yet _ folder old marks)
    (stays c.args.user history found folder old marks kept stands keeps refl) refl refl
    c.into_disk-in-Err-begin.ensures

pub returns-in_err-replica-clause-any_moment : goal.returns-in_err-replica-clause-any_moment
returns-in_err-replica-clause-any_moment g c history kept stands keeps =
    match_of_exit c.from_residual.result c.in_err-replica.field-0.0 _ _ c.from_residual.ensures.1
    (rw (← c.in-Ok.ensures.plan)
    (c.in_err-replica.ensures.any_moment history kept stands keeps))

pub returns-in_err-replica-clause-any_mark : goal.returns-in_err-replica-clause-any_mark
returns-in_err-replica-clause-any_mark g c history kept stands keeps =
    rw (← c.in-Ok.ensures.plan) (c.in_err-replica.ensures.any_mark history kept stands keeps)

pub returns-in_err-replica-clause-stopped : goal.returns-in_err-replica-clause-stopped
returns-in_err-replica-clause-stopped g c history kept stands keeps =
    if_err_of_exit c.from_residual.result c.in_err-replica.field-0.0 _ c.from_residual.ensures.1
    (rw (← c.in-Ok.ensures.plan) (c.in_err-replica.ensures.stopped history kept stands keeps))

pub returns-clause-plan : goal.returns-clause-plan
returns-clause-plan g c = c.in_ok-replica.ensures.items ∙ c.in-Ok.ensures.plan

-- where no item was refused, the three are what the plan leaves of them
whole : (g : Over) (c : In_ok-replica g) (history : History) (kept : Kept) →
    Stands c.args.replica history → Keeps c.args.archive.now kept →
    NoneRefused c.in_ok-replica.settled.items →
    trees_of (g.F.EditedFolder.tree c.carry_all.new.folder) c.in_ok-replica.replica
    c.carry_all.new.archive
    ≡ after_plan (option_map which_of c.args.preference)
    (trees_of (g.F.EditedFolder.tree c.args.folder.now) c.args.replica c.args.archive.now)
whole g c history kept stands keeps none =
    let found = trees_of (g.F.EditedFolder.tree c.args.folder.now) c.args.replica
    c.args.archive.now in
    (c.in_ok-replica.ensures.carried history kept stands keeps).are
    ∙ (all_carried found c.in_ok-replica.settled.items none
    ∙ ap (carried_out found) (c.in_ok-replica.ensures.items ∙ c.in-Ok.ensures.plan))

pub returns-clause-whole : goal.returns-clause-whole
returns-clause-whole g c = whole g (goal.at.returns-clause-whole g c).In_ok-replica

pub returns-clause-any_moment : goal.returns-clause-any_moment
returns-clause-any_moment g c history kept stands keeps =
    rw (← c.in-Ok.ensures.plan) (c.in_ok-replica.ensures.any_moment history kept stands keeps)

pub returns-clause-any_mark : goal.returns-clause-any_mark
returns-clause-any_mark g c history kept stands keeps =
    rw (← c.in-Ok.ensures.plan) (c.in_ok-replica.ensures.any_mark history kept stands keeps)

pub returns-clause-synchronized : goal.returns-clause-synchronized
returns-clause-synchronized g c history kept stands keeps none apart =
    let k = (goal.at.returns-clause-synchronized g c).In_ok-replica in
    let found = trees_of (g.F.EditedFolder.tree c.args.folder.now) c.args.replica
    c.args.archive.now in
    let preference = option_map which_of c.args.preference in
    subst (IsSynchronized preference found) (sym (whole g k history kept stands keeps none))
    (c.plan_laws.ensures.synchronizes preference found c.tell_types.ensures.folder
    (subst CanBePlanned c.tree.ensures c.tell_types.ensures.replica)
    c.tell_types.ensures.archive apart)

pub returns-clause-reconciled : goal.returns-clause-reconciled
returns-clause-reconciled g c history kept stands keeps none =
    let k = (goal.at.returns-clause-reconciled g c).In_ok-replica in
    let found = trees_of (g.F.EditedFolder.tree c.args.folder.now) c.args.replica
    c.args.archive.now in
    let preference = option_map which_of c.args.preference in
    subst (IsReconciled preference found) (sym (whole g k history kept stands keeps none))
    (c.plan_laws.ensures.reconciles preference found c.tell_types.ensures.folder
    (subst CanBePlanned c.tree.ensures c.tell_types.ensures.replica)
    c.tell_types.ensures.archive)
