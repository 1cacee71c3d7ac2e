use Rattle.std.proofs.Common.{◌≡◌, arith}
use Rattle.syn_machine.specs.Network.{Left, Right}
use Rattle.syn_runs.specs.World.{At, Coordinator}
use Rattle.syn_world.specs.Failures.{CountAlike, failures_on}
use Rattle.syn_world.specs.Openings.{MayHold, failed_calls, shown_on}
use Rattle.syn_world.specs.declared.world.Disks.{Disks}
use Rattle.syn_world.proofs.HeadlineLemmas.{AreStopped, if_err, if_ok, might_hold, opens_again}
use Rattle.syn_world.proofs.HeadlineLemmas.{recovered_counts, stand_stopped}
use Rattle.syn_world.proofs.PromiseLemmas.{holds_as_promised}
use Rattle.syn_world.proofs.headline.recover.Goals as goal

-- the disks as they are found after the stop
abbrev stopped_disks : (g : _) (c : goal.After-open g) → Disks g.row.D.Denot
stopped_disks g c = record {
  left = c.after_stop.result;
  right = c.after_stop-2.result;
  archive = c.after_stop-3.result;
}

are_stopped : (g : _) (c : goal.After-open g)
    → AreStopped g.D.Disk c.args.disks (stopped_disks g c)
are_stopped g c = record {
  back = record {
    left = c.after_stop.ensures.left;
    right = c.after_stop-2.ensures.left;
    archive = c.after_stop-3.ensures.left;
  };
  left = c.after_stop.ensures.arms;
  right = c.after_stop-2.ensures.arms;
  archive = c.after_stop-3.ensures.arms;
}

-- what the stopped disks show might have been left by a stop
shown_is : (g : _) (c : goal.After-open g) → MayHold g.D.Disk.may_leave c.args.disks
    (shown_on g.D.Disk.seen (stopped_disks g c))
shown_is g c =
    might_hold g.D.Disk c.args.disks (stopped_disks g c) (are_stopped g c)
    g.met.D.Disk.seen_may_stay

pub returns-clause-promised : goal.returns-clause-promised
returns-clause-promised g c pair before steps told fits leaves =
    let shown = shown_on g.D.Disk.seen (stopped_disks g c) in
    let found = leaves shown (shown_is g c) in
    if_ok c.open.result (c.open.ensures.opened pair found.now (stand_stopped g.D.Disk c.args.disks
    (stopped_disks g c) (are_stopped g c) pair found.now fits found.stand))
    (holds_as_promised pair before steps told shown found)

pub returns-clause-refused : goal.returns-clause-refused
returns-clause-refused g c pair before steps told fits leaves =
    let found = leaves (shown_on g.D.Disk.seen (stopped_disks g c)) (shown_is g c) in
    c.open.ensures.refused pair found.now (stand_stopped g.D.Disk c.args.disks (stopped_disks g c)
    (are_stopped g c) pair found.now fits found.stand)

pub returns-clause-opened : goal.returns-clause-opened
returns-clause-opened g c =
    opens_again c.args.disks (shown_on g.D.Disk.seen (stopped_disks g c)) (shown_is g c)
    c.open.result (λ pair now fits stand. c.open.ensures.opened pair now (stand_stopped g.D.Disk
    c.args.disks (stopped_disks g c) (are_stopped g c) pair now fits stand))

pub returns-clause-pair : goal.returns-clause-pair
returns-clause-pair g c =
    if_ok c.open.result c.open.ensures.pair (λ world holds. record {
      shown = shown_on g.D.Disk.seen (stopped_disks g c);
      might_hold = shown_is g c;
      holds = holds;
    })

pub returns-clause-cause : goal.returns-clause-cause
returns-clause-cause g c =
    if_err c.open.result c.open.ensures.cause (λ refused refuses. record {
      shown = shown_on g.D.Disk.seen (stopped_disks g c);
      might_hold = shown_is g c;
      refuses = refuses;
    })

pub returns-clause-failures : goal.returns-clause-failures
returns-clause-failures g c =
    let same : failed_calls g.D.Disk.failures (stopped_disks g c)
    ≡ failed_calls g.D.Disk.failures c.args.disks =
    omega (
      arith,
      c.after_stop.ensures.count,
      c.after_stop-2.ensures.count,
      c.after_stop-3.ensures.count,
    ) in
    recovered_counts g.D.Disk c.args.disks (stopped_disks g c) c.open.result alike same
    c.open.ensures.failures
  where
    alike : CountAlike (failures_on g.D.Disk.failures (stopped_disks g c))
        (failures_on g.D.Disk.failures c.args.disks)
    alike (At Left) = c.after_stop.ensures.count
    alike (At Right) = c.after_stop-2.ensures.count
    alike Coordinator = c.after_stop-3.ensures.count
