use Rattle.std.proofs.Common.{◌∙◌, Some, ap, arith, inl, inr, refl, subst, sym}
use Rattle.syn_world.specs.Starts.{CanStart, HoldsReplica, StartsCoordinator}
use Rattle.syn_archive.specs.Keepings.{of_archive}
use Rattle.syn_world.specs.Openings.{AreOfPair, shown_on}
use Rattle.syn_world.specs.Worlds.{pair_by}
use Rattle.syn_world.specs.Openings.{refuses_archive, refuses_left, refuses_right}
use Rattle.syn_world.proofs.WorldOpenLemmas.{archive_can, left_can, opened_counts, right_can}
use Rattle.syn_world.proofs.WorldOpenLemmas.{world_opens}
use Rattle.syn_world.proofs.world.World.open.Goals as goal

pub returns-in-Err-clause-refused : goal.returns-in-Err-clause-refused
returns-in-Err-clause-refused g c pair stores all =
    c.in-Err.ensures.refused pair stores.left all.fits (inl refl)
    (left_can g.D.Disk pair c.args.disks stores all)

pub returns-in-Err-start_side-clause-refused : goal.returns-in-Err-start_side-clause-refused
returns-in-Err-start_side-clause-refused g c pair stores all =
    let left = c.in-Ok.ensures.starts pair stores.left all.fits
    (left_can g.D.Disk pair c.args.disks stores all) in
    c.in-Err-start_side.ensures.refused pair stores.right all.fits
    (inr (ap Some (c.pair-pair.ensures ∙ left.runs.is.keeps.pair_is)))
    (right_can g.D.Disk pair c.args.disks stores all)

pub returns-in-Ok-start_coordinator-clause-opened :
    goal.returns-in-Ok-start_coordinator-clause-opened
returns-in-Ok-start_coordinator-clause-opened g c pair stores all =
    let left = c.in-Ok.ensures.starts pair stores.left all.fits
    (left_can g.D.Disk pair c.args.disks stores all) in
    let right = c.in-Ok-start_side.ensures.starts pair stores.right all.fits
    (right_can g.D.Disk pair c.args.disks stores all) in
    let same = c.pair-pair.ensures ∙ left.runs.is.keeps.pair_is in
    let bytes = g.D.Disk.seen c.args.disks.archive in
    let made = c.in-Ok-start_coordinator.coordinator in
    let archive = subst (λ p. StartsCoordinator p bytes stores.archive made) same
    (c.in-Ok-start_coordinator.ensures.starts stores.archive
    (subst (λ p. CanStart (of_archive p) (g.D.Disk.arms c.args.disks.archive) bytes stores.archive)
    (sym same) (archive_can g.D.Disk pair c.args.disks stores all))) in
    world_opens g.D.Disk pair c.args.disks stores all c.in-Ok.left c.in-Ok-start_side.right made
    left right archive c.pair-pair.result c.no_lists.result c.of.result c.of.ensures.running
    c.of.ensures.goes same c.no_lists.ensures.sent c.no_lists.ensures.acknowledged
    c.no_lists.ensures.refusals c.no_lists.ensures.reports

pub returns-in-Err-start_coordinator-clause-refused :
    goal.returns-in-Err-start_coordinator-clause-refused
returns-in-Err-start_coordinator-clause-refused g c pair stores all =
    let left = c.in-Ok.ensures.starts pair stores.left all.fits
    (left_can g.D.Disk pair c.args.disks stores all) in
    let same = c.pair-pair.ensures ∙ left.runs.is.keeps.pair_is in
    let bytes = g.D.Disk.seen c.args.disks.archive in
    c.in-Err-start_coordinator.ensures.refused stores.archive
    (subst (λ p. CanStart (of_archive p) (g.D.Disk.arms c.args.disks.archive) bytes stores.archive)
    (sym same) (archive_can g.D.Disk pair c.args.disks stores all))

pub returns-in-Ok-start_coordinator-clause-pair : goal.returns-in-Ok-start_coordinator-clause-pair
returns-in-Ok-start_coordinator-clause-pair g c =
    let same = ap pair_by c.of.ensures.running in
    subst (AreOfPair (shown_on g.D.Disk.seen c.args.disks)) (sym same) (record {
      left = subst (λ p. HoldsReplica p (g.D.Disk.seen c.args.disks.left)) (sym c.pair-pair.ensures)
          c.in-Ok.ensures.holds;
      right = subst (λ p. HoldsReplica p (g.D.Disk.seen c.args.disks.right))
          (sym (c.in-Ok-start_side.ensures.wanted c.pair-pair.result refl))
          c.in-Ok-start_side.ensures.holds;
      archive = c.in-Ok-start_coordinator.ensures.holds;
    })

pub returns-in-Ok-start_coordinator-clause-failures :
    goal.returns-in-Ok-start_coordinator-clause-failures
returns-in-Ok-start_coordinator-clause-failures g c =
    opened_counts g.D.Disk c.args.disks c.in-Ok.left c.in-Ok-start_side.right
    c.in-Ok-start_coordinator.coordinator c.pair-pair.result c.no_lists.result c.of.result
    c.of.ensures.running c.in-Ok.ensures.failures c.in-Ok-start_side.ensures.failures
    c.in-Ok-start_coordinator.ensures.failures

pub returns-in-Err-clause-cause : goal.returns-in-Err-clause-cause
returns-in-Err-clause-cause g c = refuses_left c.in-Err.ensures.cause

pub returns-in-Err-clause-failures : goal.returns-in-Err-clause-failures
returns-in-Err-clause-failures g c = record {
  grew = λ device. omega (arith, c.in-Err.ensures.failures.grew device);
  same = λ other. omega (arith, c.in-Err.ensures.failures.same other);
}

pub returns-in-Err-start_side-clause-cause : goal.returns-in-Err-start_side-clause-cause
returns-in-Err-start_side-clause-cause g c =
    refuses_right c.pair-pair.result (subst (λ p. HoldsReplica p (g.D.Disk.seen c.args.disks.left))
    (sym c.pair-pair.ensures) c.in-Ok.ensures.holds) c.in-Err-start_side.ensures.cause

pub returns-in-Err-start_side-clause-failures : goal.returns-in-Err-start_side-clause-failures
returns-in-Err-start_side-clause-failures g c =
    let left = ap g.D.Disk.failures c.into_disk.ensures.disk in record {
      grew = λ device. omega (
        arith,
        left,
        c.in-Ok.ensures.failures,
        c.in-Err-start_side.ensures.failures.grew device,
      );
      same = λ other. omega (
        arith,
        left,
        c.in-Ok.ensures.failures,
        c.in-Err-start_side.ensures.failures.same other,
      );
    }

pub returns-in-Err-start_coordinator-clause-cause :
    goal.returns-in-Err-start_coordinator-clause-cause
returns-in-Err-start_coordinator-clause-cause g c =
    refuses_archive c.pair-pair.result
    (subst (λ p. HoldsReplica p (g.D.Disk.seen c.args.disks.left)) (sym c.pair-pair.ensures)
    c.in-Ok.ensures.holds)
    (subst (λ p. HoldsReplica p (g.D.Disk.seen c.args.disks.right))
    (sym (c.in-Ok-start_side.ensures.wanted c.pair-pair.result refl))
    c.in-Ok-start_side.ensures.holds) c.in-Err-start_coordinator.ensures.cause

pub returns-in-Err-start_coordinator-clause-failures :
    goal.returns-in-Err-start_coordinator-clause-failures
returns-in-Err-start_coordinator-clause-failures g c =
    let left = ap g.D.Disk.failures c.into_disk-in-Err-start_coordinator.ensures.disk in
    let right = ap g.D.Disk.failures c.into_disk-in-Err-start_coordinator-2.ensures.disk in record {
      grew = λ device. omega (
        arith,
        left,
        right,
        c.in-Ok.ensures.failures,
        c.in-Ok-start_side.ensures.failures,
        c.in-Err-start_coordinator.ensures.failures.grew device,
      );
      same = λ other. omega (
        arith,
        left,
        right,
        c.in-Ok.ensures.failures,
        c.in-Ok-start_side.ensures.failures,
        c.in-Err-start_coordinator.ensures.failures.same other,
      );
    }
