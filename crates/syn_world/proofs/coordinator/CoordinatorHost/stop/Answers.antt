use Rattle.std.proofs.Common.{◌≡◌, ◌≢◌, ◌∙◌, [], ℕ, false, Some, ap, arith, refl, subst, sym}
use Rattle.std.proofs.lemmas.Bool.Decides.{nat_tests}
use Rattle.std.specs.Prelude.{◌==◌, if◌then◌else◌}
use Rattle.syn_disk.specs.Arms.{is_stopped}
use Rattle.syn_machine.specs.Coordinator.{coordinator_kind, no_call}
use Rattle.syn_machine.specs.Machine.{Arms, Down, unarmed}
use Rattle.syn_machine.specs.MachineSteps.{Does, Stop, arming, is_done, with_device}
use Rattle.syn_world.specs.Coordinators.{IsCoordinator, archive_disk}
use Rattle.syn_journal.specs.Calls.{armed_at}
use Rattle.syn_coordinator.specs.Coordinators.{Stands, device_of, tried_shown}
use Rattle.syn_journal.proofs.DiskLemmas.{may_be_still}
use Rattle.syn_archive.specs.Keepings.{of_archive}
use Rattle.syn_world.proofs.CoordinatorHostLemmas.{is_not_down, same_arms, tries_stopped}
use Rattle.syn_world.proofs.StopLemmas.{stops_after, stops_down}
use Rattle.syn_world.proofs.coordinator.CoordinatorHost.stop.Goals as goal

not_zero : (n : ℕ) → n ≢ 0 → (n == 0) ≡ false
not_zero n other = grind (arith, nat_tests)

pub returns-then-calls-eq0 : goal.returns-then-calls-eq0
returns-then-calls-eq0 g c pair machine is =
    let stands = subst (λ s. IsCoordinator pair s machine) c.in-Up.is is in
    let none : c.args.calls ≡ 0 = omega arith in
    let next = with_device (coordinator_kind pair) machine Down unarmed 0 in
    record {
      next = next;
      step = subst (λ n. Does (coordinator_kind pair) machine (Stop n) next no_call []) (sym none)
          (is_done _ _ _ (is_not_down pair c.in-Up.coordinator machine stands) arming);
      is = c.down.ensures.stops pair next (record {
        down = refl;
        unarmed_is = refl;
        idle = refl;
        leaves = λ bytes may. may_be_still (of_archive pair) machine.journal Down unarmed 0 bytes
            (stands.journal.leaves bytes may);
        tries = tries_stopped (tried_shown c.in-Up.coordinator) machine.journal stands.tries;
      });
      counts =
          omega (
            arith,
            c.down.ensures.count,
            ap (λ s. g.D.Disk.failures (archive_disk s)) c.in-Up.is,
          );
    }

pub returns-else-calls-eq0 : goal.returns-else-calls-eq0
returns-else-calls-eq0 g c pair machine is =
    let stands = subst (λ s. IsCoordinator pair s machine) c.in-Up.is is in
    let other = is_not_down pair c.in-Up.coordinator machine stands in
    let some : c.args.calls ≢ 0 = omega arith in
    let was = g.D.Disk.arms (device_of c.in-Up.coordinator) in
    let now = c.armed_with.ensures.arms
    ∙ ap (λ b. if b then was else record was { stop = Some c.args.calls })
    stands.journal.goes in
    let left = λ (arms : Arms).
    with_device (coordinator_kind pair) machine machine.journal.status arms 0 in
    record {
      next = left (record machine.journal.arms { stop = c.args.calls });
      step = stops_after (coordinator_kind pair) machine c.args.calls some other;
      is = subst (λ a. Stands c.armed_with.result pair (left a))
          (ap armed_at now
          ∙ ap (λ (a : Arms). record a { stop = c.args.calls }) stands.journal.armed)
          (subst (λ m. Stands c.armed_with.result pair m) (same_arms pair machine _ other)
          (c.armed_with.ensures.stands pair machine stands
          (ap is_stopped now ∙ not_zero c.args.calls some)));
      counts =
          omega (
            arith,
            c.armed_with.ensures.count,
            ap (λ s. g.D.Disk.failures (archive_disk s)) c.in-Up.is,
          );
    }

pub returns-in-Down : goal.returns-in-Down
returns-in-Down g c pair machine is =
    let rests = subst (λ s. IsCoordinator pair s machine) c.in-Down.is is in
    record {
      next = machine;
      step = stops_down (coordinator_kind pair) machine c.args.calls rests.rests.down;
      is = rests;
      counts = omega (arith, ap (λ s. g.D.Disk.failures (archive_disk s)) c.in-Down.is);
    }
