-- The world that is opened from three disks is one of the model that was just opened.
use Rattle.std.proofs.Common.{◌≡◌, ◌∙◌, ◌<◌, ℕ, [], None, Some, false, ap, arith, refl, subst, sym}
use Rattle.std.specs.Prelude.{map}
use Rattle.syn_disk.specs.declared.disk.Disk.{Ghosts}
use Rattle.syn_runs.specs.Acknowledged.{Stores}
use Rattle.syn_runs.specs.Runs.{stores_of}
use Rattle.syn_runs.specs.Headline.{IsPair}
use Rattle.syn_machine.specs.Network.{Which, Left, Right}
use Rattle.syn_runs.specs.World.{World as ModelWorld, At, side_of}
use Rattle.syn_runs.specs.World as worlds
use Rattle.syn_world.specs.Starts.{CanStart, StartsCoordinator, StartsSide}
use Rattle.syn_world.specs.declared.coordinator.CoordinatorHost.TheVariants as machine
use Rattle.syn_world.specs.declared.side.SideHost.TheVariants as host
use Rattle.syn_world.specs.declared.side.UpSide.{UpSide}
use Rattle.syn_model.specs.Archive.{Archive}
use Rattle.syn_model.specs.History.{History}
use Rattle.syn_refusal.specs.Refusals.{cause_of}
use Rattle.syn_world.specs.CrashSafety.{disk_of}
use Rattle.syn_archive.specs.Keepings.{of_archive}
use Rattle.syn_replica.specs.Keepings.{of_side}
use Rattle.syn_journal.specs.Meaning.{IsOf}
use Rattle.syn_coordinator.specs.Coordinators.{device_of}
use Rattle.syn_coordinator.specs.declared.coordinator.Coordinator.{Coordinator}
use Rattle.syn_replica.specs.Replica.{disk_of as replica_disk}
use Rattle.syn_world.specs.Failures.{CountAlike, failures_in, failures_on}
use Rattle.syn_world.specs.Openings.{CountsAsOpened, OpensFrom, StandFor, shown_on}
use Rattle.syn_world.specs.Worlds.{is_spent, message_of, report_in, running_in, told_in}
use Rattle.syn_world.specs.declared.lists.Lists.{Lists}
use Rattle.syn_world.specs.declared.running.Running.{Running}
use Rattle.syn_world.proofs.RunLemmas.{value_is}
use Rattle.syn_world.specs.declared.world.Disks.{Disks}
use Rattle.syn_world.specs.declared.world.World.{World}

abbrev made : History → History → Archive → Stores
made left right archive = record { left = left; right = right; archive = archive }

-- three values that are those of the stores
same_stores : (stores : Stores) (left right : History) (archive : Archive) → left ≡ stores.left
    → right ≡ stores.right → archive ≡ stores.archive → made left right archive ≡ stores
same_stores stores left right archive on_left on_right on_archive =
    ap (λ l. made l right archive) on_left ∙ (ap (λ r. made stores.left r archive) on_right
    ∙ ap (λ a. made stores.left stores.right a) on_archive)

module _ {D : Type 0} (disk : Ghosts D) (pair : ℕ) (disks : Disks D) (stores : Stores)
    (all : StandFor disk.seen disk.arms pair disks stores) where
  pub left_can : CanStart (of_side pair) (disk.arms disks.left) (disk.seen disks.left)
      stores.left
  left_can = record { free = all.left; is_disk = all.stand.side Left }

  pub right_can : CanStart (of_side pair) (disk.arms disks.right) (disk.seen disks.right)
      stores.right
  right_can = record { free = all.right; is_disk = all.stand.side Right }

  pub archive_can : CanStart (of_archive pair) (disk.arms disks.archive)
      (disk.seen disks.archive) stores.archive
  archive_can = record { free = all.archive; is_disk = all.stand.archive }

  module _ (left right : UpSide D disk) (coordinator : Coordinator D disk)
      (on_left : StartsSide pair (disk.seen disks.left) stores.left left)
      (on_right : StartsSide pair (disk.seen disks.right) stores.right right)
      (on_archive : StartsCoordinator pair (disk.seen disks.archive) stores.archive coordinator)
    where
      abbrev model : ModelWorld
      model = record {
        pair = pair;
        left = on_left.machine;
        right = on_right.machine;
        coordinator = record { journal = on_archive.journal; running = None };
        sent = [];
        acknowledged = [];
        refusals = [];
        reports = [];
        log = [];
      }

      stores_are : stores_of model ≡ stores
      stores_are = same_stores stores on_left.machine.journal.value on_right.machine.journal.value
          on_archive.journal.value on_left.value_is on_right.value_is on_archive.value_is

      side_is : (which : Which) → IsOf (of_side pair) (side_of model which).journal
          (disk_of (shown_on disk.seen disks) which)
      side_is Left = on_left.is
      side_is Right = on_right.is

      pub world_opens : (number : ℕ) (lists : Lists) (world : World D disk)
          → running_in world ≡ Some (record {
            pair = number;
            left = host.Up left;
            right = host.Up right;
            coordinator = machine.Up coordinator;
            lists = lists;
          }) → is_spent world ≡ false → number ≡ pair → lists.sent.items ≡ []
          → lists.acknowledged.items ≡ [] → lists.refusals.items ≡ [] → lists.reports.items ≡ []
          → OpensFrom pair (shown_on disk.seen disks) stores world
      world_opens number lists world there goes same sent acknowledged refusals reports = record {
        model = model;
        is = record {
          running = _;
          there = there;
          goes = goes;
          is = record {
            machines = record {
              pair = same;
              left = on_left.runs;
              right = on_right.runs;
              coordinator = on_archive.stands;
            };
            lists = record {
              sent = ap (map message_of) sent;
              acknowledged = ap (map told_in) acknowledged;
              refusals = ap (map cause_of) refusals;
              reports = ap (map report_in) reports;
              lawful = λ k one less. absurd (let none : k < 0 = less in omega (arith, none));
            };
          };
        };
        opened = record {
          pair_is = refl;
          start = record {
            pair = subst IsPair (sym stores_are) all.stand.is_pair;
            left = (on_left.fresh, on_left.unstaged);
            right = (on_right.fresh, on_right.unstaged);
            coordinator = (on_archive.fresh, refl);
            nothing_yet = (refl, refl, refl, refl, refl);
          };
          side = side_is;
          archive = on_archive.is;
        };
        stores_are = stores_are;
      }

-- and its disks have counted as many failed calls as those that it was opened from
pub opened_counts : {D : Type 0} (disk : Ghosts D) (disks : Disks D) (left right : UpSide D disk)
    (coordinator : Coordinator D disk) (number : ℕ) (lists : Lists) (world : World D disk)
    → running_in world ≡ Some (record {
      pair = number;
      left = host.Up left;
      right = host.Up right;
      coordinator = machine.Up coordinator;
      lists = lists;
    }) → disk.failures (replica_disk left.replica) ≡ disk.failures disks.left
    → disk.failures (replica_disk right.replica) ≡ disk.failures disks.right
    → disk.failures (device_of coordinator) ≡ disk.failures disks.archive
    → CountsAsOpened world disks
opened_counts {D} disk disks left right coordinator number lists world there on_left on_right
    on_archive running is =
    subst (λ r. CountAlike (failures_in r) (failures_on disk.failures disks))
    (value_is opened running (sym there ∙ is)) alike
  where
    opened : Running D disk
    opened = record {
      pair = number;
      left = host.Up left;
      right = host.Up right;
      coordinator = machine.Up coordinator;
      lists = lists;
    }

    alike : CountAlike (failures_on disk.failures (record {
      left = replica_disk left.replica;
      right = replica_disk right.replica;
      archive = device_of coordinator;
    })) (failures_on disk.failures disks)
    alike (At Left) = on_left
    alike (At Right) = on_right
    alike worlds.Coordinator = on_archive
