-- A world keeps the promise of its run, and so does one that is opened after it.
use Rattle.std.proofs.Common.{◌≡◌, ◌∙◌, ℕ, List, Some, option_map, sym, ap}
use Rattle.std.proofs.Common.{map, subst}
use Rattle.std.specs.Prelude.{IsSomeAnd}
use Rattle.std.proofs.lemmas.Option.{same_Some}
use Rattle.syn_archive.specs.Archive.{shown}
use Rattle.syn_disk.specs.declared.disk.Disk.{Ghosts}
use Rattle.syn_replica.specs.Machines.{StandsAs}
use Rattle.syn_runs.specs.Acknowledged.{Stores, history_of}
use Rattle.syn_machine.specs.Coordinator.{CoordinatorMachine}
use Rattle.syn_machine.specs.Machine.{Up, Down}
use Rattle.syn_runs.specs.Runs.{IsStart, stores_of, picture_of}
use Rattle.syn_machine.specs.SideMachine.{SideMachine}
use Rattle.syn_runs.specs.World.{World as ModelWorld, Runs, Step}
use Rattle.syn_world.specs.Coordinators.{IsCoordinator}
use Rattle.syn_world.specs.Sides.{IsHost, replica_of}
use Rattle.syn_world.specs.declared.coordinator.CoordinatorHost.{CoordinatorHost}
use Rattle.syn_world.specs.declared.coordinator.CoordinatorHost.TheVariants as machine
use Rattle.syn_world.specs.declared.side.SideHost.{SideHost}
use Rattle.syn_world.specs.declared.side.SideHost.TheVariants as host
use Rattle.syn_model.specs.History.{tree_of}
use Rattle.syn_path.specs.Sides.{which_of}
use Rattle.syn_path.specs.declared.side.Side.{Side}
use Rattle.syn_path.specs.declared.side.Side.TheVariants as side
use Rattle.syn_model.specs.Path.{Bytes}
use Rattle.syn_promise.specs.Laws.{RunsKeepPromise, told_by}
use Rattle.syn_promise.specs.Promise.{Promised, Told}
use Rattle.syn_world.specs.CrashSafety.{DiskBytes, DisksStand, IsOpenedFrom, IsRecovered}
use Rattle.syn_world.specs.CrashSafety.{RunsRecover}
use Rattle.syn_replica.specs.Replica.{tree_shown}
use Rattle.syn_world.specs.Failures.{FailWithDisks, disks_in, failures_on}
use Rattle.syn_world.specs.Headlines.{IsRun}
use Rattle.syn_world.specs.Openings.{OpensFrom, shown_on}
use Rattle.syn_world.specs.Promises.{Holds, HoldsAsPromised, KeepsPromise, LeavePromised, Shows}
use Rattle.syn_world.specs.Promises.{StandAsPromised}
use Rattle.syn_world.specs.Worlds.{AreLeft, IsWorld, archive_at, archive_by, pair_by, replica_by}
use Rattle.syn_world.specs.Worlds.{acknowledged_by, refusals_by, report_in, reports_by}
use Rattle.syn_world.specs.Worlds as worlds
use Rattle.syn_refusal.specs.Refusals.{cause_of}
use Rattle.syn_world.specs.declared.world.Disks.{Disks}
use Rattle.syn_world.specs.declared.world.World.{World}
use Rattle.syn_world.proofs.HeadlineLemmas.{may_be_left, world_left}
use Rattle.syn_world.proofs.PairLemmas.{run_keeps_pair}

-- a run keeps its promise with what its disks then stand for
promised_of : RunsKeepPromise → (before : Stores) (old new : ModelWorld) (steps : List Step)
    (later : DiskBytes) (now : Stores) → IsStart old → stores_of old ≡ before → Runs old steps new
    → IsRecovered (stores_of old) (picture_of new) later now
    → Promised before steps (told_by new) now
promised_of law before old new steps later now start same runs found =
    subst (λ b. Promised b steps (told_by new) now) same
    (law old new steps now start runs (record { side = found.side; archive = found.archive }))

shows_told : {D : Type 0} {disk : Ghosts D} (world : World D disk) (new : ModelWorld)
    → IsWorld world new → Shows world (told_by new)
shows_told world new is = record {
  acknowledged = ap (λ o. map worlds.told_in (acknowledged_by o)) is.there
      ∙ is.is.lists.acknowledged;
  refused = ap (λ o. map cause_of (refusals_by o)) is.there ∙ is.is.lists.refusals;
  reports = ap (λ o. map report_in (reports_by o)) is.there ∙ is.is.lists.reports;
}

module _ (recover : RunsRecover) (law : RunsKeepPromise) (pair : ℕ) (before : Stores)
    (bytes : DiskBytes) (old new : ModelWorld) (steps : List Step)
    (opened : IsOpenedFrom pair bytes old) (same : stores_of old ≡ before)
    (runs : Runs old steps new) where
  -- whatever a stop may leave on the disks of its machines, the promise holds of it
  pub leave_promised : {D : Type 0} (may_leave : D → Bytes → Type 0) (later : Disks D)
      → AreLeft may_leave later new
      → LeavePromised may_leave pair before steps (told_by new) later
  leave_promised may_leave later left shown holds =
      let found = recover pair bytes shown old new steps opened runs
      (may_be_left may_leave later new left shown holds) in
      record {
        now = found.0;
        stand = subst (λ p. DisksStand p shown found.0)
            (run_keeps_pair old steps new runs ∙ opened.pair_is) found.1.stand;
        promised = promised_of law before old new steps shown found.0 opened.start same runs
            found.1;
      }

  pub keeps_promise : {D : Type 0} {disk : Ghosts D} (world : World D disk) → IsWorld world new
      → KeepsPromise pair before steps (told_by new) world
  keeps_promise {D} {disk} world is = record {
    shows = shows_told world new is;
    left = λ disks holds. leave_promised disk.may_leave disks
        (subst (λ d. AreLeft disk.may_leave d new)
        (same_Some (disks_in is.running) disks (sym (ap (option_map disks_in) is.there) ∙ holds))
        (world_left is.running new is.is.machines));
  }

-- the exact run from what the disks showed
pub is_run : {D : Type 0} (disk : Ghosts D) (pair : ℕ) (disks later : Disks D) (before : Stores)
    (steps : List Step) (old new : ModelWorld) → RunsRecover → RunsKeepPromise
    → IsOpenedFrom pair (shown_on disk.seen disks) old → stores_of old ≡ before
    → Runs old steps new
    → FailWithDisks old new (failures_on disk.failures disks) (failures_on disk.failures later)
    → AreLeft disk.may_leave later new → IsRun disk pair disks later before steps new
is_run disk pair disks later before steps old new recover law opened same runs counts left =
    record {
      old = old;
      opened = opened;
      stood_for = same;
      runs = runs;
      counts = counts;
      left = left;
      promised = leave_promised recover law pair before (shown_on disk.seen disks) old new steps
          opened same runs disk.may_leave later left;
    }

-- What a world that was just opened holds

up_stands : {D : Type 0} {disk : Ghosts D} (pair : ℕ) (side : SideHost D disk)
    (machine : SideMachine) → IsHost pair side machine → machine.journal.status ≡ Up
    → IsSomeAnd (replica_of side) (λ replica. tree_shown replica ≡ tree_of machine.journal.value)
up_stands pair (host.Up side) machine runs up =
    let stands =
    subst (λ s. StandsAs s side.replica machine.journal.value) up runs.is.keeps.stands in
    ap (λ standing. standing.tree) stands.remembers.standing
up_stands pair (host.Down rest) machine rests up =
    absurd (let apart : Up ≡ Down = sym up ∙ rests.rests.down in cc)

up_archive : {D : Type 0} {disk : Ghosts D} (pair : ℕ) (coordinator : CoordinatorHost D disk)
    (model : CoordinatorMachine) → IsCoordinator pair coordinator model
    → model.journal.status ≡ Up
    → IsSomeAnd (archive_at coordinator) (λ archive. shown archive ≡ model.journal.value)
up_archive pair (machine.Up coordinator) model stands up = stands.journal.remembers
up_archive pair (machine.Down rest) model rests up =
    absurd (let apart : Up ≡ Down = sym up ∙ rests.rests.down in cc)

opened_holds : {D : Type 0} {disk : Ghosts D} (pair : ℕ) (bytes : DiskBytes) (now : Stores)
    (world : World D disk) → OpensFrom pair bytes now world → Holds world now
opened_holds {D} {disk} pair bytes now world opens =
    subst (Holds world) opens.stores_are (record {
      replica = λ side. subst (λ o. IsSomeAnd (replica_by o side)
          (λ replica. tree_shown replica
          ≡ tree_of (history_of (stores_of opens.model) (which_of side)))) (sym is.there)
          (replica_so side);
      archive = subst (λ o. IsSomeAnd (archive_by o)
          (λ archive. shown archive ≡ opens.model.coordinator.journal.value)) (sym is.there)
          (up_archive opens.model.pair is.running.coordinator opens.model.coordinator
          is.is.machines.coordinator opens.opened.start.coordinator.0.0);
    })
  where
    is : IsWorld world opens.model
    is = opens.is

    replica_so : (side : Side) → IsSomeAnd (replica_by (Some is.running) side)
        (λ replica. tree_shown replica
        ≡ tree_of (history_of (stores_of opens.model) (which_of side)))
    replica_so side.Left = up_stands opens.model.pair is.running.left opens.model.left
        is.is.machines.left opens.opened.start.left.0.0
    replica_so side.Right = up_stands opens.model.pair is.running.right opens.model.right
        is.is.machines.right opens.opened.start.right.0.0

-- and so the promise holds of what is opened after a run
pub holds_as_promised : {D : Type 0} {disk : Ghosts D} (pair : ℕ) (before : Stores)
    (steps : List Step) (told : Told) (shown : DiskBytes)
    → (found : StandAsPromised pair before steps told shown) → (world : World D disk)
    → OpensFrom pair shown found.now world → HoldsAsPromised pair before steps told world
holds_as_promised pair before steps told shown found world opens = record {
  pair_is = ap pair_by opens.is.there ∙ (opens.is.is.machines.pair ∙ opens.opened.pair_is);
  now = found.now;
  promised = found.promised;
  holds = opened_holds pair shown found.now world opens;
}
