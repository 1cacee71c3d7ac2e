-- What a runner tells of the records that were written, and how a call leaves that.
use Rattle.std.specs.Prelude.{◌≡◌, ◌⊎◌, ◌<◌, true, List, map, Option, Some, None, option_map}
use Rattle.std.specs.Prelude.{is_some}
use Rattle.syn_archive.specs.Archive.{disk_of}
use Rattle.syn_coordinator.specs.Tries.{record_of}
use Rattle.syn_coordinator.specs.declared.plan_runner.InDoubt.{InDoubt}
use Rattle.syn_coordinator.specs.declared.plan_runner.InDoubt.TheVariants.{Nothing, AsTried, Copied}
use Rattle.syn_coordinator.specs.declared.plan_runner.PlanRunner.{PlanRunner}
use Rattle.syn_coordinator.specs.declared.tried.TriedRecord.{TriedRecord}
use Rattle.syn_disk.specs.Arms.{is_stopped}
use Rattle.syn_disk.specs.declared.disk.Disk.{Ghosts}
use Rattle.syn_image.specs.Archives.{kept_of}
use Rattle.syn_model.specs.Archive.{Kept}

-- the record in doubt after the last call that could write: what was tried last, or what was so
-- before another opening
abbrev pub in_doubt_by : InDoubt → Option TriedRecord → Option Kept
in_doubt_by Nothing tried = None
in_doubt_by AsTried tried = option_map record_of tried
in_doubt_by (Copied kept) tried = Some (kept_of kept)

module _ {D : Type 0} {disk : Ghosts D} (runner : PlanRunner D disk) where
  -- what the last call that could write wrote into the archive, and the record in doubt
  abbrev pub written : List Kept
  written = map kept_of runner.written.items

  abbrev pub in_doubt : Option Kept
  in_doubt = in_doubt_by runner.in_doubt runner.tried

module _ {D : Type 0} {disk : Ghosts D} (old new : PlanRunner D disk) where
  -- no device call failed, and no record came in doubt
  pub record BreaksNothing : Type 0 where
    pub in_doubt_is : in_doubt new ≡ in_doubt old
    pub tried_is : new.tried ≡ old.tried
    pub counted : disk.failures (disk_of new.archive) ≡ disk.failures (disk_of old.archive)

  -- a device call failed, or the machine stopped
  abbrev pub FailsOrStops : Type 0
  FailsOrStops = (disk.failures (disk_of old.archive) < disk.failures (disk_of new.archive))
      ⊎ ((is_stopped (disk.arms (disk_of new.archive)) ≡ true)
      × (disk.failures (disk_of new.archive) ≡ disk.failures (disk_of old.archive)))

  -- so it was before a record was sent to the disk, and no record came in doubt
  pub record BreaksUnsent : Type 0 where
    pub in_doubt_is : in_doubt new ≡ in_doubt old
    pub tried_is : new.tried ≡ old.tried
    pub counted : FailsOrStops

  -- so it was after a record was sent, which was not kept and is in doubt
  pub record BreaksOff : Type 0 where
    pub in_doubt_is : in_doubt new ≡ option_map record_of new.tried
    pub is_told : is_some (in_doubt new) ≡ true
    pub counted : FailsOrStops

  -- no record is in doubt: no device call failed, or none of a record
  pub record TellsNone : Type 0 where
    pub in_doubt_is : in_doubt new ≡ None
    pub tried_is : new.tried ≡ old.tried
    pub counted :
        (disk.failures (disk_of new.archive) ≡ disk.failures (disk_of old.archive)) ⊎ FailsOrStops
